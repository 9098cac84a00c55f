-- What a test bench does to the drive, and what follows for the layer (profile).
use Rattle.std.specs.Prelude.{◌≡◌, ℕ, true, false, List, [], ◌∷◌, replicate}
use Rattle.satl_base.specs.declared.bench.BenchEvent.{BenchEvent}
use Rattle.satl_base.specs.declared.bench.BenchEvent.TheVariants.{Strike, Mend, Glitch, Order, Power, Unplug}
use Rattle.satl_base.specs.declared.reply.Reply.{Reply}
use Rattle.satl_io.specs.Causes.{next_count}
use Rattle.satl_mode.specs.ModePages.{defaults}
use Rattle.satl_unit.specs.declared.attention.Attention.TheVariants.{PowerOn}
use Rattle.satl_drive.specs.State.{DriveState, Orders}
use Rattle.satl_drive.specs.Bench.{IsGlitched, IsMended, IsOrdered, IsPowerCycled, IsStruck, IsUnplugged, with_order}
use Rattle.satl_core.specs.Layer.{Layer}
use Rattle.satl_core.specs.Turning.{lost_replies}

-- what an event does to the drive (profile)
abbrev pub IsActedOn : BenchEvent → DriveState → DriveState → Type 0
IsActedOn (Strike which lba) old new = IsStruck which lba old new
IsActedOn (Mend lba) old new = IsMended lba old new
IsActedOn (Glitch count) old new = IsGlitched count old new
IsActedOn (Order bytes) old new = IsOrdered bytes old new
IsActedOn Power old new = IsPowerCycled old new
IsActedOn Unplug old new = IsUnplugged old new

-- the layer is as before, and nothing is answered (profile)
pub record StaysSame (old : Layer) (replies : List Reply) (new : Layer) : Type 0 where
  pub none : replies ≡ []
  pub stays : new ≡ old

-- after a power cycle the tasks are gone without an answer, the mode values are the defaults, the unit is started, the link is
-- up, and each nexus is to be told that the power was on (SAM-5 6.3; profile)
pub record StartsAnew (old : Layer) (replies : List Reply) (new : Layer) : Type 0 where
  pub none : replies ≡ []
  pub stays : new ≡ record old {
    modes = defaults old.identity;
    started = true;
    down = false;
    attentions = replicate 4 (PowerOn ∷ []);
    tasks = [];
    flying = [];
    slots = new.slots;
    free = new.free;
    out = new.out;
  }

-- the link is lost: all tasks are answered so, and none is left (profile)
pub record LosesLink (old : Layer) (replies : List Reply) (new : Layer) : Type 0 where
  pub answer : replies ≡ lost_replies old.modes.d_sense old.tasks
  pub stays : new ≡ record old { down = true; tasks = []; flying = []; slots = new.slots; free = new.free; out = new.out }

-- what follows from an event for the layer, and what it answers (profile)
abbrev pub FollowsEvent : BenchEvent → Layer → List Reply → Layer → Type 0
FollowsEvent Power old replies new = StartsAnew old replies new
FollowsEvent Unplug old replies new = LosesLink old replies new
FollowsEvent _ old replies new = StaysSame old replies new

-- how often the drive was unplugged after an event: once more at UNPLUG, or still so often where the number is at its last
-- value (profile)
abbrev pub unplugs_after : BenchEvent → ℕ → ℕ
unplugs_after Unplug before = next_count before
unplugs_after _ before = before

-- the drive's account of order bytes after an event: with its bytes behind at ORDER (profile)
abbrev pub orders_after : BenchEvent → Orders → Orders
orders_after (Order bytes) before = with_order bytes before
orders_after _ before = before
