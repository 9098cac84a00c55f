-- Events of a test bench as the device sees them (profile).
use Rattle.std.specs.Prelude.{◌≡◌, true, false, List, [], ◌∷◌, map}
use Rattle.std.specs.List.{AllZip}
use Rattle.satl_base.specs.declared.bench.BenchEvent.{BenchEvent}
use Rattle.satl_base.specs.declared.bench.BenchEvent.TheVariants.{Strike, Mend, Glitch, Order, Power, Unplug}
use Rattle.satl_base.specs.declared.reply.Reply.{Reply}
use Rattle.satl_base.specs.Lists.{change_at}
use Rattle.satl_regs.specs.Sectors.{IsLeftBehind, with_flaw, without_flaws}
use Rattle.satl_mode.specs.ModePages.{defaults}
use Rattle.satl_unit.specs.declared.attention.Attention.TheVariants.{PowerOn}
use Rattle.satl_direct.specs.Device.{Device}
use Rattle.satl_direct.specs.Turn.{IsLost}

-- the device changes so, and nothing is answered (profile)
pub record IsUnanswered (after : Device) (answers : List Reply) (new : Device) : Type 0 where
  pub none : answers ≡ []
  pub new_is : new ≡ after

-- a power cycle: the tasks go without an answer, each sector has one of the blocks that it might be left with, flaws and
-- glitches stay, the unit is started, up and active, the mode values are the defaults, and each nexus has one condition
-- alone, POWER ON OCCURRED (SAM-5 6.3; SBC-3 4.15; profile)
pub record IsPowered (old : Device) (answers : List Reply) (new : Device) : Type 0 where
  pub none : answers ≡ []
  pub cells : AllZip IsLeftBehind old.cells new.cells
  pub stays : new ≡ record old {
    cells = new.cells;
    tasks = [];
    modes = defaults old.identity;
    started = true;
    active = true;
    down = false;
    attentions = map (λ conditions. PowerOn ∷ []) old.attentions;
  }

-- what a bench event does: STRIKE gives a sector a read flaw or a write flaw, and MEND takes both away (outside the capacity
-- nothing changes); GLITCH sets how many glitches are left; ORDER tells the drive how to choose, which changes nothing here;
-- POWER is a power cycle; UNPLUG loses the link, also where it was lost before (profile)
abbrev pub Happens : BenchEvent → Device → List Reply → Device → Type 0
Happens (Strike which lba) s answers new =
    IsUnanswered (record s { cells = change_at s.cells lba (with_flaw which) }) answers new
Happens (Mend lba) s answers new = IsUnanswered (record s { cells = change_at s.cells lba without_flaws }) answers new
Happens (Glitch count) s answers new = IsUnanswered (record s { glitches = count }) answers new
Happens (Order order) s answers new = IsUnanswered s answers new
Happens Power s answers new = IsPowered s answers new
Happens Unplug s answers new = IsLost s answers new
