-- The law of endurance: what was flushed endures (SBC-3 4.15, volatile cache; SBC-3 5.18, SYNCHRONIZE CACHE; SAM-5 5).
use Rattle.std.specs.Prelude.{◌≡◌, ℕ, Bool, true, false, List, ◌∷◌, ◌++◌, Result, Ok, Err, Some, length}
use Rattle.satl_base.specs.declared.block.Block.{Block}
use Rattle.satl_base.specs.declared.request.Request.{Request}
use Rattle.satl_cdb.specs.declared.command.Command.{Command}
use Rattle.satl_cdb.specs.declared.command.Command.TheVariants as commands
use Rattle.satl_cdb.specs.declared.command.Illegal.{Illegal}
use Rattle.satl_cdb.specs.Table.{says}
use Rattle.satl_frame.specs.declared.frames.Frame.{Frame}
use Rattle.satl_frame.specs.declared.frames.Frame.TheVariants as frames
use Rattle.satl_frame.specs.Output.{Answer}
use Rattle.satl_direct.specs.Device.{Device}
use Rattle.satl_direct.specs.Valid.{IsValid}
use Rattle.satl_direct.specs.Run.{RunDeep}
use Rattle.satl_laws.specs.Untouched.{now_at}
use Rattle.satl_renaming.specs.UsedAgain.{names_are_free, was_done_at}
use Rattle.satl_origins.specs.Origins.{IsRequestedIn, MayHold, WasRead}

-- whether a CDB asks for SYNCHRONIZE CACHE (SBC-3 5.18)
abbrev pub flushes : Result Command Illegal → Bool
flushes (Ok (commands.Flush form lba count)) = true
flushes (Ok command) = false
flushes (Err why) = false

-- no command of a request of an input may write a block to a sector (SBC-3 5)
abbrev pub NoneAsksFor : Device → List Frame → ℕ → Type 0
NoneAsksFor s all x = (block : Block) → IsRequestedIn s all x block → ⊥

-- a SYNCHRONIZE CACHE of an input was answered with GOOD, and no command of a request behind it may write a block to a sector
-- (SBC-3 5.18; SAM-5 5.3.1)
pub record WasFlushed (first : Device) (all : List Frame) (groups : List (List Answer)) (x : ℕ) : Type 0 where
  pub before : List Frame
  pub request : Request
  pub after : List Frame
  pub input : all ≡ before ++ frames.Request request ∷ after
  pub flush : flushes (says request.cdb first.identity.trim) ≡ true
  pub done : was_done_at all groups (length before) request ≡ true
  pub none_behind : NoneAsksFor first after x

-- a sector has at last the block that it had before, and a loss of power can leave it no other (SBC-3 4.15)
pub record Endures (x : ℕ) (mid last : Device) : Type 0 where
  pub same : now_at last.cells x ≡ now_at mid.cells x
  pub no_other : (block : Block) → MayHold last.cells x block → Some block ≡ now_at mid.cells x

-- law of endurance: a SYNCHRONIZE CACHE is answered with GOOD in a run from a device that there can be, in which no request
-- comes with the nexus and tag of a task that waits. Where no command behind it may write a sector, neither in this run nor in
-- one that goes on from its last device, whatever fails, is lost or loses power there, the sector endures (SBC-3 4.15, 5.18)
abbrev pub FlushedEndures : Type 0
FlushedEndures =
    (first mid last : Device) (earlier later : List Frame) (groups more : List (List Answer)) (losses others deep depth : ℕ)
    (run : RunDeep first earlier groups losses mid deep) → RunDeep mid later more others last depth → (x : ℕ) →
    IsValid first → names_are_free run ≡ true → WasFlushed first earlier groups x → NoneAsksFor first later x
    → Endures x mid last

-- so each READ behind it that is answered with GOOD gives for the sector the block that it had, where no request comes with the
-- nexus and tag of a task that waits there either (SBC-3 4.15, READ commands; SAM-5 4.7)
abbrev pub FlushedIsRead : Type 0
FlushedIsRead =
    (first mid last : Device) (earlier later : List Frame) (groups more : List (List Answer)) (losses others deep depth : ℕ)
    (run : RunDeep first earlier groups losses mid deep) (on : RunDeep mid later more others last depth) (x : ℕ)
    (block : Block) →
    IsValid first → names_are_free run ≡ true → WasFlushed first earlier groups x → NoneAsksFor first later x →
    names_are_free on ≡ true → WasRead first.identity.trim later more x block → Some block ≡ now_at mid.cells x
