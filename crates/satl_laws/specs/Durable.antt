-- The law of durable sectors (SBC-3 4.15).
use Rattle.std.specs.Prelude.{◌≡◌, ◌⊎◌, ℕ, ◌==◌, ◌&&◌, not, Bool, true, false, List}
use Rattle.std.specs.List.{list_any}
use Rattle.satl_base.specs.declared.reply.Reply.{Reply}
use Rattle.satl_base.specs.declared.reply.Scsi.TheVariants.{Good}
use Rattle.satl_base.specs.declared.bench.BenchEvent.TheVariants as events
use Rattle.satl_cdb.specs.declared.command.Command.{Command}
use Rattle.satl_cdb.specs.declared.command.Command.TheVariants as commands
use Rattle.satl_frame.specs.declared.frames.Frame.{Frame}
use Rattle.satl_frame.specs.Output.{Answer}
use Rattle.satl_line.specs.declared.entry.Entry.{Entry}
use Rattle.satl_direct.specs.Device.{Device}
use Rattle.satl_direct.specs.Bench.{Happens}
use Rattle.satl_direct.specs.Ending.{Ends, selected}
use Rattle.satl_direct.specs.Valid.{IsValid}
use Rattle.satl_direct.specs.Quiet.{Around, Quiet, writes}
use Rattle.satl_direct.specs.Run.{RunDeep, TurnsOf}
use Rattle.satl_direct.specs.Turn.{TurnLoss}
use Rattle.satl_laws.specs.Untouched.{SparedBy, SparedThrough, now_at}

-- a command of a task that leaves nothing of a sector to a loss of power when it ends with GOOD: SYNCHRONIZE CACHE, START STOP
-- UNIT that stops and flushes, MODE SELECT that turns WCE off, or a WRITE of the sector past the cache (SBC-3 4.15)
abbrev pub secures : Command → Device → Entry → ℕ → Bool
secures (commands.ModeSelect ten size) s t x = s.modes.wce && not (selected s t).wce
secures (commands.StartStop starts no_flush) s t x = not starts && not no_flush
secures (commands.Write form lba count fua) s t x = list_any (λ p. (p.lba == x) && not p.cached) (writes s t)
secures (commands.Flush form lba count) s t x = true
secures _ s t x = false

-- from a device on: the turns that are left of an event, a run, in which power may be lost too, and then a loss of power; no
-- task writes the sector (profile)
pub record IsSpan (x : ℕ) (s after : Device) : Type 0 where
  pub begin : Device
  pub mid : Device
  pub last : Device
  pub quiet : Quiet s begin
  pub none : SparedBy x begin begin.tasks
  pub lost : List Reply
  pub going : Device
  pub loss : (going ≡ begin) ⊎ TurnLoss begin lost going
  pub count : ℕ
  pub replies : List Reply
  pub deep : ℕ
  pub turns : TurnsOf count going replies mid deep
  pub all : List Frame
  pub groups : List (List Answer)
  pub losses : ℕ
  pub depth : ℕ
  pub run : RunDeep mid all groups losses last depth
  pub spared : SparedThrough x run
  pub answers : List Reply
  pub power : Around (Happens events.Power) last answers after

-- law of durable sectors: once a task that secures a sector has ended with GOOD, and no task writes it up to a loss of power,
-- be it the next or a later one, it has after that the block that it had at the end of the task (SBC-3 4.15)
abbrev pub Durable : Type 0
Durable = (x : ℕ) (s mid after : Device) (t : Entry) (reply : Reply) →
    IsValid s → Ends s t reply mid → reply.status ≡ Good → secures t.command s t x ≡ true → IsSpan x mid after
    → now_at after.cells x ≡ now_at mid.cells x
