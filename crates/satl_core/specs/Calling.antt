-- How many drive calls a task that runs alone and the queue take, and what for (SAT-3 8; ACS-3, native command queuing;
-- profile).
use Rattle.std.specs.Prelude.{◌≡◌, ℕ, ◌+◌, ◌&&◌, not, Bool, false, if◌then◌else◌, List, [], ◌∷◌, Option, Some, None, length}
use Rattle.std.specs.List.{AllByRecursion}
use Rattle.satl_base.specs.declared.reply.Reply.{Reply}
use Rattle.satl_base.specs.declared.reply.Scsi.TheVariants.{Good}
use Rattle.satl_errlog.specs.declared.entry.NcqError.{NcqError}
use Rattle.satl_cdb.specs.declared.command.Command.{Command}
use Rattle.satl_line.specs.declared.entry.Entry.{Entry}
use Rattle.satl_line.specs.Tasks.{Held}
use Rattle.satl_direct.specs.Tasks.{asks}
use Rattle.satl_barrier.specs.Finishing.{pieces_of}
use Rattle.satl_flight.specs.declared.flight.Flying.{Flying}
use Rattle.satl_flight.specs.Leaving.{AreLeft, settle_calls}
use Rattle.satl_flight.specs.Settled.{IssuesInOrder}
use Rattle.satl_core.specs.Layer.{Layer}
use Rattle.satl_core.specs.Leaving.{AreWaiting}
use Rattle.satl_core.specs.Alone.{alone_of}
use Rattle.satl_core.specs.declared.alone.Alone.{Alone}
use Rattle.satl_core.specs.declared.alone.Alone.TheVariants as alones

-- the most drive calls of a command that runs alone: one for each mode value that a MODE SELECT changes on the drive, a flush
-- and the stop, for a comparison one that finds flaws and one for each piece of 64 blocks, for a WRITE SAME one for each such
-- piece, and one for each other command (SAT-3 8; profile)
abbrev pub calls_alone : Alone → ℕ
calls_alone alones.Select = 2
calls_alone (alones.Switch start no_flush) = 2
calls_alone (alones.Compare range) = 1 + pieces_of range.count
calls_alone (alones.WriteSame range) = pieces_of range.count
calls_alone _ = 1

-- whether a task is refused as its turn comes, as its command needs a started unit and this one is stopped (SPC-4 4.5.6, NOT
-- READY)
abbrev pub is_unready : Bool → Command → Bool
is_unready started command = not started && (asks command).needs_started

-- the most drive calls of what runs alone, if it does
abbrev pub calls_if_alone : Option Alone → ℕ
calls_if_alone None = 0
calls_if_alone (Some alone) = calls_alone alone

-- the most drive calls of a task whose turn it is and which is not outstanding (profile)
abbrev pub calls_of_task : Bool → Command → ℕ
calls_of_task started command = if is_unready started command then 0 else calls_if_alone (alone_of command)

-- those of the first task
abbrev pub calls_of_first : Bool → List Held → ℕ
calls_of_first started [] = 0
calls_of_first started (h ∷ hs) = calls_of_task started h.entry.command

-- whether the first task is refused so
abbrev pub is_first_unready : Bool → List Held → Bool
is_first_unready started [] = false
is_first_unready started (h ∷ hs) = is_unready started h.entry.command

-- beside what was outstanding tasks were issued, in order of arrival, with as many drive calls as there are more of them
-- outstanding now (profile)
pub record OnlyIssues (flying : List Flying) (calls : ℕ) (new : Layer) (calls' : ℕ) : Type 0 where
  pub cost : calls' + length flying ≡ calls + length new.flying
  pub in_order : IssuesInOrder flying new.flying new.tasks

-- all of them are GOOD (SAM-5 5.3)
abbrev pub AreGood : List Reply → Type 0
AreGood replies = AllByRecursion (λ (r : Reply). r.status ≡ Good) replies

-- they tell that a command is done, or that it failed (SAT-3 11)
abbrev pub TellEnd : Option NcqError → List Reply → Type 0
TellEnd None replies = AreGood replies
TellEnd (Some e) replies = AreGood replies → ⊥

-- one command ended, with as many drive calls as that takes: the poll, and the read of the error log where it failed, which the
-- replies tell; nothing is outstanding then, and else all others still are (ACS-3, native command queuing)
pub record PollsOnce (old : List Flying) (calls : ℕ) (replies : List Reply) (new : List Flying) (calls' : ℕ) : Type 0 where
  pub error : Option NcqError
  pub told : TellEnd error replies
  pub left : AreLeft error old new
  pub cost : calls' ≡ calls + settle_calls error

-- one command ended, and then tasks were issued beside what was left outstanding (profile)
pub record PollsAndIssues (old : Layer) (calls : ℕ) (replies : List Reply) (new : Layer) (calls' : ℕ) : Type 0 where
  pub left : List Flying
  pub polled : ℕ
  pub polls : PollsOnce old.flying calls replies left polled
  pub issues : OnlyIssues left polled new calls'

-- tasks went: where none of them was outstanding there were no drive calls but those that issue; where one was there was one
-- more, which is the reset, and all that stay may be issued again (ACS-3, software reset; profile)
pub record ResetsFor (goes : Entry → Bool) (old : Layer) (calls : ℕ) (new : Layer) (calls' : ℕ) : Type 0 where
  pub none : AreWaiting goes old.flying old.tasks → OnlyIssues old.flying calls new calls'
  pub some : (AreWaiting goes old.flying old.tasks → ⊥) → OnlyIssues [] (calls + 1) new calls'
