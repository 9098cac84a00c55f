-- The law of passing: which tasks may end before tasks that came earlier (SAM-5 8, command order; SBC-3 5).
use Rattle.std.specs.Prelude.{◌≡◌, ℕ, ◌&&◌, ◌||◌, not, Bool, true, false, List, ◌∷◌, ◌++◌}
use Rattle.std.specs.List.{AllByRecursion, list_any}
use Rattle.satl_base.specs.declared.block.Range.{Range}
use Rattle.satl_base.specs.declared.reply.Reply.{Reply}
use Rattle.satl_base.specs.Blocks.{lies_in}
use Rattle.satl_base.specs.Cells.{Pair}
use Rattle.satl_cdb.specs.declared.command.Command.{Command}
use Rattle.satl_cdb.specs.declared.command.Command.TheVariants as commands
use Rattle.satl_line.specs.declared.entry.Entry.{Entry}
use Rattle.satl_direct.specs.Device.{Device}
use Rattle.satl_direct.specs.Quiet.{MayShow}
use Rattle.satl_direct.specs.Turn.{OneEnds}
use Rattle.satl_direct.specs.Valid.{IsValid}

-- whether a command goes over a sector: it reads, verifies, writes or trims it. An UNMAP does so by its list of ranges, and an
-- ATA PASS-THROUGH may do so anywhere (SBC-3 5; SAT-3 12.2)
abbrev pub goes_over : Command → List Range → ℕ → Bool
goes_over (commands.Read form lba count fua) listed x = lies_in lba count x
goes_over (commands.Write form lba count fua) listed x = lies_in lba count x
goes_over (commands.Verify form lba count compare) listed x = lies_in lba count x
goes_over (commands.WriteSame form lba count unmap) listed x = lies_in lba count x
goes_over (commands.Unmap size) listed x = list_any (λ range. lies_in range.lba range.count x) listed
goes_over (commands.Pass cdb) listed x = true
goes_over command listed x = false

-- whether a command writes or trims the sectors that it goes over; an ATA PASS-THROUGH may (SBC-3 5; SAT-3 12.2)
abbrev pub alters : Command → Bool
alters (commands.Write form lba count fua) = true
alters (commands.WriteSame form lba count unmap) = true
alters (commands.Unmap size) = true
alters (commands.Pass cdb) = true
alters command = false

-- whether two tasks clash at a sector: both go over it, and one of them at least writes or trims it (SBC-3 5)
abbrev pub clash_at : ℕ → Entry → Entry → Bool
clash_at x a b =
    goes_over a.command a.ranges.items x && goes_over b.command b.ranges.items x && (alters a.command || alters b.command)

-- two tasks clash at no sector (SBC-3 5)
abbrev pub DoNotClash : Entry → Entry → Type 0
DoNotClash a b = (x : ℕ) → clash_at x a b ≡ false

-- whether tasks of a command are carried out beside others: READ, WRITE, and UNMAP where the drive queues trims (profile)
abbrev pub goes_with_others : Bool → Command → Bool
goes_with_others queued_trim (commands.Read form lba count fua) = true
goes_with_others queued_trim (commands.Write form lba count fua) = true
goes_with_others queued_trim (commands.Unmap size) = queued_trim
goes_with_others queued_trim command = false

-- whether a task goes alone: it is ORDERED, or its command does not go with others (SAM-5 8.6, task attributes; profile)
abbrev pub goes_alone : Device → Entry → Bool
goes_alone s t = t.ordered || not (goes_with_others s.identity.queued_trim t.command)

-- a task of a device that there can be, and all tasks that came before it and still wait (SAM-5, task set)
pub record ComesAfter (s : Device) (earlier : List Entry) (t : Entry) : Type 0 where
  pub valid : IsValid s
  pub later : List Entry
  pub place : s.tasks ≡ earlier ++ t ∷ later

-- a task that ends before earlier ones clashes with none of them (SAM-5 8, command order; SBC-3 5)
abbrev pub NonePasses : Type 0
NonePasses = (s new : Device) (reply : Reply) (end : OneEnds s reply new) (earlier : List Entry) →
    ComesAfter s earlier end.task → AllByRecursion (λ t. DoNotClash t end.task) earlier

-- nor does it go alone, or one of them (SAM-5 8.6)
abbrev pub NonePassesAlone : Type 0
NonePassesAlone = (s new : Device) (reply : Reply) (end : OneEnds s reply new) (earlier : List Entry) →
    ComesAfter s earlier end.task → AllByRecursion (λ t. goes_alone s t || goes_alone s end.task ≡ false) earlier

-- a task of which a pair may show on the medium before its end clashes with no earlier one (SAM-5 8, command order; profile)
abbrev pub NoneShows : Type 0
NoneShows = (s : Device) (pair : Pair) (shows : MayShow s pair) (earlier : List Entry) →
    ComesAfter s earlier shows.task → AllByRecursion (λ t. DoNotClash t shows.task) earlier

-- nor does it go alone, or one of them (SAM-5 8.6; profile)
abbrev pub NoneShowsAlone : Type 0
NoneShowsAlone = (s : Device) (pair : Pair) (shows : MayShow s pair) (earlier : List Entry) →
    ComesAfter s earlier shows.task → AllByRecursion (λ t. goes_alone s t || goes_alone s shows.task ≡ false) earlier

-- one turn can end the task (SAM-5 8)
pub record CanEnd (s : Device) (t : Entry) : Type 0 where
  pub reply : Reply
  pub new : Device
  pub end : OneEnds s reply new
  pub its_own : end.task ≡ t

-- where the device is up and started, a task that clashes with no earlier one can end before them all, unless it goes alone
-- or one of them does (SAM-5 8, command order)
abbrev pub OthersPass : Type 0
OthersPass = (s : Device) (earlier : List Entry) (t : Entry) →
    ComesAfter s earlier t → s.down ≡ false → s.started ≡ true → goes_alone s t ≡ false →
    AllByRecursion (λ u. goes_alone s u ≡ false) earlier → AllByRecursion (λ u. DoNotClash u t) earlier → CanEnd s t
