-- A task whose command runs alone, or waits for a started unit.
use Rattle.std.proofs.Common.{◌≡◌, refl, sym, ap, subst, Bool, true, false, Some}
use Rattle.std.specs.Prelude.{IsSomeAnd, MatchBool, Option, not, ◌&&◌}
use Rattle.satl_base.specs.declared.modes.Modes.{Modes}
use Rattle.satl_cdb.specs.declared.command.Command.{Command}
use Rattle.satl_cdb.specs.declared.command.Command.TheVariants as cdbs
use Rattle.satl_direct.specs.Senses.{link_lost, not_ready}
use Rattle.satl_direct.specs.Tasks.{asks}
use Rattle.satl_core.specs.declared.alone.Alone.{Alone}
use Rattle.satl_core.specs.declared.turning.Ending.{Ending}
use Rattle.satl_core.specs.Alone.{alone_of, needs_start}
use Rattle.satl_core.specs.Turning.{CarriedOut, DoneAlone, IsUnasked, TaskEnds, TaskOnDrive}

abbrev some_of : Alone → Option Alone
some_of alone = Some alone

alike_at : (x alone : Alone) (starts : Bool) → some_of x ≡ some_of alone → starts ≡ needs_start x → starts ≡ needs_start alone
alike_at x alone starts e same = let one : x ≡ alone = cc in subst (λ a. starts ≡ needs_start a) one same

-- the command and what it does alone need a started unit alike
pub starts_alike : (command : Command) (alone : Alone) → alone_of command ≡ Some alone → (asks command).needs_started ≡ needs_start alone
starts_alike (cdbs.Flush form lba count) alone is = alike_at _ alone true is refl
starts_alike (cdbs.ModeSelect ten size) alone is = alike_at _ alone false is refl
starts_alike (cdbs.StartStop start no_flush) alone is = alike_at _ alone false is refl
starts_alike (cdbs.Verify form lba count false) alone is = alike_at _ alone true is refl
starts_alike (cdbs.Verify form lba count true) alone is = alike_at _ alone true is refl
starts_alike (cdbs.WriteSame form lba count false) alone is = alike_at _ alone true is refl
starts_alike (cdbs.WriteSame form lba count true) alone is = alike_at _ alone true is refl
starts_alike (cdbs.Unmap size) alone is = alike_at _ alone true is refl
starts_alike (cdbs.Pass cdb) alone is = alike_at _ alone false is refl
starts_alike _ alone is = absurd cc

-- so is the test of a stopped unit
pub stops_alike : (command : Command) (alone : Alone) (started : Bool) → alone_of command ≡ Some alone → (not started && (asks command).needs_started) ≡ (not started && needs_start alone)
stops_alike command alone started is = ap (λ b. not started && b) (starts_alike command alone is)

-- a task that is carried out ends so, where the link is up and the unit is started if need be
pub ends_carried : (down started : Bool) (wanted : Modes) (alone : Alone) (ending : Ending) (old new : TaskOnDrive) → down ≡ false → (not started && (asks old.task.command).needs_started) ≡ false → alone_of old.task.command ≡ Some alone
    → CarriedOut wanted alone ending old new → TaskEnds (record { down = down; started = started; wanted = wanted }) ending old new
ends_carried down started wanted alone ending old new up ready is carried =
    subst (λ b. MatchBool b (IsUnasked link_lost old.drive ending new.drive) (MatchBool (not started && (asks old.task.command).needs_started) (IsUnasked not_ready old.drive ending new.drive) (DoneAlone wanted ending old new))) (sym up)
    (subst (λ b. MatchBool b (IsUnasked not_ready old.drive ending new.drive) (DoneAlone wanted ending old new)) (sym ready)
    (subst (λ o. IsSomeAnd o (λ a. CarriedOut wanted a ending old new)) (sym is) carried))
