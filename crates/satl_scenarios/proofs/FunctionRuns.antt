-- Task management functions.
use Rattle.std.proofs.Common.{refl, false, [], ◌∷◌}
use Rattle.satl_base.specs.declared.reply.Response.TheVariants.{Complete, IncorrectLun, Rejected, Succeeded}
use Rattle.satl_cdb.specs.declared.command.Command.TheVariants.{Read}
use Rattle.satl_cdb.specs.declared.command.Form.TheVariants.{Ten}
use Rattle.satl_cdb.specs.Table.{says}
use Rattle.satl_sense.specs.Fixed.{fixed_form}
use Rattle.satl_unit.specs.Conditions.{posted}
use Rattle.satl_unit.specs.Functions.{function_of}
use Rattle.satl_unit.specs.declared.attention.Attention.TheVariants.{Cleared, NexusLoss, UnitReset}
use Rattle.satl_line.specs.Conflict.{accesses_conflict}
use Rattle.satl_direct.specs.Device.{Device}
use Rattle.satl_direct.specs.Run.TurnsOf.{none}
use Rattle.satl_direct.proofs.Quieting.{quiet_none}
use Rattle.satl_scenarios.specs.Scenario.{CanHappen}
use Rattle.satl_scenarios.specs.Functions.{tasks_cleared, nexus_reset, queried, all_reset, set_aborted}
use Rattle.satl_scenarios.specs.Devices.{never_written}
use Rattle.satl_scenarios.specs.Requests.{task}
use Rattle.satl_scenarios.proofs.Building.{it_can_happen, arrives, drained, manages}
use Rattle.satl_scenarios.proofs.Building.Follows.{next, ends_here}

-- the device with a read that waits
abbrev waiting : Device
waiting = record (never_written 2) { tasks = task 1 (Read Ten 0 1 false) [] ∷ [] }

pub functions_queried : CanHappen queried
unfolding says function_of
functions_queried =
    it_can_happen queried
    (next (arrives [] waiting (refl, refl))
    (next (manages _ Succeeded _ waiting waiting (quiet_none waiting) (record { response_is = refl; stays = refl }))
    (next (manages _ Complete _ waiting waiting (quiet_none waiting) (record { response_is = refl; stays = refl }))
    (next (manages _ Rejected _ waiting waiting (quiet_none waiting) (record { response_is = refl; stays = refl }))
    (next (manages _ IncorrectLun _ waiting waiting (quiet_none waiting) (record { response_is = refl; stays = refl }))
    ends_here)))))

pub set_cleared : CanHappen tasks_cleared
unfolding says fixed_form function_of posted
set_cleared =
    it_can_happen tasks_cleared
    (next (arrives [] waiting (refl, refl))
    (next (manages _ Complete _ waiting (record (never_written 2) { attentions = (Cleared ∷ []) ∷ [] ∷ [] ∷ [] ∷ [] }) (quiet_none waiting) (record { response_is = refl; stays = refl }))
    (next (arrives _ (never_written 2) (refl, refl))
    (next (drained none refl)
    ends_here))))

pub unit_reset : CanHappen all_reset
unfolding says fixed_form function_of posted
unit_reset =
    it_can_happen all_reset
    (next (arrives [] waiting (refl, refl))
    (next (manages _ Complete _ waiting (record (never_written 2) { attentions = (UnitReset ∷ []) ∷ (UnitReset ∷ []) ∷ (UnitReset ∷ []) ∷ (UnitReset ∷ []) ∷ [] }) (quiet_none waiting) (record { response_is = refl; stays = refl }))
    (next (arrives _ all_reset.last (refl, refl))
    ends_here)))

-- two reads of one nexus, or of two
abbrev both_waiting : Device
both_waiting = record waiting { tasks = task 1 (Read Ten 0 1 false) [] ∷ task 2 (Read Ten 1 1 false) [] ∷ [] }

abbrev of_two : Device
of_two = record waiting { tasks = task 1 (Read Ten 0 1 false) [] ∷ record (task 2 (Read Ten 1 1 false) []) { nexus = 1 } ∷ [] }

pub tasks_aborted : CanHappen set_aborted
unfolding says function_of accesses_conflict
tasks_aborted =
    it_can_happen set_aborted
    (next (arrives [] waiting (refl, refl))
    (next (arrives [] both_waiting (refl, refl))
    (next (manages _ Succeeded _ both_waiting both_waiting (quiet_none both_waiting) (record { response_is = refl; stays = refl }))
    (next (manages _ Complete _ both_waiting both_waiting (quiet_none both_waiting) (record { response_is = refl; stays = refl }))
    (next (manages _ Complete _ both_waiting (never_written 2) (quiet_none both_waiting) (record { response_is = refl; stays = refl }))
    (next (manages _ Complete _ (never_written 2) (never_written 2) (quiet_none (never_written 2)) (record { response_is = refl; stays = refl }))
    ends_here))))))

pub nexus_is_reset : CanHappen nexus_reset
unfolding says fixed_form function_of posted accesses_conflict
nexus_is_reset =
    it_can_happen nexus_reset
    (next (arrives [] waiting (refl, refl))
    (next (arrives [] of_two (refl, refl))
    (next (manages _ Complete _ of_two (record nexus_reset.last { attentions = (NexusLoss ∷ []) ∷ [] ∷ [] ∷ [] ∷ [] }) (quiet_none of_two) (record { response_is = refl; stays = refl }))
    (next (arrives _ nexus_reset.last (refl, refl))
    ends_here))))
