-- Commands that are refused when they arrive, or at their turn because the unit is stopped.
use Rattle.std.proofs.Common.{refl, false, [], ◌∷◌}
use Rattle.satl_cdb.specs.declared.command.Command.TheVariants.{Read}
use Rattle.satl_cdb.specs.declared.command.Form.TheVariants.{Ten}
use Rattle.satl_cdb.specs.Table.{says}
use Rattle.satl_sense.specs.Fixed.{fixed_form}
use Rattle.satl_line.specs.declared.entry.Entry.{Entry}
use Rattle.satl_scenarios.specs.Scenario.{CanHappen}
use Rattle.satl_scenarios.specs.Refused.{not_started, refused_at_once}
use Rattle.satl_scenarios.specs.Devices.{never_written}
use Rattle.satl_scenarios.specs.Requests.{task}
use Rattle.satl_scenarios.proofs.Building.{it_can_happen, arrives, one_turn}
use Rattle.satl_scenarios.proofs.Building.Follows.{next, ends_here}
use Rattle.satl_scenarios.proofs.Endings.{ended}

pub all_refused : CanHappen refused_at_once
unfolding says fixed_form
all_refused =
    it_can_happen refused_at_once
    (next (arrives _ (never_written 2) (refl, refl))
    (next (arrives _ (never_written 2) (refl, refl))
    (next (arrives _ (never_written 2) (refl, refl))
    (next (arrives _ (never_written 2) (refl, refl))
    (next (arrives _ (never_written 2) (refl, refl))
    ends_here)))))

abbrev waiting_read : Entry
waiting_read = task 1 (Read Ten 0 1 false) []

pub not_ready : CanHappen not_started
unfolding says fixed_form
not_ready =
    it_can_happen not_started
    (next (arrives [] (record not_started.first { tasks = waiting_read ∷ [] }) (refl, refl))
    (next (one_turn not_started.first (ended waiting_read refl (record { answer = refl; stays = refl })))
    ends_here))
