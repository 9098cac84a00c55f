-- Transfers that end out of order, as if each had ended on arrival.
use Rattle.std.proofs.Common.{inl, inr, refl, false, List, [], ◌∷◌}
use Rattle.satl_base.specs.Cells.{Cell, lasts, cached_over}
use Rattle.satl_base.specs.Blocks.{over}
use Rattle.satl_cdb.specs.declared.command.Command.TheVariants.{Flush, Read, Write}
use Rattle.satl_cdb.specs.declared.command.Form.TheVariants.{Ten}
use Rattle.satl_cdb.specs.Table.{says}
use Rattle.satl_sense.specs.Fixed.{fixed_form}
use Rattle.satl_line.specs.Conflict.{accesses_conflict}
use Rattle.satl_line.specs.declared.entry.Entry.{Entry}
use Rattle.satl_line.specs.Ranged.RangedTask.{ranged_read, ranged_write}
use Rattle.satl_direct.specs.Device.{Device}
use Rattle.satl_direct.specs.Ending.{settled}
use Rattle.satl_direct.specs.Run.TurnsOf.{none}
use Rattle.satl_scenarios.specs.Orders.{torn_out_of_order, written_out_of_order}
use Rattle.satl_scenarios.specs.Scenario.{CanHappen}
use Rattle.satl_scenarios.specs.Devices.{aa, bb, never_written, device, zeros}
use Rattle.satl_scenarios.specs.Requests.{task}
use Rattle.satl_scenarios.proofs.Building.{it_can_happen, arrives, drained, happens, turn_more, turns}
use Rattle.satl_scenarios.proofs.Building.Follows.{next, ends_here}
use Rattle.satl_scenarios.proofs.Endings.{carried_out, done, ended, glitched}

-- ---- two writes, a read over both and a flush

abbrev low : Entry
low = task 2 (Write Ten 0 1 false) (aa ∷ [])

abbrev high : Entry
high = task 3 (Write Ten 1 1 false) (bb ∷ [])

abbrev both : Entry
both = task 4 (Read Ten 0 2 false) []

abbrev flush : Entry
flush = task 5 (Flush Ten 0 0) []

-- the device once it has told nexus 0 that the power was on, with these sectors and tasks
abbrev told : List Cell → List Entry → Device
told cells tasks = record written_out_of_order.last { cells = cells; tasks = tasks }

abbrev low_and_high : List Cell
low_and_high = cached_over zeros aa ∷ cached_over zeros bb ∷ lasts zeros ∷ []

pub writes_out_of_order : CanHappen written_out_of_order
unfolding says accesses_conflict fixed_form
writes_out_of_order =
    it_can_happen written_out_of_order
    (next (arrives _ (told (never_written 3).cells []) (refl, refl))
    (next (arrives [] (told (never_written 3).cells (low ∷ [])) (refl, refl))
    (next (arrives [] (told (never_written 3).cells (low ∷ high ∷ [])) (refl, refl))
    (next (arrives [] (told (never_written 3).cells (low ∷ high ∷ both ∷ [])) (refl, refl))
    (next (arrives [] (told (never_written 3).cells (low ∷ high ∷ both ∷ flush ∷ [])) (refl, refl))
    (next (drained
    (turn_more written_out_of_order.last
    (turn_more (told low_and_high (flush ∷ []))
    (turn_more (told low_and_high (both ∷ flush ∷ []))
    (turn_more (told (lasts zeros ∷ cached_over zeros bb ∷ lasts zeros ∷ []) (low ∷ both ∷ flush ∷ [])) none
    (ended high (inr (refl, inl refl)) (done (ranged_write false (over 1 1) (bb ∷ [])) _ high refl)))
    (ended low (inl refl) (done (ranged_write false (over 0 1) (aa ∷ [])) _ low refl)))
    (ended both (inl refl) (done (ranged_read false (over 0 2)) _ both refl)))
    (ended flush (inl refl) (carried_out (settled (told low_and_high (flush ∷ []))) flush)))
    refl)
    ends_here))))))

-- ---- a write that is torn

abbrev long : Entry
long = task 1 (Write Ten 0 2 false) (aa ∷ bb ∷ [])

abbrev short : Entry
short = task 2 (Write Ten 2 1 false) (aa ∷ [])

abbrev over_all : Entry
over_all = task 3 (Read Ten 0 3 false) []

abbrev late : Entry
late = task 4 (Write Ten 1 1 false) (aa ∷ [])

-- with a glitch left, and these tasks
abbrev glitchy : List Entry → Device
glitchy tasks = record (never_written 3) { glitches = 1; tasks = tasks }

abbrev torn_cells : List Cell
torn_cells = lasts zeros ∷ cached_over zeros bb ∷ cached_over zeros aa ∷ []

pub writes_torn : CanHappen torn_out_of_order
unfolding says accesses_conflict fixed_form
writes_torn =
    it_can_happen torn_out_of_order
    (next (happens [] (glitchy []) (record { none = refl; new_is = refl }))
    (next (arrives [] (glitchy (long ∷ [])) (refl, refl))
    (next (arrives [] (glitchy (long ∷ short ∷ [])) (refl, refl))
    (next (arrives [] (glitchy (long ∷ short ∷ over_all ∷ [])) (refl, refl))
    (next (turns
    (turn_more (device torn_cells)
    (turn_more (record (device torn_cells) { tasks = over_all ∷ [] })
    (turn_more (record (device (lasts zeros ∷ lasts zeros ∷ cached_over zeros aa ∷ [])) { glitches = 1; tasks = long ∷ over_all ∷ [] }) none
    (ended short (inr (refl, inl refl)) (done (ranged_write false (over 2 1) (aa ∷ [])) _ short refl)))
    (ended long (inl refl) (glitched (ranged_write false (over 0 2) (aa ∷ bb ∷ [])) torn_cells 0 _ long refl (inl (inr refl)) refl)))
    (ended over_all (inl refl) (done (ranged_read false (over 0 3)) _ over_all refl))))
    (next (arrives [] (record (device torn_cells) { tasks = late ∷ [] }) (refl, refl))
    (next (happens _ torn_out_of_order.last (record { answer = refl; stays = refl }))
    ends_here)))))))
