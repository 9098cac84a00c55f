-- Power cycles, and what is on the medium after them.
use Rattle.std.proofs.Common.{inl, inr, refl, false, [], ◌∷◌}
use Rattle.satl_base.specs.declared.block.Block.{Block}
use Rattle.satl_base.specs.Cells.{Cell, lasts, cached_over}
use Rattle.satl_base.specs.Lists.{IsIn}
use Rattle.satl_base.specs.Blocks.{over}
use Rattle.satl_cdb.specs.declared.command.Command.TheVariants.{Read, Write}
use Rattle.satl_cdb.specs.declared.command.Form.TheVariants.{Ten}
use Rattle.satl_cdb.specs.Table.{says}
use Rattle.satl_sense.specs.Fixed.{fixed_form}
use Rattle.satl_regs.specs.Sectors.{IsLeftBehind}
use Rattle.satl_mode.specs.Changes.{change_from}
use Rattle.satl_unit.specs.Conditions.{posted}
use Rattle.satl_frame.specs.declared.frames.Frame.TheVariants.{Turn}
use Rattle.satl_line.specs.Conflict.{accesses_conflict}
use Rattle.satl_line.specs.declared.entry.Entry.{Entry}
use Rattle.satl_line.specs.Ranged.RangedTask.{ranged_read, ranged_write}
use Rattle.satl_direct.specs.Bench.{IsPowered}
use Rattle.satl_direct.specs.Device.{Device}
use Rattle.satl_direct.specs.Ending.{after_select, settled}
use Rattle.satl_direct.specs.Run.TurnsOf.{none}
use Rattle.satl_scenarios.specs.Scenario.{CanHappen}
use Rattle.satl_scenarios.specs.Power.{caching_list, flush, written_back, flushed_then_written, flushed_then_written_elsewhere, select, power_with_a_task, told_once, turned_off, turned_off_then_power}
use Rattle.satl_scenarios.specs.Devices.{aa, bb, never_written, device, just_powered, zeros, unreadable}
use Rattle.satl_scenarios.specs.Replies.{good}
use Rattle.satl_scenarios.specs.Requests.{task, write_10}
use Rattle.satl_scenarios.proofs.Building.{Occurs, it_can_happen, arrives, happens, one_turn, turn_more, turns}
use Rattle.satl_scenarios.proofs.Building.Follows.{next, ends_here}
use Rattle.satl_scenarios.proofs.Endings.{ended, done, carried_out}

-- a sector that has one of its blocks after a loss of power
left_with : (old : Cell) (block : Block) → IsIn block old.may → IsLeftBehind old (record old { now = block; may = block ∷ [] })
left_with old block one = record { one = one; alone = refl; read_flaw = refl; write_flaw = refl }

-- ---- a flush

abbrev pub flush_task : Entry
flush_task = task 1 flush []

-- the device once all is written back
abbrev pub kept : Device
kept = device (lasts aa ∷ lasts zeros ∷ [])

pub flush_keeps : CanHappen written_back
flush_keeps =
    it_can_happen written_back
    (next (one_turn kept (ended flush_task (inl refl) (carried_out (settled written_back.first) flush_task)))
    (next (happens [] (just_powered kept.cells) (record { none = refl; cells = (left_with (lasts aa) aa (inl refl), (left_with (lasts zeros) zeros (inl refl), tt)); stays = refl }))
    ends_here))

-- ---- a flush and a write

abbrev later_write : Entry
later_write = task 2 (Write Ten 0 1 false) (bb ∷ [])

abbrev rewritten : Device
rewritten = device (cached_over aa bb ∷ lasts zeros ∷ [])

pub write_after_flush : (left : Block) → IsIn left (aa ∷ bb ∷ []) → CanHappen (flushed_then_written left)
unfolding says accesses_conflict
write_after_flush left one =
    it_can_happen (flushed_then_written left)
    (next (arrives [] (record written_back.first { tasks = flush_task ∷ later_write ∷ [] }) (refl, refl))
    (next (turns
    (turn_more rewritten
    (turn_more (record kept { tasks = later_write ∷ [] }) none
    (ended flush_task (inl refl) (carried_out (settled (record written_back.first { tasks = flush_task ∷ later_write ∷ [] })) flush_task)))
    (ended later_write (inl refl) (done (ranged_write false (over 0 1) (bb ∷ [])) _ later_write refl))))
    (next (happens [] (just_powered (lasts left ∷ lasts zeros ∷ [])) (record { none = refl; cells = (left_with (cached_over aa bb) left one, (left_with (lasts zeros) zeros (inl refl), tt)); stays = refl }))
    ends_here)))

pub later_write_kept : CanHappen (flushed_then_written bb)
later_write_kept = write_after_flush bb (inr (inl refl))

pub later_write_lost : CanHappen (flushed_then_written aa)
later_write_lost = write_after_flush aa (inl refl)

-- ---- a flush, and a write elsewhere

abbrev pub write_elsewhere : Entry
write_elsewhere = task 2 (Write Ten 1 1 false) (bb ∷ [])

-- the device with this write, once all is written back
abbrev pub kept_with_write : Device
kept_with_write = record kept { tasks = write_elsewhere ∷ [] }

abbrev pub written_elsewhere : Device
written_elsewhere = device (lasts aa ∷ cached_over zeros bb ∷ [])

pub elsewhere_arrives : Occurs (write_10 2 1 (bb ∷ [])) kept [] kept_with_write 1
unfolding says
elsewhere_arrives = arrives [] kept_with_write (refl, refl)

pub elsewhere_ends : Occurs (Turn 1) kept_with_write (good 2 [] ∷ []) written_elsewhere 0
elsewhere_ends = one_turn written_elsewhere (ended write_elsewhere (inl refl) (done (ranged_write false (over 1 1) (bb ∷ [])) _ write_elsewhere refl))

-- a loss of power takes its block, and leaves the block of sector 0
pub power_takes_it : IsPowered written_elsewhere [] flushed_then_written_elsewhere.last
power_takes_it = record { none = refl; cells = (left_with (lasts aa) aa (inl refl), (left_with (cached_over zeros bb) zeros (inl refl), tt)); stays = refl }

-- and so does another
pub power_again : IsPowered flushed_then_written_elsewhere.last [] flushed_then_written_elsewhere.last
power_again = record { none = refl; cells = (left_with (lasts aa) aa (inl refl), (left_with (lasts zeros) zeros (inl refl), tt)); stays = refl }

pub flush_keeps_beside_a_write : CanHappen flushed_then_written_elsewhere
flush_keeps_beside_a_write =
    it_can_happen flushed_then_written_elsewhere
    (next (one_turn kept (ended flush_task (inl refl) (carried_out (settled flushed_then_written_elsewhere.first) flush_task)))
    (next elsewhere_arrives
    (next elsewhere_ends
    (next (happens [] flushed_then_written_elsewhere.last power_takes_it)
    (next (happens [] flushed_then_written_elsewhere.last power_again)
    ends_here)))))

-- ---- the cache is turned off

abbrev select_task : Entry
select_task = task 1 select (caching_list ∷ [])

pub cache_off : CanHappen turned_off
unfolding change_from caching_list posted
cache_off =
    it_can_happen turned_off
    (next (one_turn turned_off.last (ended select_task (inl refl) (carried_out (after_select turned_off.first select_task) select_task)))
    ends_here)

pub cache_back : CanHappen turned_off_then_power
unfolding change_from caching_list posted
cache_back =
    it_can_happen turned_off_then_power
    (next (one_turn turned_off.last (ended select_task (inl refl) (carried_out (after_select turned_off.first select_task) select_task)))
    (next (happens [] (just_powered kept.cells) (record { none = refl; cells = (left_with (lasts aa) aa (inl refl), (left_with (lasts zeros) zeros (inl refl), tt)); stays = refl }))
    ends_here))

-- ---- a unit attention

abbrev read_task : Entry
read_task = task 2 (Read Ten 0 1 false) []

pub attention_once : CanHappen told_once
unfolding says fixed_form
attention_once =
    it_can_happen told_once
    (next (happens [] (just_powered (never_written 2).cells) (record { none = refl; cells = (left_with (lasts zeros) zeros (inl refl), (left_with (lasts zeros) zeros (inl refl), tt)); stays = refl }))
    (next (arrives _ told_once.last (refl, refl))
    (next (arrives [] (record told_once.last { tasks = read_task ∷ [] }) (refl, refl))
    (next (one_turn told_once.last (ended read_task (inl refl) (done (ranged_read false (over 0 1)) _ read_task refl)))
    ends_here))))

-- ---- a task goes

pub task_gone : CanHappen power_with_a_task
task_gone =
    it_can_happen power_with_a_task
    (next (happens [] power_with_a_task.last (record { none = refl; cells = (left_with (cached_over zeros aa) zeros (inl refl), (left_with (unreadable bb) bb (inl refl), tt)); stays = refl }))
    ends_here)
