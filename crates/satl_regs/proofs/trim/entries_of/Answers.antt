use Rattle.std.proofs.Common.{arith}
use Rattle.satl_regs.proofs.Trims.{entries_room}
use Rattle.satl_regs.proofs.trim.entries_of.Goals as goal

pub push_split-requires-clause-room : goal.push_split-requires-clause-room
push_split-requires-clause-room c =
    let fits = entries_room c.args.ranges.now c.loop-range.range-index (record { lba = 0; count = 0 }) c.loop-range-test.true in
    let so_far = c.loop-range.invariant in
    let room = c.requires.room in
    rw so_far (omega (arith, fits, room))
