use Rattle.satl_regs.proofs.Trims.{writes_next}
use Rattle.satl_regs.proofs.trim.filled.Goals as goal

pub loop-place-preserved : goal.loop-place-preserved
loop-place-preserved c =
    writes_next c.args.entries.now c.loop-place.place c.number_of.result (record { lba = 0; count = 0 }) c.loop-place.bytes c.put_number.new.bytes c.loop-place-test.true c.requires.room c.loop-place.invariant c.number_of.ensures c.put_number.ensures
