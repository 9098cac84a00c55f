use Rattle.std.proofs.Common.{arith}
use Rattle.satl_sense.proofs.TextSteps.{padded-places}
use Rattle.satl_sense.proofs.reading.padded.Goals as goal

pub returns : goal.returns
returns c = let h = c.min-shown.ensures in let k = c.copy_from_slice.ensures.after in padded-places 22 c.min-shown.result c.copy_from_slice.new.self c.args.bytes.now k (omega arith) (omega arith) (λ lt. omega arith)
