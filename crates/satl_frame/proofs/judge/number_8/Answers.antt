use Rattle.std.proofs.Common.{arith}
use Rattle.satl_frame.proofs.FieldBytes.{eight_read}
use Rattle.satl_frame.proofs.judge.number_8.Goals as goal

pub returns-clause-spelled : goal.returns-clause-spelled
returns-clause-spelled c = eight_read c.args.at c.read_u64.result c.args.bytes.now c.requires (λ i. omega (arith, c.type_inv.bytes i)) c.read_u64.ensures
