use Rattle.std.proofs.Common.{arith}
use Rattle.satl_frame.proofs.FieldBytes.{four_read}
use Rattle.satl_frame.proofs.judge.number_4.Goals as goal

pub returns-clause-spelled : goal.returns-clause-spelled
returns-clause-spelled c = four_read c.args.at c.read_u32.result c.args.bytes.now c.requires (λ i. omega (arith, c.type_inv.bytes i)) c.read_u32.ensures
