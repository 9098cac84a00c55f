use Rattle.std.specs.Int.{w64}
use Rattle.std.proofs.lemmas.Nat.Bits.{bit_at-trailing_zeros}
use Rattle.satl_line.proofs.slots.lowest_slot.Goals as goal

pub returns-clause-among : goal.returns-clause-among
returns-clause-among c = (bit_at-trailing_zeros w64 c.args.slots c.requires c.ranges.slots.fits).1

pub returns-clause-lowest : goal.returns-clause-lowest
returns-clause-lowest c = (bit_at-trailing_zeros w64 c.args.slots c.requires c.ranges.slots.fits).2
