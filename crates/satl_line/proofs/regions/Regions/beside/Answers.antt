use Rattle.std.proofs.Common.{refl, sym, ◌∙◌, arith, bit_or}
use Rattle.std.proofs.lemmas.Nat.Bits.{bit_at_and}
use Rattle.satl_line.proofs.RegionsLemmas.{near_beside}
use Rattle.satl_line.proofs.regions.Regions.beside.Goals as goal

pub returns-clause-within : goal.returns-clause-within
returns-clause-within c = λ slot. omega (arith, bit_at_and c.args.among (bit_or c.args.self.now.broad (bit_or c.marks.result c.marks-2.result)) slot)

pub returns-clause-apart : goal.returns-clause-apart
returns-clause-apart c =
    near_beside c.args.self.now c.args.outline.now c.args.among _ (sym c.is_broad.ensures ∙ c.if-is_broad.false)
    (rw (c.marks.ensures, c.marks-2.ensures, c.first.ensures, c.last.ensures) refl)
