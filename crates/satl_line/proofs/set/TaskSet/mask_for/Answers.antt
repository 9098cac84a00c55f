use Rattle.std.proofs.Common.{sym, subst, get_or, arith, ◌∙◌}
use Rattle.std.specs.Prelude.{bit_and, bit_xor}
use Rattle.std.proofs.lemmas.Nat.Bits.{bit_at-lt, bit_at_and, bit_at_xor}
use Rattle.satl_line.specs.Blank.{no_entry}
use Rattle.satl_line.specs.Layout.{IsMaskAmong}
use Rattle.satl_line.specs.Outlines.{IsOutline, outline_in}
use Rattle.satl_line.proofs.AmongLemmas.{mask_among, mask_of_alone, mask_with_alone, outline_among}
use Rattle.satl_line.proofs.set.TaskSet.mask_for.Goals as goal

pub mask_against-requires-clause-told : goal.mask_against-requires-clause-told
mask_against-requires-clause-told c = λ q lt one.
    subst (λ l. IsOutline (get_or l q no_entry) (outline_in c.self.inside.outlines q)) (sym c.deref.ensures.value)
    (outline_among c.self.inside.slots.items c.self.inside.outlines c.self.inside.order c.args.self.now c.candidates-among.result q c.self.view_is c.candidates-among.ensures.taken c.self.invariant.0.outlined.each lt
    (omega (arith, one, bit_at_xor c.candidates-among.result (bit_and c.candidates-among.result c.self.inside.alone) q, bit_at_and c.candidates-among.result c.self.inside.alone q, bit_at-lt c.candidates-among.result q)))

pub returns-then-is_alone : goal.returns-then-is_alone
returns-then-is_alone c =
    mask_among c.self.inside.slots.items c.self.inside.order c.args.self.now c.args.entry.now c.candidates-among.result c.candidates-among.result c.self.view_is c.candidates-among.ensures.taken c.candidates-among.ensures.others
    (mask_of_alone c.self.inside.slots.items c.candidates-among.result c.args.entry.now c.args.outline.now c.requires (sym c.is_alone.ensures ∙ c.if-is_alone.true))

pub returns : goal.returns
returns c =
    mask_among c.self.inside.slots.items c.self.inside.order c.args.self.now c.args.entry.now c.candidates-among.result _ c.self.view_is c.candidates-among.ensures.taken c.candidates-among.ensures.others
    (mask_with_alone c.self.inside.slots.items c.self.inside.outlines c.self.inside.order c.self.inside.free.items c.args.self.now c.candidates-among.result c.self.inside.alone c.mask_against.result c.args.entry.now c.self.view_is c.candidates-among.ensures.taken c.self.invariant.0.outlined.each c.self.invariant.5
    (subst (λ l. IsMaskAmong l (bit_xor c.candidates-among.result (bit_and c.candidates-among.result c.self.inside.alone)) c.args.entry.now c.mask_against.result) c.deref.ensures.value c.mask_against.ensures))
