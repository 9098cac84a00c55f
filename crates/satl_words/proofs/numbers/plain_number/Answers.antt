use Rattle.std.proofs.Common.{◌≡◌, ◌∙◌, ap, sym, subst, arith, true, eqb, Ok}
use Rattle.std.specs.Prelude.{not}
use Rattle.std.specs.Cmp.Lexicographic.{pointwise}
use Rattle.satl_words.proofs.PlainLemmas.{differs}
use Rattle.std.specs.Fmt.{decimal}
use Rattle.std.proofs.lemmas.Fmt.{parse-decimal}
use Rattle.satl_words.proofs.numbers.plain_number.Goals as goal

pub returns-in_default-clause-plain : goal.returns-in_default-clause-plain
returns-in_default-clause-plain c = λ n small is.
    let ok : c.parse.result ≡ Ok n = parse-decimal 64 n c.args.text.now c.parse.result (omega (arith, small, c.ranges.most.fits)) (omega (arith, small, c.ranges.most.fits)) is c.parse.ensures.value.0 in
    let bad = sym ok ∙ c.in_default.is in
    absurd cc

pub returns-clause-plain : goal.returns-clause-plain
returns-clause-plain c = λ n small is.
    let ok : c.parse.result ≡ Ok n = parse-decimal 64 n c.args.text.now c.parse.result (omega (arith, small, c.ranges.most.fits)) (omega (arith, small, c.ranges.most.fits)) is c.parse.ensures.value.0 in
    let same = sym c.in-Ok.is ∙ ok in
    cc

pub returns-then-number-most-clause-plain : goal.returns-then-number-most-clause-plain
returns-then-number-most-clause-plain c = λ n small is.
    let ok : c.parse.result ≡ Ok n = parse-decimal 64 n c.args.text.now c.parse.result (omega (arith, small, c.ranges.most.fits)) (omega (arith, small, c.ranges.most.fits)) is c.parse.ensures.value.0 in
    let same = sym c.in-Ok.is ∙ ok in
    let number : c.in-Ok.number ≡ n = cc in
    absurd (omega (arith, number, small, c.if-number-most.true))

pub returns-then-ne-clause-plain : goal.returns-then-ne-clause-plain
returns-then-ne-clause-plain c = λ n small is.
    let ok : c.parse.result ≡ Ok n = parse-decimal 64 n c.args.text.now c.parse.result (omega (arith, small, c.ranges.most.fits)) (omega (arith, small, c.ranges.most.fits)) is c.parse.ensures.value.0 in
    let same = sym c.in-Ok.is ∙ ok in
    let number : c.in-Ok.number ≡ n = cc in
    let text : c.format.result.now ≡ c.args.text.now = c.format.ensures.text ∙ (ap decimal number ∙ sym is) in
    let e = c.if-ne.ensures in
    let bad : true ≡ not (pointwise eqb c.args.text.now c.args.text.now) = subst (λ l. true ≡ not (pointwise eqb l c.args.text.now)) text e in
    absurd (differs c.args.text.now bad)
