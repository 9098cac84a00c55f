use Rattle.std.proofs.Common.{◌≡◌, ◌∙◌, ap, Some, arith}
use Rattle.std.specs.Prelude.{unwrap_or}
use Rattle.clap.proofs.WalkLemmas.{one_text-rows}
use Rattle.std.specs.contracts.prelude.U64FromStr.TheImpl.{ghosts}
use Rattle.clap.specs.Words.{found_of}
use Rattle.satl_words.proofs.NumberLemmas.{taken}
use Rattle.satl_words.proofs.numbers.number_given.Goals as goal

pub returns-clause-given : goal.returns-clause-given
returns-clause-given c = λ text spelled is s small.
    let some : c.get_one.result ≡ Some spelled = taken ghosts.from_str_gives text spelled c.get_one.result (c.get_one.ensures.value text (one_text-rows (found_of c.args.found.now) c.args.id.now ∙ is)) (λ r x. x.0) s (omega (arith, small, c.ranges.most.fits)) in
    let number : c.unwrap_or.result ≡ spelled = c.unwrap_or.ensures ∙ ap (λ o. unwrap_or o 0) some in
    omega (arith, number, small, c.min.ensures)
