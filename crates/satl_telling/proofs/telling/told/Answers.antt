use Rattle.std.proofs.Common.{arith, take}
use Rattle.std.proofs.lemmas.List.{length-take}
use Rattle.satl_telling.proofs.TellingLemmas.{pages_hold}
use Rattle.satl_telling.proofs.telling.told.Goals as goal

pub returns-clause-writable : goal.returns-clause-writable
returns-clause-writable c = λ expected. record {
  holds = pages_hold (take c.min.result c.args.text.now) c.in_pages-body.result c.in_pages-body.ensures.pages;
  short = omega (arith, length-take c.min.result c.args.text.now, c.requires.few);
  expected = expected;
}
