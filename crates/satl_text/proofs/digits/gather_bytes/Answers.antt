use Rattle.std.proofs.lemmas.Result.{on_err_weaker}
use Rattle.satl_base.specs.Blocks.{first_bytes}
use Rattle.satl_text.proofs.DigitLemmas.{digits_part}
use Rattle.satl_text.proofs.digits.gather_bytes.Goals as goal

pub returns-else-is_none-clause-part : goal.returns-else-is_none-clause-part
returns-else-is_none-clause-part g c = on_err_weaker c.gather_digits.result (λ part. digits_part c.args.gathered.now (first_bytes c.args.len c.args.pages.now) part) c.gather_digits.ensures.part
