use Rattle.satl_base.specs.Limits.{input_limit}
use Rattle.satl_serve.proofs.CompletenessLemmas.{says_err, says_ok}
use Rattle.satl_serve.proofs.PrintingLemmas.{printer_tells}
use Rattle.satl_serve.proofs.serving.serve_uncounted.Goals as goal

pub serve_by-requires-clause-tells : goal.serve_by-requires-clause-tells
serve_by-requires-clause-tells g c = printer_tells c.args.form _ c.new.ensures

pub returns-clause-says : goal.returns-clause-says
returns-clause-says g c = says_ok c.args.form input_limit _ _ _ _ c.in_ok-serve_by.ensures.says

pub returns-in_err-serve_by-clause-says : goal.returns-in_err-serve_by-clause-says
returns-in_err-serve_by-clause-says g c = says_err c.args.form input_limit _ _ _ c.from_residual.result _ c.from_residual.ensures.1 (λ e is. is) c.in_err-serve_by.ensures.says
