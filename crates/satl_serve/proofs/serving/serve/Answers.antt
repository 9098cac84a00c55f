use Rattle.satl_base.specs.Limits.{input_limit}
use Rattle.satl_serve.proofs.CompletenessLemmas.{says_err, says_ok}
use Rattle.satl_serve.proofs.PrintingLemmas.{counter_tells, served_counted}
use Rattle.satl_serve.proofs.serving.serve.Goals as goal

pub serve_by-requires-clause-tells : goal.serve_by-requires-clause-tells
serve_by-requires-clause-tells g c = counter_tells c.args.form c.new-counter.result c.new-counter.ensures

pub returns-clause-served : goal.returns-clause-served
returns-clause-served g c = served_counted c.args.form input_limit c.new-counter.result c.serve_by.new.teller c.in_ok-requests.requests _ _ c.totals.result c.new-counter.ensures c.totals.ensures c.in_ok-requests.ensures.served

pub returns-clause-says : goal.returns-clause-says
returns-clause-says g c = says_ok c.args.form input_limit _ _ c.in_ok-requests.requests _ c.in_ok-requests.ensures.says

pub returns-in_err-requests-clause-says : goal.returns-in_err-requests-clause-says
returns-in_err-requests-clause-says g c = says_err c.args.form input_limit _ _ _ c.from_residual.result _ c.from_residual.ensures.1 (λ e is. is) c.in_err-requests.ensures.says
