use Rattle.std.proofs.Common.{◌≡◌, subst, ◌∙◌}
use Rattle.std.specs.Result.{result_err}
use Rattle.satl_mode.specs.SelectList.{select_fault}
use Rattle.satl_core.specs.Layer.{Layer}
use Rattle.satl_core.proofs.SelectLemmas.{said}
use Rattle.satl_core.proofs.submitting.select_fault.Goals as goal

pub returns : goal.returns
returns c =
    c.err.ensures.value
    ∙ subst (λ (l : Layer). result_err c.read_select.result ≡ select_fault l.identity l.modes c.args.request.now.body c.args.length c.args.ten) c.satl.view_is
    (said c.satl.inside.identity c.satl.inside.modes c.args.request.now.body c.args.length c.args.ten c.read_select.result c.read_select.ensures.says)
