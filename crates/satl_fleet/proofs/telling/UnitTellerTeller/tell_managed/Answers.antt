use Rattle.std.proofs.Common.{sym, ◌∙◌}
use Rattle.std.proofs.lemmas.Result.{on_err_weaker}
use Rattle.satl_io.proofs.Joined.{WrotePart-more}
use Rattle.satl_frame.specs.Output.Answer.{managed}
use Rattle.satl_base.proofs.OutcomeLemmas.{any_err}
use Rattle.satl_fleet.proofs.TellingLemmas.{front_of_both, front_of_name}
use Rattle.satl_fleet.proofs.telling.UnitTellerTeller.tell_managed.Goals as goal

pub returns-in_err-name-clause-part : goal.returns-in_err-name-clause-part
returns-in_err-name-clause-part g c = any_err c.from_residual.result _ (front_of_name c.args.self.now.unit c.args.self.now.named (managed c.args.manage.now.nexus c.args.manage.now.function c.args.response c.args.manage.now.tag) _ _ (sym c.is_silent.ensures ∙ c.if-is_silent.false) c.in_err-name.ensures.part)

pub returns-clause-part : goal.returns-clause-part
returns-clause-part g c = on_err_weaker c.write_frame.result (λ part. front_of_both c.args.self.now.unit c.args.self.now.named (managed c.args.manage.now.nexus c.args.manage.now.function c.args.response c.args.manage.now.tag) _ _ (sym c.is_silent.ensures ∙ c.if-is_silent.false) (WrotePart-more c.in_ok-name.ensures.all part)) c.write_frame.ensures.part
