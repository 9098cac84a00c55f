use Rattle.std.proofs.Common.{refl}
use Rattle.std.proofs.lemmas.Result.{on_err_weaker}
use Rattle.satl_io.proofs.Joined.{WrotePart-more}
use Rattle.satl_frame.specs.Output.Answer.{replied}
use Rattle.satl_base.proofs.OutcomeLemmas.{any_err}
use Rattle.satl_fleet.proofs.TellingLemmas.{front_of_both, front_of_name}
use Rattle.satl_fleet.proofs.telling.UnitTellerTeller.tell_reply.Goals as goal

pub returns-in_err-name-clause-part : goal.returns-in_err-name-clause-part
returns-in_err-name-clause-part g c = any_err c.from_residual.result _ (front_of_name c.args.self.now.unit c.args.self.now.named (replied c.args.reply.now) _ _ refl c.in_err-name.ensures.part)

pub returns-clause-part : goal.returns-clause-part
returns-clause-part g c = on_err_weaker c.write_frame.result (λ part. front_of_both c.args.self.now.unit c.args.self.now.named (replied c.args.reply.now) _ _ refl (WrotePart-more c.in_ok-name.ensures.all part)) c.write_frame.ensures.part
