use Rattle.std.proofs.Common.{refl}
use Rattle.satl_base.proofs.OutcomeLemmas.{any_err}
use Rattle.satl_frame.proofs.GatheringLemmas.{part_of_front}
use Rattle.satl_frame.proofs.writing.gather.Goals as goal

pub returns-in_err-push-clause-part : goal.returns-in_err-push-clause-part
returns-in_err-push-clause-part g c =
    any_err c.from_residual.result _ (part_of_front c.args.bytes.now refl (rw c.as_slice.ensures at c.in_err-push.ensures.part))
