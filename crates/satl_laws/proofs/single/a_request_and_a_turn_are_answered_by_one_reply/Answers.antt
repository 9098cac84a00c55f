use Rattle.satl_laws.proofs.OneReply.{one_reply}
use Rattle.satl_laws.proofs.single.a_request_and_a_turn_are_answered_by_one_reply.Goals as goal

pub returns : goal.returns
returns c = one_reply
