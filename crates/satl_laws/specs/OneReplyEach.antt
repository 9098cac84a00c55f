-- One reply for a request to a device without tasks, and a turn (profile).
use Rattle.std.specs.Prelude.{◌≡◌, true, List, [], ◌∷◌, ◌++◌}
use Rattle.satl_base.specs.declared.reply.Reply.{Reply}
use Rattle.satl_base.specs.declared.request.Request.{Request}
use Rattle.satl_base.specs.Names.{is_name}
use Rattle.satl_direct.specs.Device.{Device}
use Rattle.satl_direct.specs.Arrival.{Arrives}
use Rattle.satl_direct.specs.Quiet.{Around}
use Rattle.satl_direct.specs.Turn.{Turn}
use Rattle.satl_direct.specs.Run.{MayLose}

-- of the replies of two steps there is one, which has the nexus and tag of this request, and no task is left (SAM-5 4.7;
-- profile)
pub record OneAnswered (r : Request) (before behind : List Reply) (new : Device) : Type 0 where
  pub reply : Reply
  pub one : before ++ behind ≡ reply ∷ []
  pub its_own : is_name r.nexus (r.tag).0 reply.nexus (reply.tag).0 ≡ true
  pub none : new.tasks ≡ []

-- a request arrives at a device without tasks, and one turn is taken, whatever the request is and wherever the link is lost
-- (SAM-5 5; profile)
abbrev pub OneReplyEach : Type 0
OneReplyEach =
    (r : Request) (s mid new : Device) (before behind : List Reply) → s.tasks ≡ [] → Around (MayLose (Arrives r)) s before mid
    → Around Turn mid behind new → OneAnswered r before behind new
