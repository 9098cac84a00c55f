-- A request and one turn on one unit (profile).
use Rattle.std.specs.Prelude.{◌≡◌, ℕ, true, List, [], ◌∷◌, ◌++◌}
use Rattle.satl_base.specs.declared.reply.Reply.{Reply}
use Rattle.satl_base.specs.declared.request.Request.{Request}
use Rattle.satl_base.specs.Names.{is_name}
use Rattle.satl_frame.specs.declared.frames.Frame.TheVariants as frames
use Rattle.satl_frame.specs.Output.{Answer}
use Rattle.satl_frame.specs.Output.Answer.{replied}
use Rattle.satl_step.specs.Events.{Carried, IsTallied, Scene}
use Rattle.satl_step.specs.Runs.{Stand}
use Rattle.satl_step.specs.Telling.{IsTold, IsToldInPart}

-- both were carried out, with one reply, which has the nexus and tag of the request, and no task is left (profile)
pub record BothCarried (r : Request) (before after : Stand) : Type 0 where
  pub mid : Stand
  pub first : List Answer
  pub second : List Answer
  pub arrives : Carried (frames.Request r) before first mid
  pub arrival_tallied : IsTallied (frames.Request r) before mid
  pub turns : Carried (frames.Turn 1) mid second after
  pub turn_tallied : IsTallied (frames.Turn 1) mid after
  pub reply : Reply
  pub one : first ++ second ≡ replied reply ∷ []
  pub its_own : is_name r.nexus (r.tag).0 reply.nexus (reply.tag).0 ≡ true
  pub none : after.device.tasks ≡ []

-- and the reply was told (profile)
pub record Exchanged {T : Type 0} (told : T → Answer → List ℕ) (behind : T → Answer → T) (r : Request)
    (before after : Scene T) : Type 0 where
  pub both : BothCarried r before.stand after.stand
  pub told_so : IsTold told behind before.telling after.telling (replied both.reply ∷ [])

-- or a front of it was written (profile)
pub record ExchangedInPart {T : Type 0} (told : T → Answer → List ℕ) (behind : T → Answer → T) (r : Request)
    (before after : Scene T) : Type 0 where
  pub both : BothCarried r before.stand after.stand
  pub told_so : IsToldInPart told behind before.telling after.telling (replied both.reply ∷ [])
