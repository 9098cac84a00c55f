-- Quiet moves that change nothing, and groups of answers.
use Rattle.std.proofs.Common.{◌≡◌, inl, refl, sym, ap, ◌∙◌, List, [], ◌∷◌, ◌++◌, append_assoc}
use Rattle.std.proofs.lemmas.List.{append-nil}
use Rattle.satl_base.specs.declared.reply.Reply.{Reply}
use Rattle.satl_base.specs.Moves.{stay}
use Rattle.satl_frame.specs.Output.{Answer}
use Rattle.satl_direct.specs.Device.{Device}
use Rattle.satl_direct.specs.Quiet.{Around, Quiet}
use Rattle.satl_direct.specs.Run.{joined}

-- a device may stay as it is
pub quiet_none : (s : Device) → Quiet s s
quiet_none s = record { cells = stay; active = inl refl; stays = refl }

-- quiet moves leave the tasks
pub quiet_tasks : (old new : Device) → Quiet old new → new.tasks ≡ old.tasks
quiet_tasks old new q = ap (λ d. d.tasks) q.stays

-- a step with no quiet moves
pub around_alone : (Step : Device → List Reply → Device → Type 0) (s new : Device) (answers : List Reply) → Step s answers new → Around Step s answers new
around_alone Step s new answers step = record { before = s; after = new; quiet_before = quiet_none s; step = step; quiet_after = quiet_none new }

-- one more group of answers
pub joined-push : (groups : List (List Answer)) (group : List Answer) → joined (groups ++ group ∷ []) ≡ joined groups ++ group
joined-push [] group = append-nil group
joined-push (g ∷ groups) group = ap (λ l. g ++ l) (joined-push groups group) ∙ sym (append_assoc g (joined groups) group)
