use Rattle.std.proofs.Common.{sym, ap, ◌∙◌, List}
use Rattle.std.specs.Prelude.{slice_get}
use Rattle.std.specs.Option.{option_map}
use Rattle.satl_audit.specs.Waiting.{Placed}
use Rattle.satl_audit.proofs.WaitingLemmas.{at_place}
use Rattle.satl_audit.proofs.waiting.Waiting.data_at.Goals as goal

pub returns : goal.returns
returns c =
    ap (λ (l : List Placed). option_map (λ (p : Placed). p.at) (slice_get l c.args.place)) (sym c.self.view_is)
    ∙ at_place c.self.inside.places c.self.inside.tasks c.args.place c.slot_of.result c.slot_of.ensures.value
