use Rattle.std.proofs.Common.{ap, ◌∙◌, List}
use Rattle.std.specs.Prelude.{remove}
use Rattle.satl_base.proofs.ListsLemmas.{remove-map}
use Rattle.satl_audit.specs.Waiting.{Placed, placed_in}
use Rattle.satl_audit.proofs.WaitingLemmas.{place_held}
use Rattle.satl_audit.proofs.waiting.Waiting.remove.Goals as goal

pub returns : goal.returns
returns c =
    ap (placed_in c.self.inside.places) c.remove.ensures.others
    ∙ remove-map (place_held c.self.inside.places) c.self.inside.tasks c.args.place
    ∙ ap (λ (l : List Placed). remove l c.args.place) c.self.view_is
