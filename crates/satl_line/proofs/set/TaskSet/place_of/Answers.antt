use Rattle.std.proofs.Common.{ap, sym, ◌∙◌}
use Rattle.std.specs.Prelude.{◌==◌}
use Rattle.std.specs.List.{position_from}
use Rattle.satl_line.specs.Layout.{held_in}
use Rattle.satl_line.proofs.SlotsLemmas.{position_from-map}
use Rattle.satl_line.proofs.set.TaskSet.place_of.Goals as goal

pub returns : goal.returns
returns c =
    c.place_in.ensures
    ∙ ap (position_from (λ q. q == c.args.slot) 0) c.as_slice.ensures
    ∙ sym (position_from-map (held_in c.self.inside.slots.items) (λ h. h.slot == c.args.slot) 0 c.self.inside.order)
    ∙ ap (position_from (λ h. h.slot == c.args.slot) 0) c.self.view_is
