use Rattle.std.proofs.Common.{sym, ap, ◌∙◌}
use Rattle.std.specs.List.{position_from}
use Rattle.satl_line.proofs.SlotsLemmas.{position_from-map}
use Rattle.satl_audit.specs.Waiting.{has_name}
use Rattle.satl_audit.proofs.WaitingLemmas.{place_held}
use Rattle.satl_audit.proofs.waiting.Waiting.find.Goals as goal

pub returns : goal.returns
returns c =
    c.find.ensures
    ∙ sym (position_from-map (place_held c.self.inside.places) (has_name c.args.nexus c.args.tag.0) 0 c.self.inside.tasks)
    ∙ ap (position_from (has_name c.args.nexus c.args.tag.0) 0) c.self.view_is
