use Rattle.std.proofs.Common.{sym, ap, ◌∙◌}
use Rattle.std.specs.List.{position_from}
use Rattle.satl_line.specs.Tasks.{is_named}
use Rattle.satl_line.proofs.SlotsLemmas.{position_from-map}
use Rattle.satl_flight.specs.Lending.{Waiting, whole_task}
use Rattle.satl_flight.proofs.queue.Queue.find.Goals as goal

pub returns : goal.returns
returns c =
    c.find.ensures
    ∙ (sym (position_from-map (whole_task c.self.inside.flight c.self.inside.dma) (is_named c.args.nexus c.args.tag) 0 c.self.inside.set) ∙ ap (λ (w : Waiting). position_from (is_named c.args.nexus c.args.tag) 0 w.tasks) c.self.view_is)
