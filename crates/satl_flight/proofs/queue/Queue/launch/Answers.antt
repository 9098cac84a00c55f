use Rattle.std.proofs.Common.{ap, subst, sym}
use Rattle.std.proofs.lemmas.Result.{on_ok_weaker}
use Rattle.satl_flight.specs.Lending.{Waiting, whole_tasks}
use Rattle.satl_flight.specs.Settled.{IssuesInOrder}
use Rattle.satl_flight.proofs.queue.Queue.launch.Goals as goal

pub returns-clause-in_order : goal.returns-clause-in_order
returns-clause-in_order g c =
    on_ok_weaker c.launch.result
    (λ order. subst (λ fs. IssuesInOrder fs c.launch.new.self (whole_tasks c.launch.new.self c.launch.new.dma c.launch.new.set)) (ap (λ (w : Waiting). w.flying) c.self.view_is)
    (subst (IssuesInOrder c.self.inside.flight c.launch.new.self) (sym c.launch.ensures.same) order))
    c.launch.ensures.in_order
