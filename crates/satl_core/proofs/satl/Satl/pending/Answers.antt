use Rattle.std.proofs.Common.{◌≤◌, subst, length}
use Rattle.satl_drive.specs.State.{DriveState}
use Rattle.satl_direct.specs.Run.{depth}
use Rattle.satl_core.specs.Layer.{Layer, Tied, view}
use Rattle.satl_core.specs.Tie.{TiesQueue}
use Rattle.satl_core.proofs.DeepLemmas.{as_deep}
use Rattle.satl_core.proofs.GivenLemmas.{ties_queue}
use Rattle.satl_core.proofs.TieLemmas.{layer_of}
use Rattle.satl_core.proofs.satl.Satl.pending.Goals as goal

pub returns-clause-ties : goal.returns-clause-ties
returns-clause-ties c =
    let i = c.self.inside in
    subst (λ (l : Layer). (d : DriveState) → Tied l d → TiesQueue l d) c.self.view_is
    (λ d tied. ties_queue (layer_of i.identity i.modes i.started i.down i.attentions i.queue i.pool) d c.len.ensures.own c.self.invariant.kept (c.len.ensures.slotted d tied.agrees.queue) tied)

pub returns-clause-deep : goal.returns-clause-deep
returns-clause-deep c =
    let i = c.self.inside in
    subst (λ (l : Layer). (d : DriveState) → Tied l d → depth (view l d) ≤ length d.outstanding) c.self.view_is
    (λ d tied. as_deep (layer_of i.identity i.modes i.started i.down i.attentions i.queue i.pool) d c.len.ensures.own c.self.invariant.kept tied)
