use Rattle.std.proofs.Common.{◌≡◌, ap, ◌∙◌, true, false}
use Rattle.satl_core.specs.Layer.{Layer}
use Rattle.satl_core.proofs.CallingLemmas.{first_stopped, stopped_idle}
use Rattle.satl_core.proofs.satl.Satl.end_one.Goals as goal

pub returns-else-is_idle-clause-unready : goal.returns-else-is_idle-clause-unready
returns-else-is_idle-clause-unready g c = λ unready.
    let stopped = first_stopped c.args.self.now.started c.args.self.now.tasks unready in
    let no : false ≡ true = c.if-is_idle.ensures.1 (ap (λ (l : Layer). l.flying) c.self.view_is ∙ stopped_idle c.args.self.now c.requires.tied.used stopped) in
    absurd cc
