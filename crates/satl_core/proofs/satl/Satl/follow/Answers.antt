use Rattle.std.proofs.Common.{arith, ap, ◌∙◌, ◌++◌}
use Rattle.satl_core.specs.Layer.{Layer, held_pages, reply_pages}
use Rattle.satl_core.specs.Turning.{lost_replies}
use Rattle.satl_core.proofs.TurningLemmas.{lost_pages}
use Rattle.satl_core.proofs.satl.Satl.follow.Goals as goal

pub returns-in-Unplug-clause-pages : goal.returns-in-Unplug-clause-pages
returns-in-Unplug-clause-pages c =
    let answers = ap reply_pages (c.lose.ensures.answers ∙ ap (λ r. r ++ lost_replies c.self.inside.modes.d_sense c.forget.new.self.tasks) c.requires.empty) in
    let lost = lost_pages c.self.inside.modes.d_sense c.forget.new.self.tasks in
    omega (arith, answers, lost, ap held_pages c.forget.ensures.same, ap (λ (l : Layer). l.out) c.lose.ensures.stays, ap (λ (l : Layer). l.out) c.self.view_is, c.requires.all_in, c.self.invariant.held)
