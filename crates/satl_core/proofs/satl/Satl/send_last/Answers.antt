use Rattle.std.proofs.Common.{◌≡◌, refl, sym, ap, subst, ◌∙◌, ◌-◌, ◌++◌, List, [], true, false, arith, length}
use Rattle.std.specs.Prelude.{MatchBool}
use Rattle.satl_base.specs.Identify.{has_queued_trim}
use Rattle.satl_core.specs.Layer.{Layer, held_pages, works}
use Rattle.satl_core.specs.Turning.{lost_replies}
use Rattle.satl_line.specs.Tasks.{Held}
use Rattle.satl_flight.specs.Settled.{IsFilled}
use Rattle.satl_core.specs.Refilling.{Comes}
use Rattle.satl_core.proofs.RefillLemmas.{filled_last, launched_answers, launched_tied, lost_answers, lost_layer, lost_rest, lost_tied, no_answers, works_by}
use Rattle.satl_core.proofs.TieLemmas.{layer_of, queue_changed}
use Rattle.satl_core.proofs.satl.Satl.send_last.Goals as goal

pub returns-then-self-clause-refills : goal.returns-then-self-clause-refills
returns-then-self-clause-refills g c = no_answers _ _

pub returns-in_default-clause-refills : goal.returns-in_default-clause-refills
returns-in_default-clause-refills g c =
    let i = c.self.inside in
    launched_answers (layer_of i.identity i.modes i.started i.down i.attentions i.queue i.pool) _ (layer_of i.identity i.modes i.started i.down i.attentions c.launch_last.new.self i.pool) _ _ c.self.view_is (works_by i.down i.started c.if-self.false c.if-not-self.false) c.requires.agrees
    (queue_changed i.identity i.modes i.started i.down i.attentions i.queue c.launch_last.new.self i.pool c.in_default.ensures.same) c.in_default.ensures.ok c.args.replies.now

pub returns-in_default-clause-tied : goal.returns-in_default-clause-tied
returns-in_default-clause-tied g c =
    let i = c.self.inside in
    launched_tied (layer_of i.identity i.modes i.started i.down i.attentions i.queue i.pool) _ (layer_of i.identity i.modes i.started i.down i.attentions c.launch_last.new.self i.pool) _ _ c.self.view_is (works_by i.down i.started c.if-self.false c.if-not-self.false) c.requires.agrees
    (queue_changed i.identity i.modes i.started i.down i.attentions i.queue c.launch_last.new.self i.pool c.in_default.ensures.same) c.in_default.ensures.ok
    (let came = subst (λ (l : Layer). (before : List Held) × Comes (g.D.Drive.state c.args.drive.now).capacity (has_queued_trim (g.D.Drive.state c.args.drive.now).identify) before l.tasks × MatchBool (works l) (IsFilled l.flying before) (l.flying ≡ [])) (sym c.self.view_is) c.requires.came in
    filled_last (layer_of i.identity i.modes i.started i.down i.attentions i.queue i.pool) (layer_of i.identity i.modes i.started i.down i.attentions c.launch_last.new.self i.pool) _ _ _ _ (works_by i.down i.started c.if-self.false c.if-not-self.false) c.in_default.ensures.same came.0 came.1 came.2 c.in_default.ensures.ok c.in_default.ensures.covered) c.in_default.ensures.fit

pub returns-in-Err-clause-refills : goal.returns-in-Err-clause-refills
returns-in-Err-clause-refills g c =
    let i = c.self.inside in
    lost_answers (layer_of i.identity i.modes i.started i.down i.attentions i.queue i.pool) _ _ _ _ c.self.view_is (works_by i.down i.started c.if-self.false c.if-not-self.false) c.requires.agrees
    (lost_layer (layer_of i.identity i.modes i.started i.down i.attentions i.queue i.pool) (layer_of i.identity i.modes i.started i.down i.attentions c.launch_last.new.self i.pool) _ refl c.in-Err.ensures.emptied c.lose.ensures.stays)
    c.in-Err.ensures.err _ _ (c.lose.ensures.answers ∙ ap (λ ts. c.args.replies.now ++ lost_replies i.modes.d_sense ts) c.in-Err.ensures.same)

pub returns-in-Err-clause-tied : goal.returns-in-Err-clause-tied
returns-in-Err-clause-tied g c =
    let i = c.self.inside in
    lost_tied (layer_of i.identity i.modes i.started i.down i.attentions i.queue i.pool) _ _ _ _ c.self.view_is (works_by i.down i.started c.if-self.false c.if-not-self.false) c.requires.agrees
    (lost_layer (layer_of i.identity i.modes i.started i.down i.attentions i.queue i.pool) (layer_of i.identity i.modes i.started i.down i.attentions c.launch_last.new.self i.pool) _ refl c.in-Err.ensures.emptied c.lose.ensures.stays)
    c.in-Err.ensures.err _ _ (c.lose.ensures.answers ∙ ap (λ ts. c.args.replies.now ++ lost_replies i.modes.d_sense ts) c.in-Err.ensures.same) c.in-Err.ensures.fit

pub returns-in-Err-clause-rest : goal.returns-in-Err-clause-rest
returns-in-Err-clause-rest g c =
    let i = c.self.inside in
    lost_rest (layer_of i.identity i.modes i.started i.down i.attentions i.queue i.pool) _ _ _ _ i.queue.tasks c.self.view_is
    (lost_layer (layer_of i.identity i.modes i.started i.down i.attentions i.queue i.pool) (layer_of i.identity i.modes i.started i.down i.attentions c.launch_last.new.self i.pool) _ refl c.in-Err.ensures.emptied c.lose.ensures.stays)
    (ap (λ (x : Layer). x.out) c.lose.ensures.stays ∙ ap (λ ts. i.pool.out - held_pages ts) c.in-Err.ensures.same)
    (c.lose.ensures.answers ∙ ap (λ ts. c.args.replies.now ++ lost_replies i.modes.d_sense ts) c.in-Err.ensures.same) c.lose.ensures.writable

pub returns-in_default-clause-issues : goal.returns-in_default-clause-issues
returns-in_default-clause-issues g c = λ up. omega (arith, c.in_default.ensures.cost, ap (λ (l : Layer). length l.flying) c.self.view_is)

pub returns-in-Err-clause-issues : goal.returns-in-Err-clause-issues
returns-in-Err-clause-issues g c = λ up. let no : true ≡ false = sym (ap (λ (l : Layer). l.down) c.lose.ensures.stays) ∙ up in absurd cc
