use Rattle.std.proofs.Common.{◌≡◌, refl, sym, ap, subst, ◌∙◌, ◌-◌, ◌++◌, true, false}
use Rattle.satl_flight.proofs.OrderLemmas.{in_order_none}
use Rattle.satl_core.specs.Calling.{OnlyIssues}
use Rattle.satl_core.specs.Layer.{Layer, held_pages}
use Rattle.satl_core.specs.Turning.{lost_replies}
use Rattle.satl_core.proofs.RefillLemmas.{launched_answers, launched_settled, launched_tied, lost_answers, lost_layer, lost_rest, lost_tied, no_answers, works_by}
use Rattle.satl_core.proofs.TieLemmas.{layer_of, queue_changed}
use Rattle.satl_core.proofs.satl.Satl.refill.Goals as goal

pub returns-then-self-clause-refills : goal.returns-then-self-clause-refills
returns-then-self-clause-refills g c = no_answers _ _

pub returns-in_default-clause-refills : goal.returns-in_default-clause-refills
returns-in_default-clause-refills g c =
    let i = c.self.inside in
    launched_answers (layer_of i.identity i.modes i.started i.down i.attentions i.queue i.pool) _ (layer_of i.identity i.modes i.started i.down i.attentions c.launch.new.self i.pool) _ _ c.self.view_is (works_by i.down i.started c.if-self.false c.if-not-self.false) c.requires.agrees
    (queue_changed i.identity i.modes i.started i.down i.attentions i.queue c.launch.new.self i.pool c.in_default.ensures.same) c.in_default.ensures.ok c.args.replies.now

pub returns-in_default-clause-tied : goal.returns-in_default-clause-tied
returns-in_default-clause-tied g c =
    let i = c.self.inside in
    launched_tied (layer_of i.identity i.modes i.started i.down i.attentions i.queue i.pool) _ (layer_of i.identity i.modes i.started i.down i.attentions c.launch.new.self i.pool) _ _ c.self.view_is (works_by i.down i.started c.if-self.false c.if-not-self.false) c.requires.agrees
    (queue_changed i.identity i.modes i.started i.down i.attentions i.queue c.launch.new.self i.pool c.in_default.ensures.same) c.in_default.ensures.ok c.in_default.ensures.filled c.in_default.ensures.fit

pub returns-in_default-clause-settled : goal.returns-in_default-clause-settled
returns-in_default-clause-settled g c = λ all quiet.
    let i = c.self.inside in
    launched_settled (layer_of i.identity i.modes i.started i.down i.attentions i.queue i.pool) _ (layer_of i.identity i.modes i.started i.down i.attentions c.launch.new.self i.pool) _ _ c.self.view_is (works_by i.down i.started c.if-self.false c.if-not-self.false) c.requires.agrees
    (queue_changed i.identity i.modes i.started i.down i.attentions i.queue c.launch.new.self i.pool c.in_default.ensures.same) c.in_default.ensures.ok all

pub returns-in-Err-clause-refills : goal.returns-in-Err-clause-refills
returns-in-Err-clause-refills g c =
    let i = c.self.inside in
    lost_answers (layer_of i.identity i.modes i.started i.down i.attentions i.queue i.pool) _ _ _ _ c.self.view_is (works_by i.down i.started c.if-self.false c.if-not-self.false) c.requires.agrees
    (lost_layer (layer_of i.identity i.modes i.started i.down i.attentions i.queue i.pool) (layer_of i.identity i.modes i.started i.down i.attentions c.launch.new.self i.pool) _ refl c.in-Err.ensures.emptied c.lose.ensures.stays)
    c.in-Err.ensures.err _ _ (c.lose.ensures.answers ∙ ap (λ ts. c.args.replies.now ++ lost_replies i.modes.d_sense ts) c.in-Err.ensures.same)

pub returns-in-Err-clause-tied : goal.returns-in-Err-clause-tied
returns-in-Err-clause-tied g c =
    let i = c.self.inside in
    lost_tied (layer_of i.identity i.modes i.started i.down i.attentions i.queue i.pool) _ _ _ _ c.self.view_is (works_by i.down i.started c.if-self.false c.if-not-self.false) c.requires.agrees
    (lost_layer (layer_of i.identity i.modes i.started i.down i.attentions i.queue i.pool) (layer_of i.identity i.modes i.started i.down i.attentions c.launch.new.self i.pool) _ refl c.in-Err.ensures.emptied c.lose.ensures.stays)
    c.in-Err.ensures.err _ _ (c.lose.ensures.answers ∙ ap (λ ts. c.args.replies.now ++ lost_replies i.modes.d_sense ts) c.in-Err.ensures.same) c.in-Err.ensures.fit

pub returns-in-Err-clause-rest : goal.returns-in-Err-clause-rest
returns-in-Err-clause-rest g c =
    let i = c.self.inside in
    lost_rest (layer_of i.identity i.modes i.started i.down i.attentions i.queue i.pool) _ _ _ _ i.queue.tasks c.self.view_is
    (lost_layer (layer_of i.identity i.modes i.started i.down i.attentions i.queue i.pool) (layer_of i.identity i.modes i.started i.down i.attentions c.launch.new.self i.pool) _ refl c.in-Err.ensures.emptied c.lose.ensures.stays)
    (ap (λ (x : Layer). x.out) c.lose.ensures.stays ∙ ap (λ ts. i.pool.out - held_pages ts) c.in-Err.ensures.same)
    (c.lose.ensures.answers ∙ ap (λ ts. c.args.replies.now ++ lost_replies i.modes.d_sense ts) c.in-Err.ensures.same) c.lose.ensures.writable

pub returns-then-self-clause-issues : goal.returns-then-self-clause-issues
returns-then-self-clause-issues g c = λ up. record { cost = refl; in_order = in_order_none _ _ }

pub returns-in_default-clause-issues : goal.returns-in_default-clause-issues
returns-in_default-clause-issues g c = λ up.
    let i = c.self.inside in
    subst (λ (l : Layer). OnlyIssues l.flying c.args.steps.now (layer_of i.identity i.modes i.started i.down i.attentions c.launch.new.self i.pool) c.launch.new.steps) c.self.view_is
    (record { cost = c.in_default.ensures.cost; in_order = c.in_default.ensures.in_order })

pub returns-in-Err-clause-issues : goal.returns-in-Err-clause-issues
returns-in-Err-clause-issues g c = λ up. let no : true ≡ false = sym (ap (λ (l : Layer). l.down) c.lose.ensures.stays) ∙ up in absurd cc

pub returns-in-Err-clause-unlost : goal.returns-in-Err-clause-unlost
returns-in-Err-clause-unlost g c = λ up. let no : true ≡ false = sym (ap (λ (l : Layer). l.down) c.lose.ensures.stays) ∙ up in absurd cc
