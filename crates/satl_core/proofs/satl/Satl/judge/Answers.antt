use Rattle.std.proofs.Common.{◌≡◌, subst, true}
use Rattle.std.specs.Prelude.{IfOk, IfSome}
use Rattle.satl_mode.specs.Changes.{AreModesOf, IsChangeOf}
use Rattle.satl_direct.specs.Tasks.{asks, held_blocks}
use Rattle.satl_core.specs.Layer.{IsTask, Layer}
use Rattle.satl_asks.specs.Commands.{HasList}
use Rattle.satl_core.specs.Submitting.{trims}
use Rattle.satl_core.proofs.JudgingLemmas.{code_change, code_list, code_task, code_trims}
use Rattle.satl_core.proofs.TieLemmas.{layer_of}
use Rattle.satl_core.proofs.satl.Satl.judge.Goals as goal

pub judge_code-requires : goal.judge_code-requires
judge_code-requires c = record { holds = c.requires.holds }

pub returns-clause-change : goal.returns-clause-change
returns-clause-change c =
    let l = layer_of c.self.inside.identity c.self.inside.modes c.self.inside.started c.self.inside.down c.next_attention.new.attentions c.self.inside.queue c.self.inside.pool in
    subst (λ (l : Layer). AreModesOf l.identity l.modes → IfOk c.judge_code.result (λ command. IfSome ((asks command).change c.args.request.now.body) (IsChangeOf l.identity))) c.self.view_is (λ valid. code_change l c.args.request.now c.judge_code.result valid c.judge_code.ensures.answer)

pub returns-clause-task : goal.returns-clause-task
returns-clause-task c =
    let l = layer_of c.self.inside.identity c.self.inside.modes c.self.inside.started c.self.inside.down c.next_attention.new.attentions c.self.inside.queue c.self.inside.pool in
    subst (λ (l : Layer). IfOk c.judge_code.result (λ command. IsTask l.identity.capacity command (held_blocks command))) c.self.view_is (code_task l c.args.request.now c.judge_code.result c.read_lengths.ensures c.self.invariant.identity_is c.judge_code.ensures.can c.judge_code.ensures.answer)

pub returns-clause-list : goal.returns-clause-list
returns-clause-list c =
    let l = layer_of c.self.inside.identity c.self.inside.modes c.self.inside.started c.self.inside.down c.next_attention.new.attentions c.self.inside.queue c.self.inside.pool in
    subst (λ (l : Layer). IfOk c.judge_code.result (λ command. HasList command c.args.request.now.body l.identity.capacity)) c.self.view_is (code_list l c.args.request.now c.judge_code.result c.read_lengths.ensures c.requires.holds c.judge_code.ensures.answer)

pub returns-clause-trims : goal.returns-clause-trims
returns-clause-trims c =
    let l = layer_of c.self.inside.identity c.self.inside.modes c.self.inside.started c.self.inside.down c.next_attention.new.attentions c.self.inside.queue c.self.inside.pool in
    subst (λ (l : Layer). IfOk c.judge_code.result (λ command. trims command ≡ true → l.identity.trim ≡ true)) c.self.view_is (code_trims l c.args.request.now c.judge_code.result c.judge_code.ensures.answer)
