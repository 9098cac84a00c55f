use Rattle.std.proofs.Common.{◌≡◌, Ok, subst, ⊎_elim}
use Rattle.satl_base.specs.Limits.{input_limit}
use Rattle.satl_serve.specs.Moments.{moment, sink_state, source_state}
use Rattle.satl_top.specs.Top.{HasCarriedOut}
use Rattle.satl_top.proofs.top.satl.Goals as goal

pub returns-in-Ok-clause-plain : goal.returns-in-Ok-clause-plain
returns-in-Ok-clause-plain g c = λ mode range plain.
    let is : c.mode_asked.result ≡ Ok mode = c.mode_asked.ensures.plain mode range plain in
    let other : c.mode_asked.result ≡ Ok c.in-Ok.mode = c.in-Ok.is in
    let same : c.in-Ok.mode ≡ mode = cc in
    subst (λ m. HasCarriedOut m input_limit (moment (source_state (g.S.Source.left c.args.source.now) (g.S.Source.waited c.args.source.now) (g.S.Source.faults c.args.source.now)) (sink_state (g.K.Sink.written c.args.sink.now) (g.K.Sink.faults c.args.sink.now)) c.args.steps.now (g.D.Drive.state c.args.drive.now)) (moment (source_state (g.S.Source.left c.carry_out.new.source) (g.S.Source.waited c.carry_out.new.source) (g.S.Source.faults c.carry_out.new.source)) (sink_state (g.K.Sink.written c.carry_out.new.sink) (g.K.Sink.faults c.carry_out.new.sink)) c.carry_out.new.steps (g.D.Drive.state c.carry_out.new.drive)) c.carry_out.result) same c.carry_out.ensures

pub returns-in-Ok-clause-refused : goal.returns-in-Ok-clause-refused
returns-in-Ok-clause-refused g c = λ refused. absurd (⊎_elim (refused.not_plain c.in-Ok.mode c.in-Ok.ensures.asked.0) (λ taken. refused.not_taken taken.0) c.in-Ok.ensures.asked.1)
