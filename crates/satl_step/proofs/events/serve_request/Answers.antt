use Rattle.std.proofs.Common.{arith, refl, subst, sym, ◌∙◌}
use Rattle.satl_direct.specs.Arrival.{Arrives}
use Rattle.satl_direct.specs.Run.{MayLose}
use Rattle.satl_direct.specs.Quiet.{Around}
use Rattle.satl_core.specs.Layer.{view}
use Rattle.satl_frame.specs.declared.frames.Frame.TheVariants as frames
use Rattle.satl_step.proofs.EventLemmas.{carried_request, replies_end}
use Rattle.satl_step.proofs.TallyLemmas.{depth_covered, tallied, tied_same, view_same}
use Rattle.satl_step.proofs.events.serve_request.Goals as goal

pub returns-clause-done : goal.returns-clause-done
returns-clause-done g c =
    let s = view c.args.satl.now (g.D.Drive.state c.args.drive.now) in
    let same = view_same c.submit.new.self c.tell_replies.new.satl (g.D.Drive.state c.submit.new.drive) c.tell_replies.ensures.stays in
    replies_end g.T.Teller.told g.T.Teller.behind (frames.Request c.args.request) _ _ c.submit.new.replies c.tell_replies.result refl
    (carried_request c.args.request _ _ c.submit.new.replies (λ w cut. subst (λ x. Around (MayLose (Arrives w)) s c.submit.new.replies x) (sym same) (c.submit.ensures.around w cut))
    (depth_covered c.args.satl.now c.submit.new.self c.tell_replies.new.satl (g.D.Drive.state c.args.drive.now) (g.D.Drive.state c.submit.new.drive) c.tell_replies.ensures.stays c.submit.ensures.kept.deep (c.see_queue.ensures.deep (g.D.Drive.state c.submit.new.drive) c.submit.ensures.tied)))
    (tallied (frames.Request c.args.request) c.args.satl.now c.submit.new.self c.tell_replies.new.satl (g.D.Drive.state c.args.drive.now) (g.D.Drive.state c.submit.new.drive) c.args.steps.now c.submit.new.steps c.tell_replies.ensures.stays c.submit.ensures.kept.losses c.submit.ensures.kept.unplugs c.submit.ensures.kept.orders (omega (arith, c.submit.ensures.calls)) (λ lost. c.submit.ensures.uncalled (c.requires.can.tied.agrees.mark ∙ lost)) c.submit.ensures.kept.deep)
    c.tell_replies.ensures.told c.tell_replies.ensures.some c.tell_replies.ensures.part

pub returns-clause-leaves : goal.returns-clause-leaves
returns-clause-leaves g c = record {
  tied = tied_same c.submit.new.self c.tell_replies.new.satl (g.D.Drive.state c.submit.new.drive) c.tell_replies.ensures.stays c.submit.ensures.tied;
  all_in = c.tell_replies.ensures.all_in;
  none = c.tell_replies.ensures.none;
  kept = c.tell_replies.ensures.kept;
  writable = c.tell_replies.ensures.writable;
}
