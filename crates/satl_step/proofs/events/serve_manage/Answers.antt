use Rattle.std.proofs.Common.{arith, subst, sym, ◌∙◌}
use Rattle.std.proofs.lemmas.Result.{on_err_weaker}
use Rattle.satl_base.proofs.OutcomeLemmas.{on_both}
use Rattle.satl_direct.specs.Quiet.{Around}
use Rattle.satl_direct.specs.Run.{Manages, MayLose}
use Rattle.satl_core.specs.Layer.{view}
use Rattle.satl_frame.specs.declared.frames.Frame.TheVariants as frames
use Rattle.satl_step.proofs.EventLemmas.{manage_before, manage_done, manage_in_part}
use Rattle.satl_step.proofs.ServingLemmas.{ends_in_part, leaves_all, leaves_some}
use Rattle.satl_step.proofs.TallyLemmas.{depth_covered, tallied, tied_same, view_same}
use Rattle.satl_step.proofs.events.serve_manage.Goals as goal

pub returns-clause-leaves : goal.returns-clause-leaves
returns-clause-leaves g c = leaves_all _ _ _ c.tell_managed.result (tied_same c.manage-response.new.self c.tell_replies.new.satl (g.D.Drive.state c.manage-response.new.drive) c.tell_replies.ensures.stays c.manage-response.ensures.tied) c.in_ok-tell_replies.ensures.all_in c.in_ok-tell_replies.ensures.none

pub returns-in_err-tell_replies-clause-leaves : goal.returns-in_err-tell_replies-clause-leaves
returns-in_err-tell_replies-clause-leaves g c = leaves_some _ _ _ c.from_residual.result _ c.from_residual.ensures.1 (tied_same c.manage-response.new.self c.tell_replies.new.satl (g.D.Drive.state c.manage-response.new.drive) c.tell_replies.ensures.stays c.manage-response.ensures.tied) c.in_err-tell_replies.ensures.kept c.in_err-tell_replies.ensures.writable

pub returns-clause-done : goal.returns-clause-done
returns-clause-done g c =
    let s = view c.args.satl.now (g.D.Drive.state c.args.drive.now) in
    let same = view_same c.manage-response.new.self c.tell_replies.new.satl (g.D.Drive.state c.manage-response.new.drive) c.tell_replies.ensures.stays in
    let step = subst (λ x. Around (MayLose (Manages c.args.manage c.manage-response.result)) s c.manage-response.new.replies x) (sym same) c.manage-response.ensures.manages in
    let covered = depth_covered c.args.satl.now c.manage-response.new.self c.tell_replies.new.satl (g.D.Drive.state c.args.drive.now) (g.D.Drive.state c.manage-response.new.drive) c.tell_replies.ensures.stays c.manage-response.ensures.kept.deep (c.see_queue.ensures.deep (g.D.Drive.state c.manage-response.new.drive) c.manage-response.ensures.tied) in
    let counted = tallied (frames.Manage c.args.manage) c.args.satl.now c.manage-response.new.self c.tell_replies.new.satl (g.D.Drive.state c.args.drive.now) (g.D.Drive.state c.manage-response.new.drive) c.args.steps.now c.manage-response.new.steps c.tell_replies.ensures.stays c.manage-response.ensures.kept.losses c.manage-response.ensures.kept.unplugs c.manage-response.ensures.kept.orders (omega (arith, c.manage-response.ensures.calls)) (λ lost. c.manage-response.ensures.uncalled (c.requires.can.tied.agrees.mark ∙ lost)) c.manage-response.ensures.kept.deep in
    record {
      whole = on_both c.tell_managed.result _ _ _ (λ wrote next. manage_done g.T.Teller.told g.T.Teller.behind c.args.manage c.manage-response.result _ _ c.manage-response.new.replies step covered counted _ c.in_ok-tell_replies.ensures.told wrote next) c.tell_managed.ensures.all c.tell_managed.ensures.next;
      part = on_err_weaker c.tell_managed.result (λ part. manage_in_part g.T.Teller.told g.T.Teller.behind c.args.manage c.manage-response.result _ _ c.manage-response.new.replies step covered counted _ c.in_ok-tell_replies.ensures.told part) c.tell_managed.ensures.part;
    }

pub returns-in_err-tell_replies-clause-done : goal.returns-in_err-tell_replies-clause-done
returns-in_err-tell_replies-clause-done g c =
    let s = view c.args.satl.now (g.D.Drive.state c.args.drive.now) in
    let same = view_same c.manage-response.new.self c.tell_replies.new.satl (g.D.Drive.state c.manage-response.new.drive) c.tell_replies.ensures.stays in
    ends_in_part _ _ _ _ c.from_residual.result _ c.from_residual.ensures.1 (manage_before g.T.Teller.told g.T.Teller.behind c.args.manage c.manage-response.result _ _ c.manage-response.new.replies
    (subst (λ x. Around (MayLose (Manages c.args.manage c.manage-response.result)) s c.manage-response.new.replies x) (sym same) c.manage-response.ensures.manages)
    (depth_covered c.args.satl.now c.manage-response.new.self c.tell_replies.new.satl (g.D.Drive.state c.args.drive.now) (g.D.Drive.state c.manage-response.new.drive) c.tell_replies.ensures.stays c.manage-response.ensures.kept.deep (c.see_queue.ensures.deep (g.D.Drive.state c.manage-response.new.drive) c.manage-response.ensures.tied))
    (tallied (frames.Manage c.args.manage) c.args.satl.now c.manage-response.new.self c.tell_replies.new.satl (g.D.Drive.state c.args.drive.now) (g.D.Drive.state c.manage-response.new.drive) c.args.steps.now c.manage-response.new.steps c.tell_replies.ensures.stays c.manage-response.ensures.kept.losses c.manage-response.ensures.kept.unplugs c.manage-response.ensures.kept.orders (omega (arith, c.manage-response.ensures.calls)) (λ lost. c.manage-response.ensures.uncalled (c.requires.can.tied.agrees.mark ∙ lost)) c.manage-response.ensures.kept.deep)
    c.in_err-tell_replies.ensures.part)
