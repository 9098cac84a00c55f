use Rattle.std.proofs.Common.{arith, refl, subst, sym}
use Rattle.satl_direct.specs.Bench.{Happens}
use Rattle.satl_direct.specs.Quiet.{Around}
use Rattle.satl_core.specs.Layer.{view}
use Rattle.satl_frame.specs.declared.frames.Frame.TheVariants as frames
use Rattle.satl_step.proofs.EventLemmas.{carried_bench, replies_end}
use Rattle.satl_step.proofs.TallyLemmas.{depth_covered, tallied, tied_same, view_same}
use Rattle.satl_step.proofs.events.serve_bench.Goals as goal

pub returns-clause-done : goal.returns-clause-done
returns-clause-done g c =
    let s = view c.args.satl.now (g.D.Drive.state c.args.drive.now) in
    let same = view_same c.bench.new.self c.tell_replies.new.satl (g.D.Drive.state c.bench.new.drive) c.tell_replies.ensures.stays in
    replies_end g.T.Teller.told g.T.Teller.behind (frames.Bench c.args.event.now) _ _ c.bench.new.replies c.tell_replies.result refl
    (carried_bench c.args.event.now _ _ c.bench.new.replies (subst (λ x. Around (Happens c.args.event.now) s c.bench.new.replies x) (sym same) c.bench.ensures.happens)
    (depth_covered c.args.satl.now c.bench.new.self c.tell_replies.new.satl (g.D.Drive.state c.args.drive.now) (g.D.Drive.state c.bench.new.drive) c.tell_replies.ensures.stays c.bench.ensures.deep (c.see_queue.ensures.deep (g.D.Drive.state c.bench.new.drive) c.bench.ensures.tied)))
    (tallied (frames.Bench c.args.event.now) c.args.satl.now c.bench.new.self c.tell_replies.new.satl (g.D.Drive.state c.args.drive.now) (g.D.Drive.state c.bench.new.drive) c.args.steps.now c.bench.new.steps c.tell_replies.ensures.stays c.bench.ensures.counted c.bench.ensures.unplugs c.bench.ensures.orders (omega (arith, c.bench.ensures.steps, c.bench.ensures.fewer)) (λ none. c.bench.ensures.steps) c.bench.ensures.deep)
    c.tell_replies.ensures.told c.tell_replies.ensures.some c.tell_replies.ensures.part

pub returns-clause-leaves : goal.returns-clause-leaves
returns-clause-leaves g c = record {
  tied = tied_same c.bench.new.self c.tell_replies.new.satl (g.D.Drive.state c.bench.new.drive) c.tell_replies.ensures.stays c.bench.ensures.tied;
  all_in = c.tell_replies.ensures.all_in;
  none = c.tell_replies.ensures.none;
  kept = c.tell_replies.ensures.kept;
  writable = c.tell_replies.ensures.writable;
}
