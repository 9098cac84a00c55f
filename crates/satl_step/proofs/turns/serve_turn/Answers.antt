use Rattle.std.proofs.Common.{arith, subst, sym, ◌∙◌}
use Rattle.satl_frame.specs.declared.frames.Frame.TheVariants as frames
use Rattle.satl_direct.specs.Quiet.{Around}
use Rattle.satl_direct.specs.Turn.{Turn}
use Rattle.satl_core.specs.Layer.{view}
use Rattle.satl_step.proofs.EventLemmas.{turn_end}
use Rattle.satl_step.proofs.TallyLemmas.{depth_covered, tallied, tied_same, view_same}
use Rattle.satl_step.proofs.turns.serve_turn.Goals as goal

pub returns-clause-turns : goal.returns-clause-turns
returns-clause-turns g c =
    let same = view_same c.turn.new.self c.tell_replies.new.satl (g.D.Drive.state c.turn.new.drive) c.tell_replies.ensures.stays in
    turn_end g.T.Teller.told g.T.Teller.behind _ _ c.turn.new.replies c.tell_replies.result
    (subst (λ s. Around Turn (view c.args.satl.now (g.D.Drive.state c.args.drive.now)) c.turn.new.replies s) (sym same) c.turn.ensures.turns)
    (depth_covered c.args.satl.now c.turn.new.self c.tell_replies.new.satl (g.D.Drive.state c.args.drive.now) (g.D.Drive.state c.turn.new.drive) c.tell_replies.ensures.stays c.turn.ensures.kept.deep (c.see_queue.ensures.deep (g.D.Drive.state c.turn.new.drive) c.turn.ensures.tied))
    (tallied (frames.Turn 1) c.args.satl.now c.turn.new.self c.tell_replies.new.satl (g.D.Drive.state c.args.drive.now) (g.D.Drive.state c.turn.new.drive) c.args.steps.now c.turn.new.steps c.tell_replies.ensures.stays c.turn.ensures.kept.losses c.turn.ensures.kept.unplugs c.turn.ensures.kept.orders (omega (arith, c.turn.ensures.calls)) (λ lost. c.turn.ensures.uncalled (c.requires.can.tied.agrees.mark ∙ lost)) c.turn.ensures.kept.deep)
    c.tell_replies.ensures.told c.tell_replies.ensures.some c.tell_replies.ensures.part

pub returns-clause-leaves : goal.returns-clause-leaves
returns-clause-leaves g c = record {
  tied = tied_same c.turn.new.self c.tell_replies.new.satl (g.D.Drive.state c.turn.new.drive) c.tell_replies.ensures.stays c.turn.ensures.tied;
  all_in = c.tell_replies.ensures.all_in;
  none = c.tell_replies.ensures.none;
  kept = c.tell_replies.ensures.kept;
  writable = c.tell_replies.ensures.writable;
}
