use Rattle.std.proofs.Common.{arith}
use Rattle.satl_step.specs.Events.{scene_of}
use Rattle.satl_step.proofs.EventLemmas.{turns_cut, turns_more, turns_none}
use Rattle.satl_step.proofs.ServingLemmas.{ends_in_part, leaves_some}
use Rattle.satl_step.proofs.turns.serve_turns.Goals as goal

pub loop-init : goal.loop-init
loop-init g c = record {
  tied = c.requires.can.tied;
  all_in = c.requires.can.can;
  none = c.requires.can.none;
  turns = turns_none g.T.Teller.told g.T.Teller.behind (scene_of c.args.satl.now (g.D.Drive.state c.args.drive.now) c.args.steps.now c.args.teller.now (g.K.Sink.written c.args.sink.now));
  fewer = omega arith;
  later = omega arith;
}

pub serve_turn-requires : goal.serve_turn-requires
serve_turn-requires g c = record { can = record { tied = c.loop.invariant.tied; can = c.loop.invariant.all_in; none = c.loop.invariant.none } }

pub loop-preserved : goal.loop-preserved
loop-preserved g c = record {
  tied = c.in_ok-serve_turn.ensures.leaves.tied;
  all_in = c.in_ok-serve_turn.ensures.leaves.all_in;
  none = c.in_ok-serve_turn.ensures.leaves.none;
  turns = turns_more g.T.Teller.told g.T.Teller.behind c.loop.counter _ _ _ c.loop.invariant.turns c.in_ok-serve_turn.ensures.turns.whole;
  fewer = omega (arith, c.loop.invariant.fewer, c.in_ok-serve_turn.ensures.fewer);
  later = omega (arith, c.loop.invariant.later, c.in_ok-serve_turn.ensures.cause.later);
}

pub returns-in_err-serve_turn-clause-turns : goal.returns-in_err-serve_turn-clause-turns
returns-in_err-serve_turn-clause-turns g c = ends_in_part _ _ _ _ c.from_residual.result _ c.from_residual.ensures.1 (turns_cut g.T.Teller.told g.T.Teller.behind c.loop.counter c.args.count _ _ _ (omega (arith, c.loop-test.true)) c.loop.invariant.turns c.in_err-serve_turn.ensures.turns.part)

pub returns-in_err-serve_turn-clause-leaves : goal.returns-in_err-serve_turn-clause-leaves
returns-in_err-serve_turn-clause-leaves g c = leaves_some _ _ _ c.from_residual.result _ c.from_residual.ensures.1 c.serve_turn.ensures.leaves.tied c.in_err-serve_turn.ensures.leaves.kept c.in_err-serve_turn.ensures.leaves.writable
