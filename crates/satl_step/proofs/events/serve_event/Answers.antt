use Rattle.satl_frame.specs.declared.frames.Frame.TheVariants as frames
use Rattle.satl_step.proofs.EventLemmas.{ends_is, turns_end}
use Rattle.satl_step.proofs.events.serve_event.Goals as goal

pub returns-in-Turn-clause-done : goal.returns-in-Turn-clause-done
returns-in-Turn-clause-done g c = ends_is g.T.Teller.told g.T.Teller.behind c.args.event (frames.Turn c.in-Turn.count) _ _ c.serve_turns.result c.in-Turn.is (turns_end g.T.Teller.told g.T.Teller.behind c.in-Turn.count _ _ c.serve_turns.result c.serve_turns.ensures.turns c.serve_turns.ensures.deep)
