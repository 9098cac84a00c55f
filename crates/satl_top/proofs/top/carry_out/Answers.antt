use Rattle.satl_serve.specs.Moments.{SourceState, source_state}
use Rattle.satl_top.proofs.top.carry_out.Goals as goal

pub returns-in-Generate : goal.returns-in-Generate
returns-in-Generate g c =
    let source : SourceState = source_state (g.S.Source.left c.args.source.now) (g.S.Source.waited c.args.source.now) (g.S.Source.faults c.args.source.now) in
    rw c.in-Generate.is (c.load.ensures source)
