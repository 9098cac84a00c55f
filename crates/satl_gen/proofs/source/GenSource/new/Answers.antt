use Rattle.satl_gen.proofs.Steps.{all_ahead}
use Rattle.satl_gen.proofs.source.GenSource.new.Goals as goal

pub returns : goal.returns
returns c = all_ahead c.piece_of.result.items c.args.seed c.args.requests c.seeded.result c.piece_of.ensures c.seeded.ensures
