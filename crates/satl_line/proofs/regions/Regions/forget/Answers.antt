use Rattle.satl_line.proofs.RegionsLemmas.{forgotten_others}
use Rattle.satl_line.proofs.regions.Regions.forget.Goals as goal

pub returns-clause-others : goal.returns-clause-others
returns-clause-others c =
    forgotten_others c.args.self.now c.args.slot c.first.result c.last.result c.unmark.new.near c.unmark-2.new.near c.requires.small c.requires.room c.unmark.ensures c.unmark-2.ensures
