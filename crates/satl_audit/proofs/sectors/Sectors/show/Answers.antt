use Rattle.std.proofs.Common.{ap, ◌∙◌, List, drop, length}
use Rattle.satl_audit.specs.Sweeps.{caught_up}
use Rattle.satl_audit.specs.declared.stamped.Sweep.{Sweep}
use Rattle.satl_audit.proofs.SweptSectors.{if_both, kept_there, set_kept, shows_there}
use Rattle.satl_audit.proofs.sectors.Sectors.show.Goals as goal

pub returns-clause-shows : goal.returns-clause-shows
returns-clause-shows c =
    let old = c.self.inside in
    let t = c.index_mut.result.now in
    let there = ap (λ (ss : List Sweep). caught_up (drop t.seen ss) t.kept) c.deref.ensures.value ∙ kept_there old.sweeps.items old.stamped.items c.args.self.now c.args.lba t c.self.view_is c.requires.within c.index_mut.ensures.value in
    if_both c.show.result _ _ _ c.show.ensures.shows c.show.ensures.seen
    (λ b shows seen. shows_there c.args.input.now c.args.given.now c.args.lba c.args.self.now _ _ c.show.new.self.kept there
    (set_kept old.sweeps.items old.stamped.items c.args.self.now c.args.lba c.show.new.self c.self.view_is (seen ∙ ap (λ (ss : List Sweep). length ss) c.deref.ensures.value)) b shows)
