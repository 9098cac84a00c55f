use Rattle.std.proofs.Common.{ap, ◌∙◌, List, drop, length}
use Rattle.std.specs.Prelude.{slice_set}
use Rattle.satl_base.proofs.OutcomeLemmas.{on_both}
use Rattle.satl_audit.specs.Kept.{Keeping, kept_put}
use Rattle.satl_audit.specs.Sweeps.{caught_up}
use Rattle.satl_audit.specs.declared.sectors.Sweep.{Sweep}
use Rattle.satl_audit.proofs.SweptSectors.{kept_there, set_kept}
use Rattle.satl_audit.proofs.sectors.Sectors.put.Goals as goal

pub returns-clause-put : goal.returns-clause-put
returns-clause-put c =
    let old = c.self.inside in
    let t = c.index_mut.result.now in
    let there = ap (λ (ss : List Sweep). caught_up (drop t.seen ss) t.kept) c.deref.ensures.value ∙ kept_there old.sweeps.items old.stamped.items c.args.self.now c.args.lba t c.self.view_is c.requires c.index_mut.ensures.value in
    on_both c.put.result _ _ _
    (λ kept seen. set_kept old.sweeps.items old.stamped.items c.args.self.now c.args.lba c.put.new.self c.self.view_is (seen ∙ ap (λ (ss : List Sweep). length ss) c.deref.ensures.value)
    ∙ ap (λ (k : Keeping). slice_set c.args.self.now c.args.lba k) (kept ∙ ap (λ (k : Keeping). kept_put c.args.content c.args.cached k) there))
    c.put.ensures.kept c.put.ensures.seen
