use Rattle.std.proofs.Common.{ap, subst}
use Rattle.satl_asks.specs.Commands.{HasList}
use Rattle.satl_core.specs.Submitting.{trims}
use Rattle.satl_core.proofs.UnmapLemmas.{list_trims}
use Rattle.satl_core.proofs.submitting.own_pages.Goals as goal

pub entry_page-requires-clause-trimmed : goal.entry_page-requires-clause-trimmed
entry_page-requires-clause-trimmed c =
    let identity = c.args.identity.now in
    let has = c.requires.trim (ap trims c.in-Unmap.is) in
    let list = subst (λ it. HasList it c.args.body identity.capacity) c.in-Unmap.is c.requires.list in
    (list_trims identity c.args.body c.in-Unmap.length c.requires.identity has list).list
