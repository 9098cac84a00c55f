use Rattle.std.proofs.Common.{ap, arith, length, ◌∙◌}
use Rattle.std.proofs.lemmas.List.{with_items_is}
use Rattle.satl_disk.proofs.MarksLemmas.{first_round, next_round}
use Rattle.satl_disk.proofs.marks.Marks.unmark_all.Goals as goal

pub returns-in-Some : goal.returns-in-Some
returns-in-Some c =
    let i = c.self.inside in
    next_round i.round i.rounds.items c.args.self.now c.self.view_is c.in-Some.next (omega (arith, c.in-Some.ensures.1)) c.self.invariant.1

pub returns-in-None : goal.returns-in-None
returns-in-None c =
    let i = c.self.inside in
    let all = ap length c.deref_mut.ensures.value in
    first_round i.round i.rounds.items c.args.self.now c.self.view_is _ _ all
    (with_items_is i.rounds c.fill.new.self (omega (arith, c.fill.ensures.len, all, i.rounds.ok.0)) ∙ c.fill.ensures.after (λ y same. same))
