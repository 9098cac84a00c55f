use Rattle.std.proofs.Common.{◌∙◌, sym}
use Rattle.satl_cover.proofs.NotingLemmas.{all_so_far, now_first, none_is, still_all, still_first}
use Rattle.satl_cover.proofs.noting.Noted.note.Goals as goal

pub returns-then-is_some-clause-knows : goal.returns-then-is_some-clause-knows
returns-then-is_some-clause-knows c = λ earlier whole cut place h. still_first _ earlier whole _ _ (sym c.is_some.ensures ∙ c.if-is_some.true) h

pub returns-then-not-branch-clause-knows : goal.returns-then-not-branch-clause-knows
returns-then-not-branch-clause-knows c =
    λ earlier whole cut place h.
    let all = all_so_far _ earlier _ _ (sym c.is_some.ensures ∙ c.if-is_some.false) h in
    now_first _ earlier whole _ _ _ cut place all (sym (c.in_ok-add_covered.ensures.covered earlier all.1) ∙ c.if-not-branch.true)

pub returns-else-not-branch-clause-knows : goal.returns-else-not-branch-clause-knows
returns-else-not-branch-clause-knows c =
    λ earlier whole cut place h.
    let all = all_so_far _ earlier _ _ (sym c.is_some.ensures ∙ c.if-is_some.false) h in
    let covered = sym (c.in_ok-add_covered.ensures.covered earlier all.1) ∙ c.if-not-branch.false in
    none_is _ _ _ _ (sym c.is_some.ensures ∙ c.if-is_some.false) (still_all _ earlier whole _ _ _ cut all covered (c.in_ok-add_covered.ensures.names earlier all.1 covered))
