use Rattle.std.proofs.Common.{arith, ◌≡◌, sym, ap, ◌∙◌, ℕ, ◌+◌, ◌<◌, length}
use Rattle.std.specs.Prelude.{Option, Some, None}
use Rattle.std.proofs.lemmas.Bool.{both_ways}
use Rattle.satl_line.specs.Eligible.{eligible_at}
use Rattle.satl_base.specs.declared.request.Tag.{Tag}
use Rattle.satl_audit.specs.Waiting.{entries_in, has_name}
use Rattle.satl_audit.proofs.FoundLemmas.{found_by, search_ends}
use Rattle.satl_audit.proofs.NextLemmas.{found_within}
use Rattle.satl_audit.proofs.finishing.next_task.Goals as goal

no_place : {place : ℕ} (o : Option ℕ) → o ≡ None → o ≡ Some place → ⊥
no_place o e f = cc

one_place : {place other : ℕ} (o : Option ℕ) → o ≡ Some place → o ≡ Some other → place ≡ other
one_place o e f = cc

pub returns-in_err-nexus-clause-only : goal.returns-in_err-nexus-clause-only
returns-in_err-nexus-clause-only c = λ identity input reply deed new left tasks done said.
    let s = search_ends identity input c.args.followed.now reply deed new left tasks done said c.next_name.result c.next_name.ensures in
    let clash = sym c.in_err-nexus.was ∙ s.named in
    absurd cc

pub returns-in_err-place-clause-only : goal.returns-in_err-place-clause-only
returns-in_err-place-clause-only c = λ identity input reply deed new left tasks done said.
    let followed = c.args.followed.now in
    let name : ℕ × Tag = record { 0 = c.in_ok-nexus.nexus; 1 = c.in_ok-nexus.tag } in
    let s = search_ends identity input followed reply deed new left tasks done said (Some name) c.in_ok-nexus.ensures in
    absurd (no_place c.find.result c.in_err-place.was (c.find.ensures ∙ found_by identity input followed reply deed new left tasks done said c.in_ok-nexus.nexus c.in_ok-nexus.tag s))

pub eligible-requires : goal.eligible-requires
eligible-requires c =
    let less : c.in_ok-place.place < 0 + length c.args.followed.now.waiting = found_within (has_name c.in_ok-nexus.nexus c.in_ok-nexus.tag.0) 0 c.args.followed.now.waiting c.in_ok-place.place (sym c.find.ensures ∙ c.in_ok-place.was) in
    omega (arith, less)

pub returns-then-not-eligible-clause-only : goal.returns-then-not-eligible-clause-only
returns-then-not-eligible-clause-only c = λ identity input reply deed new left tasks done said.
    let followed = c.args.followed.now in
    let name : ℕ × Tag = record { 0 = c.in_ok-nexus.nexus; 1 = c.in_ok-nexus.tag } in
    let s = search_ends identity input followed reply deed new left tasks done said (Some name) c.in_ok-nexus.ensures in
    let same = one_place c.find.result c.in_ok-place.was (c.find.ensures ∙ found_by identity input followed reply deed new left tasks done said c.in_ok-nexus.nexus c.in_ok-nexus.tag s) in
    absurd (both_ways _ (sym c.eligible.ensures ∙ c.if-not-eligible.true) (ap (λ n. eligible_at (entries_in followed.waiting) n) same ∙ s.eligible))

pub returns-clause-within : goal.returns-clause-within
returns-clause-within c =
    let less : c.in_ok-place.place < 0 + length c.args.followed.now.waiting = found_within (has_name c.in_ok-nexus.nexus c.in_ok-nexus.tag.0) 0 c.args.followed.now.waiting c.in_ok-place.place (sym c.find.ensures ∙ c.in_ok-place.was) in
    omega (arith, less)

pub returns-clause-only : goal.returns-clause-only
returns-clause-only c = λ identity input reply deed new left tasks done said.
    let followed = c.args.followed.now in
    let name : ℕ × Tag = record { 0 = c.in_ok-nexus.nexus; 1 = c.in_ok-nexus.tag } in
    let s = search_ends identity input followed reply deed new left tasks done said (Some name) c.in_ok-nexus.ensures in
    let same = one_place c.find.result c.in_ok-place.was (c.find.ensures ∙ found_by identity input followed reply deed new left tasks done said c.in_ok-nexus.nexus c.in_ok-nexus.tag s) in
    (s.place, ap (λ n. Some n) same, s.at)
