use Rattle.std.proofs.Common.{sym, ap, ◌∙◌, subst, true, [], ◌∷◌, ◌++◌}
use Rattle.std.specs.Prelude.{cond, not}
use Rattle.std.specs.BTreeSet.{contains}
use Rattle.std.specs.Ordering.{is_eq}
use Rattle.satl_frame.specs.declared.frames.Frame.{Frame}
use Rattle.satl_cover.specs.Covered.{AreNames, is_repeated, name_cmp}
use Rattle.satl_cover.proofs.NotingLemmas.{names_more}
use Rattle.satl_cover.proofs.noting.add_name.Goals as goal

pub returns-in_ok-insert-in-Request-clause-fresh : goal.returns-in_ok-insert-in-Request-clause-fresh
returns-in_ok-insert-in-Request-clause-fresh c = λ earlier are.
    c.in_ok-insert-in-Request.ensures.added
    ∙ ap (λ n. not (contains name_cmp c.args.names.now (n, c.in-Request.request.tag.0))) c.number.ensures.value
    ∙ ap not (are c.in-Request.request.nexus c.in-Request.request.tag.0)
    ∙ ap (λ (f : Frame). not (is_repeated earlier f)) (sym c.in-Request.is)

pub returns-in_ok-insert-in-Request-clause-names : goal.returns-in_ok-insert-in-Request-clause-names
returns-in_ok-insert-in-Request-clause-names c = λ earlier are.
    subst (λ (f : Frame). AreNames (earlier ++ f ∷ []) c.insert.new.self) (sym c.in-Request.is)
    (names_more earlier c.in-Request.request c.args.names.now c.insert.new.self are
    (λ q. c.in_ok-insert-in-Request.ensures.updates.0 q ∙ ap (λ n. cond (is_eq (name_cmp (n, c.in-Request.request.tag.0) q)) true (contains name_cmp c.args.names.now q)) c.number.ensures.value))
