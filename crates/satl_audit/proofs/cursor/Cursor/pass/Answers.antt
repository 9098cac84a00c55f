use Rattle.std.proofs.Common.{sym, ap, ◌∙◌, ℕ, List, ◌++◌, drop, length, take}
use Rattle.std.specs.Cmp.Lexicographic.{other_text, same_text}
use Rattle.std.proofs.lemmas.List.{take-append-drop}
use Rattle.std.proofs.Math.Seq.{take-append_seam}
use Rattle.satl_audit.proofs.cursor.Cursor.pass.Goals as goal

pub returns-in-Some-clause-passed : goal.returns-in-Some-clause-passed
returns-in-Some-clause-passed c = λ _.
    let whole = c.self.inside.rest.now in
    let bytes = c.args.bytes.now in
    sym c.self.view_is
    ∙ sym (take-append-drop (length bytes) whole)
    ∙ ap (λ (l : List ℕ). l ++ drop (length bytes) whole) (same_text (take (length bytes) whole) bytes (sym c.in-Some.ensures.cases.0))
    ∙ ap (λ (l : List ℕ). bytes ++ l) (sym c.in-Some.ensures.cases.1)

pub returns-in-None-clause-other : goal.returns-in-None-clause-other
returns-in-None-clause-other c = λ _ rest is.
    let bytes = c.args.bytes.now in
    other_text (take (length bytes) c.self.inside.rest.now) bytes (sym c.in-None.ensures.cases) (ap (λ (l : List ℕ). take (length bytes) l) (c.self.view_is ∙ is) ∙ take-append_seam bytes rest)
