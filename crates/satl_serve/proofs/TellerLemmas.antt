-- A teller that tells in a form.
use Rattle.std.proofs.Common.{◌≡◌, refl, sym, ap, ◌∙◌, ℕ, List, [], ◌∷◌, ◌++◌}
use Rattle.satl_frame.specs.Output.{Answer}
use Rattle.satl_step.specs.Telling.{all_behind, all_told}
use Rattle.satl_step.proofs.TellingLemmas.{all_behind-append}
use Rattle.satl_serve.specs.Forms.{answers_told}
use Rattle.satl_serve.specs.Tellers.{TellsIn}
use Rattle.satl_serve.specs.declared.telling.Form.{Form}

module _ {T : Type 0} (by : T → Answer → List ℕ) (behind : T → Answer → T) (form : Form) where
  -- it tells so behind answers that it told
  pub tells_on : (t : T) (answers : List Answer) → TellsIn by behind form t → TellsIn by behind form (all_behind behind t answers)
  tells_on t answers tells earlier answer = ap (λ x. by x answer) (sym (all_behind-append by behind t answers earlier)) ∙ tells (answers ++ earlier) answer

  -- and tells them all in the form
  pub all_told_in : (t : T) (answers : List Answer) → TellsIn by behind form t → all_told by behind t answers ≡ answers_told form answers
  all_told_in t [] tells = refl
  all_told_in t (x ∷ answers) tells =
      ap (λ l. by t x ++ l) (all_told_in (behind t x) answers (λ earlier answer. tells (x ∷ earlier) answer)) ∙ ap (λ l. l ++ answers_told form answers) (tells [] x)
