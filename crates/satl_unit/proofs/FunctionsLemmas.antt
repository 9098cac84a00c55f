-- Functions and their codes.
use Rattle.std.proofs.Common.{◌≡◌, ℕ, true, false, cond, List, [], ◌∷◌, Some, refl, ap, sym, ◌∙◌, eqb}
use Rattle.std.specs.Option.{option_map}
use Rattle.std.specs.List.{find, AllByRecursion}
use Rattle.std.proofs.lemmas.Bool.{eqb-true}
use Rattle.satl_unit.specs.declared.function.Function.{Function}
use Rattle.satl_unit.specs.declared.function.Function.TheVariants.{AbortTask, AbortTaskSet, ClearTaskSet, UnitReset, NexusReset, QueryTask, QueryTaskSet}
use Rattle.satl_unit.specs.Functions.{FunctionRow, function_of, function_table}

-- the code that a line of the table has for a function
abbrev pub code_in : Function → ℕ
code_in AbortTask = 0x01
code_in AbortTaskSet = 0x02
code_in ClearTaskSet = 0x04
code_in UnitReset = 0x08
code_in NexusReset = 0x10
code_in QueryTask = 0x80
code_in QueryTaskSet = 0x81

abbrev found : List FunctionRow → ℕ → Function → Type 0
found lines code function = option_map (λ (l : FunctionRow). l.function) (find (λ (l : FunctionRow). eqb l.code code) lines) ≡ Some function

found_code : (lines : List FunctionRow) (code : ℕ) (function : Function) → AllByRecursion (λ (l : FunctionRow). code_in l.function ≡ l.code) lines → found lines code function → code ≡ code_in function
found_code [] code function all h = absurd cc
found_code (l ∷ lines) code function all h =
    (elim (eqb l.code code) as (λ b. eqb l.code code ≡ b → option_map (λ (k : FunctionRow). k.function) (cond b (Some l) (find (λ (k : FunctionRow). eqb k.code code) lines)) ≡ Some function → code ≡ code_in function) [
      | true ↦ λ is f. let same : l.function ≡ function = cc in sym (eqb-true l.code code is) ∙ sym all.0 ∙ ap code_in same
      | false ↦ λ is f. found_code lines code function all.1 f
    ]) refl h

-- the code by which a function is found
pub code_of : (code : ℕ) (function : Function) → function_of code ≡ Some function → code ≡ code_in function
unfolding function_of
code_of code function h = found_code function_table code function (refl, (refl, (refl, (refl, (refl, (refl, (refl, tt))))))) h

pub codes_differ : (a b : ℕ) (function : Function) → function_of a ≡ Some function → function_of b ≡ Some function → a ≡ b
codes_differ a b function h k = code_of a function h ∙ sym (code_of b function k)
