-- Task management functions (SAM-5 7) by their codes (profile).
use Rattle.std.specs.Prelude.{ℕ, ◌==◌, List, [], ◌∷◌, map, Option}
use Rattle.std.specs.Option.{option_map}
use Rattle.std.specs.List.{find}
use Rattle.satl_unit.specs.declared.function.Function.{Function}
use Rattle.satl_unit.specs.declared.function.Function.TheVariants.{AbortTask, AbortTaskSet, ClearTaskSet, UnitReset, NexusReset, QueryTask, QueryTaskSet}

-- a code, and the function that it stands for
pub record FunctionRow : Type 0 where
  pub code : ℕ
  pub function : Function

abbrev function_row : ℕ → Function → FunctionRow
function_row code function = record { code = code; function = function }

-- the code of I_T NEXUS RESET (profile)
abbrev pub nexus_reset_code : ℕ
nexus_reset_code = 0x10

-- the functions that are listed (profile)
abbrev pub function_table : List FunctionRow
function_table =
    function_row 0x01 AbortTask ∷ function_row 0x02 AbortTaskSet ∷ function_row 0x04 ClearTaskSet
    ∷ function_row 0x08 UnitReset ∷ function_row nexus_reset_code NexusReset ∷ function_row 0x80 QueryTask
    ∷ function_row 0x81 QueryTaskSet ∷ []

-- the codes that are listed
abbrev pub function_codes : List ℕ
function_codes = map (λ (l : FunctionRow). l.code) function_table

-- the function of a code
unfoldable pub function_of : ℕ → Option Function
function_of code = option_map (λ (l : FunctionRow). l.function) (find (λ (l : FunctionRow). l.code == code) function_table)
