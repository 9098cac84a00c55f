-- What reading an input to its END shows.
use Rattle.std.specs.Prelude.{◌≡◌, ◌≢◌, ◌⊎◌, ℕ, Bool, List, [], ◌∷◌, ◌++◌, Option, Some, None, Result, Ok, Err}
use Rattle.std.specs.BTreeSet.{BTreeSet}
use Rattle.satl_base.specs.Limits.{input_limit}
use Rattle.satl_frame.specs.declared.frames.Frame.{Frame}
use Rattle.satl_frame.specs.declared.frames.Frame.TheVariants as frames
use Rattle.satl_frame.specs.declared.frames.Version.{Version}
use Rattle.satl_frame.specs.declared.frames.Version.TheVariants.{One, Two}
use Rattle.satl_frame.specs.Inputs.{Reads}
use Rattle.satl_cover.specs.declared.fault.AuditFault.{AuditFault}
use Rattle.satl_cover.specs.declared.fault.AuditFault.TheVariants as faults
use Rattle.satl_cover.specs.Covered.{AreCovered, FirstUncovered, IsBadInput, IsWholeInput, Knows}

-- frames up to END were read from an input, and this is left of it (profile)
pub record ReadWhole (trim : Bool) (input left : List ℕ) (names : BTreeSet (ℕ × ℕ)) (uncovered : Option ℕ) : Type 0 where
  pub version : Version
  pub before : List Frame
  pub reads : Reads input_limit input version (before ++ frames.End ∷ []) left
  pub knows : Knows trim (before ++ frames.End ∷ []) names uncovered

-- an input is refused; of want of memory nothing is said (profile)
abbrev pub Refuses : List ℕ → AuditFault → Type 0
Refuses input (faults.BadInput reason offset) = IsBadInput input reason offset
Refuses input faults.NoMemory = Unit {0}

-- where the first frame of an input stands that is not covered: none is in an input of version 2 (profile)
abbrev pub IsNotCovered : Bool → List ℕ → ℕ → Type 0
IsNotCovered trim input offset =
    ((all : List Frame) × IsWholeInput input Two all × (offset ≡ 0))
    ⊎ ((all : List Frame) × IsWholeInput input One all × FirstUncovered trim all offset)

-- an input of version 1 all of whose frames are covered; or where the first stands that is not; or why it is refused (profile)
abbrev pub Covers : Bool → List ℕ → Result (Option ℕ) AuditFault → Type 0
Covers trim input (Ok None) = (all : List Frame) × IsWholeInput input One all × AreCovered trim [] all
Covers trim input (Ok (Some offset)) = IsNotCovered trim input offset
Covers trim input (Err fault) = Refuses input fault

-- two answers that hold of one input, neither of which is want of memory, are the same (profile)
abbrev pub OneAnswer : Type 0
OneAnswer = (trim : Bool) (input : List ℕ) (a b : Result (Option ℕ) AuditFault) → Covers trim input a →
    Covers trim input b → a ≢ Err faults.NoMemory → b ≢ Err faults.NoMemory → a ≡ b
