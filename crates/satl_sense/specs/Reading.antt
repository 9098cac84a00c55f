-- Texts read as sense data in the descriptor form (SPC-4 4.5.2).
use Rattle.std.specs.Prelude.{◌≡◌, ℕ, ◌+◌, List, take}
use Rattle.satl_sense.specs.declared.sense.Sense.{Sense}
use Rattle.satl_sense.specs.Descriptor.{descriptor_form, FitsForm}

-- a text is the descriptor form of sense data whose numbers fit it
abbrev pub IsDescriptorForm : List ℕ → Sense → Type 0
IsDescriptorForm text s = FitsForm s × (text ≡ descriptor_form s)

-- the first n bytes of a text are the first n of such a form; a text or a form of fewer bytes is taken whole
abbrev pub Begins : ℕ → List ℕ → Sense → Type 0
Begins n text s = FitsForm s × (take n text ≡ take n (descriptor_form s))

-- the first byte at fault: the bytes before it begin some sense data, and with it they begin none. It is the length
-- where the text ends early, and the first byte past the end where the text goes on
pub record IsFirstFault (text : List ℕ) (place : ℕ) : Type 0 where
  pub begins : (s : Sense) × Begins place text s
  pub breaks : (s : Sense) → ¬ Begins (place + 1) text s
