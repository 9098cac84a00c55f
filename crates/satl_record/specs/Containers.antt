-- The bytes of a record (profile).
use Rattle.std.specs.Prelude.{◌≡◌, ◌≤◌, ℕ, List, [], ◌∷◌, ◌++◌, length, IfSome}
use Rattle.std.specs.declared.option.Option.{Option}
use Rattle.std.specs.Io.KnownBytes.{IsAtEnd}
use Rattle.byteorder.specs.Endian.{big_bytes}
use Rattle.satl_io.specs.Known.{Took}

-- "SATLAUD1"
abbrev pub record_magic : List ℕ
record_magic = 0x53 ∷ 0x41 ∷ 0x54 ∷ 0x4C ∷ 0x41 ∷ 0x55 ∷ 0x44 ∷ 0x31 ∷ []

-- magic, the length of the input in eight bytes, of which the highest stands first, the input, and the output up to the end
abbrev pub record_bytes : List ℕ → List ℕ → List ℕ
record_bytes input output = record_magic ++ (big_bytes 8 (length input) ++ (input ++ output))

-- neither part has more than 67,108,864 bytes
abbrev pub longest_part : ℕ
longest_part = 67108864

pub record AreShort (input output : List ℕ) : Type 0 where
  pub input_is : length input ≤ longest_part
  pub output_is : length output ≤ longest_part

-- a record was read, and its source to the end
pub record TookRecord (left left' : Option (List ℕ)) (input output : List ℕ) : Type 0 where
  pub took : Took left left' (record_bytes input output)
  pub ends : IsAtEnd left'
  pub short : AreShort input output

-- these bytes are those of no record
abbrev pub IsNoRecord : Option (List ℕ) → Type 0
IsNoRecord left = IfSome left (λ bytes. (input output : List ℕ) → AreShort input output → bytes ≡ record_bytes input output → ⊥)

-- bytes were taken from the front, and those left are the rest
pub record IsRest (left left' : Option (List ℕ)) : Type 0 where
  pub taken : List ℕ
  pub took : Took left left' taken
