-- The mode parameter block descriptors (SBC-3, mode parameter block descriptors).
use Rattle.std.specs.Prelude.{ℕ, ◌+◌, ◌-◌, Bool, true, false, List, [], ◌∷◌, map}
use Rattle.satl_base.specs.Places.{Line, number, laid, shown_in_4_bytes}
use Rattle.satl_mode.specs.declared.descriptor.Descriptor.{Descriptor}
use Rattle.satl_mode.specs.declared.descriptor.Descriptor.TheVariants.{Absent, Short, Long}

-- the length in bytes
abbrev pub descriptor_size : Descriptor → ℕ
descriptor_size Absent = 0
descriptor_size Short = 8
descriptor_size Long = 16

-- a field: the place of its first byte, its width in bytes, and its value
pub record BlockField : Type 0 where
  pub place : ℕ
  pub width : ℕ
  pub value : ℕ

-- a number of blocks in 4 bytes
abbrev pub short_capacity : ℕ → ℕ
short_capacity capacity = shown_in_4_bytes capacity

-- NUMBER OF LOGICAL BLOCKS and LOGICAL BLOCK LENGTH
abbrev pub block_fields : Descriptor → ℕ → List BlockField
block_fields Absent capacity = []
block_fields Short capacity =
    record { place = 0; width = 4; value = short_capacity capacity } ∷ record { place = 5; width = 3; value = 512 } ∷ []
block_fields Long capacity =
    record { place = 0; width = 8; value = capacity } ∷ record { place = 12; width = 4; value = 512 } ∷ []

abbrev pub field_line : BlockField → Line
field_line f = number f.place (f.place + f.width - 1) f.value

-- the bytes of a descriptor
abbrev pub descriptor_bytes : Descriptor → ℕ → List ℕ
descriptor_bytes d capacity = laid (descriptor_size d) (map field_line (block_fields d capacity))

-- the descriptor that MODE SENSE shows: none where DBD is 1, the long one with LLBAA in the form of 10 bytes, else the short
-- one
abbrev pub descriptor_shown : Bool → Bool → Bool → Descriptor
descriptor_shown ten long_lba true = Absent
descriptor_shown true true false = Long
descriptor_shown true false false = Short
descriptor_shown false long_lba false = Short
