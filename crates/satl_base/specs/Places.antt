-- Bytes as a table of place and value.
use Rattle.std.specs.Prelude.{ℕ, ◌+◌, ◌-◌, nat_lt, List, [], ◌∷◌, map, length, get_or, if◌then◌else◌}
use Rattle.std.specs.Int.{bytes_high_first}
use Rattle.std.specs.List.{find, range_with_len}
use Rattle.std.specs.Option.{option_map_or}
use Rattle.satl_base.specs.Blocks.{lies_in}

-- a line of a table: its first place, and the bytes from there on (profile)
pub record Line : Type 0 where
  pub first : ℕ
  pub bytes : List ℕ

-- one byte (profile)
abbrev pub byte : ℕ → ℕ → Line
byte place value = record { first = place; bytes = value ∷ [] }

-- a number in the places first to last, the highest byte first (profile)
abbrev pub number : ℕ → ℕ → ℕ → Line
number first last value = record { first = first; bytes = bytes_high_first (last + 1 - first) value }

-- a number as 4 bytes show it: FFFFFFFFh where it is larger (SBC-3, READ CAPACITY (10) command and mode parameter block
-- descriptors)
abbrev pub shown_in_4_bytes : ℕ → ℕ
shown_in_4_bytes n = if nat_lt 0xFFFFFFFF n then 0xFFFFFFFF else n

-- some bytes from a place on (profile)
abbrev pub text : ℕ → List ℕ → Line
text first value = record { first = first; bytes = value }

-- the byte at a place: that of the first line that has the place, and 0 where none has (profile)
abbrev pub at_place : List Line → ℕ → ℕ
at_place lines i =
    option_map_or (λ l. get_or l.bytes (i - l.first) 0) (find (λ l. lies_in l.first (length l.bytes) i) lines) 0

-- the values of n places from the i-th on (profile)
abbrev pub places : ℕ → ℕ → (ℕ → ℕ) → List ℕ
places i n f = map f (range_with_len i n)

-- n bytes by a table (profile)
abbrev pub laid : ℕ → List Line → List ℕ
laid n lines = places 0 n (at_place lines)
