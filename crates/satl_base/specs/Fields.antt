-- Fields of bytes, as the standards' tables name them (profile).
use Rattle.std.specs.Prelude.{ℕ, ◌+◌, ◌-◌, ◌/◌, ◌%◌, ◌^◌, ◌<◌, Bool, ◌==◌, List, slice_index, if◌then◌else◌}
use Rattle.std.specs.Int.{bit_at}
use Rattle.byteorder.specs.Endian.{big_from}

-- a number read from bytes, and a test of bytes (profile)
abbrev pub Field : Type 0
Field = List ℕ → ℕ

abbrev pub Flag : Type 0
Flag = List ℕ → Bool

-- the number in the bytes first to last, the highest byte first (profile)
abbrev pub bytes : ℕ → ℕ → Field
bytes first last b = big_from first (last + 1 - first) b

-- bits high to low of a number (profile)
abbrev pub bits_of : ℕ → ℕ → ℕ → ℕ
bits_of high low n = n / 2 ^ low % 2 ^ (high + 1 - low)

-- whether one bit of a number is 1 (profile)
abbrev pub bit_of : ℕ → ℕ → Bool
bit_of low n = bit_at n low == 1

-- bits high to low of a byte (profile)
abbrev pub bits : ℕ → ℕ → ℕ → Field
bits place high low b = bits_of high low (slice_index b place)

-- one bit of a byte (profile)
abbrev pub bit : ℕ → ℕ → Flag
bit place low b = bit_of low (slice_index b place)

-- a number of which 0 means the most (profile)
abbrev pub or_if_zero : ℕ → ℕ → ℕ
or_if_zero most n = if n == 0 then most else n

-- each of these is a byte (profile)
abbrev pub IsBytes : List ℕ → Type 0
IsBytes b = (i : ℕ) → slice_index b i < 256
