-- Texts in IDENTIFY DEVICE data (ACS-3 7.12.7): in each word the first character is the high byte.
use Rattle.std.specs.Prelude.{ℕ, zero, suc, ◌+◌, ◌-◌, ◌*◌, ◌==◌, Bool, List, [], ◌∷◌, slice_index}
use Rattle.std.specs.List.{list_all}

-- so many words from the first on, the high byte of each before the low one
abbrev pub high_bytes_first : ℕ → ℕ → List ℕ → List ℕ
high_bytes_first zero first d = []
high_bytes_first (suc n) first d = slice_index d (2 * first + 1) ∷ slice_index d (2 * first) ∷ high_bytes_first n (first + 1) d

-- the text in the words first to last
abbrev pub characters : ℕ → ℕ → List ℕ → List ℕ
characters first last d = high_bytes_first (last + 1 - first) first d

-- spaces alone
abbrev pub is_blank : List ℕ → Bool
is_blank some = list_all (λ c. c == 0x20) some

-- "ATA     "
abbrev pub ata_vendor : List ℕ
ata_vendor = 0x41 ∷ 0x54 ∷ 0x41 ∷ 0x20 ∷ 0x20 ∷ 0x20 ∷ 0x20 ∷ 0x20 ∷ []
