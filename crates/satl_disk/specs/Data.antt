-- The IDENTIFY DEVICE data of the modelled drive (ACS-3 7.12.7; the values: profile).
use Rattle.std.specs.Prelude.{ℕ, ◌+◌, ◌-◌, ◌*◌, ◌/◌, ◌%◌, ◌^◌, ◌==◌, Bool, if◌then◌else◌, List, [], ◌∷◌, replicate, slice_index, slice_set}
use Rattle.std.specs.List.{fold}
use Rattle.satl_base.specs.Identify.{word_bits}
use Rattle.satl_identify.specs.Data.{settings_byte, with_integrity, with_settings}

-- the place of a word, and its value
abbrev pub Word : Type 0
Word = ℕ × ℕ

-- a word is two bytes of the data, the low one first
abbrev pub set_word : Word → List ℕ → List ℕ
set_word w d = slice_set (slice_set d (2 * w.0) (w.1 % 2 ^ 8)) (2 * w.0 + 1) (w.1 / 2 ^ 8)

-- the data with these words, one after another
abbrev pub set_words : List Word → List ℕ → List ℕ
set_words ws d = fold (λ bytes w. set_word w bytes) d ws

abbrev pub word_is : ℕ → ℕ → Word
word_is place value = (place, value)

-- the words that are not 0 and do not depend on the number of sectors; words 10 to 19 are the serial number
-- SATL0000000000000001, 23 to 26 the firmware revision FW010203, 27 to 46 the model number MODEL NCQ DISK and spaces
abbrev pub fixed_words : List Word
fixed_words =
    word_is 0 0x0040
    ∷ word_is 10 0x5341 ∷ word_is 11 0x544C ∷ word_is 12 0x3030 ∷ word_is 13 0x3030
    ∷ word_is 14 0x3030 ∷ word_is 15 0x3030 ∷ word_is 16 0x3030 ∷ word_is 17 0x3030
    ∷ word_is 18 0x3030 ∷ word_is 19 0x3031
    ∷ word_is 23 0x4657 ∷ word_is 24 0x3031 ∷ word_is 25 0x3032 ∷ word_is 26 0x3033
    ∷ word_is 27 0x4D4F ∷ word_is 28 0x4445 ∷ word_is 29 0x4C20 ∷ word_is 30 0x4E43
    ∷ word_is 31 0x5120 ∷ word_is 32 0x4449 ∷ word_is 33 0x534B ∷ word_is 34 0x2020
    ∷ word_is 35 0x2020 ∷ word_is 36 0x2020 ∷ word_is 37 0x2020 ∷ word_is 38 0x2020
    ∷ word_is 39 0x2020 ∷ word_is 40 0x2020 ∷ word_is 41 0x2020 ∷ word_is 42 0x2020
    ∷ word_is 43 0x2020 ∷ word_is 44 0x2020 ∷ word_is 45 0x2020 ∷ word_is 46 0x2020
    ∷ word_is 49 0x0300 ∷ word_is 69 0x4020 ∷ word_is 75 0x001F ∷ word_is 76 0x0100 ∷ word_is 77 0x0040
    ∷ word_is 82 0x0061 ∷ word_is 83 0x7400 ∷ word_is 84 0x4120 ∷ word_is 85 0x0061 ∷ word_is 86 0x3400 ∷ word_is 87 0x4120
    ∷ word_is 105 0x0008 ∷ word_is 106 0x6003 ∷ word_is 108 0x5000 ∷ word_is 111 0x0001
    ∷ word_is 168 0x0003 ∷ word_is 169 0x0001 ∷ word_is 217 0x0001 ∷ word_is 255 0x00A5 ∷ []

-- the number of sectors, for 28-bit commands in words 60 and 61, and in words 100 to 103
abbrev pub size_words : ℕ → List Word
size_words n = word_is 60 (n % 2 ^ 16) ∷ word_is 61 (n / 2 ^ 16) ∷ word_is 100 (n % 2 ^ 16) ∷ word_is 101 (n / 2 ^ 16) ∷ []

-- the data of a drive of n sectors whose write cache and look-ahead are on
unfoldable pub drive_data : ℕ → List ℕ
drive_data n = with_integrity (set_words (size_words n) (set_words fixed_words (replicate 512 0)))

-- the byte that keeps the sum of all bytes modulo 256 where another one changes (ACS-3 7.12.7, word 255)
abbrev pub balanced : ℕ → ℕ → ℕ → ℕ
balanced byte old new = (byte + old + (256 - new)) % 256

-- the data with these settings: where bits 7:0 of word 255 are A5h, its high byte keeps the sum (ACS-3 7.12.7, words 85 and
-- 255)
abbrev pub retold : Bool → Bool → List ℕ → List ℕ
retold cache_on look_on d =
    if word_bits 255 7 0 d == 0xA5
    then slice_set (with_settings d cache_on look_on) 511
    (balanced (slice_index d 511) (slice_index d 170) (settings_byte (slice_index d 170) cache_on look_on))
    else with_settings d cache_on look_on

-- the data after a word was changed: the integrity byte is brought up to date, but not where it stands in that word (ACS-3
-- 7.12.7, word 255; profile)
abbrev pub integrity_kept : ℕ → List ℕ → List ℕ
integrity_kept place d = if place == 255 then d else with_integrity d
