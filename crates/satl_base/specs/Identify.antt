-- The words of IDENTIFY DEVICE data, and what they say (ACS-3 7.12.7).
use Rattle.std.specs.Prelude.{ℕ, ◌+◌, ◌-◌, ◌*◌, ◌%◌, ◌^◌, ◌==◌, ◌&&◌, not, nat_lt, Bool, List, sum, slice_index, if◌then◌else◌}
use Rattle.satl_base.specs.Fields.{bit_of, bits_of}

-- a word: two bytes, the low one first (ACS-3 7.12.7)
abbrev pub word : ℕ → List ℕ → ℕ
word i data_bytes = slice_index data_bytes (2 * i) + 256 * slice_index data_bytes (2 * i + 1)

-- bits high to low of a word (ACS-3 7.12.7)
abbrev pub word_bits : ℕ → ℕ → ℕ → List ℕ → ℕ
word_bits i high low d = bits_of high low (word i d)

-- one bit of a word (ACS-3 7.12.7)
abbrev pub word_bit : ℕ → ℕ → List ℕ → Bool
word_bit i place d = bit_of place (word i d)

-- a number in four words, the lowest first (ACS-3 7.12.7)
abbrev pub four_words : ℕ → List ℕ → ℕ
four_words i d = word i d + 2 ^ 16 * word (i + 1) d + 2 ^ 32 * word (i + 2) d + 2 ^ 48 * word (i + 3) d

-- the sum of all bytes modulo 256 (ACS-3 7.12.7)
unfoldable pub checksum : List ℕ → ℕ
checksum d = sum d % 256

-- the byte that, put in place of a 0, makes the sum of all bytes 0 modulo 256 (ACS-3 7.12.7, word 255, and annex A)
abbrev pub checksum_byte : List ℕ → ℕ
checksum_byte d = (256 - checksum d) % 256

-- an ATAPI or other device (ACS-3 7.12.7, word 0)
abbrev pub is_not_ata : List ℕ → Bool
is_not_ata d = word_bit 0 15 d

-- the integrity word is there, and the bytes do not sum to 0 (ACS-3 7.12.7, word 255)
abbrev pub has_bad_sum : List ℕ → Bool
has_bad_sum d = (word_bits 255 7 0 d == 0xA5) && not (checksum d == 0)

-- LBA, DMA, the 48-bit Address feature set and FLUSH CACHE EXT are there (ACS-3 7.12.7, words 49 and 83)
abbrev pub has_lba48 : List ℕ → Bool
has_lba48 d = word_bit 49 8 d && word_bit 49 9 d && (word_bits 83 15 14 d == 1) && word_bit 83 10 d && word_bit 83 13 d

-- native command queuing with 32 tags (ACS-3 7.12.7, words 75 and 76)
abbrev pub has_queue : List ℕ → Bool
has_queue d = not (word 76 d == 0xFFFF) && word_bit 76 8 d && (word_bits 75 4 0 d == 31)

-- the number of sectors (ACS-3 7.12.7, words 100 to 103)
abbrev pub capacity : List ℕ → ℕ
capacity d = four_words 100 d

-- a number of sectors that 48 bits can address (ACS-3 7.12.7)
abbrev pub has_capacity : List ℕ → Bool
has_capacity d = not (capacity d == 0) && not (nat_lt (2 ^ 48 - 1) (capacity d))

-- word 106 says something, and that logical sectors are larger than 512 bytes (ACS-3 7.12.7)
abbrev pub is_other_block : List ℕ → Bool
is_other_block d = (word_bits 106 15 14 d == 1) && word_bit 106 12 d

-- logical sectors in a physical sector, as a power of 2 (ACS-3 7.12.7, word 106)
abbrev pub exponent : List ℕ → ℕ
exponent d = if (word_bits 106 15 14 d == 1) && word_bit 106 13 d then word_bits 106 3 0 d else 0

-- DATA SET MANAGEMENT trims, and reads of trimmed sectors give zeros (ACS-3 7.12.7, words 169 and 69)
abbrev pub has_trim : List ℕ → Bool
has_trim d = word_bit 169 0 d && word_bit 69 14 d && word_bit 69 5 d

-- it trims, and trims may be queued (ACS-3 7.12.7, word 77 bit 6: SEND FPDMA QUEUED)
abbrev pub has_queued_trim : List ℕ → Bool
has_queued_trim d = has_trim d && word_bit 77 6 d

-- a volatile write cache and read look-ahead are there (ACS-3 7.12.7, word 82)
abbrev pub has_cache : List ℕ → Bool
has_cache d = word_bit 82 5 d

abbrev pub has_look : List ℕ → Bool
has_look d = word_bit 82 6 d

-- the write cache and read look-ahead are on (ACS-3 7.12.7, word 85)
abbrev pub cache_is_on : List ℕ → Bool
cache_is_on d = word_bit 85 5 d

abbrev pub look_is_on : List ℕ → Bool
look_is_on d = word_bit 85 6 d

-- the most blocks of one DATA SET MANAGEMENT command (ACS-3 7.12.7, word 105)
abbrev pub trim_blocks : List ℕ → ℕ
trim_blocks d = word 105 d
