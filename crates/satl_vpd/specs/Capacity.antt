-- The data of the READ CAPACITY commands (SBC-3, READ CAPACITY commands).
use Rattle.std.specs.Prelude.{ℕ, ◌-◌, List, [], ◌∷◌, if◌then◌else◌}
use Rattle.satl_base.specs.Places.{byte, number, laid, shown_in_4_bytes}
use Rattle.satl_identify.specs.declared.identity.Identity.{Identity}

-- the address of the last block
abbrev pub last_lba : Identity → ℕ
last_lba i = i.capacity - 1

-- that address in 4 bytes
abbrev pub shown_last_lba : Identity → ℕ
shown_last_lba i = shown_in_4_bytes (last_lba i)

-- RETURNED LOGICAL BLOCK ADDRESS and LOGICAL BLOCK LENGTH IN BYTES (SBC-3, READ CAPACITY (10) command)
unfoldable pub capacity_10 : Identity → List ℕ
capacity_10 i = laid 8 (number 0 3 (shown_last_lba i) ∷ number 4 7 512 ∷ [])

-- the same in 8 and 4 bytes; LOGICAL BLOCKS PER PHYSICAL BLOCK EXPONENT; LBPME and LBPRZ (SBC-3, READ CAPACITY (16) command;
-- that LOWEST ALIGNED LOGICAL BLOCK ADDRESS is 0, whatever word 209 of the IDENTIFY DEVICE data says: profile)
unfoldable pub capacity_16 : Identity → List ℕ
capacity_16 i =
    laid 32 (number 0 7 (last_lba i) ∷ number 8 11 512 ∷ byte 13 i.exponent ∷ byte 14 (if i.trim then 0xC0 else 0x00) ∷ [])
