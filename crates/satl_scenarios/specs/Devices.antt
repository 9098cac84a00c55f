-- Blocks, sectors and small devices that the scenarios share (profile).
use Rattle.std.specs.Prelude.{ℕ, true, false, List, [], ◌∷◌, length, replicate}
use Rattle.satl_base.specs.declared.block.Block.{Block}
use Rattle.satl_base.specs.Cells.{Cell, lasts}
use Rattle.satl_base.specs.Places.{byte, laid}
use Rattle.satl_identify.specs.declared.identity.Identity.{Identity}
use Rattle.satl_unit.specs.declared.attention.Attention.TheVariants.{PowerOn}
use Rattle.satl_direct.specs.Device.{Device}

-- a block that is filled with one byte (profile)
unfoldable pub full_of : ℕ → Block
full_of byte = record { bytes = replicate 512 byte }

-- what is on a blank medium, and two blocks to be written
abbrev pub zeros : Block
zeros = full_of 0x00

abbrev pub aa : Block
aa = full_of 0xAA

abbrev pub bb : Block
bb = full_of 0xBB

-- a sector with a flaw at which reads fail, and one at which writes fail (profile)
abbrev pub unreadable : Block → Cell
unreadable block = record (lasts block) { read_flaw = true }

abbrev pub unwritable : Block → Cell
unwritable block = record (lasts block) { write_flaw = true }

-- the IDENTIFY DEVICE data of a drive of fewer than 256 sectors: LBA and DMA (word 49), trims with zeros (69, 105, 169), a
-- queue of 32 with trims in it (75 to 77), a cache and look-ahead that are there and on (82, 85), 48-bit addresses (83; ACS-3
-- 7.12.7)
unfoldable pub identify_data : ℕ → List ℕ
identify_data capacity =
    laid 512 (
    byte 99 0x03 ∷ byte 138 0x20 ∷ byte 139 0x40 ∷ byte 150 31 ∷ byte 153 0x01 ∷ byte 154 0x40 ∷ byte 164 0x60 ∷ byte 167 0x64
    ∷ byte 170 0x60 ∷ byte 200 capacity ∷ byte 210 1 ∷ byte 338 0x01 ∷ [])

-- what these data say (ACS-3 7.12.7)
abbrev pub identity : ℕ → Identity
identity capacity = record {
  bytes = identify_data capacity;
  capacity = capacity;
  exponent = 0;
  trim = true;
  queued_trim = true;
  cache = true;
  look = true;
  cache_on = true;
  look_on = true;
}

-- a device with these sectors, started and up, with its cache on, no task and nothing to tell (profile)
abbrev pub device : List Cell → Device
device cells = record {
  cells = cells;
  tasks = [];
  modes = record { wce = true; dra = false; d_sense = false };
  started = true;
  active = true;
  down = false;
  attentions = [] ∷ [] ∷ [] ∷ [] ∷ [];
  glitches = 0;
  identity = identity (length cells);
}

-- a device that has never been written to (profile)
abbrev pub never_written : ℕ → Device
never_written count = device (replicate count (lasts zeros))

-- a device just after a power cycle: each nexus is told of it (SAM-5 6.3)
abbrev pub just_powered : List Cell → Device
just_powered cells =
    record (device cells) { attentions = (PowerOn ∷ []) ∷ (PowerOn ∷ []) ∷ (PowerOn ∷ []) ∷ (PowerOn ∷ []) ∷ [] }
