-- What a command that is not queued does, and how it ends (ACS-3 section 7 and 9; the modelled flaws and CRC errors: profile).
use Rattle.std.specs.Prelude.{◌≡◌, ◌⊎◌, ℕ, ◌+◌, ◌-◌, ◌*◌, ◌/◌, ◌%◌, ◌^◌, ◌<◌, ◌==◌, ◌&&◌, ◌||◌, Bool, true, false, not, nat_lt, if◌then◌else◌, List, [], ◌∷◌, ◌++◌, Option, Some, None, MatchBool, MatchOption, length, map, take, drop, replicate, slice_index}
use Rattle.std.specs.List.{flat_map, list_any}
use Rattle.satl_base.specs.declared.block.Block.{Block}
use Rattle.satl_base.specs.declared.bench.Which.{Which}
use Rattle.satl_base.specs.declared.bench.Which.TheVariants as flaws
use Rattle.satl_base.specs.declared.block.Range.{Range}
use Rattle.satl_base.specs.Blocks.{zero_block}
use Rattle.satl_base.specs.Fields.{bit_of}
use Rattle.satl_base.specs.Cells.{Cell, Pair, whole, settle, Part, pairs_from, nows, first_flaw}
use Rattle.satl_base.specs.Identify.{cache_is_on, checksum, has_cache, has_look, has_trim, look_is_on, trim_blocks, word_bits}
use Rattle.satl_regs.specs.declared.values.Registers.{Registers}
use Rattle.satl_regs.specs.declared.values.Taskfile.{Taskfile}
use Rattle.satl_regs.specs.declared.values.How.{How}
use Rattle.satl_regs.specs.declared.values.How.TheVariants.{Pio, PioExt, Dma, DmaExt}
use Rattle.satl_regs.specs.declared.values.AtaCommand.{AtaCommand}
use Rattle.satl_regs.specs.declared.values.AtaCommand.TheVariants as commands
use Rattle.satl_regs.specs.declared.setting.Setting.{Setting}
use Rattle.satl_regs.specs.declared.setting.Setting.TheVariants.{WriteCache, LookAhead}
use Rattle.satl_regs.specs.Commands.{command_in, is_ext}
use Rattle.satl_regs.specs.Trim.{addresses, trimmed}

-- what commands read and change: the sectors, whether write cache and look-ahead are on, whether the drive is active and not in
-- standby, how many transfers may still end with a CRC error, and the 512 bytes of IDENTIFY DEVICE data (ACS-3; flaws and CRC
-- errors: profile)
pub record Medium : Type 0 where
  pub cells : List Cell
  pub cache : Bool
  pub look : Bool
  pub active : Bool
  pub glitches : ℕ
  pub identify : List ℕ

-- what goes to a drive with one command, and what comes back: its registers and the pages handed in, the registers at its end
-- and the pages after it (ACS-3, inputs and outputs of a command)
pub record Traffic : Type 0 where
  pub registers : Registers
  pub given : List Block
  pub ended : Taskfile
  pub taken : List Block

-- STATUS at a good end: DRDY (ACS-3, STATUS field)
abbrev pub good_status : ℕ
good_status = 0x40

-- STATUS at a bad end: DRDY and ERR (ACS-3, STATUS field)
abbrev pub bad_status : ℕ
bad_status = 0x41

-- ERR of STATUS: the command ended with an error (ACS-3 6.3)
abbrev pub is_bad : Taskfile → Bool
is_bad end = bit_of 0 end.status

-- ERROR at a CRC error: ICRC and ABRT (ACS-3, ERROR field)
abbrev pub icrc_abrt : ℕ
icrc_abrt = 0x84

-- ERROR at a flaw: UNC (ACS-3, ERROR field)
abbrev pub unc : ℕ
unc = 0x40

-- ERROR at an address outside the capacity: IDNF (ACS-3, ERROR field)
abbrev pub idnf : ℕ
idnf = 0x10

-- ERROR of a command that is refused: ABRT (ACS-3, ERROR field)
abbrev pub abrt : ℕ
abrt = 0x04

-- a good end, with what COUNT and LBA tell (ACS-3, normal outputs)
abbrev pub good_end : Registers → ℕ → ℕ → Taskfile
good_end r count lba = record { error = 0; count = count; lba = lba; device = r.device; status = good_status }

-- a bad end, with the error and an LBA (ACS-3, error outputs)
abbrev pub bad_end : Registers → ℕ → ℕ → Taskfile
bad_end r error lba = record { error = error; count = 0; lba = lba; device = r.device; status = bad_status }

-- a bad end at a flawed address: with a 28-bit address its top four bits stand in DEVICE(3:0) (ACS-3, 28-bit commands)
abbrev pub flawed_end : Registers → Bool → ℕ → Taskfile
flawed_end r ext at =
    if ext then bad_end r unc at
    else record {
      error = unc;
      count = 0;
      lba = at % 2 ^ 24;
      device = r.device / 2 ^ 4 * 2 ^ 4 + at / 2 ^ 24 % 2 ^ 4;
      status = bad_status;
    }

-- a command that goes over a range: whether its address has 48 bits, whether its data go by DMA, the flaw that stops it, the
-- range, the pairs that it writes, and the blocks that it reads (ACS-3, the inputs of the commands)
pub record Transfer : Type 0 where
  pub ext : Bool
  pub dma : Bool
  pub stopped_by : Which
  pub lba : ℕ
  pub sectors : ℕ
  pub writes : List Pair
  pub reads : List Block

-- whether data go by DMA (ACS-3, the names of the commands)
abbrev pub is_dma : How → Bool
is_dma Pio = false
is_dma PioExt = false
is_dma Dma = true
is_dma DmaExt = true

-- READ SECTOR(S), READ DMA and their EXT forms (ACS-3, commands of these names)
abbrev pub reading : How → ℕ → ℕ → Medium → Transfer
reading how lba sectors m =
    record {
      ext = is_ext how;
      dma = is_dma how;
      stopped_by = flaws.Read;
      lba = lba;
      sectors = sectors;
      writes = [];
      reads = nows m.cells lba sectors;
    }

-- WRITE SECTOR(S), WRITE DMA and their EXT forms: through the cache where it is on (ACS-3, commands of these names)
abbrev pub writing : How → ℕ → ℕ → List Block → Medium → Transfer
writing how lba sectors given m =
    record {
      ext = is_ext how;
      dma = is_dma how;
      stopped_by = flaws.Write;
      lba = lba;
      sectors = sectors;
      writes = pairs_from lba (take sectors given) m.cache;
      reads = [];
    }

-- it ends bad with this error, and nothing changes (ACS-3, error outputs)
pub record EndsBad (error lba : ℕ) (x : Traffic) (old new : Medium) : Type 0 where
  pub ends : x.ended ≡ bad_end x.registers error lba
  pub data_in : x.taken ≡ x.given
  pub medium : new ≡ old

-- it is carried out: the blocks that it reads stand in front in the pages, and the drive is active (ACS-3, normal outputs)
pub record EndsInFull (t : Transfer) (x : Traffic) (old new : Medium) : Type 0 where
  pub ends : x.ended ≡ good_end x.registers 0 0
  pub data_in : x.taken ≡ t.reads ++ drop (length t.reads) x.given
  pub medium : new ≡ record old { cells = whole old.cells t.writes; active = true }

-- a CRC error stops it, only where its data go by DMA and while such errors may still come, of which it uses up one: what it
-- writes is written in part (ACS-3, ICRC; profile)
pub record IsGarbled (t : Transfer) (x : Traffic) (old new : Medium) : Type 0 where
  pub by_dma : t.dma ≡ true
  pub some : 0 < old.glitches
  pub ends : x.ended ≡ bad_end x.registers icrc_abrt 0
  pub data_in : x.taken ≡ x.given
  pub part : Part old.cells t.writes new.cells
  pub medium : new ≡ record old { cells = new.cells; glitches = old.glitches - 1 }

-- the flaw at an address stops it: what it writes is written in part (ACS-3, UNC)
pub record IsFlawed (t : Transfer) (at : ℕ) (x : Traffic) (old new : Medium) : Type 0 where
  pub ends : x.ended ≡ flawed_end x.registers t.ext at
  pub data_in : x.taken ≡ x.given
  pub part : Part old.cells t.writes new.cells
  pub medium : new ≡ record old { cells = new.cells }

-- how it ends: outside the capacity IDNF, at a flaw UNC with the lowest flawed address, and else it is carried out, or a CRC
-- error stops it (ACS-3, error outputs; profile)
abbrev pub Carries : Transfer → Traffic → Medium → Medium → Type 0
Carries t x old new =
    MatchBool (nat_lt (length old.cells) (t.lba + t.sectors))
    (EndsBad idnf x.registers.lba x old new)
    (MatchOption (first_flaw t.stopped_by old.cells t.lba t.sectors)
    (EndsInFull t x old new ⊎ IsGarbled t x old new)
    (λ at. IsFlawed t at x old new))

-- IDENTIFY DEVICE: the data stand in the first page (ACS-3, IDENTIFY DEVICE)
pub record IsIdentified (x : Traffic) (old new : Medium) : Type 0 where
  pub ends : x.ended ≡ good_end x.registers 0 0
  pub data_in : x.taken ≡ record { bytes = old.identify } ∷ drop 1 x.given
  pub medium : new ≡ old

-- it ends good with what COUNT and LBA tell, moves no data, and the medium is the one that is stated (ACS-3, normal outputs)
pub record EndsGood (count lba : ℕ) (x : Traffic) (after new : Medium) : Type 0 where
  pub ends : x.ended ≡ good_end x.registers count lba
  pub data_in : x.taken ≡ x.given
  pub medium : new ≡ after

-- READ VERIFY SECTOR(S) and its EXT form: only flaws of reads are looked for (ACS-3, commands of these names)
abbrev pub verifying : Bool → ℕ → ℕ → Transfer
verifying ext lba sectors =
    record { ext = ext; dma = false; stopped_by = flaws.Read; lba = lba; sectors = sectors; writes = []; reads = [] }

-- every sector is written back (ACS-3, FLUSH CACHE)
abbrev pub all_settled : Medium → Medium
all_settled m = record m { cells = map settle m.cells }

-- the setting of a subcommand (ACS-3, SET FEATURES)
abbrev pub setting_of : ℕ → Option Setting
setting_of what =
    if what == 0x02 then Some (WriteCache true)
    else if what == 0x82 then Some (WriteCache false)
    else if what == 0xAA then Some (LookAhead true)
    else if what == 0x55 then Some (LookAhead false)
    else None

-- whether a drive has what is set (ACS-3, IDENTIFY DEVICE, word 82)
abbrev pub has_setting : List ℕ → Setting → Bool
has_setting identify (WriteCache on) = has_cache identify
has_setting identify (LookAhead on) = has_look identify

-- a setting that there is, on a drive that has it (ACS-3, SET FEATURES)
abbrev pub settable : List ℕ → Option Setting → Option Setting
settable identify None = None
settable identify (Some setting) = if has_setting identify setting then Some setting else None

-- the medium with a setting: all sectors are written back where the write cache is turned off (ACS-3, SET FEATURES)
abbrev pub with_setting : Setting → Medium → Medium
with_setting (WriteCache true) m = record m { cache = true }
with_setting (WriteCache false) m = record (all_settled m) { cache = false }
with_setting (LookAhead on) m = record m { look = on }

-- IDENTIFY DEVICE data with other settings: bits 5 and 6 of word 85 tell them; where word 255 has an integrity byte, that
-- byte keeps the sum of all bytes; all else is as before (ACS-3 7.12.7, words 85 and 255)
pub record IsTelling (cache look : Bool) (old new : List ℕ) : Type 0 where
  pub cache_is : cache_is_on new ≡ cache
  pub look_is : look_is_on new ≡ look
  pub size : length new ≡ length old
  pub high_bit : word_bits 85 7 7 new ≡ word_bits 85 7 7 old
  pub low_bits : word_bits 85 4 0 new ≡ word_bits 85 4 0 old
  pub others : (i : ℕ) → (i ≡ 2 * 85 → ⊥) → (i ≡ 511 → ⊥) → slice_index new i ≡ slice_index old i
  pub integrity : MatchBool (word_bits 255 7 0 old == 0xA5) (checksum new ≡ checksum old)
      (slice_index new 511 ≡ slice_index old 511)

-- a setting is made (ACS-3, SET FEATURES)
pub record IsSet (setting : Setting) (x : Traffic) (old new : Medium) : Type 0 where
  pub ends : x.ended ≡ good_end x.registers 0 0
  pub data_in : x.taken ≡ x.given
  pub tells : IsTelling new.cache new.look old.identify new.identify
  pub medium : new ≡ record (with_setting setting old) { identify = new.identify }

-- COUNT of CHECK POWER MODE: FFh where the drive is active, 00h in standby (ACS-3, CHECK POWER MODE)
abbrev pub power_count : Bool → ℕ
power_count active = if active then 0xFF else 0x00

-- the log that there is: log 10h, page 0, one block (ACS-3, READ LOG EXT; which logs there are: profile)
abbrev pub is_error_log : ℕ → ℕ → ℕ → Bool
is_error_log log page blocks = (log == 0x10) && (page == 0) && (blocks == 1)

-- the log where no queued command has failed: NQ is 1, and the last byte makes the sum 0 (ACS-3 annex A, log 10h)
abbrev pub no_error_log : Block
no_error_log = record { bytes = 0x80 ∷ (replicate 510 0x00 ++ 0x80 ∷ []) }

-- a log stands in the first page (ACS-3, READ LOG EXT)
pub record IsLogged (log : Block) (x : Traffic) (old new : Medium) : Type 0 where
  pub ends : x.ended ≡ good_end x.registers 0 0
  pub data_in : x.taken ≡ log ∷ drop 1 x.given
  pub medium : new ≡ old

-- the ranges that the payload of DATA SET MANAGEMENT trims (ACS-3, DATA SET MANAGEMENT)
abbrev pub payload_ranges : ℕ → List Block → List Range
payload_ranges blocks given = flat_map (λ b. trimmed b.bytes) (take blocks given)

-- whether a range goes past the last sector (ACS-3, IDNF)
abbrev pub is_outside : Medium → Range → Bool
is_outside m range = nat_lt (length m.cells) (range.lba + range.count)

-- whether a trim is aborted: the drive has none, the payload is longer than word 105 allows, or an entry lies outside the
-- capacity (ACS-3, DATA SET MANAGEMENT; of the capacity: profile)
abbrev pub is_no_trim : ℕ → List Block → Medium → Bool
is_no_trim blocks given m =
    not (has_trim m.identify) || nat_lt (trim_blocks m.identify) blocks || list_any (is_outside m) (payload_ranges blocks given)

-- zeros at each address, through the cache where it is on (ACS-3, DATA SET MANAGEMENT with deterministic zeros)
abbrev pub zeros_at : Bool → List ℕ → List Pair
zeros_at cached lbas = map (λ lba. record { lba = lba; block = zero_block; cached = cached }) lbas

-- DATA SET MANAGEMENT with TRIM: it meets no flaw (ACS-3, DATA SET MANAGEMENT; of flaws: profile)
abbrev pub trimming : ℕ → List Block → Medium → Transfer
trimming blocks given m =
    record {
      ext = true;
      dma = true;
      stopped_by = flaws.Write;
      lba = 0;
      sectors = 0;
      writes = zeros_at m.cache (addresses (payload_ranges blocks given));
      reads = [];
    }

-- the length of the data that a command moves, in blocks (ACS-3, the inputs of the commands)
abbrev pub own_blocks : AtaCommand → ℕ
own_blocks (commands.Read how lba sectors) = sectors
own_blocks (commands.Write how lba sectors) = sectors
own_blocks commands.Identify = 1
own_blocks (commands.ReadLog log page blocks) = blocks
own_blocks (commands.Trim blocks) = blocks
own_blocks _ = 0

-- the effect of a command: what goes to the drive with it and comes back, and the medium before it and after it (ACS-3 section
-- 7)
abbrev pub HasEffect : AtaCommand → Traffic → Medium → Medium → Type 0
HasEffect (commands.Read how lba sectors) x old new = Carries (reading how lba sectors old) x old new
HasEffect (commands.Write how lba sectors) x old new = Carries (writing how lba sectors x.given old) x old new
HasEffect (commands.Verify ext lba sectors) x old new = Carries (verifying ext lba sectors) x old new
HasEffect (commands.Flush ext) x old new = EndsGood 0 0 x (all_settled old) new
HasEffect commands.Identify x old new = IsIdentified x old new
HasEffect (commands.SetFeatures what) x old new =
    MatchOption (settable old.identify (setting_of what)) (EndsBad abrt 0 x old new) (λ setting. IsSet setting x old new)
HasEffect commands.Standby x old new = EndsGood 0 0 x (record old { active = false }) new
HasEffect commands.Idle x old new = EndsGood 0 0 x (record old { active = true }) new
HasEffect commands.CheckPower x old new = EndsGood (power_count old.active) 0 x old new
HasEffect (commands.ReadLog log page blocks) x old new =
    MatchBool (is_error_log log page blocks) (IsLogged no_error_log x old new) (EndsBad abrt 0 x old new)
HasEffect (commands.Trim blocks) x old new =
    MatchBool (is_no_trim blocks x.given old) (EndsBad abrt 0 x old new) (Carries (trimming blocks x.given old) x old new)
HasEffect commands.SmartStatus x old new = EndsGood 0 (0xC24F * 2 ^ 8) x old new
HasEffect (commands.Other code) x old new = EndsBad abrt 0 x old new

-- the effect of the command in the registers (ACS-3 section 7)
abbrev pub Ata : Traffic → Medium → Medium → Type 0
Ata x old new = HasEffect (command_in x.registers) x old new

-- the pairs that a command may write, also where it is cut short: none where its range or its entries are refused (ACS-3;
-- profile)
abbrev pub pairs_of : AtaCommand → Medium → List Block → List Pair
pairs_of (commands.Write how lba sectors) m given =
    if nat_lt (length m.cells) (lba + sectors) then [] else pairs_from lba (take sectors given) m.cache
pairs_of (commands.Trim blocks) m given =
    if is_no_trim blocks given m then [] else zeros_at m.cache (addresses (payload_ranges blocks given))
pairs_of _ m given = []

-- the commands that go over the medium: reads, writes, verifies and trims, which wake a drive (ACS-3 4, power modes)
abbrev pub goes_over_medium : AtaCommand → Bool
goes_over_medium (commands.Read how lba sectors) = true
goes_over_medium (commands.Write how lba sectors) = true
goes_over_medium (commands.Verify ext lba sectors) = true
goes_over_medium (commands.Trim blocks) = true
goes_over_medium _ = false
