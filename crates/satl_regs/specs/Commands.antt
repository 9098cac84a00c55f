-- The ATA commands that are not queued, and their registers (ACS-3 section 7; which commands there are: profile).
use Rattle.std.specs.Prelude.{ℕ, ◌+◌, ◌*◌, ◌^◌, ◌==◌, ◌&&◌, Bool, true, false, List, [], ◌∷◌, Option, Some, None, if◌then◌else◌}
use Rattle.std.specs.List.{find}
use Rattle.satl_base.specs.Fields.{bits_of}
use Rattle.satl_regs.specs.declared.values.Registers.{Registers}
use Rattle.satl_regs.specs.declared.values.How.{How}
use Rattle.satl_regs.specs.declared.values.How.TheVariants.{Pio, PioExt, Dma, DmaExt}
use Rattle.satl_regs.specs.declared.values.AtaCommand.{AtaCommand}
use Rattle.satl_regs.specs.declared.values.AtaCommand.TheVariants as commands
use Rattle.satl_regs.specs.Fields.{count_16, lba_of, sectors_of}

-- READ SECTOR(S), READ SECTOR(S) EXT, READ DMA, READ DMA EXT
abbrev pub read_code : How → ℕ
read_code Pio = 0x20
read_code PioExt = 0x24
read_code Dma = 0xC8
read_code DmaExt = 0x25

-- WRITE SECTOR(S), WRITE SECTOR(S) EXT, WRITE DMA, WRITE DMA EXT
abbrev pub write_code : How → ℕ
write_code Pio = 0x30
write_code PioExt = 0x34
write_code Dma = 0xCA
write_code DmaExt = 0x35

-- The EXT commands have 48 bits of LBA and 16 of COUNT, the others 28 and 8.
abbrev pub is_ext : How → Bool
is_ext Pio = false
is_ext PioExt = true
is_ext Dma = false
is_ext DmaExt = true

-- A row of the table: the code of a command, what registers with that code need beside it, and the command that they then hold.
pub record CommandRow : Type 0 where
  pub code : ℕ
  pub needs : Registers → Bool
  pub command : Registers → AtaCommand

abbrev pub always : ℕ → (Registers → AtaCommand) → CommandRow
always code command = record { code = code; needs = λ r. true; command = command }

abbrev pub read_row : How → CommandRow
read_row how = always (read_code how) (λ r. commands.Read how (lba_of (is_ext how) r) (sectors_of (is_ext how) r))

abbrev pub write_row : How → CommandRow
write_row how = always (write_code how) (λ r. commands.Write how (lba_of (is_ext how) r) (sectors_of (is_ext how) r))

-- READ VERIFY SECTOR(S), READ VERIFY SECTOR(S) EXT
abbrev pub verify_row : Bool → CommandRow
verify_row ext = always (if ext then 0x42 else 0x40) (λ r. commands.Verify ext (lba_of ext r) (sectors_of ext r))

-- FLUSH CACHE, FLUSH CACHE EXT
abbrev pub flush_row : Bool → CommandRow
flush_row ext = always (if ext then 0xEA else 0xE7) (λ r. commands.Flush ext)

-- IDENTIFY DEVICE
abbrev pub identify_row : CommandRow
identify_row = always 0xEC (λ r. commands.Identify)

-- SET FEATURES: its subcommand in FEATURES(7:0).
abbrev pub set_features_row : CommandRow
set_features_row = always 0xEF (λ r. commands.SetFeatures (bits_of 7 0 r.features))

-- STANDBY IMMEDIATE
abbrev pub standby_row : CommandRow
standby_row = always 0xE0 (λ r. commands.Standby)

-- IDLE IMMEDIATE
abbrev pub idle_row : CommandRow
idle_row = always 0xE1 (λ r. commands.Idle)

-- CHECK POWER MODE
abbrev pub check_power_row : CommandRow
check_power_row = always 0xE5 (λ r. commands.CheckPower)

-- READ LOG EXT: the log in LBA(7:0), the page in LBA(15:8) and above it LBA(39:32).
abbrev pub read_log_row : CommandRow
read_log_row =
    always 0x2F (λ r. commands.ReadLog (bits_of 7 0 r.lba) (bits_of 15 8 r.lba + bits_of 39 32 r.lba * 2 ^ 8)
    (count_16 r.count))

-- DATA SET MANAGEMENT: TRIM is FEATURES(0).
abbrev pub trim_row : CommandRow
trim_row = record { code = 0x06; needs = λ r. bits_of 0 0 r.features == 1; command = λ r. commands.Trim (count_16 r.count) }

-- SMART RETURN STATUS: its subcommand in FEATURES(7:0), and the two signature bytes in LBA(23:8).
abbrev pub smart_row : CommandRow
smart_row = record {
  code = 0xB0;
  needs = λ r. bits_of 7 0 r.features == 0xDA && bits_of 23 8 r.lba == 0xC24F;
  command = λ r. commands.SmartStatus;
}

abbrev pub command_rows : List CommandRow
command_rows =
    read_row Pio ∷ read_row PioExt ∷ read_row Dma ∷ read_row DmaExt
    ∷ write_row Pio ∷ write_row PioExt ∷ write_row Dma ∷ write_row DmaExt
    ∷ verify_row false ∷ verify_row true ∷ flush_row false ∷ flush_row true
    ∷ identify_row ∷ set_features_row ∷ standby_row ∷ idle_row ∷ check_power_row
    ∷ read_log_row ∷ trim_row ∷ smart_row ∷ []

-- The code of each command: that of its row.
abbrev pub code_of : AtaCommand → ℕ
code_of (commands.Read how lba sectors) = (read_row how).code
code_of (commands.Write how lba sectors) = (write_row how).code
code_of (commands.Verify ext lba sectors) = (verify_row ext).code
code_of (commands.Flush ext) = (flush_row ext).code
code_of commands.Identify = identify_row.code
code_of (commands.SetFeatures what) = set_features_row.code
code_of commands.Standby = standby_row.code
code_of commands.Idle = idle_row.code
code_of commands.CheckPower = check_power_row.code
code_of (commands.ReadLog log page blocks) = read_log_row.code
code_of (commands.Trim blocks) = trim_row.code
code_of commands.SmartStatus = smart_row.code
code_of (commands.Other code) = code

-- The first of the rows whose code and needs the registers meet.
abbrev pub first_row : List CommandRow → Registers → Option CommandRow
first_row rows r = find (λ row. (r.command == row.code) && row.needs r) rows

-- The row of the table for the registers, if it has one.
unfoldable pub command_row : Registers → Option CommandRow
command_row r = first_row command_rows r

-- The command by a row; without one it is `Other`.
abbrev pub command_by : Option CommandRow → Registers → AtaCommand
command_by None r = commands.Other r.command
command_by (Some row) r = row.command r

-- The command in the registers.
unfoldable pub command_in : Registers → AtaCommand
command_in r = command_by (command_row r) r
