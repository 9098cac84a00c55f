-- The registers that spell a command that is not queued (ACS-3 section 7).
use Rattle.std.specs.Prelude.{ℕ, ◌+◌, ◌*◌, ◌^◌, ◌<◌, ◌≤◌, Bool, IsNone, if◌then◌else◌}
use Rattle.satl_base.specs.Fields.{bits_of}
use Rattle.satl_regs.specs.declared.values.Registers.{Registers}
use Rattle.satl_regs.specs.declared.values.AtaCommand.{AtaCommand}
use Rattle.satl_regs.specs.declared.values.AtaCommand.TheVariants as commands
use Rattle.satl_regs.specs.Commands.{code_of, command_row, is_ext}

-- A command without an address of its own. DEVICE(6) is 1 in each.
abbrev pub plain_registers : ℕ → ℕ → ℕ → ℕ → Registers
plain_registers features count lba code =
    record { features = features; count = count; lba = lba; device = 0x40; command = code }

-- A command that names sectors: in 48 bits of LBA and 16 of COUNT, or in 28 and 8, with LBA(27:24) in DEVICE(3:0).
abbrev pub addressed : Bool → ℕ → ℕ → ℕ → Registers
addressed ext lba sectors code =
    if ext then plain_registers 0 (bits_of 15 0 sectors) lba code
    else record {
      features = 0;
      count = bits_of 7 0 sectors;
      lba = bits_of 23 0 lba;
      device = 0x40 + bits_of 27 24 lba;
      command = code;
    }

-- The registers of each command but for its code.
abbrev pub spelled_with : AtaCommand → ℕ → Registers
spelled_with (commands.Read how lba sectors) = addressed (is_ext how) lba sectors
spelled_with (commands.Write how lba sectors) = addressed (is_ext how) lba sectors
spelled_with (commands.Verify ext lba sectors) = addressed ext lba sectors
spelled_with (commands.Flush ext) = plain_registers 0 0 0
spelled_with commands.Identify = plain_registers 0 0 0
spelled_with (commands.SetFeatures what) = plain_registers what 0 0
spelled_with commands.Standby = plain_registers 0 0 0
spelled_with commands.Idle = plain_registers 0 0 0
spelled_with commands.CheckPower = plain_registers 0 0 0
spelled_with (commands.ReadLog log page blocks) =
    plain_registers 0 (bits_of 15 0 blocks) (log + bits_of 7 0 page * 2 ^ 8 + bits_of 15 8 page * 2 ^ 32)
spelled_with (commands.Trim blocks) = plain_registers 1 (bits_of 15 0 blocks) 0
spelled_with commands.SmartStatus = plain_registers 0xDA 0 (0xC24F * 2 ^ 8)
spelled_with (commands.Other code) = plain_registers 0 0 0

-- The registers of a command.
unfoldable pub command_registers : AtaCommand → Registers
command_registers c = spelled_with c (code_of c)

-- What a command can name: 28 bits of LBA and 256 sectors, or 48 and 65,536.
pub record Reaches (ext : Bool) (lba sectors : ℕ) : Type 0 where
  pub address : lba < (if ext then 2 ^ 48 else 2 ^ 28)
  pub some : 1 ≤ sectors
  pub most : sectors ≤ (if ext then 65536 else 256)

abbrev pub IsBlockCount : ℕ → Type 0
IsBlockCount blocks = (1 ≤ blocks) × (blocks ≤ 65536)

-- The fields of a command fit its registers. `Other` is spelled by its code alone, so it fits where that spells no
-- command of the table.
abbrev pub CommandFits : AtaCommand → Type 0
CommandFits (commands.Read how lba sectors) = Reaches (is_ext how) lba sectors
CommandFits (commands.Write how lba sectors) = Reaches (is_ext how) lba sectors
CommandFits (commands.Verify ext lba sectors) = Reaches ext lba sectors
CommandFits (commands.Flush ext) = Unit {0}
CommandFits commands.Identify = Unit {0}
CommandFits (commands.SetFeatures what) = what < 2 ^ 8
CommandFits commands.Standby = Unit {0}
CommandFits commands.Idle = Unit {0}
CommandFits commands.CheckPower = Unit {0}
CommandFits (commands.ReadLog log page blocks) = (log < 2 ^ 8) × (page < 2 ^ 16) × IsBlockCount blocks
CommandFits (commands.Trim blocks) = IsBlockCount blocks
CommandFits commands.SmartStatus = Unit {0}
CommandFits (commands.Other code) = IsNone (command_row (plain_registers 0 0 0 code))
