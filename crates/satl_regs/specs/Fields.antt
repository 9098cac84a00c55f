-- Fields of the registers that several commands share (ACS-3 section 7, the inputs of each command).
use Rattle.std.specs.Prelude.{ℕ, ◌+◌, ◌*◌, ◌^◌, Bool, if◌then◌else◌}
use Rattle.satl_base.specs.Fields.{bits_of, or_if_zero}
use Rattle.satl_regs.specs.declared.values.Registers.{Registers}

-- The LBA of a 28-bit command: LBA(23:0), and above them DEVICE(3:0).
abbrev pub lba_28 : Registers → ℕ
lba_28 r = bits_of 23 0 r.lba + bits_of 3 0 r.device * 2 ^ 24

-- The LBA of a 48-bit command: LBA(47:0).
abbrev pub lba_48 : Registers → ℕ
lba_48 r = bits_of 47 0 r.lba

-- A count in COUNT(7:0), in which 0 means 256.
abbrev pub count_8 : ℕ → ℕ
count_8 count = or_if_zero 256 (bits_of 7 0 count)

-- A count of 16 bits, in which 0 means 65,536.
abbrev pub count_16 : ℕ → ℕ
count_16 count = or_if_zero 65536 count

-- The LBA of a command of 48 bits (an EXT command) or of 28.
abbrev pub lba_of : Bool → Registers → ℕ
lba_of ext r = if ext then lba_48 r else lba_28 r

-- The number of sectors of a command of 48 bits or of 28.
abbrev pub sectors_of : Bool → Registers → ℕ
sectors_of ext r = if ext then count_16 r.count else count_8 r.count
