-- The command descriptor block that is written for a command: reserved bits, DPO, IMMED and the control byte are 0 (SPC-4,
-- SBC-3, SAT-3).
use Rattle.std.specs.Prelude.{ℕ, ◌+◌, ◌*◌, ◌/◌, ◌%◌, ◌^◌, Bool, true, false, List, [], ◌∷◌, Some, None, if◌then◌else◌}
use Rattle.satl_base.specs.Places.{Line, byte, number, text, laid}
use Rattle.satl_cdb.specs.declared.command.Form.TheVariants.{Six, Ten, Twelve, Sixteen}
use Rattle.satl_cdb.specs.declared.command.Command.{Command}
use Rattle.satl_cdb.specs.declared.command.Command.TheVariants as commands
use Rattle.satl_cdb.specs.PrimaryCommands.{inquiry_code, report_luns_code, request_sense_code}

-- a bit of a byte
abbrev pub bit_value : ℕ → Bool → ℕ
bit_value place set = if set then 2 ^ place else 0

-- The layouts of 6, 10, 12 and 16 bytes: operation code, byte 1, address and count; that of 6 has the address's high bits in
-- byte 1.
abbrev pub lines_6 : ℕ → ℕ → ℕ → List Line
lines_6 code lba count = byte 0 code ∷ byte 1 (lba / 2 ^ 16 % 2 ^ 5) ∷ number 2 3 lba ∷ byte 4 (count % 256) ∷ []

abbrev pub lines_10 : ℕ → ℕ → ℕ → ℕ → List Line
lines_10 code one lba count = byte 0 code ∷ byte 1 one ∷ number 2 5 lba ∷ number 7 8 count ∷ []

abbrev pub lines_12 : ℕ → ℕ → ℕ → ℕ → List Line
lines_12 code one lba count = byte 0 code ∷ byte 1 one ∷ number 2 5 lba ∷ number 6 9 count ∷ []

abbrev pub lines_16 : ℕ → ℕ → ℕ → ℕ → List Line
lines_16 code one lba count = byte 0 code ∷ byte 1 one ∷ number 2 9 lba ∷ number 10 13 count ∷ []

-- PC and PAGE CODE of MODE SENSE
abbrev pub page_code_byte : ℕ → ℕ → ℕ
page_code_byte control page = control % 4 * 64 + page % 64

-- the lines of each command; a form that a command does not have is written as that of 16 bytes
abbrev pub lines_of : Command → List Line
lines_of commands.TestUnitReady = byte 0 0x00 ∷ []
lines_of (commands.RequestSense descriptor alloc) =
    byte 0 request_sense_code ∷ byte 1 (bit_value 0 descriptor) ∷ byte 4 alloc ∷ []
lines_of (commands.Inquiry None alloc) = byte 0 inquiry_code ∷ number 3 4 alloc ∷ []
lines_of (commands.Inquiry (Some page) alloc) = byte 0 inquiry_code ∷ byte 1 0x01 ∷ byte 2 page ∷ number 3 4 alloc ∷ []
lines_of (commands.ModeSense false long_lba no_descriptor control page alloc) =
    byte 0 0x1A ∷ byte 1 (bit_value 3 no_descriptor) ∷ byte 2 (page_code_byte control page) ∷ byte 4 (alloc % 256) ∷ []
lines_of (commands.ModeSense true long_lba no_descriptor control page alloc) =
    byte 0 0x5A ∷ byte 1 (bit_value 4 long_lba + bit_value 3 no_descriptor) ∷ byte 2 (page_code_byte control page)
    ∷ number 7 8 alloc ∷ []
lines_of (commands.ModeSelect false length) = byte 0 0x15 ∷ byte 1 0x10 ∷ byte 4 (length % 256) ∷ []
lines_of (commands.ModeSelect true length) = byte 0 0x55 ∷ byte 1 0x10 ∷ number 7 8 length ∷ []
lines_of (commands.StartStop start no_flush) = byte 0 0x1B ∷ byte 4 (bit_value 2 no_flush + bit_value 0 start) ∷ []
lines_of commands.ReadCapacity10 = byte 0 0x25 ∷ []
lines_of (commands.ReadCapacity16 alloc) = byte 0 0x9E ∷ byte 1 0x10 ∷ number 10 13 alloc ∷ []
lines_of (commands.ReportLuns select alloc) = byte 0 report_luns_code ∷ byte 2 select ∷ number 6 9 alloc ∷ []
lines_of (commands.Read Six lba count fua) = lines_6 0x08 lba count
lines_of (commands.Read Ten lba count fua) = lines_10 0x28 (bit_value 3 fua) lba count
lines_of (commands.Read Twelve lba count fua) = lines_12 0xA8 (bit_value 3 fua) lba count
lines_of (commands.Read Sixteen lba count fua) = lines_16 0x88 (bit_value 3 fua) lba count
lines_of (commands.Write Six lba count fua) = lines_6 0x0A lba count
lines_of (commands.Write Ten lba count fua) = lines_10 0x2A (bit_value 3 fua) lba count
lines_of (commands.Write Twelve lba count fua) = lines_12 0xAA (bit_value 3 fua) lba count
lines_of (commands.Write Sixteen lba count fua) = lines_16 0x8A (bit_value 3 fua) lba count
lines_of (commands.Verify Six lba count compare) = lines_16 0x8F (bit_value 1 compare) lba count
lines_of (commands.Verify Ten lba count compare) = lines_10 0x2F (bit_value 1 compare) lba count
lines_of (commands.Verify Twelve lba count compare) = lines_12 0xAF (bit_value 1 compare) lba count
lines_of (commands.Verify Sixteen lba count compare) = lines_16 0x8F (bit_value 1 compare) lba count
lines_of (commands.Flush Six lba count) = lines_16 0x91 0 lba count
lines_of (commands.Flush Ten lba count) = lines_10 0x35 0 lba count
lines_of (commands.Flush Twelve lba count) = lines_16 0x91 0 lba count
lines_of (commands.Flush Sixteen lba count) = lines_16 0x91 0 lba count
lines_of (commands.WriteSame Six lba count unmap) = lines_16 0x93 (bit_value 3 unmap) lba count
lines_of (commands.WriteSame Ten lba count unmap) = lines_10 0x41 (bit_value 3 unmap) lba count
lines_of (commands.WriteSame Twelve lba count unmap) = lines_16 0x93 (bit_value 3 unmap) lba count
lines_of (commands.WriteSame Sixteen lba count unmap) = lines_16 0x93 (bit_value 3 unmap) lba count
lines_of (commands.Unmap length) = byte 0 0x42 ∷ number 7 8 length ∷ []
lines_of (commands.Pass cdb) = text 0 cdb ∷ []

-- the 16 bytes of a command
unfoldable pub cdb_bytes : Command → List ℕ
cdb_bytes command = laid 16 (lines_of command)
