-- The fields of ATA PASS-THROUGH (SAT-3 12.2).
use Rattle.std.specs.Prelude.{ℕ, ◌*◌, ◌==◌, not, Bool, false, List, [], ◌∷◌, slice_index, if◌then◌else◌}
use Rattle.byteorder.specs.Endian.{big_number}
use Rattle.satl_base.specs.Fields.{Field, Flag, bits, bit, or_if_zero}
use Rattle.satl_regs.specs.declared.values.Registers.{Registers}
use Rattle.satl_pass.specs.declared.pass.Pass.{Pass}

-- the operation code of the form of 16 bytes
abbrev pub code_16 : ℕ
code_16 = 0x85

-- byte 1: PROTOCOL; byte 2: CK_COND, T_DIR, which is 1 from the drive, BYT_BLOK and T_LENGTH
abbrev pub protocol : Field
protocol = bits 1 4 1

abbrev pub ck_cond : Flag
ck_cond = bit 2 5

abbrev pub t_dir : Flag
t_dir = bit 2 3

abbrev pub byt_blok : Flag
byt_blok = bit 2 2

abbrev pub t_length : Field
t_length = bits 2 1 0

-- EXTEND of the form of 16 bytes
abbrev pub extend_16 : Flag
extend_16 = bit 1 0

-- what differs by the form: EXTEND, where the registers stand, and the byte of COMMAND
pub record PassForm : Type 0 where
  pub extend : Flag
  pub registers : List ℕ → Registers
  pub command_place : ℕ

-- ATA PASS-THROUGH (16): the high bytes of the registers count where EXTEND is 1
abbrev pub high : ℕ → Field
high place cdb = if extend_16 cdb then slice_index cdb place else 0

abbrev pub registers_16 : List ℕ → Registers
registers_16 cdb = record {
  features = big_number 2 (high 3 cdb ∷ slice_index cdb 4 ∷ []);
  count = big_number 2 (high 5 cdb ∷ slice_index cdb 6 ∷ []);
  lba = big_number 6 (high 11 cdb ∷ high 9 cdb ∷ high 7 cdb ∷ slice_index cdb 12 ∷ slice_index cdb 10 ∷ slice_index cdb 8 ∷ []);
  device = slice_index cdb 13;
  command = slice_index cdb 14;
}

abbrev pub form_16 : PassForm
form_16 = record { extend = extend_16; registers = registers_16; command_place = 14 }

-- ATA PASS-THROUGH (12): registers without high bytes, and no EXTEND
abbrev pub registers_12 : List ℕ → Registers
registers_12 cdb = record {
  features = slice_index cdb 3;
  count = slice_index cdb 4;
  lba = big_number 3 (slice_index cdb 7 ∷ slice_index cdb 6 ∷ slice_index cdb 5 ∷ []);
  device = slice_index cdb 8;
  command = slice_index cdb 9;
}

abbrev pub form_12 : PassForm
form_12 = record { extend = λ cdb. false; registers = registers_12; command_place = 9 }

abbrev pub form_of : List ℕ → PassForm
form_of cdb = if slice_index cdb 0 == code_16 then form_16 else form_12

-- COUNT as a number of blocks: 0 counts as 256, or with EXTEND as 65,536 (profile)
abbrev pub blocks_counted : Bool → ℕ → ℕ
blocks_counted extend count = or_if_zero (if extend then 65536 else 256) count

-- FEATURES or COUNT as a transfer length in bytes: BYT_BLOK tells whether it counts blocks of 512 bytes
abbrev pub features_length : Bool → Registers → ℕ
features_length blocks r = if blocks then 512 * r.features else r.features

abbrev pub count_length : Bool → Bool → Registers → ℕ
count_length blocks extend r = if blocks then 512 * blocks_counted extend r.count else r.count

-- the transfer length in bytes, by T_LENGTH: none, in FEATURES or in COUNT (3 is refused)
abbrev pub transfer_length : PassForm → Field
transfer_length form cdb =
    if t_length cdb == 1 then features_length (byt_blok cdb) (form.registers cdb)
    else if t_length cdb == 2 then count_length (byt_blok cdb) (form.extend cdb) (form.registers cdb)
    else 0

-- what the fields say, in a form
abbrev pub pass_in : PassForm → List ℕ → Pass
pass_in form cdb = record {
  protocol = protocol cdb;
  extend = form.extend cdb;
  ck_cond = ck_cond cdb;
  out = not (t_dir cdb);
  length = transfer_length form cdb;
  regs = form.registers cdb;
}
