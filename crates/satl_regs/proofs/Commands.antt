-- The registers of a command are read as that command.
use Rattle.std.proofs.Common.{◌≡◌, ℕ, ◌+◌, ◌*◌, ◌/◌, ◌%◌, ◌^◌, ◌<◌, ◌≤◌, ◌&&◌, true, false, cond, List, [], ◌∷◌, Option, Some, None, is_some, refl, ap, arith, eqb, inl, inr}
use Rattle.std.specs.Prelude.{IsNone}
use Rattle.std.proofs.lemmas.Bool.{cases_lt, ne_eqb}
use Rattle.satl_regs.specs.declared.values.Registers.{Registers}
use Rattle.satl_regs.specs.declared.values.How.{How}
use Rattle.satl_regs.specs.declared.values.How.TheVariants.{Pio, PioExt, Dma, DmaExt}
use Rattle.satl_regs.specs.declared.values.AtaCommand.{AtaCommand}
use Rattle.satl_regs.specs.declared.values.AtaCommand.TheVariants as commands
use Rattle.satl_regs.specs.Fields.{count_8, count_16}
use Rattle.satl_regs.specs.Commands.{CommandRow, command_rows, first_row, command_row, command_by, command_in}
use Rattle.satl_regs.specs.Spelling.{command_registers, plain_registers, CommandFits}

-- fields are read back
count_8_back : (n : ℕ) → 1 ≤ n → n ≤ 256 → count_8 (n / 1 % 256) ≡ n
count_8_back n low high =
    elim (cases_lt n 256) [
      | inl lt ↦ let e : n / 1 % 256 / 1 % 256 ≡ n = omega arith in rw (e, ne_eqb n 0 (λ q. omega arith)) refl
      | inr ge ↦ let e : n ≡ 256 = omega arith in rw e refl
    ]

count_16_back : (n : ℕ) → 1 ≤ n → n ≤ 65536 → count_16 (n / 1 % 65536) ≡ n
count_16_back n low high =
    elim (cases_lt n 65536) [
      | inl lt ↦ let e : n / 1 % 65536 ≡ n = omega arith in rw (e, ne_eqb n 0 (λ q. omega arith)) refl
      | inr ge ↦ let e : n ≡ 65536 = omega arith in rw e refl
    ]

lba_28_back : (n : ℕ) → n < 2 ^ 28 → n / 1 % 16777216 / 1 % 16777216 + (64 + n / 16777216 % 16) / 1 % 16 * 16777216 ≡ n
lba_28_back n h = omega arith

lba_48_back : (n : ℕ) → n < 2 ^ 48 → n / 1 % 281474976710656 ≡ n
lba_48_back n h = omega arith

log_low : (log page : ℕ) → log < 256 → page < 65536 → (log + page / 1 % 256 * 256 + page / 256 % 256 * 4294967296) / 1 % 256 ≡ log
log_low log page h k = omega arith

page_back : (log page : ℕ) → log < 256 → page < 65536 → (log + page / 1 % 256 * 256 + page / 256 % 256 * 4294967296) / 256 % 256 + (log + page / 1 % 256 * 256 + page / 256 % 256 * 4294967296) / 4294967296 % 256 * 256 ≡ page
page_back log page h k = omega arith

-- no row gives `Other`
abbrev AreNamed : List CommandRow → Registers → Type 0
AreNamed [] r = Unit {0}
AreNamed (row ∷ rows) r = ((code : ℕ) → row.command r ≡ commands.Other code → ⊥) × AreNamed rows r

table_named : (r : Registers) → AreNamed command_rows r
table_named r = (λ n e. cc, (λ n e. cc, (λ n e. cc, (λ n e. cc, (λ n e. cc, (λ n e. cc, (λ n e. cc, (λ n e. cc, (λ n e. cc, (λ n e. cc, (λ n e. cc, (λ n e. cc, (λ n e. cc, (λ n e. cc, (λ n e. cc, (λ n e. cc, (λ n e. cc, (λ n e. cc, (λ n e. cc, (λ n e. cc, tt))))))))))))))))))))

row_is_named : (rows : List CommandRow) (r : Registers) (code : ℕ) → AreNamed rows r → command_by (first_row rows r) r ≡ commands.Other code → first_row rows r ≡ None
row_is_named [] r code named e = refl
row_is_named (row ∷ rows) r code named e =
    (elim (eqb r.command row.code && row.needs r) as (λ b. command_by (cond b (Some row) (first_row rows r)) r ≡ commands.Other code → cond b (Some row) (first_row rows r) ≡ None) [
      | true ↦ λ f. absurd (named.0 code f)
      | false ↦ λ f. row_is_named rows r code named.1 f
    ]) e

-- a command is `Other` exactly where the table has no row
pub other_has_no_row : (r : Registers) → command_in r ≡ commands.Other r.command → IsNone (command_row r)
unfolding command_in command_row
other_has_no_row r e = ap is_some (row_is_named command_rows r r.command (table_named r) e)

without_row : (row : Option CommandRow) (r : Registers) → IsNone row → command_by row r ≡ commands.Other r.command
without_row None r e = refl
without_row (Some row) r e = absurd cc

pub no_row_is_other : (r : Registers) → IsNone (command_row r) → command_in r ≡ commands.Other r.command
unfolding command_in
no_row_is_other r e = without_row (command_row r) r e

abbrev IsBack : AtaCommand → Type 0
IsBack c = command_in (command_registers c) ≡ c

reads_back : (how : How) (lba sectors : ℕ) → CommandFits (commands.Read how lba sectors) → IsBack (commands.Read how lba sectors)
unfolding command_in command_registers command_row
reads_back Pio lba sectors f = rw (lba_28_back lba f.address, count_8_back sectors f.some f.most) refl
reads_back PioExt lba sectors f = rw (lba_48_back lba f.address, count_16_back sectors f.some f.most) refl
reads_back Dma lba sectors f = rw (lba_28_back lba f.address, count_8_back sectors f.some f.most) refl
reads_back DmaExt lba sectors f = rw (lba_48_back lba f.address, count_16_back sectors f.some f.most) refl

writes_back : (how : How) (lba sectors : ℕ) → CommandFits (commands.Write how lba sectors) → IsBack (commands.Write how lba sectors)
unfolding command_in command_registers command_row
writes_back Pio lba sectors f = rw (lba_28_back lba f.address, count_8_back sectors f.some f.most) refl
writes_back PioExt lba sectors f = rw (lba_48_back lba f.address, count_16_back sectors f.some f.most) refl
writes_back Dma lba sectors f = rw (lba_28_back lba f.address, count_8_back sectors f.some f.most) refl
writes_back DmaExt lba sectors f = rw (lba_48_back lba f.address, count_16_back sectors f.some f.most) refl

other_back : (code : ℕ) → CommandFits (commands.Other code) → IsBack (commands.Other code)
unfolding command_registers
other_back code f = no_row_is_other (plain_registers 0 0 0 code) f

pub command_back : (c : AtaCommand) → CommandFits c → IsBack c
unfolding command_in command_registers command_row
command_back (commands.Read how lba sectors) f = reads_back how lba sectors f
command_back (commands.Write how lba sectors) f = writes_back how lba sectors f
command_back (commands.Verify false lba sectors) f = rw (lba_28_back lba f.address, count_8_back sectors f.some f.most) refl
command_back (commands.Verify true lba sectors) f = rw (lba_48_back lba f.address, count_16_back sectors f.some f.most) refl
command_back (commands.Flush false) f = refl
command_back (commands.Flush true) f = refl
command_back commands.Identify f = refl
command_back (commands.SetFeatures what) f = let e : what / 1 % 256 ≡ what = omega arith in rw e refl
command_back commands.Standby f = refl
command_back commands.Idle f = refl
command_back commands.CheckPower f = refl
command_back (commands.ReadLog log page blocks) f = rw (log_low log page f.0 f.1, page_back log page f.0 f.1, count_16_back blocks f.2.0 f.2.1) refl
command_back (commands.Trim blocks) f = rw (count_16_back blocks f.0 f.1) refl
command_back commands.SmartStatus f = refl
command_back (commands.Other code) f = other_back code f
