-- The limits of what the table gives: each number fits its field and the rules.
use Rattle.std.proofs.Common.{◌≡◌, ℕ, zero, suc, ◌+◌, ◌*◌, ◌/◌, ◌%◌, ◌^◌, ◌<◌, ◌≤◌, Bool, true, false, List, [], ◌∷◌, Option, Some, None, Ok, Err, eqb, cond, refl, arith, inl, inr, subst}
use Rattle.std.proofs.lemmas.Bool.{cases_lt, ne_eqb, ltb-false, eqb-true, not-false}
use Rattle.std.proofs.Math.Nat.{mod-lt}
use Rattle.std.specs.Prelude.{◌==◌, nat_lt, not, slice_index}
use Rattle.std.specs.List.{AllByRecursion, find}
use Rattle.std.specs.Option.{option_map, option_map_or}
use Rattle.byteorder.specs.Numbers.{big_from-lt}
use Rattle.satl_base.specs.Fields.{bytes, bits, bit, IsBytes}
use Rattle.satl_base.specs.Lists.{is_in}
use Rattle.satl_cdb.specs.declared.command.Form.{Form}
use Rattle.satl_cdb.specs.declared.command.Form.TheVariants.{Six, Ten, Twelve, Sixteen}
use Rattle.satl_cdb.specs.declared.command.Command.{Command}
use Rattle.satl_cdb.specs.declared.command.Command.TheVariants as commands
use Rattle.satl_cdb.specs.Rows.{Rule, Row, broken_rule, unless_broken, format_says, format_of, found_says}
use Rattle.satl_cdb.specs.PrimaryCommands.{inquiry, mode_sense, report_luns, vital_pages, mode_pages}
use Rattle.satl_cdb.specs.BlockCommands.{six, ten, twelve, sixteen, verify, write_same}
use Rattle.satl_cdb.specs.Spelling.{cdb_bytes}
use Rattle.satl_cdb.specs.Table.{says, table, pass_through_12, pass_through_16}

abbrev pub FitsTransfer : Form → ℕ → ℕ → Bool → Type 0
FitsTransfer Six lba count fua = (lba < 2 ^ 21) × (0 < count) × (count ≤ 256) × (fua ≡ false)
FitsTransfer Ten lba count fua = (lba < 2 ^ 32) × (count ≤ 4096)
FitsTransfer Twelve lba count fua = (lba < 2 ^ 32) × (count ≤ 4096)
FitsTransfer Sixteen lba count fua = (lba < 2 ^ 64) × (count ≤ 4096)

abbrev pub verify_limit : Bool → ℕ
verify_limit false = 65536
verify_limit true = 4096

abbrev pub FitsVerify : Form → ℕ → ℕ → ℕ → Type 0
FitsVerify Six limit lba count = ⊥
FitsVerify Ten limit lba count = (lba < 2 ^ 32) × (count < 2 ^ 16) × (count ≤ limit)
FitsVerify Twelve limit lba count = (lba < 2 ^ 32) × (count < 2 ^ 32) × (count ≤ limit)
FitsVerify Sixteen limit lba count = (lba < 2 ^ 64) × (count < 2 ^ 32) × (count ≤ limit)

abbrev pub FitsFlush : Form → ℕ → ℕ → Type 0
FitsFlush Six lba count = ⊥
FitsFlush Ten lba count = (lba < 2 ^ 32) × (count < 2 ^ 16)
FitsFlush Twelve lba count = ⊥
FitsFlush Sixteen lba count = (lba < 2 ^ 64) × (count < 2 ^ 32)

abbrev pub FitsWriteSame : Form → ℕ → ℕ → Type 0
FitsWriteSame Six lba count = ⊥
FitsWriteSame Ten lba count = (lba < 2 ^ 32) × (0 < count) × (count < 2 ^ 16) × (count ≤ 65536)
FitsWriteSame Twelve lba count = ⊥
FitsWriteSame Sixteen lba count = (lba < 2 ^ 64) × (0 < count) × (count < 2 ^ 32) × (count ≤ 65536)

abbrev pub FitsPage : Option ℕ → Type 0
FitsPage None = Unit {0}
FitsPage (Some page) = is_in page vital_pages ≡ true

abbrev pub length_limit : Bool → ℕ
length_limit false = 2 ^ 8
length_limit true = 2 ^ 16

abbrev pub FitsModeSense : Bool → Bool → ℕ → ℕ → ℕ → Type 0
FitsModeSense ten long_lba control page alloc =
    (control < 4) × (page < 64) × (alloc < length_limit ten) × ((control == 3) ≡ false) × (is_in page mode_pages ≡ true) × (ten ≡ false → long_lba ≡ false)

-- what the table gives
abbrev pub Fits : Command → Type 0
Fits commands.TestUnitReady = Unit {0}
Fits (commands.RequestSense descriptor alloc) = Unit {0}
Fits (commands.Inquiry page alloc) = FitsPage page × (alloc < 2 ^ 16)
Fits (commands.ModeSense ten long_lba no_descriptor control page alloc) = FitsModeSense ten long_lba control page alloc
Fits (commands.ModeSelect ten length) = length < length_limit ten
Fits (commands.StartStop start no_flush) = Unit {0}
Fits commands.ReadCapacity10 = Unit {0}
Fits (commands.ReadCapacity16 alloc) = alloc < 2 ^ 32
Fits (commands.ReportLuns select alloc) = (select ≤ 2) × (alloc < 2 ^ 32)
Fits (commands.Read form lba count fua) = FitsTransfer form lba count fua
Fits (commands.Write form lba count fua) = FitsTransfer form lba count fua
Fits (commands.Verify form lba count compare) = FitsVerify form (verify_limit compare) lba count
Fits (commands.Flush form lba count) = FitsFlush form lba count
Fits (commands.WriteSame form lba count unmap) = FitsWriteSame form lba count
Fits (commands.Unmap length) = length < 2 ^ 16
Fits (commands.Pass cdb) = says (cdb_bytes (commands.Pass cdb)) true ≡ Ok (commands.Pass cdb)

-- no rule is broken
abbrev pub Kept : List Rule → List ℕ → Type 0
Kept [] cdb = Unit {0}
Kept (rule ∷ rules) cdb = (rule.breaks cdb ≡ false) × Kept rules cdb

kept : (rules : List Rule) (cdb : List ℕ) (c d : Command) → unless_broken rules cdb c ≡ Ok d → (c ≡ d) × Kept rules cdb
kept [] cdb c d e = (cc, tt)
kept (rule ∷ rules) cdb c d e =
    (elim (rule.breaks cdb) as (λ b. option_map_or (λ (r : Rule). Err r.refusal) (cond b (Some rule) (broken_rule rules cdb)) (Ok c) ≡ Ok d → (c ≡ d) × ((b ≡ false) × Kept rules cdb)) [
      | true ↦ λ f. absurd cc
      | false ↦ λ f. let k = kept rules cdb c d f in (k.0, (refl, k.1))
    ]) e

-- a row's command fits where no rule of the row is broken
abbrev pub RowFits : List ℕ → Row → Type 0
RowFits cdb row = slice_index cdb 0 ≡ row.code → Kept row.format.rules cdb → Fits (row.format.command cdb)

fits_row : (row : Row) (cdb : List ℕ) (c : Command) → RowFits cdb row → slice_index cdb 0 ≡ row.code → format_says row.format cdb ≡ Ok c → Fits c
fits_row row cdb c f code e = let k = kept row.format.rules cdb (row.format.command cdb) c e in subst Fits k.0 (f code k.1)

found_fits : (cdb : List ℕ) (c : Command) (rows : List Row) → AllByRecursion (RowFits cdb) rows → found_says (format_of rows (slice_index cdb 0)) cdb ≡ Ok c → Fits c
found_fits cdb c [] h e = absurd cc
found_fits cdb c (row ∷ rows) h e =
    (elim (eqb (slice_index cdb 0) row.code) as (λ b. (slice_index cdb 0 == row.code) ≡ b → found_says (option_map (λ (r : Row). r.format) (cond b (Some row) (find (λ (r : Row). slice_index cdb 0 == r.code) rows))) cdb ≡ Ok c → Fits c) [
      | true ↦ λ is f. fits_row row cdb c h.0 (eqb-true _ _ is) f
      | false ↦ λ is f. found_fits cdb c rows h.1 f
    ]) refl e

lba_six : (cdb : List ℕ) → IsBytes cdb → six.lba cdb < 2 ^ 21
lba_six cdb b =
    let h = b 2 in
    let k = b 3 in
    let m : slice_index cdb 1 / 1 % 32 < 32 = mod-lt (slice_index cdb 1 / 1) (omega arith) in
    omega arith

byte_fits : (i : ℕ) (cdb : List ℕ) → IsBytes cdb → slice_index cdb i * 1 + 0 < 256
byte_fits i cdb b = let h = b i in omega arith

or_256_low : (n : ℕ) → 0 < cond (n == 0) 256 n
or_256_low n = elim (cases_lt 0 n) [ inl lt ↦ rw (ne_eqb n 0 (λ q. omega arith)) lt | inr le ↦ let e : n ≡ 0 = omega arith in rw e (omega arith) ]

or_256_high : (n : ℕ) → n < 256 → cond (n == 0) 256 n ≤ 256
or_256_high n h = elim (cases_lt 0 n) [ inl lt ↦ rw (ne_eqb n 0 (λ q. omega arith)) (omega arith) | inr le ↦ let e : n ≡ 0 = omega arith in rw e (omega arith) ]

short_fits : (cdb : List ℕ) → IsBytes cdb → FitsTransfer Six (six.lba cdb) (six.count cdb) false
short_fits cdb b = (lba_six cdb b, or_256_low (bytes 4 4 cdb), or_256_high (bytes 4 4 cdb) (byte_fits 4 cdb b), refl)

ten_fits : (cdb : List ℕ) (fua : Bool) → IsBytes cdb → nat_lt 4096 (ten.count cdb) ≡ false → FitsTransfer Ten (ten.lba cdb) (ten.count cdb) fua
ten_fits cdb fua b k = (big_from-lt 2 4 cdb b, ltb-false _ _ k)

twelve_fits : (cdb : List ℕ) (fua : Bool) → IsBytes cdb → nat_lt 4096 (twelve.count cdb) ≡ false → FitsTransfer Twelve (twelve.lba cdb) (twelve.count cdb) fua
twelve_fits cdb fua b k = (big_from-lt 2 4 cdb b, ltb-false _ _ k)

sixteen_fits : (cdb : List ℕ) (fua : Bool) → IsBytes cdb → nat_lt 4096 (sixteen.count cdb) ≡ false → FitsTransfer Sixteen (sixteen.lba cdb) (sixteen.count cdb) fua
sixteen_fits cdb fua b k = (big_from-lt 2 8 cdb b, ltb-false _ _ k)

-- BYTCHK is 0 or 1, and the count is within its limit
check_fits : (check count : ℕ) → nat_lt 1 check ≡ false → nat_lt (cond (check == 0) 65536 4096) count ≡ false → count ≤ verify_limit (check == 1)
check_fits zero count low e = ltb-false _ _ e
check_fits (suc zero) count low e = ltb-false _ _ e
check_fits (suc (suc n)) count low e = let l : suc (suc n) ≤ 1 = ltb-false _ _ low in absurd (omega arith)

verify_10 : (cdb : List ℕ) → IsBytes cdb → Kept (verify ten).rules cdb → FitsVerify Ten (verify_limit (bits 1 2 1 cdb == 1)) (ten.lba cdb) (ten.count cdb)
verify_10 cdb b k = (big_from-lt 2 4 cdb b, big_from-lt 7 2 cdb b, check_fits (bits 1 2 1 cdb) (ten.count cdb) k.1.0 k.1.1.0)

verify_12 : (cdb : List ℕ) → IsBytes cdb → Kept (verify twelve).rules cdb → FitsVerify Twelve (verify_limit (bits 1 2 1 cdb == 1)) (twelve.lba cdb) (twelve.count cdb)
verify_12 cdb b k = (big_from-lt 2 4 cdb b, big_from-lt 6 4 cdb b, check_fits (bits 1 2 1 cdb) (twelve.count cdb) k.1.0 k.1.1.0)

verify_16 : (cdb : List ℕ) → IsBytes cdb → Kept (verify sixteen).rules cdb → FitsVerify Sixteen (verify_limit (bits 1 2 1 cdb == 1)) (sixteen.lba cdb) (sixteen.count cdb)
verify_16 cdb b k = (big_from-lt 2 8 cdb b, big_from-lt 10 4 cdb b, check_fits (bits 1 2 1 cdb) (sixteen.count cdb) k.1.0 k.1.1.0)

above_zero : (n : ℕ) → (n == 0) ≡ false → 0 < n
above_zero zero e = absurd cc
above_zero (suc n) e = omega arith

same_10 : (cdb : List ℕ) (trim : Bool) → IsBytes cdb → Kept (write_same trim ten).rules cdb → FitsWriteSame Ten (ten.lba cdb) (ten.count cdb)
same_10 cdb trim b k = (big_from-lt 2 4 cdb b, above_zero _ k.1.1.1.1.0, big_from-lt 7 2 cdb b, ltb-false _ _ k.1.1.1.1.1.0)

same_16 : (cdb : List ℕ) (trim : Bool) → IsBytes cdb → Kept (write_same trim sixteen).rules cdb → FitsWriteSame Sixteen (sixteen.lba cdb) (sixteen.count cdb)
same_16 cdb trim b k = (big_from-lt 2 8 cdb b, above_zero _ k.1.1.1.1.0, big_from-lt 10 4 cdb b, ltb-false _ _ k.1.1.1.1.1.0)

page_fits : (evpd : Bool) (page : ℕ) → not (is_in page (cond evpd vital_pages (0x00 ∷ []))) ≡ false → FitsPage (cond evpd (Some page) None)
page_fits true page e = not-false _ e
page_fits false page e = tt

inquiry_fits : (cdb : List ℕ) → IsBytes cdb → Kept inquiry.rules cdb → Fits (inquiry.command cdb)
inquiry_fits cdb b k = (page_fits (bit 1 0 cdb) (bytes 2 2 cdb) k.0, big_from-lt 3 2 cdb b)

sense_6 : (cdb : List ℕ) → IsBytes cdb → Kept (mode_sense false).rules cdb → Fits ((mode_sense false).command cdb)
sense_6 cdb b k = (mod-lt (slice_index cdb 2 / 64) (omega arith), mod-lt (slice_index cdb 2 / 1) (omega arith), byte_fits 4 cdb b, k.0, not-false _ k.1.0, λ e. refl)

sense_10 : (cdb : List ℕ) → IsBytes cdb → Kept (mode_sense true).rules cdb → Fits ((mode_sense true).command cdb)
sense_10 cdb b k = (mod-lt (slice_index cdb 2 / 64) (omega arith), mod-lt (slice_index cdb 2 / 1) (omega arith), big_from-lt 7 2 cdb b, k.0, not-false _ k.1.0, λ e. absurd cc)

luns_fits : (cdb : List ℕ) → IsBytes cdb → Kept report_luns.rules cdb → Fits (report_luns.command cdb)
luns_fits cdb b k = (ltb-false _ _ k.0, big_from-lt 6 4 cdb b)

pass_16_fits : (cdb : List ℕ) → slice_index cdb 0 ≡ 0x85 → Fits (pass_through_16.command cdb)
unfolding says cdb_bytes
pass_16_fits cdb is = rw is refl

pass_12_fits : (cdb : List ℕ) → slice_index cdb 0 ≡ 0xA1 → Fits (pass_through_12.command cdb)
unfolding says cdb_bytes
pass_12_fits cdb is = let e : slice_index cdb 1 / 2 % 128 * 2 / 2 % 128 * 2 ≡ slice_index cdb 1 / 2 % 128 * 2 = omega arith in rw (is, e) refl

rows_fit : (cdb : List ℕ) (trim : Bool) → IsBytes cdb → AllByRecursion (RowFits cdb) (table trim)
rows_fit cdb trim b = (
  λ is k. tt,
  (
    λ is k. tt,
    (
      λ is k. short_fits cdb b,
      (
        λ is k. short_fits cdb b,
        (
          λ is k. inquiry_fits cdb b k,
          (
            λ is k. byte_fits 4 cdb b,
            (
              λ is k. sense_6 cdb b k,
              (
                λ is k. tt,
                (
                  λ is k. tt,
                  (
                    λ is k. ten_fits cdb (bit 1 3 cdb) b k.1.0,
                    (
                      λ is k. ten_fits cdb (bit 1 3 cdb) b k.1.0,
                      (
                        λ is k. verify_10 cdb b k,
                        (
                          λ is k. (big_from-lt 2 4 cdb b, big_from-lt 7 2 cdb b),
                          (
                            λ is k. same_10 cdb trim b k,
                            (
                              λ is k. big_from-lt 7 2 cdb b,
                              (
                                λ is k. big_from-lt 7 2 cdb b,
                                (
                                  λ is k. sense_10 cdb b k,
                                  (
                                    λ is k. pass_16_fits cdb is,
                                    (
                                      λ is k. sixteen_fits cdb (bit 1 3 cdb) b k.1.0,
                                      (
                                        λ is k. sixteen_fits cdb (bit 1 3 cdb) b k.1.0,
                                        (
                                          λ is k. verify_16 cdb b k,
                                          (
                                            λ is k. (big_from-lt 2 8 cdb b, big_from-lt 10 4 cdb b),
                                            (
                                              λ is k. same_16 cdb trim b k,
                                              (
                                                λ is k. big_from-lt 10 4 cdb b,
                                                (
                                                  λ is k. luns_fits cdb b k,
                                                  (
                                                    λ is k. pass_12_fits cdb is,
                                                    (λ is k. twelve_fits cdb (bit 1 3 cdb) b k.1.0, (λ is k. twelve_fits cdb (bit 1 3 cdb) b k.1.0, (λ is k. verify_12 cdb b k, tt))),
                                                  ),
                                                ),
                                              ),
                                            ),
                                          ),
                                        ),
                                      ),
                                    ),
                                  ),
                                ),
                              ),
                            ),
                          ),
                        ),
                      ),
                    ),
                  ),
                ),
              ),
            ),
          ),
        ),
      ),
    ),
  ),
)

pub given_fits : (cdb : List ℕ) (trim : Bool) (c : Command) → IsBytes cdb → says cdb trim ≡ Ok c → Fits c
unfolding says
given_fits cdb trim c b e = found_fits cdb c (table trim) (rows_fit cdb trim b) e
