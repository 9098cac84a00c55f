-- What is known of a command by the bytes of its CDB.
use Rattle.std.proofs.Common.{◌≡◌, refl, subst, arith, cond, ℕ, ◌<◌, ◌≤◌, Bool, true, false, List, [], ◌∷◌}
use Rattle.std.specs.Prelude.{Some, Ok, Err, ◌==◌, nat_lt, slice_index}
use Rattle.std.specs.List.{AllByRecursion, find}
use Rattle.std.specs.Option.{option_map, option_map_or}
use Rattle.std.proofs.lemmas.Bool.{eqb-false, eqb-true, ltb-false, not-false}
use Rattle.satl_base.specs.Fields.{bit, bits, bytes}
use Rattle.satl_cdb.specs.declared.command.Command.{Command}
use Rattle.satl_cdb.specs.declared.command.Command.TheVariants as cdbs
use Rattle.satl_cdb.specs.Rows.{Format, Row, Rule, broken_rule, found_says, format_of, format_says, never, unless_broken}
use Rattle.satl_cdb.specs.BlockCommands.{Layout, read, read_6, read_capacity_10, read_capacity_16, six, sixteen, start_stop, synchronize_cache, ten, transfer_rules, twelve, unmap, verify, write, write_6, write_same}
use Rattle.satl_cdb.specs.PrimaryCommands.{inquiry, mode_length, mode_select, mode_sense, report_luns, request_sense, test_unit_ready}
use Rattle.satl_cdb.specs.Table.{pass_through_12, pass_through_16, says, table}
use Rattle.satl_asks.proofs.Passing.{unbroken}
use Rattle.satl_core.specs.Submitting.{HasLengths}

-- what is known of a command by its bytes: how many blocks it may go over, that a parameter list has fewer than 65,536 bytes,
-- and that it trims on a drive with trim alone
abbrev pub IsSaid : List ℕ → Bool → Command → Type 0
IsSaid cdb trim (cdbs.Read form lba count fua) = slice_index cdb 4 < 256 → count ≤ 4096
IsSaid cdb trim (cdbs.Write form lba count fua) = slice_index cdb 4 < 256 → count ≤ 4096
IsSaid cdb trim (cdbs.RequestSense descriptor alloc) = slice_index cdb 0 ≡ 0x03
IsSaid cdb trim (cdbs.ModeSelect is_ten size) = HasLengths cdb → size < 65536
IsSaid cdb trim (cdbs.Verify form lba count false) = count ≤ 65536
IsSaid cdb trim (cdbs.Verify form lba count true) = count ≤ 4096
IsSaid cdb trim (cdbs.WriteSame form lba count unmap) = (1 ≤ count) × (count ≤ 65536) × (unmap ≡ true → trim ≡ true)
IsSaid cdb trim (cdbs.Unmap size) = (HasLengths cdb → size < 65536) × (trim ≡ true)
IsSaid cdb trim _ = Unit {0}

-- no rule is broken
pub rules_kept : (rules : List Rule) (cdb : List ℕ) (c d : Command) → unless_broken rules cdb c ≡ Ok d → AllByRecursion (λ (rule : Rule). rule.breaks cdb ≡ false) rules
rules_kept [] cdb c d e = tt
rules_kept (rule ∷ rules) cdb c d e =
    (elim (rule.breaks cdb) as (λ b. rule.breaks cdb ≡ b → option_map_or (λ (r : Rule). Err r.refusal) (cond b (Some rule) (broken_rule rules cdb)) (Ok c) ≡ Ok d → AllByRecursion (λ (rule : Rule). rule.breaks cdb ≡ false) (rule ∷ rules)) [
      | true ↦ λ is f. absurd cc
      | false ↦ λ is f. (is, rules_kept rules cdb c d f)
    ]) refl e

-- a transfer's rules are kept
of_rules : (long : Layout) (cdb : List ℕ) (c d : Command) → unless_broken (transfer_rules long) cdb c ≡ Ok d → (c ≡ d) × (long.count cdb ≤ 4096)
of_rules long cdb c d e =
    let kept = rules_kept (transfer_rules long) cdb c d e in
    let most = ltb-false 4096 (long.count cdb) kept.1.0 in
    (unbroken (transfer_rules long) cdb c d e, omega (arith, most))

said_read : (long : Layout) (cdb : List ℕ) (trim : Bool) (c : Command) → unless_broken (transfer_rules long) cdb ((read long).command cdb) ≡ Ok c → IsSaid cdb trim c
said_read long cdb trim c e = let r = of_rules long cdb ((read long).command cdb) c e in subst (IsSaid cdb trim) r.0 (λ byte. r.1)

said_write : (long : Layout) (cdb : List ℕ) (trim : Bool) (c : Command) → unless_broken (transfer_rules long) cdb ((write long).command cdb) ≡ Ok c → IsSaid cdb trim c
said_write long cdb trim c e = let r = of_rules long cdb ((write long).command cdb) c e in subst (IsSaid cdb trim) r.0 (λ byte. r.1)

-- a count of six bytes is at most 256
short_few : (n : ℕ) → n < 256 → cond (n == 0) 256 n ≤ 4096
short_few n few = elim (n == 0) as (λ b. cond b 256 n ≤ 4096) [ true ↦ omega arith | false ↦ omega (arith, few) ]

short_count : (cdb : List ℕ) → slice_index cdb 4 < 256 → six.count cdb ≤ 4096
short_count cdb byte = short_few (bytes 4 4 cdb) (omega (arith, byte))

-- a VERIFY goes over at most 65,536 blocks, and at most 4,096 where it compares
verify_most : (mode count : ℕ) → nat_lt (cond (mode == 0) 65536 4096) count ≡ false → (count ≤ 65536) × ((mode == 1) ≡ true → count ≤ 4096)
verify_most mode count kept =
    (elim (mode == 0) as (λ b. (mode == 0) ≡ b → nat_lt (cond b 65536 4096) count ≡ false → (count ≤ 65536) × ((mode == 1) ≡ true → count ≤ 4096)) [
      | true ↦ λ none kept. let most = ltb-false 65536 count kept in (omega (arith, most), λ one. let zero = eqb-true mode 0 none in let one = eqb-true mode 1 one in absurd (omega (arith, zero, one)))
      | false ↦ λ some kept. let most = ltb-false 4096 count kept in (omega (arith, most), λ one. omega (arith, most))
    ]) refl kept

said_verify : (long : Layout) (cdb : List ℕ) (trim : Bool) (c : Command) → unless_broken (verify long).rules cdb ((verify long).command cdb) ≡ Ok c → IsSaid cdb trim c
said_verify long cdb trim c e =
    let kept = rules_kept (verify long).rules cdb ((verify long).command cdb) c e in
    let most = verify_most (bits 1 2 1 cdb) (long.count cdb) kept.1.1.0 in
    subst (IsSaid cdb trim) (unbroken (verify long).rules cdb ((verify long).command cdb) c e)
    ((elim (bits 1 2 1 cdb == 1) as (λ b. (bits 1 2 1 cdb == 1) ≡ b → IsSaid cdb trim (cdbs.Verify long.form (long.lba cdb) (long.count cdb) b)) [ true ↦ λ is. most.1 is | false ↦ λ is. most.0 ]) refl)

said_same : (long : Layout) (cdb : List ℕ) (trim : Bool) (c : Command) → unless_broken (write_same trim long).rules cdb ((write_same trim long).command cdb) ≡ Ok c → IsSaid cdb trim c
said_same long cdb trim c e =
    let kept = rules_kept (write_same trim long).rules cdb ((write_same trim long).command cdb) c e in
    let some = eqb-false (long.count cdb) 0 kept.1.1.1.1.0 in
    let most = ltb-false 65536 (long.count cdb) kept.1.1.1.1.1.0 in
    subst (IsSaid cdb trim) (unbroken (write_same trim long).rules cdb ((write_same trim long).command cdb) c e)
    (omega (arith, some), omega (arith, most), trims trim kept.1.1.1.0)
  where
    trims : (trim : Bool) → (cond trim never (bit 1 3)) cdb ≡ false → bit 1 3 cdb ≡ true → trim ≡ true
    trims true kept is = refl
    trims false kept is = absurd cc

said_unmap : (cdb : List ℕ) (trim : Bool) (c : Command) → unless_broken (unmap trim).rules cdb ((unmap trim).command cdb) ≡ Ok c → IsSaid cdb trim c
said_unmap cdb trim c e =
    let kept = rules_kept (unmap trim).rules cdb ((unmap trim).command cdb) c e in
    subst (IsSaid cdb trim) (unbroken (unmap trim).rules cdb ((unmap trim).command cdb) c e) (λ bytes. omega (arith, bytes.1, bytes.2), not-false trim kept.0)

-- what holds of each row of a table holds of what the table says
said_in : (cdb : List ℕ) (trim : Bool) (c : Command) (rows : List Row) → AllByRecursion (λ (r : Row). slice_index cdb 0 ≡ r.code → format_says r.format cdb ≡ Ok c → IsSaid cdb trim c) rows
    → found_says (format_of rows (slice_index cdb 0)) cdb ≡ Ok c → IsSaid cdb trim c
said_in cdb trim c [] all e = absurd cc
said_in cdb trim c (r ∷ rows) all e =
    (elim (slice_index cdb 0 == r.code) as (λ b. (slice_index cdb 0 == r.code) ≡ b → found_says (option_map (λ (r : Row). r.format) (cond b (Some r) (find (λ (r : Row). slice_index cdb 0 == r.code) rows))) cdb ≡ Ok c → IsSaid cdb trim c) [
      | true ↦ λ is f. all.0 (eqb-true (slice_index cdb 0) r.code is) f
      | false ↦ λ is f. said_in cdb trim c rows all.1 f
    ]) refl e

-- a format without rules
bare_said : (format : Format) (cdb : List ℕ) (trim : Bool) (c : Command) → format_says format cdb ≡ Ok c → IsSaid cdb trim (format.command cdb) → IsSaid cdb trim c
bare_said format cdb trim c e = subst (IsSaid cdb trim) (unbroken format.rules cdb (format.command cdb) c e)

select_short : (is_ten : Bool) (cdb : List ℕ) → HasLengths cdb → mode_length is_ten cdb < 65536
select_short true cdb bytes = omega (arith, bytes.1, bytes.2)
select_short false cdb bytes = omega (arith, bytes.0)

-- each row of the table
said_by : (cdb : List ℕ) (trim : Bool) (c : Command) → AllByRecursion (λ (r : Row). slice_index cdb 0 ≡ r.code → format_says r.format cdb ≡ Ok c → IsSaid cdb trim c) (table trim)
said_by cdb trim c = (
  λ is e. bare_said test_unit_ready cdb trim c e tt,
  (
    λ is e. bare_said request_sense cdb trim c e is,
    (
      λ is e. bare_said read_6 cdb trim c e (short_count cdb),
      (
        λ is e. bare_said write_6 cdb trim c e (short_count cdb),
        (
          λ is e. bare_said inquiry cdb trim c e tt,
          (
            λ is e. bare_said (mode_select false) cdb trim c e (select_short false cdb),
            (
              λ is e. bare_said (mode_sense false) cdb trim c e tt,
              (
                λ is e. bare_said start_stop cdb trim c e tt,
                (
                  λ is e. bare_said read_capacity_10 cdb trim c e tt,
                  (
                    λ is e. said_read ten cdb trim c e,
                    (
                      λ is e. said_write ten cdb trim c e,
                      (
                        λ is e. said_verify ten cdb trim c e,
                        (
                          λ is e. bare_said (synchronize_cache ten) cdb trim c e tt,
                          (
                            λ is e. said_same ten cdb trim c e,
                            (
                              λ is e. said_unmap cdb trim c e,
                              (
                                λ is e. bare_said (mode_select true) cdb trim c e (select_short true cdb),
                                (
                                  λ is e. bare_said (mode_sense true) cdb trim c e tt,
                                  (
                                    λ is e. bare_said pass_through_16 cdb trim c e tt,
                                    (
                                      λ is e. said_read sixteen cdb trim c e,
                                      (
                                        λ is e. said_write sixteen cdb trim c e,
                                        (
                                          λ is e. said_verify sixteen cdb trim c e,
                                          (
                                            λ is e. bare_said (synchronize_cache sixteen) cdb trim c e tt,
                                            (
                                              λ is e. said_same sixteen cdb trim c e,
                                              (
                                                λ is e. bare_said read_capacity_16 cdb trim c e tt,
                                                (
                                                  λ is e. bare_said report_luns cdb trim c e tt,
                                                  (
                                                    λ is e. bare_said pass_through_12 cdb trim c e tt,
                                                    (
                                                      λ is e. said_read twelve cdb trim c e,
                                                      (
                                                        λ is e. said_write twelve cdb trim c e,
                                                        (
                                                          λ is e. said_verify twelve cdb trim c e,
                                                          tt,
                                                        ),
                                                      ),
                                                    ),
                                                  ),
                                                ),
                                              ),
                                            ),
                                          ),
                                        ),
                                      ),
                                    ),
                                  ),
                                ),
                              ),
                            ),
                          ),
                        ),
                      ),
                    ),
                  ),
                ),
              ),
            ),
          ),
        ),
      ),
    ),
  ),
)

-- what the table says of a CDB
pub said_of : (cdb : List ℕ) (trim : Bool) (c : Command) → says cdb trim ≡ Ok c → IsSaid cdb trim c
unfolding says
said_of cdb trim c e = said_in cdb trim c (table trim) (said_by cdb trim c) e
