-- A log is read as its entry.
use Rattle.std.proofs.Common.{◌≡◌, ℕ, ◌-◌, ◌/◌, ◌%◌, ◌^◌, ◌<◌, List, [], ◌∷◌, length, set, refl, ◌∙◌, arith, eqb, false, get_or-set_other}
use Rattle.std.specs.Prelude.{sum, slice_index, Ok, replicate}
use Rattle.std.specs.Int.{byte_at, w16, from_be_bytes}
use Rattle.std.proofs.Math.ListN.{get_or-append}
use Rattle.std.proofs.lemmas.Bool.{ne_eqb}
use Rattle.std.proofs.lemmas.List.Sums.{sum_by-set}
use Rattle.satl_base.specs.Identify.{checksum, checksum_byte}
use Rattle.satl_base.specs.Places.{laid}
use Rattle.satl_base.proofs.FieldsLemmas.{back_6}
use Rattle.satl_errlog.specs.declared.entry.NcqError.{NcqError}
use Rattle.satl_errlog.specs.Log.{fields, without_checksum, log_of, log_says}

checksum_set : (d : List ℕ) (i : ℕ) → i < length d → slice_index d i ≡ 0 → checksum (set d i (checksum_byte d)) ≡ 0
unfolding checksum
checksum_set d i h z =
    let s = sum_by-set (λ (x : ℕ). x) d i ((256 - sum d % 256) % 256) 0 h in
    omega (arith, s, z)

long : (e : NcqError) → length (without_checksum e) ≡ 512
unfolding without_checksum
long e = refl

last : (e : NcqError) → slice_index (without_checksum e) 511 ≡ 0
unfolding without_checksum
last e = refl

pub checksum-log : (e : NcqError) → checksum (log_of e) ≡ 0
checksum-log e = checksum_set (without_checksum e) 511 (omega (arith, long e)) (last e)

at : (e : NcqError) (j : ℕ) → j < 17 → slice_index (log_of e) j ≡ slice_index (laid 17 (fields e)) j
unfolding without_checksum
at e j h =
    get_or-set_other (without_checksum e) 511 j (checksum_byte (without_checksum e)) 0 (omega (arith, h))
    ∙ get_or-append (laid 17 (fields e)) (replicate 495 0) 0 j h

count_back : (n : ℕ) → n < 2 ^ 16 → from_be_bytes w16 (byte_at 1 n ∷ byte_at 0 n ∷ []) ≡ n
count_back n h = omega arith

tag_back : (n : ℕ) → n < 32 → n / 1 % 32 / 1 % 32 ≡ n
tag_back n h = omega arith

queued : (n : ℕ) → eqb (n / 1 % 32 / 128 % 2) 1 ≡ false
queued n = ne_eqb (n / 1 % 32 / 128 % 2) 1 (λ e. omega arith)

pub log_back : (e : NcqError) → e.tag < 32 → e.lba < 2 ^ 48 → e.count < 2 ^ 16 → log_says (log_of e) ≡ Ok e
log_back e tag lba count =
    rw (
      checksum-log e,
      at e 0 (omega arith),
      at e 2 (omega arith),
      at e 3 (omega arith),
      at e 4 (omega arith),
      at e 5 (omega arith),
      at e 6 (omega arith),
      at e 7 (omega arith),
      at e 8 (omega arith),
      at e 9 (omega arith),
      at e 10 (omega arith),
      at e 12 (omega arith),
      at e 13 (omega arith),
      at e 14 (omega arith),
      at e 15 (omega arith),
      at e 16 (omega arith),
      queued e.tag,
      tag_back e.tag tag,
      back_6 e.lba lba,
      count_back e.count count,
    ) refl
