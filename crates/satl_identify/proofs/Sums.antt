-- The integrity byte makes the sum 0.
use Rattle.std.proofs.Common.{◌≡◌, ℕ, ◌+◌, ◌-◌, ◌%◌, ◌<◌, List, length, set, arith}
use Rattle.std.specs.Prelude.{sum}
use Rattle.std.proofs.lemmas.List.Sums.{sum_by-set}
use Rattle.satl_base.specs.Identify.{checksum, checksum_byte}

sum_set : (d : List ℕ) (i v : ℕ) → i < length d → sum (set d i v) ≡ sum (set d i 0) + v
sum_set d i v h =
    let a = sum_by-set (λ (x : ℕ). x) d i v 0 h in
    let b = sum_by-set (λ (x : ℕ). x) d i 0 0 h in
    omega (arith, a, b)

pub checksum-integrity : (d : List ℕ) → length d ≡ 512 → checksum (set d 511 (checksum_byte (set d 511 0))) ≡ 0
unfolding checksum
checksum-integrity d len =
    let s = sum_set d 511 ((256 - sum (set d 511 0) % 256) % 256) (omega (arith, len)) in
    rw s (omega arith)
