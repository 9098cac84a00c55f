-- What a lender of pages has.
use Rattle.std.specs.Prelude.{ℕ, ◌≡◌, ◌+◌}

-- how many of its pages are free, how many are out, and all that it keeps beside its free pages (profile)
pub record Stock (R : Type 0) : Type 0 where
  pub free : ℕ
  pub out : ℕ
  pub rest : R

-- so many pages were lent, and nothing else changed (profile)
pub record HasLent {R : Type 0} (pages : ℕ) (before after : Stock R) : Type 0 where
  pub free : after.free + pages ≡ before.free
  pub out : after.out ≡ before.out + pages
  pub rest : after.rest ≡ before.rest

-- so many pages came back, and nothing else changed (profile)
pub record HasBack {R : Type 0} (pages : ℕ) (before after : Stock R) : Type 0 where
  pub free : after.free ≡ before.free + pages
  pub out : after.out + pages ≡ before.out
  pub rest : after.rest ≡ before.rest
