-- Counts of faults (profile).
use Rattle.std.specs.Prelude.{ℕ, ◌+◌, ◌-◌, ◌^◌, ◌≤◌, min, OnErr}
use Rattle.std.specs.declared.result.Result.{Result}

-- a count, which stands still at 2^64 - 1 (profile)
abbrev pub total : ℕ → ℕ
total n = min n (2 ^ 64 - 1)

-- a count after one more (profile)
abbrev pub next_count : ℕ → ℕ
next_count n = total (n + 1)

-- the count rose by so many, or stands at its last value (profile)
abbrev pub RoseBy : ℕ → ℕ → ℕ → Type 0
RoseBy n before now = total (before + n) ≤ now

-- the count rose, or stands at its last value (profile)
abbrev pub Rose : ℕ → ℕ → Type 0
Rose before now = RoseBy 1 before now

-- the count has not fallen, and an error comes only where it rose
pub record HasCause {T E : Type 0} (before now : ℕ) (result : Result T E) : Type 0 where
  pub later : before ≤ now
  pub failed : OnErr result (Rose before now)
