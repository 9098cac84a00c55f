-- Counts that rise one after the other.
use Rattle.std.proofs.Common.{arith, ℕ, ◌+◌, ◌≤◌}
use Rattle.satl_io.specs.Causes.{RoseBy}

-- what rose by two numbers, one after the other, rose by their sum
pub RoseBy-more : (n m before mid now : ℕ) → RoseBy n before mid → RoseBy m mid now → RoseBy (n + m) before now
RoseBy-more n m before mid now first rest = omega (arith, first, rest)

-- what rose by so many rose by no more than these
pub RoseBy-fewer : (n m before now : ℕ) → n ≤ m → RoseBy m before now → RoseBy n before now
RoseBy-fewer n m before now few rose = omega (arith, few, rose)

-- what stays rose by nothing
pub RoseBy-none : (count : ℕ) → RoseBy 0 count count
RoseBy-none count = omega arith
