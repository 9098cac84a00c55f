-- Sources and sinks in memory, which cut the bytes in pieces and fail at stated calls (profile).
use Rattle.std.specs.Prelude.{ℕ, List}

-- a source: the bytes left, the most that one read gives, the numbers of the calls that fail,
-- how many calls there were, and how many of them failed
pub record SourceInMemory : Type 0 where
  pub left : List ℕ
  pub piece : ℕ
  pub failing : List ℕ
  pub calls : ℕ
  pub faults : ℕ

-- a sink: the bytes written, how many more it takes, the most that one write takes, the numbers of
-- the calls that fail, how many calls there were, and how many of them failed
pub record SinkInMemory : Type 0 where
  pub written : List ℕ
  pub room : ℕ
  pub piece : ℕ
  pub failing : List ℕ
  pub calls : ℕ
  pub faults : ℕ
