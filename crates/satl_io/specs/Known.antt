-- What calls took from a source and wrote to a sink, where these tell their bytes (profile).
use Rattle.std.specs.Prelude.{List, ℕ, take}
use Rattle.std.specs.declared.option.Option.{Option}
use Rattle.std.specs.Io.KnownBytes.{Consumes, Appends}

-- these bytes were taken, in order
pub record Took (before after : Option (List ℕ)) (bytes : List ℕ) : Type 0 where
  pub known : Consumes before after bytes

-- these bytes were written, in order
pub record Wrote (before after : Option (List ℕ)) (bytes : List ℕ) : Type 0 where
  pub known : Appends before after bytes

-- some front of these bytes was written, and no more
pub record WrotePart (before after : Option (List ℕ)) (bytes : List ℕ) : Type 0 where
  pub count : ℕ
  pub wrote : Wrote before after (take count bytes)
