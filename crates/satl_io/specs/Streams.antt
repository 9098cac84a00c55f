-- A reader or a writer of the standard library behind a source or a sink (profile).
use Rattle.std.specs.Prelude.{ℕ, Bool, List}
use Rattle.std.specs.declared.option.Option.{Option}

-- a writer: the bytes written, where it tells them, and how many of its calls failed
pub record Stream : Type 0 where
  pub bytes : Option (List ℕ)
  pub faults : ℕ

-- a reader: the bytes left, where it tells them, whether it may have waited since it last gave one, and how many of its calls
-- failed
pub record ReaderStream : Type 0 where
  pub bytes : Option (List ℕ)
  pub waited : Bool
  pub faults : ℕ

-- a buffered reader: the same, and the bytes that it has read ahead
pub record BufferedStream : Type 0 where
  pub bytes : Option (List ℕ)
  pub ahead : List ℕ
  pub waited : Bool
  pub faults : ℕ
