-- How answers are told, one after the other, where the next one may depend on those before it (profile).
use Rattle.std.specs.Prelude.{◌≡◌, ℕ, List, [], ◌∷◌, ◌++◌, Option}
use Rattle.std.specs.List.{fold}
use Rattle.satl_io.specs.Known.{Wrote, WrotePart}
use Rattle.satl_frame.specs.Output.{Answer}

-- who tells answers, and what was written (profile)
pub record Telling (T : Type 0) : Type 0 where
  pub teller : T
  pub written : Option (List ℕ)

-- the bytes in which answers are told (profile)
abbrev pub all_told : {T : Type 0} → (T → Answer → List ℕ) → (T → Answer → T) → T → List Answer → List ℕ
all_told told behind t [] = []
all_told told behind t (answer ∷ answers) = told t answer ++ all_told told behind (behind t answer) answers

-- the teller behind them (profile)
abbrev pub all_behind : {T : Type 0} → (T → Answer → T) → T → List Answer → T
all_behind behind t answers = fold behind t answers

-- answers were told (profile)
pub record IsTold {T : Type 0} (told : T → Answer → List ℕ) (behind : T → Answer → T) (before after : Telling T)
    (answers : List Answer) : Type 0 where
  pub wrote : Wrote before.written after.written (all_told told behind before.teller answers)
  pub teller : after.teller ≡ all_behind behind before.teller answers

-- of answers a front was written (profile)
pub record IsToldInPart {T : Type 0} (told : T → Answer → List ℕ) (behind : T → Answer → T) (before after : Telling T)
    (answers : List Answer) : Type 0 where
  pub part : WrotePart before.written after.written (all_told told behind before.teller answers)

-- answers were told, and of those behind them a front was written (profile)
pub record IsToldInto {T : Type 0} (told : T → Answer → List ℕ) (behind : T → Answer → T) (before after : Telling T)
    (earlier last : List Answer) : Type 0 where
  pub mid : Telling T
  pub whole : IsTold told behind before mid earlier
  pub front : IsToldInPart told behind mid after last
