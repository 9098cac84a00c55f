-- A number that clap took.
use Rattle.std.proofs.Common.{◌≡◌, ◌∙◌, sym, ap, subst, ℕ, ◌<◌, ◌^◌, List, Option, Some, None, Ok, Err}
use Rattle.std.specs.Prelude.{Result}
use Rattle.std.specs.Str.Parse.{ParsesUnsigned}
use Rattle.clap.specs.Words.{ReadsOne, Text}
use Rattle.satl_words.specs.CommandLine.{Spells}

-- a text that spells a number is read as that
pub read : {E : Type 0} (text : Text) (n : ℕ) (r : Result ℕ E) → Spells text n → n < 2 ^ 64 → ParsesUnsigned 64 10 text r → r ≡ Ok n
read text n (Ok v) s small (fits, v_is) = ap Ok (v_is ∙ sym s.value)
read text n (Err e) s small fails = absurd (fails (s.numeral, subst (λ v. v < 2 ^ 64) s.value small))

ok_some : {E : Type 0} {v n : ℕ} → ◌≡◌ {A = Result ℕ E} (Ok v) (Ok n) → Some v ≡ Some n
ok_some e = ap Some cc

-- the same where clap read it
pub taken : {E : Type 0} (gives : List ℕ → Result ℕ E → Type 0) (text : Text) (n : ℕ) (o : Option ℕ) → ReadsOne gives text o → ((r : Result ℕ E) → gives text r → ParsesUnsigned 64 10 text r) → Spells text n → n < 2 ^ 64 → o ≡ Some n
taken {E} gives text n (Some v) x parses s small = ok_some {E = E} (read text n (Ok v) s small (parses (Ok v) x))
taken {E} gives text n None (e, x) parses s small = let bad = read text n (Err e) s small (parses (Err e) x) in absurd cc
