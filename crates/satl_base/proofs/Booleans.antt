-- Tests, where the lemmas of the standard library do not have it.
use Rattle.std.proofs.Common.{◌≡◌, refl, sym, ◌∙◌, ℕ, Bool, true, false, eq-eqb, eqb-true}
use Rattle.std.specs.Prelude.{MatchBool, not, ◌&&◌, ◌==◌}
use Rattle.std.proofs.lemmas.Bool.{not-false, not-true}

-- numbers are compared either way
pub eqb-sym : (a b : ℕ) → (a == b) ≡ (b == a)
eqb-sym a b = go (a == b) refl (b == a) refl
  where
    go : (x : Bool) → (a == b) ≡ x → (y : Bool) → (b == a) ≡ y → (a == b) ≡ (b == a)
    go true e y f = e ∙ sym (eq-eqb b a (sym (eqb-true a b e)))
    go false e true f = let no : (a == b) ≡ true = eq-eqb a b (sym (eqb-true b a f)) in absurd cc
    go false e false f = e ∙ sym f

pub eqb_false-sym : (a b : ℕ) → (a == b) ≡ false → (b == a) ≡ false
eqb_false-sym a b h = eqb-sym b a ∙ h

pub not-not : (b : Bool) → not (not b) ≡ b
not-not true = refl
not-not false = refl

pub and_true : (b : Bool) → (b && true) ≡ b
and_true true = refl
and_true false = refl

-- a test that is the opposite of another
pub opposite_false : (t b : Bool) → t ≡ not b → t ≡ false → b ≡ true
opposite_false t b is clear = not-false b (sym is ∙ clear)

pub opposite_true : (t b : Bool) → t ≡ not b → t ≡ true → b ≡ false
opposite_true t b is set = not-true b (sym is ∙ set)

-- the case of a test that fails
pub second_case : (A B : Type 0) (b : Bool) → b ≡ false → B → MatchBool b A B
second_case A B true e h = absurd cc
second_case A B false e h = h
