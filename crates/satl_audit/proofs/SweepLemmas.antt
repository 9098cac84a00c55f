-- One sweep more.
use Rattle.std.proofs.Common.{arith, ◌≡◌, inl, inr, refl, sym, ap, ◌∙◌, ℕ, zero, suc, ◌≤◌, List, [], ◌∷◌, ◌++◌, length, map, drop}
use Rattle.std.specs.Prelude.{nat_lt, replicate}
use Rattle.std.specs.List.{AllByRecursion}
use Rattle.std.proofs.lemmas.Bool.{cases_lt, lt-ltb, le-ltb}
use Rattle.std.proofs.lemmas.List.{length-append}
use Rattle.satl_audit.specs.Kept.{Keeping, blank_keeping}
use Rattle.satl_audit.specs.Sweeps.{caught_up, has_power, swept}
use Rattle.satl_audit.specs.declared.stamped.Stamped.{Stamped}
use Rattle.satl_audit.specs.declared.stamped.Sweep.{Sweep}
use Rattle.satl_audit.specs.declared.stamped.Sweep.TheVariants.{Settled, Powered}

caught_more : (ss : List Sweep) (s : Sweep) (k : Keeping) → caught_up (ss ++ s ∷ []) k ≡ swept s (caught_up ss k)
caught_more [] s k = refl
caught_more (x ∷ ss) s k = caught_more ss s (swept x k)

drop_more : (n : ℕ) (ss : List Sweep) (s : Sweep) → n ≤ length ss → drop n (ss ++ s ∷ []) ≡ drop n ss ++ s ∷ []
drop_more zero ss s le = refl
drop_more (suc n) [] s le = absurd (omega (arith, le))
drop_more (suc n) (x ∷ ss) s le = drop_more n ss s (omega (arith, le))

-- what a sector is once it has caught up
abbrev pub now_kept : List Sweep → Stamped → Keeping
now_kept ss t = caught_up (drop t.seen ss) t.kept

abbrev pub AllSeen : List Sweep → List Stamped → Type 0
AllSeen ss ts = AllByRecursion (λ t. t.seen ≤ length ss) ts

pub all_swept : (ss : List Sweep) (s : Sweep) (ts : List Stamped) → AllSeen ss ts → map (now_kept (ss ++ s ∷ [])) ts ≡ map (swept s) (map (now_kept ss) ts)
all_swept ss s [] h = refl
all_swept ss s (t ∷ ts) h =
    let first : now_kept (ss ++ s ∷ []) t ≡ swept s (now_kept ss t) = ap (λ (l : List Sweep). caught_up l t.kept) (drop_more t.seen ss s h.0) ∙ caught_more (drop t.seen ss) s t.kept in
    ap (λ (k : Keeping). k ∷ map (now_kept (ss ++ s ∷ [])) ts) first ∙ ap (λ (ks : List Keeping). swept s (now_kept ss t) ∷ ks) (all_swept ss s ts h.1)

pub seen_still : (ss : List Sweep) (s : Sweep) (ts : List Stamped) → AllSeen ss ts → AllSeen (ss ++ s ∷ []) ts
seen_still ss s [] h = tt
seen_still ss s (t ∷ ts) h = (omega (arith, h.0, length-append ss (s ∷ [])), seen_still ss s ts h.1)

drop_none : (n : ℕ) → drop {A = Sweep} n [] ≡ []
drop_none zero = refl
drop_none (suc n) = refl

-- losses of power among the last sweeps
pub power_settled : (n : ℕ) (ss : List Sweep) → has_power (drop n (ss ++ Settled ∷ [])) ≡ has_power (drop n ss)
power_settled zero [] = refl
power_settled zero (Settled ∷ ss) = power_settled zero ss
power_settled zero (Powered ∷ ss) = refl
power_settled (suc n) [] = ap has_power (drop_none n)
power_settled (suc n) (x ∷ ss) = power_settled n ss

below_suc : (n m : ℕ) → nat_lt (suc n) (suc m) ≡ nat_lt n m
below_suc n m = elim (cases_lt n m) [
  | inl l ↦ lt-ltb (suc n) (suc m) (omega (arith, l)) ∙ sym (lt-ltb n m l)
  | inr g ↦ le-ltb (suc n) (suc m) (omega (arith, g)) ∙ sym (le-ltb n m g)
]

pub power_powered : (n : ℕ) (ss : List Sweep) → has_power (drop n (ss ++ Powered ∷ [])) ≡ nat_lt n (length (ss ++ Powered ∷ []))
power_powered zero [] = refl
power_powered zero (Settled ∷ ss) = power_powered zero ss ∙ lt-ltb 0 _ (omega (arith, length-append ss (Powered ∷ []))) ∙ sym (lt-ltb 0 _ (omega (arith, length-append ss (Powered ∷ []))))
power_powered zero (Powered ∷ ss) = sym (lt-ltb 0 _ (omega arith))
power_powered (suc n) [] = ap has_power (drop_none n) ∙ sym (le-ltb (suc n) 1 (omega arith))
power_powered (suc n) (x ∷ ss) = power_powered n ss ∙ sym (below_suc n (length (ss ++ Powered ∷ [])))

-- a blank sector has missed nothing
abbrev pub blank_stamped : Stamped
blank_stamped = record { kept = blank_keeping; seen = 0 }

pub all_blank : (n : ℕ) → map (now_kept []) (replicate n blank_stamped) ≡ replicate n blank_keeping
all_blank zero = refl
all_blank (suc n) = ap (λ (ks : List Keeping). blank_keeping ∷ ks) (all_blank n)

pub none_missed : (n : ℕ) → AllSeen [] (replicate n blank_stamped)
none_missed zero = tt
none_missed (suc n) = (omega arith, none_missed n)

pub no_power : (n : ℕ) → has_power (drop {A = Sweep} n []) ≡ nat_lt n 0
no_power n = ap has_power (drop_none n) ∙ sym (le-ltb n 0 (omega arith))
