-- Data that are not refused, and the identity that they give.
use Rattle.std.proofs.Common.{◌≡◌, ℕ, ◌-◌, ◌^◌, ◌<◌, ◌≤◌, true, false, cond, List, [], ◌∷◌, refl, sym, ap, ◌∙◌, arith, eqb}
use Rattle.std.specs.Prelude.{Some, Result, Ok, Err, IfOk, not, nat_lt, ◌&&◌}
use Rattle.std.specs.List.{find}
use Rattle.std.specs.Option.{option_map_or}
use Rattle.std.proofs.lemmas.Bool.{eqb-false, ltb-false}
use Rattle.satl_base.specs.Identify.{capacity}
use Rattle.satl_identify.specs.declared.identity.Identity.{Identity}
use Rattle.satl_identify.specs.declared.identity.IdentityFault.{IdentityFault}
use Rattle.satl_identify.specs.Refusals.{IdentityRule, identity_rules, first_refused, identity_in, identity_of, IsIdentity}

capacity_within : (n : ℕ) → not (not (eqb n 0) && not (nat_lt (2 ^ 48 - 1) n)) ≡ false → (1 ≤ n) × (n < 2 ^ 48)
capacity_within n e =
    (elim (eqb n 0) as (λ z. eqb n 0 ≡ z → not (not z && not (nat_lt (2 ^ 48 - 1) n)) ≡ false → (1 ≤ n) × (n < 2 ^ 48)) [
      | true ↦ λ is f. absurd cc
      | false ↦ λ is f. (elim (nat_lt (2 ^ 48 - 1) n) as (λ l. nat_lt (2 ^ 48 - 1) n ≡ l → not (not l) ≡ false → (1 ≤ n) × (n < 2 ^ 48)) [
        | true ↦ λ more g. absurd cc
        | false ↦ λ more g. let some = eqb-false n 0 is in let most = ltb-false (2 ^ 48 - 1) n more in (omega arith, omega arith)
      ]) refl f
    ]) refl e

-- no rule refuses the data
abbrev pub Unbroken : List IdentityRule → List ℕ → Type 0
Unbroken [] d = Unit {0}
Unbroken (rule ∷ more) d = (rule.breaks d ≡ false) × Unbroken more d

pub judged_ok : (some : List IdentityRule) (d : List ℕ) (made i : Identity) → first_refused some d made ≡ Ok i → Unbroken some d × (made ≡ i)
judged_ok [] d made i e = (tt, cc)
judged_ok (rule ∷ more) d made i e =
    (elim (rule.breaks d) as (λ b. rule.breaks d ≡ b → option_map_or (λ (r : IdentityRule). Err r.fault) (cond b (Some rule) (find (λ (r : IdentityRule). r.breaks d) more)) (Ok made) ≡ Ok i → ((rule.breaks d ≡ false) × Unbroken more d) × (made ≡ i)) [
      | true ↦ λ is f. absurd cc
      | false ↦ λ is f. let rest = judged_ok more d made i f in ((is, rest.0), rest.1)
    ]) refl e

pub judged_unbroken : (some : List IdentityRule) (d : List ℕ) (made : Identity) → Unbroken some d → first_refused some d made ≡ Ok made
judged_unbroken [] d made u = refl
judged_unbroken (rule ∷ more) d made u = rw u.0 (judged_unbroken more d made u.1)

pub unbroken : (d : List ℕ) (i : Identity) → identity_of d ≡ Ok i → Unbroken identity_rules d × (identity_in d ≡ i)
unfolding identity_of
unbroken d i e = judged_ok identity_rules d (identity_in d) i e

pub identity_is_one : (d : List ℕ) (i : Identity) → identity_of d ≡ Ok i → IsIdentity i
identity_is_one d i e = ap identity_of (sym (ap (λ (j : Identity). j.bytes) (unbroken d i e).1)) ∙ e

-- an identity has 1 to 2^48 - 1 sectors
pub capacity_bounds : (i : Identity) → IsIdentity i → (1 ≤ i.capacity) × (i.capacity < 2 ^ 48)
capacity_bounds i is =
    let given = unbroken i.bytes i is in
    let at : capacity i.bytes ≡ i.capacity = ap (λ (j : Identity). j.capacity) given.1 in
    let within = capacity_within (capacity i.bytes) given.0.1.1.1.1.0 in
    (omega (arith, at, within), omega (arith, at, within))

pub given_bounds : (d : List ℕ) (r : Result Identity IdentityFault) → r ≡ identity_of d → IfOk r (λ i. (1 ≤ i.capacity) × (i.capacity < 2 ^ 48))
given_bounds d (Ok i) e = capacity_bounds i (identity_is_one d i (sym e))
given_bounds d (Err f) e = tt

pub given_is_one : (d : List ℕ) (r : Result Identity IdentityFault) → r ≡ identity_of d → IfOk r (λ i. IsIdentity i)
given_is_one d (Ok i) e = identity_is_one d i (sym e)
given_is_one d (Err f) e = tt
