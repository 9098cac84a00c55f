-- The laws of order speak of runs that there are.
use Rattle.std.proofs.Common.{◌≡◌, inr, refl, arith, ℕ, ◌+◌, ◌<◌, ◌≤◌, Bool, true, false, List, [], ◌∷◌, eqb-true}
use Rattle.std.specs.Prelude.{if◌then◌else◌, ◌==◌, ◌&&◌}
use Rattle.satl_base.specs.Lists.{how_many}
use Rattle.satl_cdb.specs.Table.{says}
use Rattle.satl_unit.specs.declared.attention.Attention.TheVariants.{PowerOn}
use Rattle.satl_unit.specs.Conditions.{IsInReportOrder}
use Rattle.satl_frame.specs.declared.frames.Frame.TheVariants.{Request}
use Rattle.satl_direct.specs.Valid.{IsValid}
use Rattle.satl_direct.proofs.Conditions.{valid_attended}
use Rattle.satl_scenarios.specs.Orders.{IsOfArrivalOrder, IsOfOrderUnderErrors, torn_out_of_order, written_out_of_order}
use Rattle.satl_scenarios.specs.Devices.{aa, bb}
use Rattle.satl_scenarios.specs.Requests.{cdb_10, read_10, request, write_10}
use Rattle.satl_scenarios.proofs.Validity.{blank_valid}

-- ---- each nexus and tag asks once

-- numbers that rise, from this one on
abbrev Rise : ℕ → List ℕ → Type 0
Rise least [] = Unit {0}
Rise least (k ∷ ks) = (least < k) × Rise k ks

-- how often a tag is among them, if at all
abbrev found : Bool → ℕ → List ℕ → ℕ
found asks tag ks = how_many (λ k. asks && (k == tag)) ks

-- none is below the first
none_below : (asks : Bool) (tag least : ℕ) (ks : List ℕ) → tag ≤ least → Rise least ks → found asks tag ks ≡ 0
none_below asks tag least [] h r = refl
none_below asks tag least (k ∷ ks) h r = first asks (k == tag) refl (none_below asks tag k ks (omega (arith, h, r.0)) r.1)
  where
    first : (a b : Bool) → (k == tag) ≡ b → found asks tag ks ≡ 0 → (if a && b then 1 else 0) + found asks tag ks ≡ 0
    first true true is z = let same : k ≡ tag = eqb-true k tag is in absurd (omega (arith, same, h, r.0))
    first true false is z = omega (arith, z)
    first false b is z = omega (arith, z)

-- and each at most once
once_at_most : (asks : Bool) (tag least : ℕ) (ks : List ℕ) → Rise least ks → found asks tag ks < 2
once_at_most asks tag least [] r = omega arith
once_at_most asks tag least (k ∷ ks) r = first asks (k == tag) refl (once_at_most asks tag k ks r.1)
  where
    first : (a b : Bool) → (k == tag) ≡ b → found asks tag ks < 2 → (if a && b then 1 else 0) + found asks tag ks < 2
    first true true is z = let same : k ≡ tag = eqb-true k tag is in omega (arith, none_below asks tag k ks (omega (arith, same)) r.1)
    first true false is z = omega (arith, z)
    first false b is z = omega (arith, z)

-- ---- the laws speak of them

-- the conditions of a nexus after a power cycle
power_told : IsInReportOrder (PowerOn ∷ [])
power_told = inr (refl, tt)

-- the device is valid with its conditions too
powered_valid : IsValid written_out_of_order.first
powered_valid = valid_attended _ _ refl (power_told, (power_told, (power_told, (power_told, tt)))) (blank_valid 3 (omega arith) (omega arith))

pub of_arrival_order : IsOfArrivalOrder written_out_of_order
unfolding says
of_arrival_order = record {
  all = Request (request 1 (cdb_10 0x00 0 0) []) ∷ write_10 2 0 (aa ∷ []) ∷ write_10 3 1 (bb ∷ []) ∷ read_10 4 0 2 ∷ Request (request 5 (cdb_10 0x35 0 0) []) ∷ [];
  to_end = refl;
  without_loss = refl;
  valid = powered_valid;
  fresh = record { up = refl; started = refl; no_tasks = refl; no_flaws = ((refl, refl), ((refl, refl), ((refl, refl), tt))); no_glitches = refl };
  plain = (refl, (refl, (refl, (refl, (refl, tt)))));
  once = λ nexus tag. once_at_most (0 == nexus) tag 0 (1 ∷ 2 ∷ 3 ∷ 4 ∷ 5 ∷ []) (omega arith, (omega arith, (omega arith, (omega arith, (omega arith, tt)))));
}

pub of_order_under_errors : IsOfOrderUnderErrors torn_out_of_order
unfolding says
of_order_under_errors = record {
  valid = blank_valid 3 (omega arith) (omega arith);
  no_tasks = refl;
  mild = (refl, (refl, (refl, (refl, (refl, (refl, (refl, tt)))))));
  once = λ nexus tag. omega (arith, once_at_most (0 == nexus) tag 0 (1 ∷ 2 ∷ 3 ∷ 4 ∷ []) (omega arith, (omega arith, (omega arith, (omega arith, tt)))));
}
