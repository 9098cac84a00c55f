-- One sector that has caught up.
use Rattle.std.proofs.Common.{arith, ◌≡◌, sym, ap, ◌∙◌, ℕ, Bool, true, false, List, length, map, drop, ◌<◌}
use Rattle.std.specs.Prelude.{Result, Ok, Err, OnOk, IfOk, slice_set}
use Rattle.std.proofs.Math.ListN.{get_or, set}
use Rattle.std.proofs.lemmas.List.{length-map, get_or-map, map-set, drop_all}
use Rattle.satl_audit.specs.Kept.{Keeping, ShowsAt, blank_keeping, kept_at, known_sector}
use Rattle.satl_audit.specs.Sectors.{sector_show}
use Rattle.satl_audit.specs.Sweeps.{Shows, caught_up}
use Rattle.satl_audit.specs.declared.sectors.Stamped.{Stamped}
use Rattle.satl_audit.specs.declared.sectors.Sweep.{Sweep}
use Rattle.satl_audit.proofs.SweepLemmas.{now_kept}

-- what is kept of the sector at an address
pub kept_there : (ss : List Sweep) (ts : List Stamped) (ks : List Keeping) (lba : ℕ) (t : Stamped) → map (now_kept ss) ts ≡ ks → lba < length ks → t ≡ get_or ts lba t → now_kept ss t ≡ kept_at ks lba
kept_there ss ts ks lba t all less is = ap (now_kept ss) is ∙ sym (get_or-map (now_kept ss) ts lba t blank_keeping (omega (arith, less, ap (λ (l : List Keeping). length l) all, length-map ts (now_kept ss)))) ∙ ap (λ (l : List Keeping). kept_at l lba) all

-- a sector that has caught up is changed
pub set_kept : (ss : List Sweep) (ts : List Stamped) (ks : List Keeping) (lba : ℕ) (t : Stamped) → map (now_kept ss) ts ≡ ks → t.seen ≡ length ss → map (now_kept ss) (set ts lba t) ≡ slice_set ks lba t.kept
set_kept ss ts ks lba t all seen =
    map-set (now_kept ss) ts lba t
    ∙ ap (λ (k : Keeping). set (map (now_kept ss) ts) lba k) (ap (λ (l : List Sweep). caught_up l t.kept) (ap (λ n. drop n ss) seen ∙ drop_all (length ss) ss (omega arith)))
    ∙ ap (λ (l : List Keeping). slice_set l lba t.kept) all

pub if_both : {T E : Type 0} (r : Result T E) (P : T → Type 0) (Q : Type 0) (R : T → Type 0) → IfOk r P → OnOk r Q → ((x : T) → P x → Q → R x) → IfOk r R
if_both (Ok x) P Q R p q f = f x p q
if_both (Err e) P Q R p q f = tt

-- a sector that has shown a block or not
pub shows_there : (input given : List ℕ) (lba : ℕ) (ks new : List Keeping) (old k : Keeping) → old ≡ kept_at ks lba → new ≡ slice_set ks lba k → (b : Bool) → Shows input given old k b → ShowsAt input lba given ks new b
shows_there input given lba ks new old k is set false h = ap (λ (x : Keeping). sector_show (record { bytes = given }) (known_sector input x)) (sym is) ∙ h
shows_there input given lba ks new old k is set true h = (k, set, ap (λ (x : Keeping). sector_show (record { bytes = given }) (known_sector input x)) (sym is) ∙ h)
