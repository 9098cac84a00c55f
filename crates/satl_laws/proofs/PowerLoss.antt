-- What a loss of power leaves of a sector of which one block alone is left to it.
use Rattle.std.proofs.Common.{◌≡◌, ⊎_elim, inr, refl, sym, ap, ◌∙◌, subst, ℕ, zero, suc, List, [], ◌∷◌, Option, Some, None}
use Rattle.std.specs.Prelude.{slice_get}
use Rattle.std.specs.List.{AllByRecursion, AllZip}
use Rattle.std.proofs.lemmas.Slice.Zip.{AllZip-long}
use Rattle.satl_base.specs.declared.block.Block.{Block}
use Rattle.satl_base.specs.declared.reply.Reply.{Reply}
use Rattle.satl_base.specs.Cells.{Cell}
use Rattle.satl_base.specs.Lists.{IsIn}
use Rattle.satl_regs.specs.Sectors.{IsLeftBehind}
use Rattle.satl_direct.specs.Device.{Device}
use Rattle.satl_base.specs.declared.bench.BenchEvent.TheVariants as bench
use Rattle.satl_direct.specs.Bench.{Happens}
use Rattle.satl_direct.specs.Quiet.{Around}
use Rattle.satl_laws.proofs.Addresses.{Alike, alike_on}
use Rattle.satl_laws.proofs.Kept.{Kept, KeptAs, KeptAt}
use Rattle.satl_laws.proofs.Sparing.{Keeps, SparesAt, keeps_on, quiet_keeps}
use Rattle.satl_laws.proofs.Singles.{IsSingle}

-- a sector that a loss of power leaves, or none
abbrev LeftAs : Option Cell → Option Cell → Type 0
LeftAs None None = Unit {0}
LeftAs (Some c) (Some d) = IsLeftBehind c d
LeftAs _ _ = ⊥

-- each sector is left so
left_at : (x : ℕ) (a b : List Cell) → AllZip IsLeftBehind a b → LeftAs (slice_get a x) (slice_get b x)
left_at x [] [] h = tt
left_at zero (c ∷ cs) (d ∷ ds) h = h.0
left_at (suc x) (c ∷ cs) (d ∷ ds) h = left_at x cs ds h.1
left_at x _ _ h = absurd h

-- a cell of one block that was kept, and then had a loss of power, is kept
left_keeps : (p q r : Cell) → ((v : Block) → IsIn v p.may → v ≡ p.now) → Kept p q → IsLeftBehind q r → Kept p r
left_keeps p q r one k l =
    let same : r.now ≡ p.now = ⊎_elim (λ i. one r.now i) (λ same. same) (k.fewer r.now l.one) in
    record { now = same; fewer = λ v i. ⊎_elim (λ here. inr (here ∙ same)) (λ other. absurd other) (subst (IsIn v) l.alone i) }

-- so is that sector of these cells
power_leaves : (x : ℕ) (a b c : List Cell) → IsSingle x a → KeptAt x a b → AllZip IsLeftBehind b c → KeptAt x a c
power_leaves x a b c single kept left = record { at = of (slice_get a x) (slice_get b x) (slice_get c x) single.each kept.at (left_at x b c left) }
  where
    of : (p q r : Option Cell) → ((d : Cell) → p ≡ Some d → (v : Block) → IsIn v d.may → v ≡ d.now) → KeptAs p q → LeftAs q r → KeptAs p r
    of None None None one k l = tt
    of None (Some q) r one k l = absurd k
    of (Some p) None r one k l = absurd k
    of (Some p) (Some q) (Some r) one k l = left_keeps p q r (one p refl) k l
    of _ _ _ one k l = absurd l

-- so is a single block in a loss of power behind steps that kept it
pub power_keeps : (x : ℕ) (a last after : Device) (answers : List Reply) → IsSingle x a.cells → Keeps x a last → Around (Happens bench.Power) last answers after → Keeps x a after
power_keeps x a last after answers single kept p =
    let before = keeps_on x a last p.before kept (quiet_keeps x last p.before p.quiet_before) in
    let alike : Alike p.before p.after = record { identity = ap (λ d. d.identity) (p.step).stays; size = AllZip-long IsLeftBehind (p.before).cells (p.after).cells (p.step).cells } in
    keeps_on x a p.after after
    (record {
      cells = power_leaves x a.cells (p.before).cells (p.after).cells single before.cells (p.step).cells;
      alike = alike_on a p.before p.after before.alike alike;
      none_writes = record { each = subst (AllByRecursion (SparesAt x p.after)) (sym (ap (λ d. d.tasks) (p.step).stays)) tt };
    })
    (quiet_keeps x p.after after p.quiet_after)
