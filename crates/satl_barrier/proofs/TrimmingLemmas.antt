-- What a trim of one block of entries does.
use Rattle.std.proofs.Common.{◌≡◌, refl, ap, subst, arith, ◌∙◌, ◌+◌, ◌≤◌, Bool, true, false, cond, eqb, List, [], ◌∷◌, ◌++◌, length, take}
use Rattle.std.specs.Prelude.{MatchBool, if◌then◌else◌, nat_lt, not, ◌||◌, slice_set}
use Rattle.std.specs.List.{AllByRecursion, filter, flat_map, list_any}
use Rattle.std.proofs.lemmas.Bool.{eqb-true, le-ltb}
use Rattle.std.proofs.lemmas.List.{append-nil}
use Rattle.std.proofs.lemmas.List.Concat.{flat_map-cons}
use Rattle.satl_base.specs.declared.bench.Which.TheVariants as flaws
use Rattle.satl_base.specs.declared.block.Block.{Block}
use Rattle.satl_base.specs.declared.block.Range.{Range}
use Rattle.satl_base.specs.Identify.{has_trim, trim_blocks}
use Rattle.satl_regs.specs.declared.values.AtaCommand.TheVariants as commands
use Rattle.satl_regs.specs.Effects.{Carries, EndsBad, Medium, Traffic, abrt, is_no_trim, is_outside, pairs_of, payload_ranges, trimming as carried, zeros_at}
use Rattle.satl_regs.specs.Trim.{addresses, entries, split, trimmed}
use Rattle.satl_base.specs.Blocks.{is_used}
use Rattle.satl_drive.specs.State.{DriveState, medium_of}
use Rattle.satl_barrier.specs.Commands.{HasRun}
use Rattle.satl_barrier.specs.Finishing.{FinishesAs, finish_of, trimming_ranges}
use Rattle.satl_barrier.proofs.FinishingLemmas.{HasGone, finishes_as, over}

abbrev IsInside : Medium → Range → Type 0
IsInside m range = range.lba + range.count ≤ length m.cells

inside_append : (m : Medium) (xs ys : List Range) → AllByRecursion (IsInside m) xs → AllByRecursion (IsInside m) ys → AllByRecursion (IsInside m) (xs ++ ys)
inside_append m [] ys f g = g
inside_append m (x ∷ xs) ys f g = (f.0, inside_append m xs ys f.1 g)

split_inside : (m : Medium) (r : Range) → IsInside m r → AllByRecursion (IsInside m) (split r)
split_inside m r inside =
    (elim (eqb r.count 65536) as (λ b. eqb r.count 65536 ≡ b → AllByRecursion (IsInside m) (cond b (record { lba = r.lba; count = 65535 } ∷ record { lba = r.lba + 65535; count = 1 } ∷ []) (r ∷ []))) [
      | true ↦ λ e. let is : r.count ≡ 65536 = eqb-true _ _ e in (omega (arith, inside, is), (omega (arith, inside, is), tt))
      | false ↦ λ e. (inside, tt)
    ]) refl

entries_inside : (m : Medium) (rs : List Range) → AllByRecursion (IsInside m) rs → AllByRecursion (IsInside m) (entries rs)
entries_inside m [] f = tt
entries_inside m (r ∷ rs) f = rw flat_map-cons (inside_append m (split r) (entries rs) (split_inside m r f.0) (entries_inside m rs f.1))

none_outside : (m : Medium) (p : Range → Bool) (rs : List Range) → AllByRecursion (IsInside m) rs → list_any (is_outside m) (filter p rs) ≡ false
none_outside m p [] f = refl
none_outside m p (r ∷ rs) f =
    elim (p r) as (λ b. list_any (is_outside m) (if b then r ∷ filter p rs else filter p rs) ≡ false) [
      | true ↦ ap (λ b. b || list_any (is_outside m) (filter p rs)) (le-ltb (length m.cells) (r.lba + r.count) f.0) ∙ none_outside m p rs f.1
      | false ↦ none_outside m p rs f.1
    ]

first_set_one : (pages : List Block) (b : Block) → 1 ≤ length pages → take 1 (slice_set pages 0 b) ≡ b ∷ []
first_set_one [] b room = absurd (omega arith)
first_set_one (x ∷ xs) b room = refl

module _ (ranges : List Range) (block : Block) (pages given : List Block) (m : Medium)
    (again : trimmed block.bytes ≡ filter is_used (entries ranges)) (same : addresses (trimmed block.bytes) ≡ addresses ranges)
    (room : 1 ≤ length pages) (set : given ≡ slice_set pages 0 block) where
  payload_is : payload_ranges 1 given ≡ trimmed block.bytes
  payload_is = ap (λ bs. flat_map (λ b. trimmed b.bytes) bs) (ap (take 1) set ∙ first_set_one pages block room) ∙ append-nil (trimmed block.bytes)

  addresses_are : addresses (payload_ranges 1 given) ≡ addresses ranges
  addresses_are = ap (λ (rs : List Range). addresses rs) payload_is ∙ same

  trims : AllByRecursion (IsInside m) ranges → has_trim m.identify ≡ true → 1 ≤ trim_blocks m.identify → is_no_trim 1 given m ≡ false
  trims inside has takes =
      ap (λ b. not b || nat_lt (trim_blocks m.identify) 1 || list_any (is_outside m) (payload_ranges 1 given)) has
      ∙ ap (λ b. b || list_any (is_outside m) (payload_ranges 1 given)) (le-ltb (trim_blocks m.identify) 1 takes)
      ∙ ap (list_any (is_outside m)) (payload_is ∙ again)
      ∙ none_outside m is_used (entries ranges) (entries_inside m ranges inside)

  pub trim_pairs : AllByRecursion (λ range. range.lba + range.count ≤ length m.cells) ranges → has_trim m.identify ≡ true → 1 ≤ trim_blocks m.identify → pairs_of (commands.Trim 1) m given ≡ zeros_at m.cache (addresses ranges)
  trim_pairs inside has takes =
      ap (λ b. if b then [] else zeros_at m.cache (addresses (payload_ranges 1 given))) (trims inside has takes)
      ∙ ap (zeros_at m.cache) addresses_are

-- how it ended
pub trim_finishes : (ranges : List Range) (block : Block) (pages : List Block) (x : Traffic) (old new : DriveState) →
    trimmed block.bytes ≡ filter is_used (entries ranges) → addresses (trimmed block.bytes) ≡ addresses ranges → 1 ≤ length pages → x.given ≡ slice_set pages 0 block →
    AllByRecursion (λ range. range.lba + range.count ≤ length old.cells) ranges → has_trim old.identify ≡ true → 1 ≤ trim_blocks old.identify →
    HasRun (commands.Trim 1) x old new → FinishesAs (trimming_ranges ranges old) 0 (finish_of x.ended) old new
trim_finishes ranges block pages x old new again same room set inside has takes run =
    subst (λ lbas. FinishesAs (over true flaws.Write 0 0 (zeros_at old.cache lbas) []) 0 (finish_of x.ended) old new)
    (addresses_are ranges block pages x.given (medium_of old) again same room set)
    (finishes_as true flaws.Write 0 0 (zeros_at old.cache (addresses (payload_ranges 1 x.given))) [] x old new gone)
  where
    carries : Carries (carried 1 x.given (medium_of old)) x (medium_of old) run.after
    carries = subst (λ b. MatchBool b (EndsBad abrt 0 x (medium_of old) run.after) (Carries (carried 1 x.given (medium_of old)) x (medium_of old) run.after)) (trims ranges block pages x.given (medium_of old) again same room set inside has takes) run.does

    gone : HasGone (over true flaws.Write 0 0 (zeros_at old.cache (addresses (payload_ranges 1 x.given))) []) x old new
    gone = record { was_up = run.was_up; within = omega arith; after = run.after; carries = carries; lost = run.lost; stays = run.stays }
