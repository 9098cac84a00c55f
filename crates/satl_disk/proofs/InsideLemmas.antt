-- What the sectors are by the three lists that they are kept in.
use Rattle.std.proofs.Common.{◌≡◌, refl, sym, ◌∙◌, ap, subst, inl, inr, ℕ, ◌<◌, Bool, false, List, arith, length, map, Option, Some, None}
use Rattle.std.specs.Prelude.{drop, slice_index_or, slice_set}
use Rattle.std.specs.List.{All}
use Rattle.std.proofs.lemmas.Bool.{cases_lt}
use Rattle.std.proofs.lemmas.List.{get_or_default, set-get_or}
use Rattle.satl_base.specs.declared.block.Block.{Block}
use Rattle.satl_base.specs.declared.bench.Which.{Which}
use Rattle.satl_base.specs.Blocks.{zero_block}
use Rattle.satl_base.specs.Cells.{has_flaw, first_flaw}
use Rattle.satl_base.specs.Lists.{change_at}
use Rattle.satl_disk.specs.declared.sectors.Flaws.{Flaws}
use Rattle.satl_disk.specs.Disk.{blank_sector}
use Rattle.satl_disk.specs.Layout.{block_at, is_flawed, no_flaws, sector_at, sector_of, stable_at, struck_flaws, written_flaws, zipped}
use Rattle.satl_disk.specs.Sectors.{Sector, after_power_loss, cells_of, is_stuck, left_block, mended_sector, rest_by, struck_sector, write_at, written_sector, written_stable}
use Rattle.satl_disk.proofs.LayoutLemmas.{flawed_of, no_flaw_of, struck_of, zipped-at, zipped-length, zipped-set}
use Rattle.satl_disk.proofs.SectorsLemmas.{changed_same, changed_set, flag_at, flag_none, set_none, stuck_at, stuck_none}

module _ {struck : Bool} (bs : List Block) (os : List (Option Block)) (fs : List Flaws) {olds : List Sector} (view : zipped sector_of bs os fs ≡ olds)
    (inside : (length bs ≡ length fs) × (length os ≡ length fs) × (struck ≡ false → All (λ f. f ≡ no_flaws) fs)) where
  pub size_is : length olds ≡ length fs
  size_is = sym (ap length view) ∙ zipped-length sector_of bs os fs inside.0 inside.1

  module _ (place : ℕ) (h : place < length fs) where
    abbrev b : Block
    b = block_at bs place

    abbrev o : Option Block
    o = stable_at os place

    abbrev f : Flaws
    f = slice_index_or fs place no_flaws

    abbrev s : Sector
    s = sector_of b o f

    at_place : (x : Sector) → s ≡ slice_index_or olds place x
    at_place x = zipped-at sector_of bs os fs place zero_block None no_flaws x h inside.0 inside.1 ∙ ap (λ xs. slice_index_or xs place x) view

    within : place < length olds
    within = omega (arith, size_is, h)

    -- what was read is what stands there
    flaws_are : {n : Flaws} → n ≡ slice_index_or fs place n → n ≡ f
    flaws_are {n} e = e ∙ get_or_default fs place n no_flaws h

    pub now_is : b ≡ (sector_at olds place).now
    now_is = ap (λ (x : Sector). x.now) (at_place blank_sector)

    pub flag_is : (which : Which) {n : Flaws} → n ≡ slice_index_or fs place n → is_flawed which n ≡ slice_index_or (map (has_flaw which) (cells_of olds)) place false
    flag_is which e = ap (is_flawed which) (flaws_are e) ∙ flawed_of which b o f ∙ flag_at olds which place s within (at_place s)

    pub stuck_is : {n : Flaws} → n ≡ slice_index_or fs place n → n.write ≡ is_stuck olds place
    stuck_is e = ap (λ (x : Flaws). x.write) (flaws_are e) ∙ stuck_at olds place s within (at_place s)

    changed_is : (g : Sector → Sector) (x : Block) (y : Option Block) (z : Flaws) → sector_of x y z ≡ g s → zipped sector_of (slice_set bs place x) (slice_set os place y) (slice_set fs place z) ≡ change_at olds place g
    changed_is g x y z is =
        zipped-set sector_of bs os fs place x y z
        ∙ ap (λ xs. slice_set xs place (sector_of x y z)) view
        ∙ ap (slice_set olds place) is
        ∙ changed_set g olds place s within (at_place s)

    flawed_is : (g : Sector → Sector) (z : Flaws) → sector_of b o z ≡ g s → zipped sector_of bs os (slice_set fs place z) ≡ change_at olds place g
    flawed_is g z is =
        ap (λ xs. zipped sector_of xs os (slice_set fs place z)) (sym (set-get_or bs place zero_block))
        ∙ ap (λ xs. zipped sector_of (slice_set bs place b) xs (slice_set fs place z)) (sym (set-get_or os place None))
        ∙ changed_is g b o z is

    pub struck_is : (which : Which) {n z : Flaws} → n ≡ slice_index_or fs place n → z ≡ struck_flaws which n → zipped sector_of bs os (slice_set fs place z) ≡ change_at olds place (struck_sector which)
    struck_is which {n} {z} e is = flawed_is (struck_sector which) z (ap (sector_of b o) (is ∙ ap (struck_flaws which) (flaws_are e)) ∙ struck_of which b o f)

    pub mended_is : {z : Flaws} → z ≡ no_flaws → zipped sector_of bs os (slice_set fs place z) ≡ change_at olds place mended_sector
    mended_is {z} is = flawed_is mended_sector z (ap (sector_of b o) is)

    pub write_is : (v : Block) (cached : Bool) {old : Block} {bs2 : List Block} {os2 : List (Option Block)} {n z : Flaws} → n ≡ slice_index_or fs place n → z ≡ written_flaws n →
        old ≡ b → os2 ≡ slice_set os place (written_stable cached old o) → bs2 ≡ slice_set bs place v → zipped sector_of bs2 os2 (slice_set fs place z) ≡ write_at olds place v cached
    write_is v cached {old} {bs2} {os2} {n} {z} e is was stables blocks =
        ap (λ xs. zipped sector_of xs os2 (slice_set fs place z)) blocks
        ∙ ap (λ xs. zipped sector_of (slice_set bs place v) xs (slice_set fs place z)) (stables ∙ ap (λ x. slice_set os place (written_stable cached x o)) was)
        ∙ changed_is (λ x. written_sector x v cached) v (written_stable cached b o) z (ap (sector_of v (written_stable cached b o)) (is ∙ ap written_flaws (flaws_are e)))

    -- where no sector was struck, the flaws stay as they are
    module _ (never : struck ≡ false) where
      unflawed : no_flaws ≡ f
      unflawed = sym (inside.2 never place no_flaws h)

      pub write_unstruck : (v : Block) (cached : Bool) {old : Block} {bs2 : List Block} {os2 : List (Option Block)} →
          old ≡ b → os2 ≡ slice_set os place (written_stable cached old o) → bs2 ≡ slice_set bs place v → zipped sector_of bs2 os2 fs ≡ write_at olds place v cached
      write_unstruck v cached {old} {bs2} {os2} was stables blocks =
          ap (zipped sector_of bs2 os2) (sym (set-get_or fs place no_flaws) ∙ ap (slice_set fs place) (sym unflawed))
          ∙ write_is v cached unflawed refl was stables blocks

    -- a loss of power at a dirty sector
    module _ {x : Block} (dirty : Some x ≡ o) where
      pub left_is : (byte : ℕ) {bs2 : List Block} {os2 : List (Option Block)} → bs2 ≡ slice_set bs place (left_block byte (Some x) b) → os2 ≡ slice_set os place None →
          zipped sector_of bs2 os2 fs ≡ change_at olds place (after_power_loss byte)
      left_is byte {bs2} {os2} blocks stables =
          ap (λ xs. zipped sector_of xs os2 fs) blocks
          ∙ ap (λ xs. zipped sector_of (slice_set bs place (left_block byte (Some x) b)) xs fs) stables
          ∙ ap (λ xs. zipped sector_of (slice_set bs place (left_block byte (Some x) b)) (slice_set os place None) xs) (sym (set-get_or fs place no_flaws))
          ∙ changed_is (after_power_loss byte) (left_block byte (Some x) b) None f (ap (λ y. sector_of (left_block byte y b) None f) dirty)

      pub dirty_rest : (bytes : List ℕ) → drop 1 bytes ≡ rest_by (sector_at olds place) bytes
      dirty_rest bytes = ap (λ y. rest_by (sector_of b y f) bytes) dirty ∙ ap (λ y. rest_by y bytes) (at_place blank_sector)

    -- and at a clean one
    module _ (clean : None ≡ o) where
      pub clean_is : (byte : ℕ) → olds ≡ change_at olds place (after_power_loss byte)
      clean_is byte = changed_same (after_power_loss byte) olds place s within (at_place s) (subst (λ y. after_power_loss byte (sector_of b y f) ≡ sector_of b y f) clean refl)

      pub clean_rest : (bytes : List ℕ) → bytes ≡ rest_by (sector_at olds place) bytes
      clean_rest bytes = ap (λ y. rest_by (sector_of b y f) bytes) clean ∙ ap (λ y. rest_by y bytes) (at_place blank_sector)

  -- where no sector was struck, none is stuck
  pub unstuck_is : struck ≡ false → (place : ℕ) → false ≡ is_stuck olds place
  unstuck_is never place = elim (cases_lt place (length fs)) [
    | inl h ↦ stuck_is place h (sym (inside.2 never place no_flaws h))
    | inr h ↦ stuck_none olds place (omega (arith, size_is, h))
  ]

  -- and a search for flaws finds none
  pub none_is : struck ≡ false → (which : Which) (lba count : ℕ) → None ≡ first_flaw which (cells_of olds) lba count
  none_is never which lba count = set_none (map (has_flaw which) (cells_of olds)) lba count clear
    where
      clear : (place : ℕ) → false ≡ slice_index_or (map (has_flaw which) (cells_of olds)) place false
      clear place = elim (cases_lt place (length fs)) [
        | inl h ↦ sym (no_flaw_of which) ∙ flag_is place h which (sym (inside.2 never place no_flaws h))
        | inr h ↦ flag_none olds which place (omega (arith, size_is, h))
      ]
