-- What outlines say of conflicts and of names.
use Rattle.std.proofs.Common.{◌≡◌, refl, sym, ◌∙◌, ap, subst, ℕ, zero, suc, ◌+◌, ◌^◌, ◌<◌, ◌≤◌, Bool, true, false, cond, List, [], ◌∷◌, Some, length, take, get_or, arith, ◌⊎◌, ⊎_elim, inl, inr}
use Rattle.std.specs.Prelude.{not, nat_lt, min, max, ◌==◌, ◌||◌, ◌&&◌}
use Rattle.std.specs.List.{list_any, AllByRecursion, position_from}
use Rattle.std.proofs.lemmas.Bool.{ltb-true, or_from}
use Rattle.satl_base.specs.declared.block.Block.{Block}
use Rattle.satl_base.specs.declared.block.Range.{Range}
use Rattle.satl_base.specs.declared.request.Tag.{Tag}
use Rattle.satl_line.specs.declared.entry.Entry.{Entry}
use Rattle.satl_line.specs.declared.outline.Outline.{Outline}
use Rattle.satl_line.specs.declared.outline.Span.{Span}
use Rattle.satl_line.specs.Blank.{no_entry}
use Rattle.satl_line.specs.Conflict.{accesses_conflict, any_meet, conflicts, is_alone, is_write, ranges_meet}
use Rattle.satl_line.specs.Tasks.{is_named}
use Rattle.satl_line.specs.Layout.{held_in, tasks_in}
use Rattle.satl_line.specs.Outlines.{IsOutline, LiesIn, Widens, is_active, is_of_name, may_meet, outline_in, outlines_in, spans_meet}

-- ---- spans

-- a range that lies in a span lies in a wider one
pub lies_wider : (old new : Span) → Widens old new → (range : Range) → LiesIn old range → LiesIn new range
lies_wider old new wide range within = λ some. (omega (arith, wide.first, (within some).0), omega (arith, wide.last, (within some).1), omega (arith, wide.last, (within some).2))

-- one more range is looked at
pub lie_more : (old new : Span) (ranges : List Range) (i : ℕ) (range : Range) → i < length ranges → range ≡ get_or ranges i range → Widens old new → LiesIn new range → AllByRecursion (LiesIn old) (take i ranges) → AllByRecursion (LiesIn new) (take (suc i) ranges)
lie_more old new [] i range lt is wide within h = absurd (omega arith)
lie_more old new (x ∷ xs) zero range lt is wide within h = (subst (LiesIn new) is within, tt)
lie_more old new (x ∷ xs) (suc i) range lt is wide within h = (lies_wider old new wide x h.0, lie_more old new xs i range (omega arith) is wide within h.1)

-- two ranges that meet lie in spans that meet, for any last address of a block
between : (first last first' last' lba n lba' n' top : ℕ) → last < top → last' < top
    → (0 < n → (first ≤ lba) × (lba ≤ last) × (min (lba + n) top ≤ last + 1))
    → (0 < n' → (first' ≤ lba') × (lba' ≤ last') × (min (lba' + n') top ≤ last' + 1))
    → max lba lba' < min (lba + n) (lba' + n')
    → (first ≤ last') × (first' ≤ last)
between first last first' last' lba n lba' n' top small small' within within' meet =
    let some : 0 < n = omega arith in
    let some' : 0 < n' = omega arith in
    let a = within some in
    let b = within' some' in
    (omega (arith, a.0, a.1, a.2, b.0, b.1, b.2), omega (arith, a.0, a.1, a.2, b.0, b.1, b.2))

module _ (s t : Span) (small : s.last < 2 ^ 64) (small' : t.last < 2 ^ 64) (apart : spans_meet s t ≡ false) where
  apart_is : (a b : Bool) → (not a && not b) ≡ false → (a ≡ true) ⊎ (b ≡ true)
  apart_is true b h = inl refl
  apart_is false true h = inr refl
  apart_is false false h = absurd cc

  ranges_apart : (range other : Range) → LiesIn s range → LiesIn t other → ranges_meet range other ≡ false
  ranges_apart range other within within' =
      (elim (ranges_meet range other) as (λ b. ranges_meet range other ≡ b → b ≡ false) [
        | true ↦ λ e.
            let both = between s.first s.last t.first t.last range.lba range.count other.lba other.count (2 ^ 64) small small' within within' (ltb-true (max range.lba other.lba) (min (range.lba + range.count) (other.lba + other.count)) e) in
            absurd (⊎_elim
            (λ below. let l : t.last < s.first = ltb-true t.last s.first below in omega (arith, both.0, l))
            (λ below. let l : s.last < t.first = ltb-true s.last t.first below in omega (arith, both.1, l))
            (apart_is (nat_lt t.last s.first) (nat_lt s.last t.first) apart))
        | false ↦ λ e. refl
      ]) refl

  one_apart : (ranges : List Range) (other : Range) → AllByRecursion (LiesIn s) ranges → LiesIn t other → list_any (λ range. ranges_meet range other) ranges ≡ false
  one_apart [] other within within' = refl
  one_apart (range ∷ rest) other within within' = or_from (ranges_meet range other) _ (ranges_apart range other within.0 within') (one_apart rest other within.1 within')

  -- the ranges of two tasks do not meet where their spans do not
  pub lists_apart : (ranges others : List Range) → AllByRecursion (LiesIn s) ranges → AllByRecursion (LiesIn t) others → any_meet ranges others ≡ false
  lists_apart ranges [] within within' = refl
  lists_apart ranges (other ∷ rest) within within' = or_from (list_any (λ range. ranges_meet range other) ranges) _ (one_apart ranges other within within'.0) (lists_apart ranges rest within within'.1)

-- ---- conflicts

decided : (x y w s m : Bool) → (s ≡ false → m ≡ false) → ((x || y) || ((w && s) && (x || y || (w && m)))) ≡ (x || y || (w && m))
decided true y w s m h = refl
decided false true w s m h = refl
decided false false false s m h = refl
decided false false true true m h = refl
decided false false true false m h = sym (h refl)

-- tasks conflict exactly where their outlines say so, or where these leave it open and the tasks themselves do
pub told_by_outlines : (a b : Entry) (o p : Outline) → IsOutline a o → IsOutline b p → ((o.alone || p.alone) || (may_meet o p && conflicts a b)) ≡ conflicts a b
unfolding accesses_conflict
told_by_outlines a b o p is is' =
    subst (λ (x : Bool). ((x || p.alone) || (may_meet o p && conflicts a b)) ≡ conflicts a b) (sym is.alone)
    (subst (λ (y : Bool). ((is_alone a.kind a.ordered || y) || (may_meet o p && conflicts a b)) ≡ conflicts a b) (sym is'.alone)
    (subst (λ (w : Bool). ((is_alone a.kind a.ordered || is_alone b.kind b.ordered) || (((w || p.write) && spans_meet o.span p.span) && conflicts a b)) ≡ conflicts a b) (sym is.write)
    (subst (λ (w : Bool). ((is_alone a.kind a.ordered || is_alone b.kind b.ordered) || (((is_write a.kind || w) && spans_meet o.span p.span) && conflicts a b)) ≡ conflicts a b) (sym is'.write)
    (decided (is_alone a.kind a.ordered) (is_alone b.kind b.ordered) (is_write a.kind || is_write b.kind) (spans_meet o.span p.span) (any_meet a.ranges.items b.ranges.items)
    (λ apart. lists_apart o.span p.span is.small is'.small apart a.ranges.items b.ranges.items is.within is'.within)))))

quiet_both : (x y w v m : Bool) → (x || w) ≡ false → (y || v) ≡ false → (x || y || ((w || v) && m)) ≡ false
quiet_both true y w v m h k = absurd cc
quiet_both false true w v m h k = absurd cc
quiet_both false false true v m h k = absurd cc
quiet_both false false false true m h k = absurd cc
quiet_both false false false false m h k = refl

-- tasks that neither write nor stand alone do not conflict
pub apart_where_quiet : (a b : Entry) (o p : Outline) → IsOutline a o → IsOutline b p → is_active o ≡ false → is_active p ≡ false → conflicts a b ≡ false
unfolding accesses_conflict
apart_where_quiet a b o p is is' quiet quiet' =
    quiet_both (is_alone a.kind a.ordered) (is_alone b.kind b.ordered) (is_write a.kind) (is_write b.kind) (any_meet a.ranges.items b.ranges.items) (told a o is quiet) (told b p is' quiet')
  where
    told : (a : Entry) (o : Outline) → IsOutline a o → is_active o ≡ false → (is_alone a.kind a.ordered || is_write a.kind) ≡ false
    told a o is quiet = ap (λ x. x || is_write a.kind) (sym is.alone) ∙ ap (λ w. o.alone || w) (sym is.write) ∙ quiet

-- ---- names

abbrev pub EachIs : List Entry → List Outline → List ℕ → Type 0
EachIs slots outlines order = AllByRecursion (λ slot. IsOutline (get_or slots slot no_entry) (outline_in outlines slot)) order

-- a task is found by the outlines
pub found_by_outlines : (slots : List Entry) (outlines : List Outline) (order : List ℕ) (nexus : ℕ) (tag : Tag) (i : ℕ) → EachIs slots outlines order →
    position_from (is_of_name nexus tag) i (outlines_in outlines order) ≡ position_from (is_named nexus tag) i (tasks_in slots order)
found_by_outlines slots outlines [] nexus tag i each = refl
found_by_outlines slots outlines (q ∷ qs) nexus tag i each =
    ap (λ b. cond b (Some i) (position_from (is_of_name nexus tag) (i + 1) (outlines_in outlines qs)))
    (ap (λ n. (n == nexus) && (outline_in outlines q).tag.0 == tag.0) each.0.nexus ∙ ap (λ (t : Tag). ((get_or slots q no_entry).nexus == nexus) && (t.0 == tag.0)) each.0.tag)
    ∙ ap (λ r. cond (is_named nexus tag (held_in slots q)) (Some i) r) (found_by_outlines slots outlines qs nexus tag (i + 1) each.1)

-- ---- pages change

-- the outline of a task says nothing of its pages
pub outline_with : (e : Entry) (body : List Block) (o : Outline) → IsOutline e o → IsOutline (record e { body = body }) o
outline_with e body o is = record { nexus = is.nexus; tag = is.tag; alone = is.alone; write = is.write; within = is.within; small = is.small }
