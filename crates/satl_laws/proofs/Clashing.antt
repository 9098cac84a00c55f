-- Two tasks conflict exactly where one of them goes alone, or they clash at a sector.
use Rattle.std.proofs.Common.{◌≡◌, refl, sym, ap, ◌∙◌, Bool, true, false}
use Rattle.std.specs.Prelude.{not, ◌&&◌, ◌||◌}
use Rattle.std.proofs.lemmas.Bool.{and_right}
use Rattle.satl_line.specs.declared.entry.Entry.{Entry}
use Rattle.satl_line.specs.Conflict.{accesses_conflict, any_meet, conflicts, is_alone, is_write}
use Rattle.satl_direct.specs.Device.{Device}
use Rattle.satl_laws.specs.Passing.{DoNotClash, alters, clash_at, goes_alone, goes_over, goes_with_others}
use Rattle.satl_laws.proofs.Asked.{IsAsked}
use Rattle.satl_laws.proofs.Meeting.{common, common_meets}
use Rattle.satl_laws.proofs.Seen.{by_test}

-- the parts of a conflict that is none
record IsFree (p q r s m : Bool) : Type 0 where
  first : p ≡ false
  second : q ≡ false
  apart : ((r || s) && m) ≡ false

free_parts : (p q r s m : Bool) → (p || q || ((r || s) && m)) ≡ false → IsFree p q r s m
free_parts false false r s m h = record { first = refl; second = refl; apart = h }
free_parts _ _ r s m h = absurd cc

-- a task that goes with others, by its command
pub with_others : (o g : Bool) → (o || not g) ≡ false → g ≡ true
with_others false true h = refl
with_others _ _ h = absurd cc

module _ (s : Device) (a b : Entry) (is_a : IsAsked s.identity.queued_trim a) (is_b : IsAsked s.identity.queued_trim b) where
  abbrev writes_one : Bool
  writes_one = is_write a.kind || is_write b.kind

  abbrev meet : Bool
  meet = any_meet a.ranges.items b.ranges.items

  -- two tasks that conflict not
  free : conflicts a b ≡ false → IsFree (is_alone a.kind a.ordered) (is_alone b.kind b.ordered) (is_write a.kind) (is_write b.kind) meet
  unfolding accesses_conflict
  free h = free_parts (is_alone a.kind a.ordered) (is_alone b.kind b.ordered) (is_write a.kind) (is_write b.kind) meet h

  -- neither goes alone
  pub neither_alone : conflicts a b ≡ false → (goes_alone s a || goes_alone s b) ≡ false
  neither_alone h = ap (λ p. p || goes_alone s b) (sym is_a.alone ∙ (free h).first) ∙ sym is_b.alone ∙ (free h).second

  module _ (with_a : goes_alone s a ≡ false) (with_b : goes_alone s b ≡ false) where
    queued_a : goes_with_others s.identity.queued_trim a.command ≡ true
    queued_a = with_others a.ordered (goes_with_others s.identity.queued_trim a.command) with_a

    queued_b : goes_with_others s.identity.queued_trim b.command ≡ true
    queued_b = with_others b.ordered (goes_with_others s.identity.queued_trim b.command) with_b

    -- one of both writes as its command says
    written : writes_one ≡ (alters a.command || alters b.command)
    written = ap (λ p. p || is_write b.kind) (is_a.writes queued_a) ∙ ap (λ q. alters a.command || q) (is_b.writes queued_b)

    -- they clash at no sector where nothing of both meets
    clear_of : (writes_one && meet) ≡ false → DoNotClash a b
    clear_of apart x =
        by_test (λ p. (p && goes_over b.command b.ranges.items x && (alters a.command || alters b.command)) ≡ false) (goes_over a.command a.ranges.items x)
        (λ on_a. by_test (λ q. (q && (alters a.command || alters b.command)) ≡ false) (goes_over b.command b.ranges.items x)
        (λ on_b. sym written ∙ only writes_one meet (common_meets a.ranges.items b.ranges.items x (sym (is_a.goes queued_a x) ∙ on_a) (sym (is_b.goes queued_b x) ∙ on_b)) apart)
        (λ off_b. refl))
        (λ off_a. refl)
      where
        only : (w m : Bool) → m ≡ true → (w && m) ≡ false → w ≡ false
        only true m h k = sym h ∙ k
        only false m h k = refl

    -- and nothing of both meets where they clash at none
    apart_of : DoNotClash a b → (writes_one && meet) ≡ false
    apart_of clear =
        by_test (λ m. (writes_one && m) ≡ false) meet
        (λ hit. let c = common a.ranges.items b.ranges.items hit in
        let none : clash_at c.at a b ≡ false = clear c.at in
        ap (λ w. w && true) (written ∙ last (goes_over a.command a.ranges.items c.at) (goes_over b.command b.ranges.items c.at) (alters a.command || alters b.command) (is_a.goes queued_a c.at ∙ c.here) (is_b.goes queued_b c.at ∙ c.there) none))
        (λ miss. and_right writes_one false refl)
      where
        last : (p q w : Bool) → p ≡ true → q ≡ true → (p && q && w) ≡ false → w ≡ false
        last true true w h k none = none
        last _ _ w h k none = absurd cc

    -- so they conflict not
    pub conflict_none : DoNotClash a b → conflicts a b ≡ false
    unfolding accesses_conflict
    conflict_none clear =
        ap (λ p. p || is_alone b.kind b.ordered || (writes_one && meet)) (is_a.alone ∙ with_a)
        ∙ ap (λ q. q || (writes_one && meet)) (is_b.alone ∙ with_b)
        ∙ apart_of clear

  -- two that conflict not clash at no sector
  pub conflict_clear : conflicts a b ≡ false → DoNotClash a b
  conflict_clear h = clear_of (sym is_a.alone ∙ (free h).first) (sym is_b.alone ∙ (free h).second) (free h).apart
