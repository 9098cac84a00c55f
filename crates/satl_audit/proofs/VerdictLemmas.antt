-- What the steps of a record say of its output.
use Rattle.std.proofs.Common.{arith, ◌≡◌, refl, sym, ap, ◌∙◌, subst, ℕ, zero, suc, ◌+◌, true, false, List, [], ◌∷◌, ◌++◌, length, append_assoc, Option, Some, None}
use Rattle.std.proofs.lemmas.Bool.{eqb-false, eqb-true, both_ways}
use Rattle.std.specs.Prelude.{◌<◌, ◌≤◌, ◌==◌, is_some, replicate, slice_index_or}
use Rattle.std.proofs.lemmas.List.{append-nil}
use Rattle.satl_base.specs.Blocks.{zero_block}
use Rattle.satl_identify.specs.declared.identity.Identity.{Identity}
use Rattle.satl_identify.specs.Refusals.{IsIdentity}
use Rattle.satl_frame.specs.declared.frames.Frame.{Frame}
use Rattle.satl_frame.specs.Output.{all_answered, out, out_magic}
use Rattle.satl_direct.proofs.Naming.{own_none}
use Rattle.satl_audit.specs.Advancing.{CannotGoOn}
use Rattle.satl_audit.specs.Arriving.{device_at}
use Rattle.satl_audit.specs.Deciding.{EachSectored, IsInput}
use Rattle.satl_audit.specs.Deeds.{Deed}
use Rattle.satl_audit.specs.Following.{Follows, SomeRefuses, along, sectored}
use Rattle.satl_audit.specs.Judged.{IsTaken, blank, blank_cell}
use Rattle.satl_audit.specs.Kept.{Keeping, blank_keeping, known_sector, known_sector_at}
use Rattle.satl_audit.specs.Sectors.{KnownSector}
use Rattle.satl_audit.specs.Skeleton.{IsExplained}
use Rattle.satl_audit.specs.declared.arriving.Followed.{Followed}
use Rattle.satl_audit.specs.Progress.{recorded, progress}
use Rattle.satl_audit.proofs.JoinedDeeds.{begins_stepped, refuses_join}
use Rattle.satl_audit.proofs.AlongLemmas.{refuses_more}
use Rattle.satl_audit.proofs.Deciding.{explained_has_steps, explained_is_sectored, sectored_is_explained}
use Rattle.satl_audit.proofs.Fixing.{steps_fixed}
use Rattle.satl_audit.proofs.FixingEvents.{after_same}
use Rattle.satl_audit.proofs.Further.{goes_onward}
use Rattle.satl_audit.proofs.ReachBegins.{Reached}
use Rattle.satl_audit.proofs.ReachLemmas.{decided}
use Rattle.satl_audit.proofs.Taking.{taken_is_input}

-- ---- sectors of zeros

abbrev blank_sector : KnownSector
blank_sector = record { now = Some zero_block; may = zero_block ∷ [] }

all_blank : (n x : ℕ) → slice_index_or (replicate n blank_keeping) x blank_keeping ≡ blank_keeping
all_blank zero x = refl
all_blank (suc n) zero = refl
all_blank (suc n) (suc x) = all_blank n x

blank_at : (input : List ℕ) (n x : ℕ) → known_sector_at input (replicate n blank_keeping) x ≡ blank_sector
blank_at input n x = ap (known_sector input) (all_blank n x)

pub size_blank : (n : ℕ) → length (replicate n blank_keeping) ≡ n
size_blank zero = refl
size_blank (suc n) = ap suc (size_blank n)

each_of : (ds : List Deed) (n x : ℕ) → ((y : ℕ) → x ≤ y → y < x + n → sectored y None ds (Some blank_sector) ≡ true) → EachSectored x (replicate n blank_cell) ds
each_of ds zero x h = tt
each_of ds (suc n) x h = (h x (omega arith) (omega arith), each_of ds n (suc x) (λ y le less. h y (omega (arith, le)) (omega (arith, less))))

of_each : (ds : List Deed) (n x : ℕ) → EachSectored x (replicate n blank_cell) ds → (k : ℕ) → k < n → sectored (x + k) None ds (Some blank_sector) ≡ true
of_each ds zero x h k less = absurd (omega (arith, less))
of_each ds (suc n) x h zero less = let same : x + 0 ≡ x = omega arith in ap (λ y. sectored y None ds (Some blank_sector)) same ∙ h.0
of_each ds (suc n) x h (suc k) less = let same : x + suc k ≡ suc x + k = omega arith in ap (λ y. sectored y None ds (Some blank_sector)) same ∙ of_each ds n (suc x) h.1 k (omega (arith, less))

module _ (input : List ℕ) (n : ℕ) (ds : List Deed) where
  each_follows : (after : List Keeping) → Follows input ds (replicate n blank_keeping) after → EachSectored 0 (replicate n blank_cell) ds
  each_follows after f = each_of ds n 0 (λ y le less.
      ap (λ (s : KnownSector). is_some (along y None ds (Some s))) (sym (blank_at input n y))
      ∙ ap (λ (o : Option KnownSector). is_some o) (f.1 y (omega (arith, less, size_blank n))))

  one_refuses : SomeRefuses input ds (replicate n blank_keeping) → EachSectored 0 (replicate n blank_cell) ds → ⊥
  one_refuses r e =
      let here : r.0 ≡ 0 + r.0 = omega arith in
      both_ways _
      (ap (λ (s : KnownSector). is_some (along r.0 None ds (Some s))) (sym (blank_at input n r.0)) ∙ ap (λ (o : Option KnownSector). is_some o) r.2)
      (ap (λ y. sectored y None ds (Some blank_sector)) here ∙ of_each ds n 0 e r.0 (omega (arith, r.1, size_blank n)))

-- ---- verdicts

module _ (identity : Identity) (is : IsIdentity identity) (input output : List ℕ) (all : List Frame) (taken : IsTaken identity input all) where
  -- nothing goes on from here
  pub stuck_here : (so_far later : List Frame) (event : Frame) → all ≡ so_far ++ event ∷ later → (followed : Followed) (sectors : List Keeping) → Reached identity input output so_far followed sectors → CannotGoOn (recorded identity input) event (progress followed sectors) →
      IsExplained (blank identity) all output → ⊥
  stuck_here so_far later event all_are followed sectors reached cannot explained =
      let h : IsInput (blank identity) (so_far ++ event ∷ later) = decided identity is input output all taken so_far later event all_are followed sectors reached in
      let e : IsExplained (blank identity) (so_far ++ event ∷ later) output = subst (λ (l : List Frame). IsExplained (blank identity) l output) all_are explained in
      let others = explained_has_steps (blank identity) (so_far ++ event ∷ later) output h e in
      let on = goes_onward (blank identity) so_far later event output followed.output reached.answers reached.deeds (device_at identity input followed) h reached.skeleton reached.whole reached.said others.0 others.1 in
      let next = on.next in
      let here = cannot next.now next.more next.new next.rest next.stepped next.whole next.left_is in
      let from_start = refuses_join input reached.deeds next.more (replicate identity.capacity blank_keeping) sectors (begins_stepped event (device_at identity input followed) next.new next.now next.more next.stepped) reached.follows here in
      let whole = refuses_more input (reached.deeds ++ next.more) on.later (replicate identity.capacity blank_keeping) from_start in
      one_refuses input identity.capacity others.0 (subst (λ (l : List Deed). SomeRefuses input l (replicate identity.capacity blank_keeping)) (sym on.deeds_are) whole)
      (explained_is_sectored (blank identity) (so_far ++ event ∷ later) output others.0 h others.1 e)

  decided_all : IsInput (blank identity) all
  decided_all = taken_is_input identity input all is taken

  -- all has happened, and the output is at its end
  pub explained_here : (followed : Followed) (sectors : List Keeping) → Reached identity input output all followed sectors → followed.output ≡ [] → IsExplained (blank identity) all output
  explained_here followed sectors reached none =
      sectored_is_explained (blank identity) all output reached.deeds decided_all
      (record { answers = reached.answers; last = device_at identity input followed; skeleton = reached.skeleton; whole = reached.whole; same = reached.said ∙ ap (λ (l : List ℕ). out reached.answers ++ l) none ∙ append-nil (out reached.answers) })
      (each_follows input identity.capacity reached.deeds sectors reached.follows)

  -- all has happened, and bytes are left
  pub more_here : (followed : Followed) (sectors : List Keeping) → Reached identity input output all followed sectors → (followed.output ≡ [] → ⊥) → IsExplained (blank identity) all output → ⊥
  more_here followed sectors reached some explained =
      let h = decided_all in
      let others = explained_has_steps (blank identity) all output h explained in
      let t = others.1 in
      let bytes : all_answered reached.answers ++ followed.output ≡ all_answered t.answers ++ [] =
      after_same out_magic out_magic (all_answered reached.answers ++ followed.output) (all_answered t.answers) refl (sym (append_assoc out_magic (all_answered reached.answers) followed.output) ∙ sym reached.said ∙ t.same)
      ∙ sym (append-nil (all_answered t.answers)) in
      some (((steps_fixed reached.skeleton (record { own = own_none; fine = tt }) ((h.audited).known) h.fine reached.whole t.answers others.0 t.last t.skeleton t.whole followed.output [] bytes).same).rest_same)

  -- the output does not begin as all do
  pub no_magic : ((rest : List ℕ) → output ≡ out_magic ++ rest → ⊥) → IsExplained (blank identity) all output → ⊥
  no_magic other explained = other (all_answered explained.answers) explained.same

-- ---- what is left of an output

pub none_left : (left : List ℕ) → (length left == 0) ≡ true → left ≡ []
none_left [] e = refl
none_left (x ∷ left) e = absurd (omega (arith, eqb-true (length (x ∷ left)) 0 e))

pub some_left : (left : List ℕ) → (length left == 0) ≡ false → left ≡ [] → ⊥
some_left [] e none = eqb-false 0 0 e refl
some_left (x ∷ left) e none = absurd cc
