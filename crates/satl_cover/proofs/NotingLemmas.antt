-- One frame more is noted.
use Rattle.std.proofs.Common.{◌≡◌, refl, sym, ap, ◌∙◌, subst, ℕ, Bool, true, false, List, [], ◌∷◌, ◌++◌, append_assoc, Option, Some, None}
use Rattle.std.specs.Prelude.{◌==◌, ◌&&◌, ◌||◌, cond, is_some}
use Rattle.std.specs.BTreeSet.{BTreeSet, contains}
use Rattle.std.specs.Cmp.{tied_then, unsigned_tied}
use Rattle.std.specs.List.{list_any}
use Rattle.std.specs.Ordering.{is_eq, nat_cmp}
use Rattle.std.proofs.lemmas.List.{append-nil}
use Rattle.std.proofs.lemmas.List.Folds.{list_any-append}
use Rattle.satl_base.specs.declared.request.Request.{Request}
use Rattle.satl_frame.specs.declared.frames.Frame.{Frame}
use Rattle.satl_frame.specs.declared.frames.Frame.TheVariants as frames
use Rattle.satl_frame.specs.Pulls.{cut_to}
use Rattle.satl_laws.specs.OnceEach.{asks_by}
use Rattle.satl_cover.specs.Covered.{AreCovered, AreNames, FirstUncovered, Knows, is_covered, name_cmp, place_behind}

-- a frame without its pages is covered as the whole one is, and asks as that does
covered_cut : (trim : Bool) (earlier : List Frame) (whole : Frame) → is_covered trim earlier (cut_to 0 whole) ≡ is_covered trim earlier whole
covered_cut trim earlier (frames.Request r) = refl
covered_cut trim earlier (frames.Manage m) = refl
covered_cut trim earlier (frames.Turn count) = refl
covered_cut trim earlier (frames.Bench event) = refl
covered_cut trim earlier frames.End = refl

asks_cut : (nexus tag : ℕ) (whole : Frame) → asks_by nexus tag (cut_to 0 whole) ≡ asks_by nexus tag whole
asks_cut nexus tag (frames.Request r) = refl
asks_cut nexus tag (frames.Manage m) = refl
asks_cut nexus tag (frames.Turn count) = refl
asks_cut nexus tag (frames.Bench event) = refl
asks_cut nexus tag frames.End = refl

names_whole : (earlier : List Frame) (whole : Frame) (names : BTreeSet (ℕ × ℕ)) → AreNames (earlier ++ cut_to 0 whole ∷ []) names → AreNames (earlier ++ whole ∷ []) names
names_whole earlier whole names h nexus tag =
    h nexus tag ∙ list_any-append (asks_by nexus tag) earlier (cut_to 0 whole ∷ [])
    ∙ ap (λ (b : Bool). list_any (asks_by nexus tag) earlier || (b || false)) (asks_cut nexus tag whole)
    ∙ sym (list_any-append (asks_by nexus tag) earlier (whole ∷ []))

-- names are the same where nexus and tag are
same_name : (a b : ℕ × ℕ) → is_eq (name_cmp a b) ≡ ((a.0 == b.0) && (a.1 == b.1))
same_name a b =
    sym (tied_then (nat_cmp a.0 b.0) (nat_cmp a.1 b.1))
    ∙ ap (λ (x : Bool). x && is_eq (nat_cmp a.1 b.1)) (unsigned_tied a.0 b.0)
    ∙ ap (λ (y : Bool). (a.0 == b.0) && y) (unsigned_tied a.1 b.1)

-- the names with that of a request, which is now among them
pub names_more : (earlier : List Frame) (r : Request) (names new : BTreeSet (ℕ × ℕ)) → AreNames earlier names → ((q : ℕ × ℕ) → contains name_cmp new q ≡ cond (is_eq (name_cmp (r.nexus, (r.tag).0) q)) true (contains name_cmp names q)) →
    AreNames (earlier ++ frames.Request r ∷ []) new
names_more earlier r names new are updates nexus tag =
    updates (nexus, tag)
    ∙ ap (λ (b : Bool). cond b true (contains name_cmp names (nexus, tag))) (same_name (r.nexus, (r.tag).0) (nexus, tag))
    ∙ ap (λ (b : Bool). cond (asks_by nexus tag (frames.Request r)) true b) (are nexus tag)
    ∙ either (asks_by nexus tag (frames.Request r)) (list_any (asks_by nexus tag) earlier)
    ∙ sym (list_any-append (asks_by nexus tag) earlier (frames.Request r ∷ []))
  where
    either : (a b : Bool) → cond a true b ≡ (b || (a || false))
    either true true = refl
    either true false = refl
    either false true = refl
    either false false = refl

-- covered frames and a covered one
covered_more : (trim : Bool) (earlier fs : List Frame) (f : Frame) → AreCovered trim earlier fs → is_covered trim (earlier ++ fs) f ≡ true → AreCovered trim earlier (fs ++ f ∷ [])
covered_more trim earlier [] f all h = (subst (λ (l : List Frame). is_covered trim l f ≡ true) nothing h, tt)
  where
    nothing : earlier ++ [] ≡ earlier
    nothing = append-nil earlier
covered_more trim earlier (g ∷ fs) f all h =
    (all.0, covered_more trim (earlier ++ g ∷ []) fs f all.1 (subst (λ (l : List Frame). is_covered trim l f ≡ true) (sym (append_assoc earlier (g ∷ []) fs)) h))

-- the first frame that is not covered stays the first
pub still_first : (trim : Bool) (earlier : List Frame) (whole : Frame) (names : BTreeSet (ℕ × ℕ)) (o : Option ℕ) → is_some o ≡ true → Knows trim earlier names o → Knows trim (earlier ++ whole ∷ []) names o
still_first trim earlier whole names None some h = absurd cc
still_first trim earlier whole names (Some offset) some h = record {
  before = h.before;
  event = h.event;
  later = h.later ++ whole ∷ [];
  split = ap (λ (l : List Frame). l ++ whole ∷ []) h.split ∙ append_assoc h.before (h.event ∷ h.later) (whole ∷ []);
  covered = h.covered;
  not_covered = h.not_covered;
  place = h.place;
}

-- so far all were covered
pub all_so_far : (trim : Bool) (earlier : List Frame) (names : BTreeSet (ℕ × ℕ)) (o : Option ℕ) → is_some o ≡ false → Knows trim earlier names o → Knows trim earlier names None
all_so_far trim earlier names None none h = h
all_so_far trim earlier names (Some offset) none h = absurd cc

-- the frame is the first that is not covered
pub now_first : (trim : Bool) (earlier : List Frame) (whole frame : Frame) (names : BTreeSet (ℕ × ℕ)) (at : ℕ) → frame ≡ cut_to 0 whole → at ≡ place_behind earlier → Knows trim earlier names None →
    is_covered trim earlier frame ≡ false → FirstUncovered trim (earlier ++ whole ∷ []) at
now_first trim earlier whole frame names at cut place h not_covered = record {
  before = earlier;
  event = whole;
  later = [];
  split = refl;
  covered = h.0;
  not_covered = sym (covered_cut trim earlier whole) ∙ ap (is_covered trim earlier) (sym cut) ∙ not_covered;
  place = place;
}

-- the frame is covered too
pub still_all : (trim : Bool) (earlier : List Frame) (whole frame : Frame) (names new : BTreeSet (ℕ × ℕ)) → frame ≡ cut_to 0 whole → Knows trim earlier names None →
    is_covered trim earlier frame ≡ true → AreNames (earlier ++ frame ∷ []) new → Knows trim (earlier ++ whole ∷ []) new None
still_all trim earlier whole frame names new cut h covered are = (
  covered_more trim [] earlier whole h.0 (sym (covered_cut trim earlier whole) ∙ ap (is_covered trim earlier) (sym cut) ∙ covered),
  names_whole earlier whole new (subst (λ (f : Frame). AreNames (earlier ++ f ∷ []) new) cut are),
)

-- and none was found that is not
pub none_is : (trim : Bool) (all : List Frame) (names : BTreeSet (ℕ × ℕ)) (o : Option ℕ) → is_some o ≡ false → Knows trim all names None → Knows trim all names o
none_is trim all names None none h = h
none_is trim all names (Some offset) none h = absurd cc
