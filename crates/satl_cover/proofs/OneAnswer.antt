-- What is said of an input is one thing.
use Rattle.std.proofs.Common.{◌≡◌, inl, inr, refl, sym, ap, ◌∙◌, subst, ℕ, Bool, true, false, List, [], ◌∷◌, ◌++◌, append_assoc, Some, None}
use Rattle.std.specs.Prelude.{Ok, Err}
use Rattle.std.proofs.lemmas.List.{append-nil}
use Rattle.std.proofs.lemmas.Bool.{both_ways}
use Rattle.std.proofs.lemmas.Option.{same_Some}
use Rattle.satl_base.specs.Limits.{input_limit}
use Rattle.satl_frame.specs.declared.frames.Frame.{Frame}
use Rattle.satl_frame.specs.declared.frames.Frame.TheVariants as frames
use Rattle.satl_frame.specs.declared.frames.Reason.{Reason}
use Rattle.satl_frame.specs.declared.frames.Version.{Version}
use Rattle.satl_frame.specs.declared.frames.Version.TheVariants.{One, Two}
use Rattle.satl_frame.specs.Faults.{frame_fault}
use Rattle.satl_frame.specs.Inputs.{NoneEnds}
use Rattle.satl_cover.specs.declared.fault.AuditFault.TheVariants as faults
use Rattle.satl_cover.specs.Covered.{AreCovered, FirstUncovered, IsBadInput, IsWholeInput, is_covered, place_behind}
use Rattle.satl_cover.specs.Covered.IsBadInput.{bad_magic, bad_frame, bad_rest}
use Rattle.satl_cover.specs.Reading.{IsNotCovered, OneAnswer}
use Rattle.satl_cover.proofs.Stopping.{SameStop, Stopped, good_magic, stopped_once, stops_end, stops_refused}

-- END is among these
none_has_end : (before : List Frame) → NoneEnds (before ++ frames.End ∷ []) → ⊥
none_has_end [] none = none.0 refl
none_has_end (f ∷ before) none = none_has_end before none.1

-- ---- whole inputs

whole_stops : {input : List ℕ} {version : Version} {all : List Frame} → IsWholeInput input version all → Stopped input version all []
whole_stops {version = version} w = record { reads = w.reads; stops = rw w.ends (stops_end version 8 w.before []) }

pub one_whole : {input : List ℕ} {version other : Version} {all same : List Frame} → IsWholeInput input version all → IsWholeInput input other same → SameStop version other all same [] []
one_whole w v = stopped_once (whole_stops w) (whole_stops v)

-- a whole input is not refused
whole_or_bad : {input : List ℕ} {version : Version} {all : List Frame} {reason : Reason} {offset : ℕ} → IsWholeInput input version all → IsBadInput input reason offset → ⊥
whole_or_bad w (bad_magic e o) = good_magic w.reads e
whole_or_bad w (bad_frame {version} fs {rest} reads none refused o) =
    let same = stopped_once (whole_stops w) (record { reads = reads; stops = stops_refused version 8 fs rest (_, refused) }) in
    none_has_end w.before (subst NoneEnds (sym same.frames_are ∙ w.ends) none)
whole_or_bad w (bad_rest {version} fs {rest} reads some r o) =
    let same = stopped_once (whole_stops w) (record { reads = reads; stops = stops_end version 8 fs rest }) in
    some (sym same.rest_is)

-- ---- refusals

record SameFault (reason other : Reason) (offset place : ℕ) : Type 0 where
  pub reason_is : reason ≡ other
  pub offset_is : offset ≡ place

one_fault : {input : List ℕ} {reason other : Reason} {offset place : ℕ} → IsBadInput input reason offset → IsBadInput input other place → SameFault reason other offset place
one_fault (bad_magic e o) (bad_magic f p) = record { reason_is = same_Some _ _ (sym e ∙ f); offset_is = o ∙ sym p }
one_fault (bad_magic e o) (bad_frame fs reads none refused p) = absurd (good_magic reads e)
one_fault (bad_magic e o) (bad_rest fs reads some r p) = absurd (good_magic reads e)
one_fault (bad_frame fs reads none refused o) (bad_magic f p) = absurd (good_magic reads f)
one_fault (bad_frame {version} fs {rest} reads none refused o) (bad_frame {version = v} gs {rest = behind} reads' none' refused' p) =
    let same = stopped_once (record { reads = reads; stops = stops_refused version 8 fs rest (_, refused) }) (record { reads = reads'; stops = stops_refused v 8 gs behind (_, refused') }) in
    let moved = subst (λ (w : Version). frame_fault w input_limit (place_behind gs) behind ≡ frame_fault v input_limit (place_behind gs) behind) (sym same.version_is) refl in
    record {
      reason_is = same_Some _ _ (sym refused ∙ ap (λ (l : List ℕ). frame_fault version input_limit (place_behind fs) l) same.rest_is ∙ ap (λ (l : List Frame). frame_fault version input_limit (place_behind l) behind) same.frames_are ∙ moved ∙ refused');
      offset_is = o ∙ ap place_behind same.frames_are ∙ sym p;
    }
one_fault (bad_frame {version} fs {rest} reads none refused o) (bad_rest {version = v} gs {rest = behind} reads' some r p) =
    let same = stopped_once (record { reads = reads; stops = stops_refused version 8 fs rest (_, refused) }) (record { reads = reads'; stops = stops_end v 8 gs behind }) in
    absurd (none_has_end gs (subst NoneEnds same.frames_are none))
one_fault (bad_rest fs reads some r o) (bad_magic f p) = absurd (good_magic reads f)
one_fault (bad_rest {version} fs {rest} reads some r o) (bad_frame {version = v} gs {rest = behind} reads' none refused p) =
    let same = stopped_once (record { reads = reads'; stops = stops_refused v 8 gs behind (_, refused) }) (record { reads = reads; stops = stops_end version 8 fs rest }) in
    absurd (none_has_end fs (subst NoneEnds same.frames_are none))
one_fault (bad_rest {version} fs {rest} reads some r o) (bad_rest {version = v} gs {rest = behind} reads' some' r' p) =
    let same = stopped_once (record { reads = reads; stops = stops_end version 8 fs rest }) (record { reads = reads'; stops = stops_end v 8 gs behind }) in
    record { reason_is = r ∙ sym r'; offset_is = o ∙ ap place_behind same.frames_are ∙ sym p }

-- ---- the first frame that is not covered

pub covered_there : (trim : Bool) (earlier before : List Frame) (event : Frame) (later : List Frame) → AreCovered trim earlier (before ++ event ∷ later) → is_covered trim (earlier ++ before) event ≡ true
covered_there trim earlier [] event later all = subst (λ (l : List Frame). is_covered trim l event ≡ true) (sym (append-nil earlier)) all.0
covered_there trim earlier (f ∷ before) event later all =
    subst (λ (l : List Frame). is_covered trim l event ≡ true) (append_assoc earlier (f ∷ []) before) (covered_there trim (earlier ++ f ∷ []) before event later all.1)

none_uncovered : {trim : Bool} {all : List Frame} {offset : ℕ} → AreCovered trim [] all → FirstUncovered trim all offset → ⊥
none_uncovered {trim} all f = both_ways _ f.not_covered (covered_there trim [] f.before f.event f.later (subst (AreCovered trim []) f.split all))

first_same : (trim : Bool) (earlier xs ys : List Frame) (e e' : Frame) (l l' : List Frame) → xs ++ e ∷ l ≡ ys ++ e' ∷ l' → AreCovered trim earlier xs → AreCovered trim earlier ys →
    is_covered trim (earlier ++ xs) e ≡ false → is_covered trim (earlier ++ ys) e' ≡ false → xs ≡ ys
first_same trim earlier [] [] e e' l l' same p q a b = refl
first_same trim earlier [] (y ∷ ys) e e' l l' same p q a b =
    let head : e ≡ y = cc in
    absurd (both_ways _ (subst (λ (k : List Frame). is_covered trim k e ≡ false) (append-nil earlier) a) (subst (λ (f : Frame). is_covered trim earlier f ≡ true) (sym head) q.0))
first_same trim earlier (x ∷ xs) [] e e' l l' same p q a b =
    let head : e' ≡ x = cc in
    absurd (both_ways _ (subst (λ (k : List Frame). is_covered trim k e' ≡ false) (append-nil earlier) b) (subst (λ (f : Frame). is_covered trim earlier f ≡ true) (sym head) p.0))
first_same trim earlier (x ∷ xs) (y ∷ ys) e e' l l' same p q a b =
    let head : x ≡ y = cc in
    let tail : xs ++ e ∷ l ≡ ys ++ e' ∷ l' = cc in
    let rest = first_same trim (earlier ++ x ∷ []) xs ys e e' l l' tail p.1 (subst (λ (f : Frame). AreCovered trim (earlier ++ f ∷ []) ys) (sym head) q.1)
    (subst (λ (k : List Frame). is_covered trim k e ≡ false) (sym (append_assoc earlier (x ∷ []) xs)) a)
    (subst (λ (f : Frame). is_covered trim ((earlier ++ f ∷ []) ++ ys) e' ≡ false) (sym head) (subst (λ (k : List Frame). is_covered trim k e' ≡ false) (sym (append_assoc earlier (y ∷ []) ys)) b)) in
    cc

one_first : {trim : Bool} {all : List Frame} {offset place : ℕ} → FirstUncovered trim all offset → FirstUncovered trim all place → offset ≡ place
one_first {trim} f g =
    f.place ∙ ap place_behind (first_same trim [] f.before g.before f.event g.event f.later g.later (sym f.split ∙ g.split) f.covered g.covered f.not_covered g.not_covered) ∙ sym g.place

-- ---- answers

versions_apart : {X : Type 0} → One ≡ Two → X
versions_apart e = cc

covered_or_not : {trim : Bool} {input : List ℕ} {all : List Frame} {offset : ℕ} → IsWholeInput input One all → AreCovered trim [] all → IsNotCovered trim input offset → ⊥
covered_or_not {trim} w all (inl (other, v, o)) = versions_apart (one_whole w v).version_is
covered_or_not {trim} w all (inr (other, v, f)) = none_uncovered (subst (AreCovered trim []) (one_whole w v).frames_are all) f

one_offset : {trim : Bool} {input : List ℕ} {offset place : ℕ} → IsNotCovered trim input offset → IsNotCovered trim input place → offset ≡ place
one_offset (inl (all, w, o)) (inl (other, v, p)) = o ∙ sym p
one_offset (inl (all, w, o)) (inr (other, v, g)) = versions_apart (one_whole v w).version_is
one_offset (inr (all, w, f)) (inl (other, v, p)) = versions_apart (one_whole w v).version_is
one_offset {trim} {place = place} (inr (all, w, f)) (inr (other, v, g)) = one_first f (subst (λ (l : List Frame). FirstUncovered trim l place) (sym (one_whole w v).frames_are) g)

not_covered_or_bad : {trim : Bool} {input : List ℕ} {offset place : ℕ} {reason : Reason} → IsNotCovered trim input offset → IsBadInput input reason place → ⊥
not_covered_or_bad (inl (all, w, o)) b = whole_or_bad w b
not_covered_or_bad (inr (all, w, f)) b = whole_or_bad w b

pub one_answer : OneAnswer
one_answer trim input (Ok None) (Ok None) p q m n = refl
one_answer trim input (Ok None) (Ok (Some place)) p q m n = absurd (covered_or_not p.1 p.2 q)
one_answer trim input (Ok None) (Err (faults.BadInput reason place)) p q m n = absurd (whole_or_bad p.1 q)
one_answer trim input (Ok None) (Err faults.NoMemory) p q m n = absurd (n refl)
one_answer trim input (Ok (Some offset)) (Ok None) p q m n = absurd (covered_or_not q.1 q.2 p)
one_answer trim input (Ok (Some offset)) (Ok (Some place)) p q m n = ap (λ (o : ℕ). Ok (Some o)) (one_offset p q)
one_answer trim input (Ok (Some offset)) (Err (faults.BadInput reason place)) p q m n = absurd (not_covered_or_bad p q)
one_answer trim input (Ok (Some offset)) (Err faults.NoMemory) p q m n = absurd (n refl)
one_answer trim input (Err (faults.BadInput reason offset)) (Ok None) p q m n = absurd (whole_or_bad q.1 p)
one_answer trim input (Err (faults.BadInput reason offset)) (Ok (Some place)) p q m n = absurd (not_covered_or_bad q p)
one_answer trim input (Err (faults.BadInput reason offset)) (Err (faults.BadInput other place)) p q m n =
    let same = one_fault p q in
    let first = same.reason_is in
    let second = same.offset_is in
    cc
one_answer trim input (Err (faults.BadInput reason offset)) (Err faults.NoMemory) p q m n = absurd (n refl)
one_answer trim input (Err faults.NoMemory) b p q m n = absurd (m refl)
