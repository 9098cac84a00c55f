-- Where reading an input stops: at END, or at bytes that are refused. There is one such place.
use Rattle.std.proofs.Common.{arith, ◌≡◌, ◌⊎◌, ⊎_elim, inl, inr, refl, sym, ap, ◌∙◌, subst, add-zero, ℕ, ◌+◌, true, List, [], ◌∷◌, ◌++◌, length, take, append_assoc, Some, None}
use Rattle.std.proofs.lemmas.List.{length-append, take_at}
use Rattle.satl_base.specs.Limits.{input_limit}
use Rattle.satl_frame.specs.declared.frames.Frame.{Frame}
use Rattle.satl_frame.specs.declared.frames.Frame.TheVariants as frames
use Rattle.satl_frame.specs.declared.frames.Reason.{Reason}
use Rattle.satl_frame.specs.declared.frames.Version.{Version}
use Rattle.satl_frame.specs.declared.frames.Version.TheVariants.{One, Two}
use Rattle.satl_frame.specs.Faults.{frame_fault}
use Rattle.satl_frame.specs.Frames.{spelled}
use Rattle.satl_frame.specs.Inputs.{AreFrames, IsRefused, Reads, Stands, all_spelled}
use Rattle.satl_frame.specs.Magic.{magic, magic_fault, names_version, version_code}
use Rattle.satl_frame.proofs.OneReading.{same_frame, same_version}
use Rattle.satl_frame.proofs.Refusals.{length-magic, magic_good}
use Rattle.satl_frame.proofs.Standing.{stands_good}

-- one of these frames is END, or the bytes behind them are refused
abbrev pub Stops : Version → ℕ → List Frame → List ℕ → Type 0
Stops version offset [] rest = IsRefused version input_limit offset rest
Stops version offset (f ∷ fs) rest = (f ≡ frames.End) ⊎ Stops version (offset + length (spelled f)) fs rest

pub stops_end : (version : Version) (offset : ℕ) (before : List Frame) (rest : List ℕ) → Stops version offset (before ++ frames.End ∷ []) rest
stops_end version offset [] rest = inl refl
stops_end version offset (f ∷ before) rest = inr (stops_end version (offset + length (spelled f)) before rest)

pub stops_refused : (version : Version) (offset : ℕ) (fs : List Frame) (rest : List ℕ) → IsRefused version input_limit (offset + length (all_spelled fs)) rest → Stops version offset fs rest
stops_refused version offset [] rest refused = subst (λ (n : ℕ). IsRefused version input_limit n rest) (add-zero offset) refused
stops_refused version offset (f ∷ fs) rest refused =
    let place : offset + length (spelled f ++ all_spelled fs) ≡ offset + length (spelled f) + length (all_spelled fs) = omega (arith, length-append (spelled f) (all_spelled fs)) in
    inr (stops_refused version (offset + length (spelled f)) fs rest (subst (λ (n : ℕ). IsRefused version input_limit n rest) place refused))

-- a frame that stands there is not refused
not_refused : (version : Version) (offset : ℕ) (g : Frame) (gs : List Frame) (rest behind : List ℕ) → AreFrames version input_limit offset (g ∷ gs) → rest ≡ all_spelled (g ∷ gs) ++ behind → IsRefused version input_limit offset rest → ⊥
not_refused version offset g gs rest behind each is (reason, refused) =
    let stands : Stands version input_limit offset rest = record { frame = g; rest = all_spelled gs ++ behind; is_frame = each.0; split = is ∙ append_assoc (spelled g) (all_spelled gs) behind; within = each.1 } in
    let good : frame_fault version input_limit offset rest ≡ None = stands_good version input_limit offset rest stands in
    cc

-- reading stops at one place
one_stop : (version : Version) (offset : ℕ) (fs gs : List Frame) (rest behind : List ℕ) → AreFrames version input_limit offset fs → AreFrames version input_limit offset gs → all_spelled fs ++ rest ≡ all_spelled gs ++ behind →
    Stops version offset fs rest → Stops version offset gs behind → (fs ≡ gs) × (rest ≡ behind)
one_stop version offset [] [] rest behind each other same s t = (refl, same)
one_stop version offset [] (g ∷ gs) rest behind each other same s t = absurd (not_refused version offset g gs rest behind other same s)
one_stop version offset (f ∷ fs) [] rest behind each other same s t = absurd (not_refused version offset f fs behind rest each (sym same) t)
one_stop version offset (f ∷ fs) (g ∷ gs) rest behind each other same s t =
    let front = same_frame version f g (all_spelled fs ++ rest) (all_spelled gs ++ behind) each.0 other.0 (sym (append_assoc (spelled f) (all_spelled fs) rest) ∙ same ∙ append_assoc (spelled g) (all_spelled gs) behind) in
    let at : AreFrames version input_limit (offset + length (spelled f)) gs = subst (λ (h : Frame). AreFrames version input_limit (offset + length (spelled h)) gs) (sym front.0) other.3 in
    ⊎_elim (ends front.0 front.1) (λ s'. ⊎_elim (λ e. ends front.0 front.1 (front.0 ∙ e)) (λ t'.
    go front.0 (one_stop version (offset + length (spelled f)) fs gs rest behind each.3 at front.1 s' (subst (λ (h : Frame). Stops version (offset + length (spelled h)) gs behind) (sym front.0) t'))) t) s
  where
    ends : f ≡ g → all_spelled fs ++ rest ≡ all_spelled gs ++ behind → f ≡ frames.End → (f ∷ fs ≡ g ∷ gs) × (rest ≡ behind)
    ends head left e =
        let none : fs ≡ [] = each.2 e in
        let nothing : gs ≡ [] = other.2 (sym head ∙ e) in
        (cc, subst (λ (l : List Frame). all_spelled l ++ rest ≡ behind) none (subst (λ (l : List Frame). all_spelled fs ++ rest ≡ all_spelled l ++ behind) nothing left))

    go : f ≡ g → (fs ≡ gs) × (rest ≡ behind) → (f ∷ fs ≡ g ∷ gs) × (rest ≡ behind)
    go head tail = let others = tail.0 in (cc, tail.1)

-- an input is read up to one place
pub record Stopped (input : List ℕ) (version : Version) (fs : List Frame) (rest : List ℕ) : Type 0 where
  pub reads : Reads input_limit input version fs rest
  pub stops : Stops version 8 fs rest

pub record SameStop (version other : Version) (fs gs : List Frame) (rest behind : List ℕ) : Type 0 where
  pub version_is : version ≡ other
  pub frames_are : fs ≡ gs
  pub rest_is : rest ≡ behind

pub stopped_once : {input : List ℕ} {version other : Version} {fs gs : List Frame} {rest behind : List ℕ} → Stopped input version fs rest → Stopped input other gs behind → SameStop version other fs gs rest behind
stopped_once {version = version} {other} {fs} {gs} {rest} {behind} s t =
    let v = same_version version other (all_spelled fs ++ rest) (all_spelled gs ++ behind) (sym s.reads.split ∙ t.reads.split) in
    let r = one_stop version 8 fs gs rest behind s.reads.each (subst (λ (w : Version). AreFrames w input_limit 8 gs) (sym v.0) t.reads.each) v.1 s.stops (subst (λ (w : Version). Stops w 8 gs behind) (sym v.0) t.stops) in
    record { version_is = v.0; frames_are = r.0; rest_is = r.1 }

-- then its magic is not refused
pub good_magic : {input : List ℕ} {version : Version} {fs : List Frame} {rest : List ℕ} {reason : Reason} → Reads input_limit input version fs rest → magic_fault Two (take 8 input) ≡ Some reason → ⊥
good_magic {input} {version} {fs} {rest} reads refused =
    let front : take 8 input ≡ magic version = ap (λ (l : List ℕ). take 8 l) reads.split ∙ take_at (magic version) (all_spelled fs ++ rest) 8 (length-magic version) in
    let good : magic_fault Two (take 8 input) ≡ None = ap (λ (l : List ℕ). magic_fault Two l) front ∙ magic_good Two version (named version) in
    cc
  where
    named : (v : Version) → names_version Two (version_code v) ≡ true
    named One = refl
    named Two = refl
