-- A reader that gives one frame more, and one that refuses.
use Rattle.std.proofs.Common.{◌≡◌, ℕ, suc, ◌+◌, ◌≤◌, List, [], ◌∷◌, ◌++◌, length, take, drop, Option, Some, None, refl, ◌∙◌, ap, sym, subst, arith, append_assoc, ◌⊎◌, inl, inr}
use Rattle.std.specs.Option.{option_or}
use Rattle.std.proofs.lemmas.List.{length-append, append-nil, drop_at}
use Rattle.std.proofs.lemmas.Option.{same_Some}
use Rattle.satl_io.specs.Known.{Took}
use Rattle.satl_io.proofs.Joined.{Took-more}
use Rattle.satl_frame.specs.Frames.{spelled, IsFrame}
use Rattle.satl_frame.specs.Faults.{fault, frame_fault}
use Rattle.satl_frame.specs.Inputs.{all_spelled, AreFrames, NoneEnds, Reads}
use Rattle.satl_frame.specs.Magic.{magic, magic_fault, version_of}
use Rattle.satl_frame.specs.Progress.{ReadTo, ReadUpTo, HasRead}
use Rattle.satl_frame.specs.Reading.{Reading, Gave, IsNext, opening, at_offset, where_refused}
use Rattle.satl_frame.specs.declared.frames.Version.{Version}
use Rattle.satl_frame.specs.declared.frames.Reason.{Reason}
use Rattle.satl_frame.specs.declared.frames.Frame.{Frame}
use Rattle.satl_frame.specs.declared.frames.Place.{Place}
use Rattle.satl_frame.proofs.Refusals.{version_read, length-magic}

pub all_spelled-append : (fs gs : List Frame) → all_spelled (fs ++ gs) ≡ all_spelled fs ++ all_spelled gs
all_spelled-append [] gs = refl
all_spelled-append (f ∷ fs) gs = ap (λ (xs : List ℕ). spelled f ++ xs) (all_spelled-append fs gs) ∙ sym (append_assoc (spelled f) (all_spelled fs) (all_spelled gs))

pub all_spelled-push : (fs : List Frame) (f : Frame) → all_spelled (fs ++ f ∷ []) ≡ all_spelled fs ++ spelled f
all_spelled-push [] f = append-nil (spelled f)
all_spelled-push (g ∷ fs) f = ap (λ (xs : List ℕ). spelled g ++ xs) (all_spelled-push fs f) ∙ sym (append_assoc (spelled g) (all_spelled fs) (spelled f))

pub AreFrames-push : (version : Version) (limit offset : ℕ) (fs : List Frame) (f : Frame) → AreFrames version limit offset fs → NoneEnds fs → IsFrame version f →
    offset + length (all_spelled fs ++ spelled f) ≤ limit → AreFrames version limit offset (fs ++ f ∷ [])
AreFrames-push version limit offset [] f each none is within = (is, within, λ _. refl, tt)
AreFrames-push version limit offset (g ∷ fs) f each none is within = (
  each.0,
  each.1,
  λ e. absurd (none.0 e),
  AreFrames-push version limit (offset + length (spelled g)) fs f each.3 none.1 is
      (omega (arith, within, length-append (spelled g ++ all_spelled fs) (spelled f), length-append (spelled g) (all_spelled fs), length-append (all_spelled fs) (spelled f))),
)

-- one frame more
pub has_read_more : (old new : Reading) (a b c : Option (List ℕ)) (fs : List Frame) (room : ℕ) (frame : Frame) → HasRead old a b fs → NoneEnds fs → (gave : Gave old room frame new b c) →
    HasRead new a c (fs ++ gave.whole ∷ [])
has_read_more old new a b c fs room frame read none gave =
    subst (λ (r : Reading). HasRead r a c (fs ++ gave.whole ∷ [])) (sym gave.new_is)
    (by_place old.limit old.newest old.place a b c fs gave.place gave.whole read none gave.next gave.is_frame gave.took gave.within)
  where
    by_place : (limit : ℕ) (newest : Version) (at : Option Place) (a b c : Option (List ℕ)) (fs : List Frame) (place : Place) (whole : Frame) → ReadUpTo limit newest at a b fs → NoneEnds fs →
        IsNext newest at place → IsFrame place.version whole → Took b c (opening at place.version ++ spelled whole) → place.offset + length (spelled whole) ≤ limit →
        ReadTo limit newest (record place { offset = place.offset + length (spelled whole) }) a c (fs ++ whole ∷ [])
    by_place limit newest None a b c fs place whole (nothing, same) none (named, eight) is took within =
        let all : all_spelled (fs ++ whole ∷ []) ≡ spelled whole = ap (λ (gs : List Frame). all_spelled (gs ++ whole ∷ [])) nothing ∙ append-nil (spelled whole) in
        record {
          named = named;
          took = subst (λ (xs : List ℕ). Took a c (magic place.version ++ xs)) (sym all) (rw same at took);
          offset_is = omega (arith, ap length all);
          each = subst (λ (gs : List Frame). AreFrames place.version limit 8 (gs ++ whole ∷ [])) (sym nothing) (is, omega arith, λ _. refl, tt);
        }
    by_place limit newest (Some p) a b c fs place whole read none same is took within =
        let here : ReadTo limit newest place a b fs = rw same read in
        let all : all_spelled (fs ++ whole ∷ []) ≡ all_spelled fs ++ spelled whole = all_spelled-push fs whole in
        record {
          named = here.named;
          took = subst (λ (xs : List ℕ). Took a c xs) (append_assoc (magic place.version) (all_spelled fs) (spelled whole) ∙ ap (λ (xs : List ℕ). magic place.version ++ xs) (sym all)) (Took-more here.took took);
          offset_is = omega (arith, ap length all, length-append (all_spelled fs) (spelled whole), here.offset_is);
          each = AreFrames-push place.version limit 8 fs whole here.each none is (omega (arith, length-append (all_spelled fs) (spelled whole), here.offset_is));
        }

-- what a reader has given are the frames of its input
pub has_read_all : (limit : ℕ) (newest : Version) (place : Place) (input rest : List ℕ) (fs : List Frame) → ReadTo limit newest place (Some input) (Some rest) fs → Reads limit input place.version fs rest
has_read_all limit newest place input rest fs read = record {
  split = read.took.known ∙ append_assoc (magic place.version) (all_spelled fs) rest;
  each = read.each;
}

-- a reason at an offset is there, or the later one is meant
at_some : (o : Option Reason) (m : ℕ) (reason : Reason) (n : ℕ) → at_offset m o ≡ Some (reason, n) → (o ≡ Some reason) × (n ≡ m)
at_some None m reason n e = cc
at_some (Some x) m reason n e =
    let both : ◌≡◌ {A = Reason × ℕ} (x, m) (reason, n) = same_Some (x, m) (reason, n) e in
    (ap (λ (p : Reason × ℕ). Some p.0) both, sym (ap (λ (p : Reason × ℕ). p.1) both))

first_some : (o : Option Reason) (later : Option (Reason × ℕ)) (reason : Reason) (n : ℕ) → option_or (at_offset 0 o) later ≡ Some (reason, n) →
    ((o ≡ Some reason) × (n ≡ 0)) ⊎ (later ≡ Some (reason, n))
first_some None later reason n e = inr e
first_some (Some x) later reason n e = inl (at_some (Some x) 0 reason n e)

-- what a reader refuses is refused in its input, at that offset
pub refused_there : (r : Reading) (input rest : List ℕ) (fs : List Frame) (reason : Reason) (offset : ℕ) → HasRead r (Some input) (Some rest) fs →
    where_refused r.limit r.newest r.place rest ≡ Some (reason, offset) → fault r.newest r.limit input offset ≡ Some reason
refused_there r input rest fs reason offset read refused = by_place r.limit r.newest r.place input rest fs reason offset read refused
  where
    at_zero : (limit : ℕ) (newest : Version) (input : List ℕ) (reason : Reason) (offset : ℕ) → offset ≡ 0 → magic_fault newest (take 8 input) ≡ Some reason → fault newest limit input offset ≡ Some reason
    at_zero limit newest input reason offset is e = rw is e

    further : (limit : ℕ) (newest : Version) (input : List ℕ) (reason : Reason) (offset n : ℕ) → offset ≡ suc n → frame_fault (version_of input) limit offset (drop offset input) ≡ Some reason →
        fault newest limit input offset ≡ Some reason
    further limit newest input reason offset n is e =
        subst (λ (o : ℕ). fault newest limit input o ≡ Some reason) (sym is) (subst (λ (o : ℕ). frame_fault (version_of input) limit o (drop o input) ≡ Some reason) is e)

    by_place : (limit : ℕ) (newest : Version) (at : Option Place) (input rest : List ℕ) (fs : List Frame) (reason : Reason) (offset : ℕ) → ReadUpTo limit newest at (Some input) (Some rest) fs →
        where_refused limit newest at rest ≡ Some (reason, offset) → fault newest limit input offset ≡ Some reason
    by_place limit newest None input rest fs reason offset (nothing, same) refused =
        let is : rest ≡ input = same_Some rest input same in
        elim (first_some (magic_fault newest (take 8 input)) (at_offset 8 (frame_fault (version_of input) limit 8 (drop 8 input))) reason offset (rw is at refused)) [
          | inl zero_there ↦ at_zero limit newest input reason offset zero_there.1 zero_there.0
          | inr later ↦
              let there = at_some (frame_fault (version_of input) limit 8 (drop 8 input)) 8 reason offset later in
              let next : offset ≡ suc 7 = there.1 in
              further limit newest input reason offset 7 next (subst (λ (o : ℕ). frame_fault (version_of input) limit o (drop o input) ≡ Some reason) (sym there.1) there.0)
        ]
    by_place limit newest (Some p) input rest fs reason offset read refused =
        let whole : Reads limit input p.version fs rest = has_read_all limit newest p input rest fs read in
        let count : length (magic p.version ++ all_spelled fs) ≡ p.offset = length-append (magic p.version) (all_spelled fs) ∙ omega (arith, length-magic p.version, read.offset_is) in
        let behind : drop p.offset input ≡ rest = ap (λ (xs : List ℕ). drop p.offset xs) read.took.known ∙ drop_at (magic p.version ++ all_spelled fs) rest p.offset count in
        let version : version_of input ≡ p.version = ap version_of whole.split ∙ version_read p.version (all_spelled fs ++ rest) in
        let there = at_some (frame_fault p.version limit p.offset rest) p.offset reason offset refused in
        let next : offset ≡ suc (7 + length (all_spelled fs)) = omega (arith, read.offset_is, there.1) in
        let all : frame_fault (version_of input) limit p.offset (drop p.offset input) ≡ Some reason = rw (version, behind) there.0 in
        further limit newest input reason offset (7 + length (all_spelled fs)) next (subst (λ (o : ℕ). frame_fault (version_of input) limit o (drop o input) ≡ Some reason) (sym there.1) all)
