-- Inputs that can be read to END.
use Rattle.std.proofs.Common.{◌≡◌, ℕ, ◌+◌, List, [], ◌∷◌, ◌++◌, length, Option, Some, None, refl, ◌∙◌, ap, sym, subst, add-zero, arith, append_assoc}
use Rattle.std.proofs.lemmas.List.{length-append, append-nil}
use Rattle.std.proofs.lemmas.Option.{same_Some}
use Rattle.satl_base.proofs.ListsLemmas.{push_not_empty}
use Rattle.satl_io.specs.Known.{Took}
use Rattle.satl_frame.specs.Frames.{spelled, IsFrame}
use Rattle.satl_frame.specs.Faults.{fault, frame_fault}
use Rattle.satl_frame.specs.Inputs.{all_spelled, AreFrames, NoneEnds, Reads, Stands}
use Rattle.satl_frame.specs.Magic.{magic}
use Rattle.satl_frame.specs.Progress.{ReadTo, ReadUpTo, HasRead, ReadsToEnd}
use Rattle.satl_frame.specs.Reading.{Reading, Gave, Blames, IsNext, opening, at_offset, where_refused}
use Rattle.satl_frame.specs.declared.frames.Version.{Version}
use Rattle.satl_frame.specs.declared.frames.Reason.{Reason}
use Rattle.satl_frame.specs.declared.frames.Frame.{Frame}
use Rattle.satl_frame.specs.declared.frames.Frame.TheVariants as frames
use Rattle.satl_frame.specs.declared.frames.FrameFault.TheVariants.{Bad}
use Rattle.satl_frame.specs.declared.frames.Place.{Place}
use Rattle.satl_frame.proofs.OneReading.{same_frame, same_version}
use Rattle.satl_frame.proofs.ProgressLemmas.{all_spelled-push, has_read_all, refused_there}
use Rattle.satl_frame.proofs.Refusals.{computed}
use Rattle.satl_frame.proofs.Standing.{stands_good}

-- what tells its bytes goes on telling them
nowhere : (limit : ℕ) (newest : Version) (at : Option Place) (input : List ℕ) (given : List Frame) → ReadUpTo limit newest at (Some input) None given → ⊥
nowhere limit newest None input given (nothing, same) = cc
nowhere limit newest (Some p) input given read = read.took.known

-- behind frames that were read stand the others up to END
record Ahead (version : Version) (limit offset : ℕ) (fs given : List Frame) (rest left : List ℕ) : Type 0 where
  later : List Frame
  split : given ++ later ≡ fs
  left_is : left ≡ all_spelled (later ++ frames.End ∷ []) ++ rest
  each : AreFrames version limit offset (later ++ frames.End ∷ [])

ahead : (version : Version) (limit offset other : ℕ) (fs given : List Frame) (rest left : List ℕ) → AreFrames version limit offset (fs ++ frames.End ∷ []) → AreFrames version limit other given → NoneEnds given →
    all_spelled (fs ++ frames.End ∷ []) ++ rest ≡ all_spelled given ++ left → Ahead version limit (offset + length (all_spelled given)) fs given rest left
ahead version limit offset other fs [] rest left each second none same = record { later = fs; split = refl; left_is = sym same; each = subst (λ (n : ℕ). AreFrames version limit n (fs ++ frames.End ∷ [])) (sym (add-zero offset)) each }
ahead version limit offset other [] (g ∷ given) rest left each second none same =
    let regrouped = sym (append_assoc (spelled frames.End) [] rest) ∙ same ∙ append_assoc (spelled g) (all_spelled given) left in
    absurd (none.0 (sym (same_frame version frames.End g rest (all_spelled given ++ left) each.0 second.0 regrouped).0))
ahead version limit offset other (f ∷ fs) (g ∷ given) rest left each second none same =
    let behind = all_spelled (fs ++ frames.End ∷ []) ++ rest in
    let regrouped : spelled f ++ behind ≡ spelled g ++ (all_spelled given ++ left) = sym (append_assoc (spelled f) (all_spelled (fs ++ frames.End ∷ [])) rest) ∙ same ∙ append_assoc (spelled g) (all_spelled given) left in
    let front = same_frame version f g behind (all_spelled given ++ left) each.0 second.0 regrouped in
    let next : Ahead version limit (offset + length (spelled f) + length (all_spelled given)) fs given rest left =
    ahead version limit (offset + length (spelled f)) (other + length (spelled g)) fs given rest left each.3 second.3 none.1 front.1 in
    let size : offset + length (spelled f) + length (all_spelled given) ≡ offset + length (spelled g ++ all_spelled given) = omega (arith, length-append (spelled g) (all_spelled given), ap (λ (h : Frame). length (spelled h)) front.0) in
    record {
      later = next.later;
      split = ap (λ (hs : List Frame). g ∷ hs) next.split ∙ ap (λ (h : Frame). h ∷ fs) (sym front.0);
      left_is = next.left_is;
      each = subst (λ (n : ℕ). AreFrames version limit n (next.later ++ frames.End ∷ [])) size next.each;
    }

-- a frame stands at the front
next_stands : (version : Version) (limit offset : ℕ) (later : List Frame) (rest left : List ℕ) → left ≡ all_spelled (later ++ frames.End ∷ []) ++ rest → AreFrames version limit offset (later ++ frames.End ∷ []) →
    Stands version limit offset left
next_stands version limit offset [] rest left is each = record {
  frame = frames.End;
  rest = rest;
  is_frame = each.0;
  split = is ∙ append_assoc (spelled frames.End) [] rest;
  within = each.1;
}
next_stands version limit offset (f ∷ later) rest left is each = record {
  frame = f;
  rest = all_spelled (later ++ frames.End ∷ []) ++ rest;
  is_frame = each.0;
  split = is ∙ append_assoc (spelled f) (all_spelled (later ++ frames.End ∷ [])) rest;
  within = each.1;
}

-- a reader behind the magic stands where the next frame does
read_ahead : (limit : ℕ) (newest : Version) (place p : Place) (input : List ℕ) (fs given : List Frame) (rest left : List ℕ) → ReadTo limit newest place (Some input) (Some rest) (fs ++ frames.End ∷ []) →
    ReadTo limit newest p (Some input) (Some left) given → NoneEnds given → Ahead p.version limit p.offset fs given rest left
read_ahead limit newest place p input fs given rest left all read none =
    let whole : Reads limit input place.version (fs ++ frames.End ∷ []) rest = has_read_all limit newest place input rest (fs ++ frames.End ∷ []) all in
    let front : Reads limit input p.version given left = has_read_all limit newest p input left given read in
    let versions = same_version place.version p.version (all_spelled (fs ++ frames.End ∷ []) ++ rest) (all_spelled given ++ left) (sym whole.split ∙ front.split) in
    let each : AreFrames p.version limit 8 (fs ++ frames.End ∷ []) = subst (λ (v : Version). AreFrames v limit 8 (fs ++ frames.End ∷ [])) versions.0 whole.each in
    subst (λ (n : ℕ). Ahead p.version limit n fs given rest left) (sym read.offset_is) (ahead p.version limit 8 8 fs given rest left each front.each none versions.1)

-- before END of an input that can be read to END a reader refuses nothing
pub none_refused : (r : Reading) (input : List ℕ) (fs given : List Frame) (rest : List ℕ) (mid left' : Option (List ℕ)) (reason : Reason) (offset : ℕ) →
    ReadsToEnd r.limit r.newest input fs rest → HasRead r (Some input) mid given → NoneEnds given → Blames r mid left' (Bad reason offset) → ⊥
none_refused r input fs given rest mid left' reason offset all read none blames = by_mid mid read blames
  where
    by_place : (limit : ℕ) (newest : Version) (at : Option Place) (left : List ℕ) → ReadsToEnd limit newest input fs rest → ReadUpTo limit newest at (Some input) (Some left) given →
        where_refused limit newest at left ≡ Some (reason, offset) → ⊥
    by_place limit newest None left all (nothing, same) refused =
        let whole : Reads limit input all.place.version (fs ++ frames.End ∷ []) rest = has_read_all limit newest all.place input rest (fs ++ frames.End ∷ []) all.read in
        let behind = all_spelled (fs ++ frames.End ∷ []) ++ rest in
        let is : left ≡ magic all.place.version ++ behind = same_Some left input same ∙ whole.split in
        let good : frame_fault all.place.version limit 8 behind ≡ None = stands_good all.place.version limit 8 behind (next_stands all.place.version limit 8 fs rest behind refl whole.each) in
        let nothing_there : where_refused limit newest None left ≡ None =
        ap (λ (xs : List ℕ). where_refused limit newest None xs) is ∙ (computed limit newest all.place.version behind all.read.named).0 ∙ ap (λ (f : Option Reason). at_offset 8 f) good in
        cc
    by_place limit newest (Some p) left all read refused =
        let next = read_ahead limit newest all.place p input fs given rest left all.read read none in
        let good : frame_fault p.version limit p.offset left ≡ None = stands_good p.version limit p.offset left (next_stands p.version limit p.offset next.later rest left next.left_is next.each) in
        let nothing_there : where_refused limit newest (Some p) left ≡ None = ap (λ (f : Option Reason). at_offset p.offset f) good in
        cc

    by_mid : (mid : Option (List ℕ)) → HasRead r (Some input) mid given → Blames r mid left' (Bad reason offset) → ⊥
    by_mid None read blames = nowhere r.limit r.newest r.place input given read
    by_mid (Some left) read blames = by_place r.limit r.newest r.place left all read blames.0

-- what a reader refuses is refused in its input
pub refused_in_input : (r : Reading) (input : List ℕ) (given : List Frame) (mid left' : Option (List ℕ)) (reason : Reason) (offset : ℕ) →
    HasRead r (Some input) mid given → Blames r mid left' (Bad reason offset) → fault r.newest r.limit input offset ≡ Some reason
refused_in_input r input given None left' reason offset read blames = absurd (nowhere r.limit r.newest r.place input given read)
refused_in_input r input given (Some rest) left' reason offset read blames = refused_there r input rest given reason offset read blames.0

-- a frame in front of what stands ahead is the next one
front_frame : (version : Version) (limit offset : ℕ) (fs given : List Frame) (rest left behind : List ℕ) (whole : Frame) → Ahead version limit offset fs given rest left → IsFrame version whole →
    left ≡ spelled whole ++ behind → (later : List Frame) × (given ++ whole ∷ later ≡ fs ++ frames.End ∷ [])
front_frame version limit offset fs given rest left behind whole next is_frame is = by_later next.later next.split next.left_is next.each
  where
    by_later : (later : List Frame) → given ++ later ≡ fs → left ≡ all_spelled (later ++ frames.End ∷ []) ++ rest → AreFrames version limit offset (later ++ frames.End ∷ []) →
        (more : List Frame) × (given ++ whole ∷ more ≡ fs ++ frames.End ∷ [])
    by_later [] split left_is each =
        let same = same_frame version whole frames.End behind rest is_frame each.0 (sym is ∙ left_is ∙ append_assoc (spelled frames.End) [] rest) in
        ([], ap (λ (f : Frame). given ++ f ∷ []) same.0 ∙ ap (λ (gs : List Frame). gs ++ frames.End ∷ []) (sym (append-nil given) ∙ split))
    by_later (f ∷ later) split left_is each =
        let same = same_frame version whole f behind (all_spelled (later ++ frames.End ∷ []) ++ rest) is_frame each.0 (sym is ∙ left_is ∙ append_assoc (spelled f) (all_spelled (later ++ frames.End ∷ [])) rest) in
        (later ++ frames.End ∷ [], ap (λ (g : Frame). given ++ g ∷ (later ++ frames.End ∷ [])) same.0 ∙ sym (append_assoc given (f ∷ later) (frames.End ∷ [])) ∙ ap (λ (gs : List Frame). gs ++ frames.End ∷ []) split)

-- what a reader gives before END is the next frame of an input that can be read to END
pub next_given : (old new : Reading) (input : List ℕ) (fs given : List Frame) (rest : List ℕ) (mid left' : Option (List ℕ)) (room : ℕ) (frame : Frame) →
    ReadsToEnd old.limit old.newest input fs rest → HasRead old (Some input) mid given → NoneEnds given → (gave : Gave old room frame new mid left') →
    (later : List Frame) × (given ++ gave.whole ∷ later ≡ fs ++ frames.End ∷ [])
next_given old new input fs given rest mid left' room frame all read none gave = by_mid mid left' read gave.took
  where
    by_place : (limit : ℕ) (newest : Version) (at : Option Place) (left behind : List ℕ) → ReadsToEnd limit newest input fs rest → ReadUpTo limit newest at (Some input) (Some left) given →
        IsNext newest at gave.place → left ≡ (opening at gave.place.version ++ spelled gave.whole) ++ behind → (later : List Frame) × (given ++ gave.whole ∷ later ≡ fs ++ frames.End ∷ [])
    by_place limit newest None left behind all (nothing, same) next is =
        let whole : Reads limit input all.place.version (fs ++ frames.End ∷ []) rest = has_read_all limit newest all.place input rest (fs ++ frames.End ∷ []) all.read in
        let versions = same_version all.place.version gave.place.version (all_spelled (fs ++ frames.End ∷ []) ++ rest) (spelled gave.whole ++ behind)
        (sym whole.split ∙ sym (same_Some left input same) ∙ is ∙ append_assoc (magic gave.place.version) (spelled gave.whole) behind) in
        let each : AreFrames gave.place.version limit 8 (fs ++ frames.End ∷ []) = subst (λ (v : Version). AreFrames v limit 8 (fs ++ frames.End ∷ [])) versions.0 whole.each in
        let ahead : Ahead gave.place.version limit 8 fs given rest (spelled gave.whole ++ behind) =
        record { later = fs; split = ap (λ (gs : List Frame). gs ++ fs) nothing; left_is = sym versions.1; each = each } in
        front_frame gave.place.version limit 8 fs given rest (spelled gave.whole ++ behind) behind gave.whole ahead gave.is_frame refl
    by_place limit newest (Some p) left behind all read next is =
        let ahead = read_ahead limit newest all.place p input fs given rest left all.read read none in
        front_frame p.version limit p.offset fs given rest left behind gave.whole ahead (subst (λ (q : Place). IsFrame q.version gave.whole) next gave.is_frame) is

    by_mid : (mid left' : Option (List ℕ)) → HasRead old (Some input) mid given → Took mid left' (opening old.place gave.place.version ++ spelled gave.whole) →
        (later : List Frame) × (given ++ gave.whole ∷ later ≡ fs ++ frames.End ∷ [])
    by_mid None left' read took = absurd (nowhere old.limit old.newest old.place input given read)
    by_mid (Some left) None read took = absurd took.known
    by_mid (Some left) (Some behind) read took = by_place old.limit old.newest old.place left behind all read gave.next took.known

-- frames before a last one are frames, and none of them is END
before_last : (version : Version) (limit offset : ℕ) (gs : List Frame) (last : Frame) → AreFrames version limit offset (gs ++ last ∷ []) → AreFrames version limit offset gs × NoneEnds gs
before_last version limit offset [] last each = (tt, tt)
before_last version limit offset (g ∷ gs) last each =
    let rest = before_last version limit (offset + length (spelled g)) gs last each.3 in
    ((each.0, each.1, λ e. absurd (push_not_empty gs last (each.2 e)), rest.0), (λ e. push_not_empty gs last (each.2 e), rest.1))

-- an input is read to END in one way
pub one_end : (limit : ℕ) (newest : Version) (input : List ℕ) (fs gs : List Frame) (rest behind : List ℕ) →
    ReadsToEnd limit newest input fs rest → ReadsToEnd limit newest input gs behind → (fs ≡ gs) × (rest ≡ behind)
one_end limit newest input fs gs rest behind first second =
    let whole : Reads limit input first.place.version (fs ++ frames.End ∷ []) rest = has_read_all limit newest first.place input rest (fs ++ frames.End ∷ []) first.read in
    let other : Reads limit input second.place.version (gs ++ frames.End ∷ []) behind = has_read_all limit newest second.place input behind (gs ++ frames.End ∷ []) second.read in
    let versions = same_version first.place.version second.place.version (all_spelled (fs ++ frames.End ∷ []) ++ rest) (all_spelled (gs ++ frames.End ∷ []) ++ behind) (sym whole.split ∙ other.split) in
    let version = second.place.version in
    let each : AreFrames version limit 8 (fs ++ frames.End ∷ []) = subst (λ (v : Version). AreFrames v limit 8 (fs ++ frames.End ∷ [])) versions.0 whole.each in
    let given = before_last version limit 8 gs frames.End other.each in
    let parted : all_spelled (gs ++ frames.End ∷ []) ++ behind ≡ all_spelled gs ++ (spelled frames.End ++ behind) =
    ap (λ (xs : List ℕ). xs ++ behind) (all_spelled-push gs frames.End) ∙ append_assoc (all_spelled gs) (spelled frames.End) behind in
    let next = ahead version limit 8 8 fs gs rest (spelled frames.End ++ behind) each given.0 given.1 (versions.1 ∙ parted) in
    by_later version (8 + length (all_spelled gs)) next.later next.split next.left_is next.each
  where
    by_later : (version : Version) (offset : ℕ) (later : List Frame) → gs ++ later ≡ fs → spelled frames.End ++ behind ≡ all_spelled (later ++ frames.End ∷ []) ++ rest →
        AreFrames version limit offset (later ++ frames.End ∷ []) → (fs ≡ gs) × (rest ≡ behind)
    by_later version offset [] split is each =
        let same = same_frame version frames.End frames.End behind rest tt tt (is ∙ append_assoc (spelled frames.End) [] rest) in
        (sym split ∙ append-nil gs, sym same.1)
    by_later version offset (f ∷ later) split is each =
        let same = same_frame version frames.End f behind (all_spelled (later ++ frames.End ∷ []) ++ rest) tt each.0 (is ∙ append_assoc (spelled f) (all_spelled (later ++ frames.End ∷ [])) rest) in
        absurd (push_not_empty later frames.End (each.2 (sym same.0)))
