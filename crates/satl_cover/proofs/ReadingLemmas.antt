-- What a reader's frames and its end say of the input.
use Rattle.std.proofs.Common.{arith, ◌≡◌, refl, ap, ◌∙◌, subst, ℕ, ◌-◌, ◌<◌, Bool, List, [], ◌∷◌, ◌++◌, length, Option, Some, None}
use Rattle.std.specs.Prelude.{max}
use Rattle.std.specs.BTreeSet.{BTreeSet}
use Rattle.std.proofs.lemmas.List.{length-append}
use Rattle.satl_frame.specs.declared.frames.Frame.{Frame}
use Rattle.satl_frame.specs.declared.frames.Frame.TheVariants as frames
use Rattle.satl_frame.specs.declared.frames.Place.{Place}
use Rattle.satl_frame.specs.declared.frames.Reason.TheVariants.{TooLong}
use Rattle.satl_frame.specs.declared.frames.Version.{Version}
use Rattle.satl_frame.specs.Inputs.{NoneEnds, Reads, all_spelled}
use Rattle.satl_frame.specs.Magic.{magic}
use Rattle.satl_frame.specs.Progress.{HasRead, ReadUpTo}
use Rattle.satl_frame.specs.Pulls.{cut_to}
use Rattle.satl_frame.specs.Reading.{Reading}
use Rattle.satl_frame.proofs.ProgressLemmas.{has_read_all}
use Rattle.satl_frame.proofs.Refusals.{length-magic}
use Rattle.satl_cover.specs.Covered.{IsBadInput, Knows, place_behind}
use Rattle.satl_cover.specs.Covered.IsBadInput.{bad_rest}
use Rattle.satl_cover.specs.Reading.{ReadWhole}
use Rattle.std.proofs.lemmas.Option.{same_Some}
use Rattle.satl_base.proofs.ListsLemmas.{push_not_empty}
use Rattle.satl_base.specs.Limits.{input_limit}

-- the place of the next frame
pub next_place : (r : Reading) (input left : List ℕ) (given : List Frame) → HasRead r (Some input) (Some left) given → max (length input - length left) 8 ≡ place_behind given
next_place r input left given read = by_place r.limit r.newest r.place read
  where
    by_place : (limit : ℕ) (newest : Version) (at : Option Place) → ReadUpTo limit newest at (Some input) (Some left) given → max (length input - length left) 8 ≡ place_behind given
    by_place limit newest None (nothing, same) = omega (arith, ap length (same_Some left input same), ap (λ (fs : List Frame). length (all_spelled fs)) nothing)
    by_place limit newest (Some p) read =
        omega (arith, ap length read.took.known, length-append (magic p.version ++ all_spelled given) left, length-append (magic p.version) (all_spelled given), length-magic p.version)

-- a whole input was read
pub read_whole : (trim : Bool) (r : Reading) (input left : List ℕ) (given : List Frame) (names : BTreeSet (ℕ × ℕ)) (o : Option ℕ) → r.limit ≡ input_limit → HasRead r (Some input) (Some left) (given ++ frames.End ∷ []) →
    Knows trim (given ++ frames.End ∷ []) names o → ReadWhole trim input left names o
read_whole trim r input left given names o is_limit read knows = by_place r.limit r.newest r.place is_limit read
  where
    by_place : (l : ℕ) (newest : Version) (at : Option Place) → l ≡ input_limit → ReadUpTo l newest at (Some input) (Some left) (given ++ frames.End ∷ []) → ReadWhole trim input left names o
    by_place l newest None is_limit (nothing, same) = absurd (push_not_empty given frames.End nothing)
    by_place l newest (Some p) is_limit read = record {
      version = p.version;
      before = given;
      reads = subst (λ (n : ℕ). Reads n input p.version (given ++ frames.End ∷ []) left) is_limit (has_read_all l newest p input left (given ++ frames.End ∷ []) read);
      knows = knows;
    }

-- END without its pages is END
pub end_whole : (whole : Frame) → cut_to 0 whole ≡ frames.End → whole ≡ frames.End
end_whole (frames.Request r) e = absurd cc
end_whole (frames.Manage m) e = absurd cc
end_whole (frames.Turn count) e = absurd cc
end_whole (frames.Bench event) e = absurd cc
end_whole frames.End e = refl

-- one frame more that is not END
pub none_ends : (fs : List Frame) (frame whole : Frame) → NoneEnds fs → frame ≡ cut_to 0 whole → (frame ≡ frames.End → ⊥) → NoneEnds (fs ++ whole ∷ [])
none_ends [] frame whole none cut not_end = (λ e. not_end (cut ∙ ap (cut_to 0) e), tt)
none_ends (f ∷ fs) frame whole none cut not_end = (none.0, none_ends fs frame whole none.1 cut not_end)

-- what is left behind END is refused there
pub rest_is_bad : (trim : Bool) (input left : List ℕ) (names : BTreeSet (ℕ × ℕ)) (o : Option ℕ) → ReadWhole trim input left names o → 0 < length left → IsBadInput input TooLong (length input - length left)
rest_is_bad trim input left names o w some =
    bad_rest w.before w.reads (λ e. absurd (omega (arith, ap length e, some))) refl
    (omega (arith, ap length w.reads.split, length-append (magic w.version) (all_spelled (w.before ++ frames.End ∷ []) ++ left), length-append (all_spelled (w.before ++ frames.End ∷ [])) left, length-magic w.version))
