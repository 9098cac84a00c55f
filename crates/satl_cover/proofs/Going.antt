-- A reader that has not come to END, with what is known of its frames.
use Rattle.std.proofs.Common.{◌≡◌, ◌∙◌, ap, sym, subst, ℕ, ◌-◌, Bool, List, [], ◌∷◌, ◌++◌, length, Option, Some, None}
use Rattle.std.specs.Prelude.{max}
use Rattle.std.specs.BTreeSet.{BTreeSet}
use Rattle.satl_base.specs.Limits.{input_limit}
use Rattle.satl_frame.specs.declared.frames.Frame.{Frame}
use Rattle.satl_frame.specs.declared.frames.Frame.TheVariants as frames
use Rattle.satl_frame.specs.declared.frames.Version.TheVariants.{Two}
use Rattle.satl_frame.specs.Inputs.{NoneEnds}
use Rattle.satl_frame.specs.Progress.{HasRead}
use Rattle.satl_frame.specs.Pulls.{cut_to}
use Rattle.satl_frame.specs.Reading.{Gave, Reading}
use Rattle.satl_frame.proofs.ProgressLemmas.{has_read_more}
use Rattle.satl_cover.specs.Covered.{Knows, place_behind}
use Rattle.satl_cover.specs.Reading.{ReadWhole}
use Rattle.satl_cover.proofs.ReadingLemmas.{end_whole, next_place, none_ends, read_whole}

-- it has given frames of an input, and none was END
pub record Going (trim : Bool) (r : Reading) (input left : List ℕ) (names : BTreeSet (ℕ × ℕ)) (o : Option ℕ) : Type 0 where
  pub fresh : r.refused ≡ None
  pub newest : r.newest ≡ Two
  pub limit_is : r.limit ≡ input_limit
  pub given : List Frame
  pub read : HasRead r (Some input) (Some left) given
  pub none : NoneEnds given
  pub knows : Knows trim given names o

-- one frame more is noted
abbrev pub Notes : Bool → ℕ → Frame → BTreeSet (ℕ × ℕ) → Option ℕ → BTreeSet (ℕ × ℕ) → Option ℕ → Type 0
Notes trim at frame names o names' o' =
    (earlier : List Frame) → (whole : Frame) → frame ≡ cut_to 0 whole → at ≡ place_behind earlier → Knows trim earlier names o → Knows trim (earlier ++ whole ∷ []) names' o'

module _ {trim other : Bool} {old new : Reading} {input left left' : List ℕ} {names : BTreeSet (ℕ × ℕ)} {o : Option ℕ} {frame : Frame} (names' : BTreeSet (ℕ × ℕ)) (o' : Option ℕ) (at : ℕ) (going : Going trim old input left names o)
    (gave : Gave old 0 frame new (Some left) (Some left')) (same : other ≡ trim) (place : at ≡ max (length input - length left) 8) (notes : Notes other at frame names o names' o') where
  read_more : HasRead new (Some input) (Some left') (going.given ++ gave.whole ∷ [])
  read_more = has_read_more old new (Some input) (Some left) (Some left') going.given 0 frame going.read going.none gave

  knows_more : Knows trim (going.given ++ gave.whole ∷ []) names' o'
  knows_more =
      subst (λ (t : Bool). Knows t (going.given ++ gave.whole ∷ []) names' o') same
      (notes going.given gave.whole gave.cut (place ∙ next_place old input left going.given going.read) (subst (λ (t : Bool). Knows t going.given names o) (sym same) going.knows))

  -- before END
  pub goes_on : (frame ≡ frames.End → ⊥) → Going trim new input left' names' o'
  goes_on not_end = record {
    fresh = ap (λ (r : Reading). r.refused) gave.new_is ∙ going.fresh;
    newest = ap (λ (r : Reading). r.newest) gave.new_is ∙ going.newest;
    limit_is = ap (λ (r : Reading). r.limit) gave.new_is ∙ going.limit_is;
    given = going.given ++ gave.whole ∷ [];
    read = read_more;
    none = none_ends going.given frame gave.whole going.none gave.cut not_end;
    knows = knows_more;
  }

  -- END
  pub goes_to_end : frame ≡ frames.End → ReadWhole trim input left' names' o'
  goes_to_end is_end =
      let end : gave.whole ≡ frames.End = end_whole gave.whole (sym gave.cut ∙ is_end) in
      read_whole trim new input left' going.given names' o' (ap (λ (r : Reading). r.limit) gave.new_is ∙ going.limit_is)
      (subst (λ (f : Frame). HasRead new (Some input) (Some left') (going.given ++ f ∷ [])) end read_more)
      (subst (λ (f : Frame). Knows trim (going.given ++ f ∷ []) names' o') end knows_more)
