-- Frames of an input that were given and have happened.
use Rattle.std.proofs.Common.{◌≡◌, refl, sym, ap, subst, ℕ, ◌+◌, List, [], ◌∷◌, ◌++◌, length, Some, None}
use Rattle.satl_base.specs.Limits.{input_limit}
use Rattle.satl_identify.specs.declared.identity.Identity.{Identity}
use Rattle.satl_frame.specs.declared.frames.Frame.{Frame}
use Rattle.satl_frame.specs.declared.frames.Frame.TheVariants as frames
use Rattle.satl_frame.specs.declared.frames.Version.{Version}
use Rattle.satl_frame.specs.declared.frames.Version.TheVariants.{Two}
use Rattle.satl_frame.specs.Frames.{spelled}
use Rattle.satl_frame.specs.Inputs.{AreFrames, NoneEnds}
use Rattle.satl_frame.specs.Output.{out_magic}
use Rattle.satl_frame.specs.Progress.{HasRead}
use Rattle.satl_frame.specs.Reading.{Reading}
use Rattle.satl_audit.specs.Kept.{Keeping}
use Rattle.satl_audit.specs.declared.arriving.Followed.{Followed}
use Rattle.satl_audit.proofs.ReachBegins.{Reached}

-- END is the last of frames
pub ends_last : (version : Version) (offset : ℕ) (before later : List Frame) → AreFrames version input_limit offset (before ++ frames.End ∷ later) → later ≡ []
ends_last version offset [] later each = each.2 refl
ends_last version offset (f ∷ before) later each = ends_last version (offset + length (spelled f)) before later each.3

-- frames of an input were given and have happened, and none was END
pub record Goes (identity : Identity) (input output : List ℕ) (reader : Reading) (left : List ℕ) (followed : Followed) (sectors : List Keeping) : Type 0 where
  pub fresh : reader.refused ≡ None
  pub newest : reader.newest ≡ Two
  pub limit_is : reader.limit ≡ input_limit
  pub so_far : List Frame
  pub read : HasRead reader (Some input) (Some left) so_far
  pub none : NoneEnds so_far
  pub reached : Reached identity input output so_far followed sectors

pub goes_none : (identity : Identity) (input left : List ℕ) (reader : Reading) (followed : Followed) (sectors : List Keeping) → reader ≡ record { limit = input_limit; newest = Two; place = None; refused = None } →
    Reached identity input (out_magic ++ left) [] followed sectors → Goes identity input (out_magic ++ left) reader input followed sectors
goes_none identity input left reader followed sectors is reached = record {
  fresh = ap (λ (r : Reading). r.refused) is;
  newest = ap (λ (r : Reading). r.newest) is;
  limit_is = ap (λ (r : Reading). r.limit) is;
  so_far = [];
  read = subst (λ (r : Reading). HasRead r (Some input) (Some input) []) (sym is) (refl, refl);
  none = tt;
  reached = reached;
}
