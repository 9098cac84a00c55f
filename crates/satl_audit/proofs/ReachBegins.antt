-- How far a record was gone through: its beginning, and what is known of frames and tasks by themselves.
use Rattle.std.proofs.Common.{◌≡◌, refl, sym, ap, ◌∙◌, subst, ℕ, Bool, true, List, [], ◌∷◌, ◌++◌, length}
use Rattle.std.specs.Prelude.{◌<◌, ◌^◌, None, replicate}
use Rattle.std.specs.List.{AllByRecursion}
use Rattle.satl_identify.specs.declared.identity.Identity.{Identity}
use Rattle.satl_line.specs.declared.entry.Entry.{Entry}
use Rattle.satl_frame.specs.declared.frames.Frame.{Frame}
use Rattle.satl_frame.specs.declared.frames.Frame.TheVariants as frames
use Rattle.satl_frame.specs.Output.{Answer, out, out_magic}
use Rattle.satl_frame.specs.Pulls.{cut_to}
use Rattle.satl_cover.specs.Covered.{AreCovered}
use Rattle.satl_cover.specs.Known.{is_known_frame}
use Rattle.satl_audit.specs.Advancing.{IsGoodFrame}
use Rattle.satl_audit.specs.Arriving.{device_at}
use Rattle.satl_audit.specs.Deciding.{AllWhole}
use Rattle.satl_audit.specs.Deeds.{Deed}
use Rattle.satl_audit.specs.Following.{Follows}
use Rattle.satl_audit.specs.Judged.{blank}
use Rattle.satl_audit.specs.Kept.{Keeping, blank_keeping}
use Rattle.satl_audit.specs.Skeleton.{Skeleton, bare}
use Rattle.satl_audit.specs.Skeleton.Skeleton.{begin}
use Rattle.satl_audit.specs.Waiting.{AllFit, device_tasks}
use Rattle.satl_audit.specs.declared.arriving.Followed.{Followed}
use Rattle.satl_audit.proofs.Telling.{IsFine}

-- these frames have happened, with the front of the output, and each sector goes along with them
pub record Reached (identity : Identity) (input output : List ℕ) (so_far : List Frame) (followed : Followed) (sectors : List Keeping) : Type 0 where
  pub answers : List Answer
  pub deeds : List Deed
  pub skeleton : Skeleton (bare (blank identity)) so_far answers deeds (device_at identity input followed)
  pub whole : AllWhole deeds
  pub said : output ≡ out answers ++ followed.output
  pub follows : Follows input deeds (replicate identity.capacity blank_keeping) sectors
  pub fit : AllFit identity.capacity (length input) followed.waiting

pub reached_none : (identity : Identity) (input left : List ℕ) (followed : Followed) (sectors : List Keeping) → followed.waiting ≡ [] → followed.attentions ≡ [] ∷ [] ∷ [] ∷ [] ∷ [] → followed.output ≡ left →
    sectors ≡ replicate identity.capacity blank_keeping → Reached identity input (out_magic ++ left) [] followed sectors
reached_none identity input left followed sectors none untold output are = record {
  answers = [];
  deeds = [];
  skeleton = subst (Skeleton (bare (blank identity)) [] [] []) (sym same) begin;
  whole = tt;
  said = ap (λ (l : List ℕ). out_magic ++ l) (sym output);
  follows = subst (Follows input [] (replicate identity.capacity blank_keeping)) (sym are) (refl, λ x less. refl);
  fit = subst (AllFit identity.capacity (length input)) (sym none) tt;
}
  where
    same : device_at identity input followed ≡ bare (blank identity)
    same =
        ap (λ w. record (bare (blank identity)) { tasks = device_tasks input w; attentions = followed.attentions }) none
        ∙ ap (λ a. record (bare (blank identity)) { attentions = a }) untold

-- frames before others are taken
pub covered_front : (trim : Bool) (earlier xs ys : List Frame) → AreCovered trim earlier (xs ++ ys) → AreCovered trim earlier xs
covered_front trim earlier [] ys h = tt
covered_front trim earlier (x ∷ xs) ys h = (h.0, covered_front trim (earlier ++ x ∷ []) xs ys h.1)

-- tasks of version 1
pub tags_of : (ts : List Entry) → AllByRecursion IsFine ts → AllByRecursion (λ (t : Entry). (t.tag).0 < 2 ^ 32) ts
tags_of [] h = tt
tags_of (t ∷ ts) h = ((h.0).0, tags_of ts h.1)

pub expected_of : (ts : List Entry) → AllByRecursion IsFine ts → AllByRecursion (λ (t : Entry). t.expected ≡ None) ts
expected_of [] h = tt
expected_of (t ∷ ts) h = ((h.0).1, expected_of ts h.1)

-- a frame that has no pages with it
pub known_cut : (trim : Bool) (f : Frame) → is_known_frame trim f ≡ true → is_known_frame trim (cut_to 0 f) ≡ true
known_cut trim (frames.Request r) h = h
known_cut trim (frames.Manage m) h = h
known_cut trim (frames.Turn n) h = h
known_cut trim (frames.Bench event) h = h
known_cut trim frames.End h = h

pub good_cut : (size at : ℕ) (f : Frame) → IsGoodFrame size at f → IsGoodFrame size at (cut_to 0 f)
good_cut size at (frames.Request r) h = record { nexus = h.nexus; expected = h.expected; within = h.within }
good_cut size at (frames.Manage m) h = tt
good_cut size at (frames.Turn n) h = tt
good_cut size at (frames.Bench event) h = tt
good_cut size at frames.End h = tt
