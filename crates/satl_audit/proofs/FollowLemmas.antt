-- The frames of a record, as a reader gives them.
use Rattle.std.proofs.Common.{◌≡◌, refl, sym, ap, ◌∙◌, subst, ℕ, ◌+◌, ◌-◌, Bool, true, false, List, [], ◌∷◌, ◌++◌, length, append_assoc, Option, Some}
use Rattle.std.specs.Prelude.{max, Ok}
use Rattle.satl_base.specs.Limits.{input_limit}
use Rattle.satl_identify.specs.declared.identity.Identity.{Identity}
use Rattle.satl_identify.specs.Refusals.{IsIdentity}
use Rattle.satl_frame.specs.declared.frames.Frame.{Frame}
use Rattle.satl_frame.specs.declared.frames.Frame.TheVariants as frames
use Rattle.satl_frame.specs.declared.frames.FrameFault.TheVariants.{Bad}
use Rattle.satl_frame.specs.declared.frames.Reason.{Reason}
use Rattle.satl_frame.specs.declared.frames.Version.{Version}
use Rattle.satl_frame.specs.declared.frames.Version.TheVariants.{One}
use Rattle.satl_frame.specs.Inputs.{AreFrames, Reads, all_spelled}
use Rattle.satl_frame.specs.Magic.{magic}
use Rattle.satl_frame.specs.Progress.{ReadsToEnd}
use Rattle.satl_frame.specs.Pulls.{cut_to}
use Rattle.satl_frame.specs.Reading.{Blames, Gave, Reading}
use Rattle.satl_frame.proofs.ProgressLemmas.{has_read_more}
use Rattle.satl_frame.proofs.WholeInputs.{next_given, none_refused}
use Rattle.satl_cover.specs.Covered.{place_behind}
use Rattle.satl_cover.proofs.ReadingLemmas.{next_place, none_ends, end_whole}
use Rattle.satl_audit.specs.Advancing.{Advances, CannotGoOn, GoesOn, IsGoodFrame, MayHappen}
use Rattle.satl_audit.specs.Finishing.{AreTasks}
use Rattle.satl_audit.specs.Judged.{IsTaken, Judged}
use Rattle.satl_audit.specs.Kept.{Keeping}
use Rattle.satl_audit.specs.Waiting.{AllFit}
use Rattle.satl_audit.specs.declared.arriving.Followed.{Followed}
use Rattle.satl_audit.specs.declared.verdict.Verdict.TheVariants as says
use Rattle.satl_audit.specs.Progress.{recorded, progress}
use Rattle.satl_cover.specs.Known.{is_known_frame}
use Rattle.satl_audit.proofs.ReachBegins.{Reached}
use Rattle.satl_audit.proofs.ReachLemmas.{good_here, known_here, may_here, reached_more, tasks_here}
use Rattle.satl_audit.proofs.VerdictLemmas.{explained_here, more_here, stuck_here}
use Rattle.satl_audit.proofs.FollowGoes.{ends_last, Goes}

module _ (identity : Identity) (is : IsIdentity identity) (input output : List ℕ) (all : List Frame) (taken : IsTaken identity input all) (reader : Reading) (left : List ℕ) (followed : Followed) (sectors : List Keeping)
    (going : Goes identity input output reader left followed sectors) where
  to_end : ReadsToEnd reader.limit reader.newest input taken.whole.before []
  to_end =
      subst (λ (n : ℕ). ReadsToEnd n reader.newest input taken.whole.before []) (sym going.limit_is)
      (subst (λ (v : Version). ReadsToEnd input_limit v input taken.whole.before []) (sym going.newest)
      (record {
        place = record { version = One; offset = place_behind (taken.whole.before ++ frames.End ∷ []) };
        read = record {
          named = refl;
          took = record { known = reads.split ∙ sym (append_assoc (magic One) (all_spelled (taken.whole.before ++ frames.End ∷ [])) []) };
          offset_is = refl;
          each = reads.each;
        };
      }))
    where
      reads : Reads input_limit input One (taken.whole.before ++ frames.End ∷ []) []
      reads = subst (λ (l : List Frame). Reads input_limit input One l []) taken.whole.ends taken.whole.reads

  -- no frame is refused
  pub not_bad : (left' : Option (List ℕ)) (reason : Reason) (offset : ℕ) → Blames reader (Some left) left' (Bad reason offset) → ⊥
  not_bad left' reason offset blames = none_refused reader input taken.whole.before going.so_far [] (Some left) left' reason offset to_end going.read going.none blames

  -- a frame more is given
  module _ (new : Reading) (left' : List ℕ) (frame : Frame) (gave : Gave reader 0 frame new (Some left) (Some left')) where
    ahead : (later : List Frame) × (all ≡ going.so_far ++ gave.whole ∷ later)
    ahead = let n = next_given reader new input taken.whole.before going.so_far [] (Some left) (Some left') 0 frame to_end going.read going.none gave in (n.0, taken.whole.ends ∙ sym n.1)

    pub tasks_next : AreTasks identity input followed.waiting
    tasks_next = tasks_here identity is input output all taken going.so_far ahead.0 gave.whole ahead.1 followed sectors going.reached

    pub known_next : is_known_frame identity.trim frame ≡ true
    known_next = ap (λ (f : Frame). is_known_frame identity.trim f) gave.cut ∙ known_here identity is input output all taken going.so_far ahead.0 gave.whole ahead.1 followed sectors going.reached

    place : (at : ℕ) → at ≡ max (length input - length left) 8 → at ≡ place_behind going.so_far
    place at same = same ∙ next_place reader input left going.so_far going.read

    pub good_next : (at : ℕ) → at ≡ max (length input - length left) 8 → IsGoodFrame (length input) (at + 35) frame
    good_next at same = subst (IsGoodFrame (length input) (at + 35)) (sym gave.cut) (good_here identity is input output all taken going.so_far ahead.0 gave.whole ahead.1 followed sectors going.reached at (place at same))

    pub may_next : (at : ℕ) → at ≡ max (length input - length left) 8 → MayHappen input (at + 35) followed.waiting gave.whole
    may_next at same = may_here identity is input output all taken going.so_far ahead.0 gave.whole ahead.1 followed sectors going.reached at (place at same)

    -- it cannot happen
    pub says_no : CannotGoOn (recorded identity input) gave.whole (progress followed sectors) → Judged identity input output (Ok says.No)
    says_no cannot = (all, taken, stuck_here identity is input output all taken going.so_far ahead.0 gave.whole ahead.1 followed sectors going.reached cannot)

    module _ (next : Followed) (after : List Keeping) (goes : GoesOn (recorded identity input) gave.whole (progress followed sectors) (progress next after)) (fit : AllFit identity.capacity (length input) next.waiting) where
      more : Reached identity input output (going.so_far ++ gave.whole ∷ []) next after
      more = reached_more identity is input output all taken going.so_far ahead.0 gave.whole ahead.1 followed sectors going.reached next after goes fit

      pub goes_on : (frame ≡ frames.End → ⊥) → Goes identity input output new left' next after
      goes_on not_end = record {
        fresh = ap (λ (r : Reading). r.refused) gave.new_is ∙ going.fresh;
        newest = ap (λ (r : Reading). r.newest) gave.new_is ∙ going.newest;
        limit_is = ap (λ (r : Reading). r.limit) gave.new_is ∙ going.limit_is;
        so_far = going.so_far ++ gave.whole ∷ [];
        read = has_read_more reader new (Some input) (Some left) (Some left') going.so_far 0 frame going.read going.none gave;
        none = none_ends going.so_far frame gave.whole going.none gave.cut not_end;
        reached = more;
      }

      whole_is : frame ≡ frames.End → gave.whole ≡ frames.End
      whole_is is_end = end_whole gave.whole (sym gave.cut ∙ is_end)

      all_is : frame ≡ frames.End → going.so_far ++ gave.whole ∷ [] ≡ all
      all_is is_end =
          let each : AreFrames One input_limit 8 (going.so_far ++ frames.End ∷ ahead.0) = subst (AreFrames One input_limit 8) (ahead.1 ∙ ap (λ (f : Frame). going.so_far ++ f ∷ ahead.0) (whole_is is_end)) (taken.whole.reads).each in
          ap (λ (l : List Frame). going.so_far ++ gave.whole ∷ l) (sym (ends_last One 8 going.so_far ahead.0 each)) ∙ sym ahead.1

      reached_all : frame ≡ frames.End → Reached identity input output all next after
      reached_all is_end = subst (λ (l : List Frame). Reached identity input output l next after) (all_is is_end) more

      pub says_yes : frame ≡ frames.End → next.output ≡ [] → Judged identity input output (Ok says.Yes)
      says_yes is_end none = (all, taken, explained_here identity is input output all taken next after (reached_all is_end) none)

      pub says_no_more : frame ≡ frames.End → (next.output ≡ [] → ⊥) → Judged identity input output (Ok says.No)
      says_no_more is_end some = (all, taken, more_here identity is input output all taken next after (reached_all is_end) some)

    -- what is found of it
    module _ (at : ℕ) (place_is : at ≡ max (length input - length left) 8) (next : Followed) (after : List Keeping) (b : Bool)
        (advances : (whole : Frame) → frame ≡ cut_to 0 whole → MayHappen input (at + 35) followed.waiting whole → Advances (recorded identity input) whole (progress followed sectors) (progress next after) b) where
      here : Advances (recorded identity input) gave.whole (progress followed sectors) (progress next after) b
      here = advances gave.whole gave.cut (may_next at place_is)

      pub stops : b ≡ false → Judged identity input output (Ok says.No)
      stops e = says_no (subst (Advances (recorded identity input) gave.whole (progress followed sectors) (progress next after)) e here)

      pub goes : b ≡ true → GoesOn (recorded identity input) gave.whole (progress followed sectors) (progress next after)
      goes e = subst (Advances (recorded identity input) gave.whole (progress followed sectors) (progress next after)) e here
