-- What is known at the frame that a record has come to.
use Rattle.std.proofs.Common.{arith, ◌≡◌, refl, sym, ap, ◌∙◌, subst, ℕ, ◌+◌, true, false, List, [], ◌∷◌, ◌++◌, length, drop, append_assoc}
use Rattle.std.specs.Prelude.{replicate, not}
use Rattle.std.specs.List.{AllByRecursion}
use Rattle.satl_base.specs.declared.request.Request.{Request}
use Rattle.satl_cdb.specs.Table.{says}
use Rattle.satl_identify.specs.declared.identity.Identity.{Identity}
use Rattle.satl_identify.specs.Refusals.{IsIdentity}
use Rattle.satl_frame.specs.declared.frames.Frame.{Frame}
use Rattle.satl_frame.specs.declared.frames.Frame.TheVariants as frames
use Rattle.satl_frame.specs.declared.frames.Version.TheVariants.{One}
use Rattle.satl_frame.specs.Frames.{IsFrame}
use Rattle.satl_frame.specs.Inputs.{all_spelled}
use Rattle.satl_frame.specs.Magic.{magic}
use Rattle.satl_frame.specs.Output.{all_answered, out, out_magic}
use Rattle.satl_frame.specs.Pulls.{cut_to}
use Rattle.satl_direct.specs.Arrival.{is_unit_0}
use Rattle.satl_direct.proofs.Naming.{own_none}
use Rattle.satl_laws.specs.ArrivalOrder.{AskOnce}
use Rattle.satl_cover.specs.Covered.{AreCovered, is_covered, is_repeated, place_behind}
use Rattle.satl_cover.specs.Known.{is_known, is_known_frame}
use Rattle.satl_audit.specs.Advancing.{GoesOn, IsGoodFrame, MayHappen}
use Rattle.satl_audit.specs.Arriving.{device_at}
use Rattle.satl_audit.specs.Deciding.{IsFineFrame, IsInput, GivesWhole}
use Rattle.satl_audit.specs.Finishing.{AreTasks}
use Rattle.satl_audit.specs.Judged.{IsTaken, blank, blank_cell}
use Rattle.satl_audit.specs.Kept.{Keeping, blank_keeping}
use Rattle.satl_audit.specs.Skeleton.Skeleton.{further}
use Rattle.satl_audit.specs.Waiting.{AllFit, device_tasks}
use Rattle.satl_audit.specs.declared.arriving.Followed.{Followed}
use Rattle.satl_audit.specs.Progress.{recorded, progress}
use Rattle.satl_audit.proofs.JoinedDeeds.{begins_stepped, follows_join}
use Rattle.satl_audit.proofs.Fixing.{answered_push, steps_fixed}
use Rattle.satl_audit.proofs.FixingTurns.{Kept}
use Rattle.satl_audit.proofs.Identities.{AllKnown}
use Rattle.satl_audit.proofs.Sparse.{no_name}
use Rattle.satl_audit.proofs.StandsLemmas.{data_stands, data_within, frames_behind}
use Rattle.satl_audit.proofs.Taking.{frames_of, none_counted, once_of, taken_is_input}
use Rattle.satl_cover.proofs.OneAnswer.{covered_there}
use Rattle.satl_audit.proofs.ReachBegins.{Reached, covered_front, tags_of, expected_of, known_cut, good_cut}
use Rattle.std.proofs.lemmas.Bool.{not-true, and_parts}
use Rattle.satl_line.proofs.SlotsLemmas.{All-append, All-right, All-left}

module _ (identity : Identity) (is : IsIdentity identity) (input output : List ℕ) (all : List Frame) (taken : IsTaken identity input all) (so_far later : List Frame) (event : Frame) (all_are : all ≡ so_far ++ event ∷ later) (followed : Followed) (sectors : List Keeping)
    (reached : Reached identity input output so_far followed sectors) where
  pub decided : IsInput (blank identity) (so_far ++ event ∷ later)
  decided = subst (IsInput (blank identity)) all_are (taken_is_input identity input all is taken)

  covered : AreCovered identity.trim [] (so_far ++ event ∷ later)
  covered = subst (AreCovered identity.trim []) all_are taken.covered

  next_covered : is_covered identity.trim so_far event ≡ true
  next_covered = covered_there identity.trim [] so_far event later covered

  known : is_known_frame identity.trim event ≡ true
  known = (and_parts (is_known_frame identity.trim event) (not (is_repeated so_far event)) next_covered).0

  fresh : is_repeated so_far event ≡ false
  fresh = not-true (is_repeated so_far event) (and_parts (is_known_frame identity.trim event) (not (is_repeated so_far event)) next_covered).1

  good_frame : IsFrame One event
  good_frame = (All-right (IsFrame One) so_far (event ∷ later) (subst (AllByRecursion (IsFrame One)) all_are (frames_of (IsFrame One) (λ f h. h) 8 all (taken.whole.reads).each))).0

  known_before : AllKnown identity.trim so_far
  known_before = All-left (λ g. is_known_frame identity.trim g ≡ true) so_far (event ∷ later) ((decided.audited).known)

  fine_before : AllByRecursion IsFineFrame so_far
  fine_before = All-left IsFineFrame so_far (event ∷ later) decided.fine

  once_before : AskOnce so_far
  once_before nexus tag = once_of identity.trim nexus tag [] so_far (covered_front identity.trim [] so_far (event ∷ later) covered) (omega arith)

  kept : Kept (device_at identity input followed)
  kept = (steps_fixed reached.skeleton (record { own = own_none; fine = tt }) known_before fine_before reached.whole reached.answers reached.deeds (device_at identity input followed) reached.skeleton reached.whole [] [] refl).kept

  pub tasks_here : AreTasks identity input followed.waiting
  tasks_here = record { own = kept.own; tags = tags_of (device_tasks input followed.waiting) kept.fine; expected = expected_of (device_tasks input followed.waiting) kept.fine; fit = reached.fit }

  behind : drop (place_behind so_far) input ≡ all_spelled (event ∷ later)
  behind = frames_behind input so_far (event ∷ later) ((taken.whole.reads).split ∙ ap (λ (l : List Frame). magic One ++ (all_spelled l ++ [])) all_are)

  stands_here : (at : ℕ) → at ≡ place_behind so_far → (r : Request) → event ≡ frames.Request r → drop at input ≡ all_spelled (frames.Request r ∷ later)
  stands_here at same r e = ap (λ k. drop k input) same ∙ behind ∙ ap (λ (f : Frame). all_spelled (f ∷ later)) e

  pub known_here : is_known_frame identity.trim (cut_to 0 event) ≡ true
  known_here = known_cut identity.trim event known

  pub good_here : (at : ℕ) → at ≡ place_behind so_far → IsGoodFrame (length input) (at + 35) (cut_to 0 event)
  good_here at same = good_cut (length input) (at + 35) event (by event refl)
    where
      by : (f : Frame) → event ≡ f → IsGoodFrame (length input) (at + 35) f
      by (frames.Request r) e =
          let good : IsFrame One (frames.Request r) = subst (IsFrame One) e good_frame in
          record {
            nexus = good.fields.nexus;
            expected = good.fields.expected;
            within = data_within input at r later good (stands_here at same r e);
          }
      by (frames.Manage m) e = tt
      by (frames.Turn n) e = tt
      by (frames.Bench event) e = tt
      by frames.End e = tt

  pub may_here : (at : ℕ) → at ≡ place_behind so_far → MayHappen input (at + 35) followed.waiting event
  may_here at same = by event refl
    where
      by : (f : Frame) → event ≡ f → MayHappen input (at + 35) followed.waiting f
      by (frames.Request r) e =
          let good : IsFrame One (frames.Request r) = subst (IsFrame One) e good_frame in
          let here : is_known_frame identity.trim (frames.Request r) ≡ true = subst (λ (f : Frame). is_known_frame identity.trim f ≡ true) e known in
          let none : is_repeated so_far (frames.Request r) ≡ false = subst (λ (f : Frame). is_repeated so_far f ≡ false) e fresh in
          record {
            unit = (and_parts (is_unit_0 r.lun) (is_known (says r.cdb identity.trim)) here).0;
            alone = no_name blank_cell reached.skeleton refl known_before once_before r (none_counted _ so_far none);
            stands = data_stands input at r later good (stands_here at same r e);
          }
      by (frames.Manage m) e = tt
      by (frames.Turn n) e = tt
      by (frames.Bench event) e = tt
      by frames.End e = tt

  pub reached_more : (new : Followed) (after : List Keeping) → GoesOn (recorded identity input) event (progress followed sectors) (progress new after) → AllFit identity.capacity (length input) new.waiting → Reached identity input output (so_far ++ event ∷ []) new after
  reached_more new after g fit = record {
    answers = reached.answers ++ g.answers;
    deeds = reached.deeds ++ g.deeds;
    skeleton = further event g.answers g.deeds reached.skeleton g.stepped;
    whole = All-append GivesWhole reached.deeds g.deeds reached.whole g.whole;
    said = reached.said ∙ said;
    follows = follows_join input reached.deeds g.deeds (replicate identity.capacity blank_keeping) sectors after (begins_stepped event (device_at identity input followed) (device_at identity input new) g.answers g.deeds g.stepped) reached.follows g.follows;
    fit = fit;
  }
    where
      said : out reached.answers ++ followed.output ≡ out (reached.answers ++ g.answers) ++ new.output
      said =
          ap (λ (l : List ℕ). out reached.answers ++ l) g.said
          ∙ append_assoc out_magic (all_answered reached.answers) (all_answered g.answers ++ new.output)
          ∙ ap (λ (l : List ℕ). out_magic ++ l) (sym (answered_push reached.answers g.answers new.output))
          ∙ sym (append_assoc out_magic (all_answered (reached.answers ++ g.answers)) new.output)
