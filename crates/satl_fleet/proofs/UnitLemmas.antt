-- What a unit did, of what its step says.
use Rattle.std.proofs.Common.{◌≡◌, append_assoc, refl, sym, ap, subst, ◌∙◌, ℕ, Bool, true, false, List, [], ◌∷◌, ◌++◌, drop, length, not}
use Rattle.std.proofs.Math.Seq.{drop-append_seam}
use Rattle.std.specs.Prelude.{Option, Result, Ok, Err, if◌then◌else◌}
use Rattle.satl_io.specs.Known.{Wrote, WrotePart}
use Rattle.satl_frame.specs.Output.{Answer, all_answered, answer_bytes}
use Rattle.satl_frame.specs.declared.frames.Frame.{Frame}
use Rattle.satl_drive.specs.State.{DriveState}
use Rattle.satl_core.specs.Layer.{Layer}
use Rattle.satl_step.specs.Events.{Carried, CarriedInPart, Done, DoneInPart, IsTallied, IsWholeOf, Scene, scene_of}
use Rattle.satl_step.specs.Runs.{stand_of}
use Rattle.satl_step.specs.Serving.{WholeOrInPart}
use Rattle.satl_step.specs.Telling.{all_behind, all_told}
use Rattle.satl_step.proofs.RunLemmas.{in_part, tallied_whole}
use Rattle.satl_step.proofs.TellingLemmas.{all_told-append}
use Rattle.satl_fleet.specs.Output.{CutAnswers, all_of, is_left_out, kept, named, named_behind, told_last, told_one, told_under, unit_bytes}
use Rattle.satl_fleet.specs.Units.{Did, DidInPart, UnitDid, UnitDidInPart, unit_state}
use Rattle.satl_fleet.specs.declared.telling.UnitTeller.{UnitTeller}

-- ---- telling

abbrev pub by : UnitTeller → Answer → List ℕ
by t answer = told_one t.unit t.named answer

abbrev pub behind : UnitTeller → Answer → UnitTeller
behind t answer = record t { named = named_behind t.unit t.named answer }

abbrev teller : ℕ → Bool → UnitTeller
teller k named = record { unit = k; named = named }

-- once the unit is named
named_told : (k : ℕ) (answers : List Answer) → all_told by behind (teller k true) answers ≡ all_answered (kept k answers)
named_told k [] = refl
named_told k (answer ∷ answers) =
    (elim (is_left_out k answer) as (λ b. (if b then [] else answer_bytes answer) ++ all_told by behind (teller k true) answers ≡ all_answered (if b then kept k answers else answer ∷ kept k answers)) [
      | true ↦ named_told k answers
      | false ↦ ap (λ l. answer_bytes answer ++ l) (named_told k answers)
    ])

-- before it is named
unnamed_told : (k : ℕ) (answers : List Answer) → all_told by behind (teller k false) answers ≡ told_under k answers
unnamed_told k [] = refl
unnamed_told k (answer ∷ answers) =
    (elim (is_left_out k answer) as (λ b. (if b then [] else unit_bytes k ++ answer_bytes answer) ++ all_told by behind (teller k (not b)) answers ≡ named k (if b then kept k answers else answer ∷ kept k answers)) [
      | true ↦ unnamed_told k answers
      | false ↦ append_assoc (unit_bytes k) (answer_bytes answer) (all_told by behind (teller k true) answers) ∙ ap (λ l. unit_bytes k ++ (answer_bytes answer ++ l)) (named_told k answers)
    ])

-- the answers of the last step, behind the earlier ones
both_told : (k : ℕ) (cut : CutAnswers) → told_under k (all_of cut) ≡ told_under k cut.earlier ++ all_told by behind (all_behind behind (teller k false) cut.earlier) cut.last
both_told k cut =
    sym (unnamed_told k (all_of cut))
    ∙ (all_told-append by behind (teller k false) cut.earlier cut.last
    ∙ ap (λ l. l ++ all_told by behind (all_behind behind (teller k false) cut.earlier) cut.last) (unnamed_told k cut.earlier))

last_is_told : (k : ℕ) (cut : CutAnswers) → told_last k cut ≡ all_told by behind (all_behind behind (teller k false) cut.earlier) cut.last
last_is_told k cut =
    let behind_them = all_told by behind (all_behind behind (teller k false) cut.earlier) cut.last in
    ap (λ l. drop (length (told_under k cut.earlier)) l) (both_told k cut) ∙ drop-append_seam (told_under k cut.earlier) behind_them

pub last_behind : (k : ℕ) (cut : CutAnswers) → told_under k (all_of cut) ≡ told_under k cut.earlier ++ told_last k cut
last_behind k cut = both_told k cut ∙ ap (λ l. told_under k cut.earlier ++ l) (sym (last_is_told k cut))

-- ---- doing

-- what was counted, however an event ended
pub counted_so : {E : Type 0} (event : Frame) (a c : Scene UnitTeller) (r : Result (Unit {0}) E) → WholeOrInPart (Done by behind event) (DoneInPart by behind event) a c r → IsTallied event a.stand c.stand
counted_so event a c (Ok u) ends = ends.whole.tallied
counted_so event a c (Err e) ends = ends.part.tallied

module _ (l l' : Layer) (d d' : DriveState) (calls calls' : ℕ) (event whole : Frame) (is : IsWholeOf event whole) where
  did : (answers : List Answer) → IsTallied event (stand_of l d calls) (stand_of l' d' calls') → Carried event (stand_of l d calls) answers (stand_of l' d' calls') → Did whole (unit_state l d) answers (unit_state l' d')
  did answers tallied carried =
      let t = tallied_whole is.room (stand_of l d calls) (stand_of l' d' calls') event whole is.cut tallied in
      record { deep = carried.deep; does = carried.does whole is; covered = carried.covered; faults = t.faults; unplugs = t.unplugs; orders = t.orders; queue = record { rises = t.queue.rises; covers = t.queue.covers } }

  did_in_part : (cut : CutAnswers) → IsTallied event (stand_of l d calls) (stand_of l' d' calls') → CarriedInPart event (stand_of l d calls) cut.earlier cut.last (stand_of l' d' calls') → DidInPart whole (unit_state l d) cut (unit_state l' d')
  did_in_part cut tallied done =
      let t = tallied_whole is.room (stand_of l d calls) (stand_of l' d' calls') event whole is.cut tallied in
      record {
        does = in_part event whole (stand_of l d calls) (stand_of l' d' calls') cut.earlier cut.last is done;
        faults = t.faults;
        unplugs = t.unplugs;
        orders = t.orders;
        queue = record { rises = t.queue.rises; covers = t.queue.covers };
      }

  module _ (k : ℕ) (first last : UnitTeller) (fresh : first ≡ record { unit = k; named = false }) (written written' : Option (List ℕ)) where
    pub unit_did : Done by behind event (scene_of l d calls first written) (scene_of l' d' calls' last written') → UnitDid k whole (unit_state l d) (unit_state l' d') written written'
    unit_did done = record {
      answers = done.answers;
      did = did done.answers done.tallied done.carried;
      wrote = subst (Wrote written written') (ap (λ t. all_told by behind t done.answers) fresh ∙ unnamed_told k done.answers) done.told_so.wrote;
    }

    pub unit_did_in_part : DoneInPart by behind event (scene_of l d calls first written) (scene_of l' d' calls' last written') → UnitDidInPart k whole (unit_state l d) (unit_state l' d') written written'
    unit_did_in_part done =
        let cut : CutAnswers = record { earlier = done.earlier; last = done.last } in
        let mid = done.told_so.mid in
        let at = done.told_so.whole.teller ∙ ap (λ t. all_behind behind t done.earlier) fresh in
        record {
          cut = cut;
          did = did_in_part cut done.tallied done.carried;
          told = record {
            behind = mid.written;
            wrote = subst (Wrote written mid.written) (ap (λ t. all_told by behind t done.earlier) fresh ∙ unnamed_told k done.earlier) done.told_so.whole.wrote;
            part = subst (WrotePart mid.written written') (ap (λ t. all_told by behind t done.last) at ∙ sym (last_is_told k cut)) done.told_so.front.part;
          };
        }
