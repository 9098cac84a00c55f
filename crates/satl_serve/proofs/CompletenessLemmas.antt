-- A good input is served whole where all goes well.
use Rattle.std.proofs.Common.{◌≡◌, ◌≤◌, ◌+◌, inl, inr, refl, ◌∙◌, ap, sym, subst, ℕ, List, [], ◌∷◌, ◌++◌}
use Rattle.std.proofs.lemmas.Result.{IfErr-weaker}
use Rattle.std.specs.Prelude.{Option, None, Some, Ok, Err, Result, IfErr, IfOk, MatchResult}
use Rattle.std.specs.Result.{IsErrAnd}
use Rattle.satl_identify.specs.declared.identity.IdentityFault.{IdentityFault}
use Rattle.satl_drive.specs.State.{DriveState}
use Rattle.satl_frame.specs.Progress.{HasRead, ReadTo, ReadsToEnd}
use Rattle.satl_frame.specs.declared.frames.Frame.{Frame}
use Rattle.satl_frame.specs.declared.frames.Frame.TheVariants as frames
use Rattle.satl_frame.specs.declared.frames.FrameFault.TheVariants.{Bad}
use Rattle.satl_frame.specs.declared.frames.Place.{Place}
use Rattle.satl_frame.specs.declared.frames.Reason.{Reason}
use Rattle.satl_frame.specs.declared.frames.Version.{Version}
use Rattle.satl_frame.specs.declared.frames.Version.TheVariants.{Two}
use Rattle.satl_frame.proofs.WholeInputs.{none_refused, one_end}
use Rattle.satl_core.specs.declared.satl.OpenFault.{OpenFault}
use Rattle.satl_core.specs.declared.satl.OpenFault.TheVariants as opening
use Rattle.satl_core.specs.Layer.{Layer, Tied, view}
use Rattle.satl_core.specs.Opening.{IsCause, IsOpened}
use Rattle.satl_core.specs.Tie.{TiesQueue}
use Rattle.satl_step.specs.Runs.{tally_of}
use Rattle.satl_serve.specs.Completeness.{GoesWell, IsGoodInput, MayStop}
use Rattle.satl_serve.specs.Headline.{IsNotServed, ResultSays}
use Rattle.satl_serve.specs.Moments.{Moment, Spot, spot_at}
use Rattle.satl_serve.specs.Runs.{RanWhole, ReadBefore}
use Rattle.satl_serve.specs.Stopping.{HasServeCause, HasStreamCause, IsDriveRefused, RanTo, TellsRefusal}
use Rattle.satl_serve.specs.declared.serving.ServeFault.{ServeFault}
use Rattle.satl_serve.specs.declared.serving.ServeFault.TheVariants as faults
use Rattle.satl_serve.specs.declared.telling.Form.{Form}
use Rattle.satl_serve.proofs.ServingLemmas.{stops}

-- up to END all was read, and no byte behind it
read_all : (limit : ℕ) (place : Place) (input rest : List ℕ) (left' : Option (List ℕ)) (fs events : List Frame) → ReadsToEnd limit Two input fs rest → ReadTo limit Two place (Some input) left' (events ++ frames.End ∷ []) → left' ≡ Some rest
read_all limit place input rest None fs events whole read = absurd read.took.known
read_all limit place input rest (Some behind) fs events whole read =
    ap (λ (xs : List ℕ). Some xs) (sym (one_end limit Two input fs events rest behind whole (record { place = place; read = read })).1)

-- no frame of a good input is refused
never_refused : (limit : ℕ) (left left' : Option (List ℕ)) (events : List Frame) (reason : Reason) (offset : ℕ) (fs : List Frame) (rest : List ℕ) → IsGoodInput limit left fs rest → ReadBefore Two limit left left' events (Bad reason offset) → ⊥
never_refused limit left left' events reason offset fs rest good n =
    let whole : ReadsToEnd n.reader.limit n.reader.newest good.input fs rest =
    subst (λ (v : Version). ReadsToEnd n.reader.limit v good.input fs rest) (sym n.newest_is) (subst (λ m. ReadsToEnd m Two good.input fs rest) (sym n.limit_is) good.whole) in
    none_refused n.reader good.input fs events rest n.mid left' reason offset whole (subst (λ (o : Option (List ℕ)). HasRead n.reader o n.mid events) good.told n.read) n.none_ends n.blames

module _ (form : Form) (limit : ℕ) (a b : Spot) (before after : Moment) (fs : List Frame) (rest : List ℕ) where
  stops_complete : (fault : ServeFault) → IsGoodInput limit a.left fs rest → GoesWell before after → HasStreamCause before.source after.source before.sink after.sink fault → RanTo form limit a b fault → MayStop before after fault
  stops_complete (faults.Open fault) good well cause r = absurd r
  stops_complete (faults.BadInput reason offset) good well cause r = never_refused limit a.left b.left r.events reason offset fs rest good r.read
  stops_complete faults.Read good well cause r = well.reads cause
  stops_complete faults.Write good well cause r = well.writes cause

  -- behind the opening of the layer
  all_complete : {A : Type 0} (r : Result A ServeFault) → IfOk r (λ _. RanWhole form limit a b) → IfErr r (RanTo form limit a b) → IfErr r (HasStreamCause before.source after.source before.sink after.sink) → IsGoodInput limit a.left fs rest → GoesWell before after → MatchResult r (λ _. b.left ≡ Some rest) (MayStop before after)
  all_complete (Ok u) whole stopped cause good well =
      read_all limit whole.place good.input rest b.left fs whole.events good.whole (subst (λ (x : Option (List ℕ)). ReadTo limit Two whole.place x b.left (whole.events ++ frames.End ∷ [])) good.told whole.read)
  all_complete (Err fault) whole stopped cause good well = stops_complete fault good well cause stopped

-- what the result says where the layer was not opened
module _ (before after : Moment) (given : OpenFault) (cause : IsCause before.drive after.drive given) where
  may_stop : GoesWell before after → MayStop before after (faults.Open given)
  may_stop well = by_fault given cause
    where
      by_fault : (given : OpenFault) → IsCause before.drive after.drive given → MayStop before after (faults.Open given)
      by_fault opening.NoMemory cause = tt
      by_fault opening.LinkDown cause = cause
      by_fault (opening.Identity fault) cause = let both : Err fault ≡ Ok well.identity = sym cause ∙ well.accepted in cc

  tells_refusal : (refusal : IdentityFault) → IsDriveRefused refusal before.drive after.drive → TellsRefusal refusal (faults.Open given)
  tells_refusal refusal refused = by_fault given cause
    where
      by_fault : (given : OpenFault) → IsCause before.drive after.drive given → TellsRefusal refusal (faults.Open given)
      by_fault opening.NoMemory cause = inr refl
      by_fault opening.LinkDown cause = absurd (refused.no_rise cause)
      by_fault (opening.Identity fault) cause = inl (let both : Err fault ≡ Err refusal = sym cause ∙ refused.refused in cc)

  pub says_closed : {A : Type 0} (form : Form) (limit : ℕ) (r : Result A ServeFault) (P : ServeFault → Type 0) → IsErrAnd r P → ((e : ServeFault) → P e → e ≡ faults.Open given) → IsNotServed before after → ResultSays form limit before after r
  says_closed form limit (Ok u) P is same not_served = absurd is
  says_closed {A = A} form limit (Err e) P is same not_served = subst (λ (x : ServeFault). ResultSays {A = A} form limit before after (Err x)) (sym (same e is)) (record {
    stopped = not_served;
    causes = cause;
    refused = tells_refusal;
    complete = λ fs rest good well. may_stop well;
  })

-- a fault of a stream has the cause of one of serving
cause_of_serving : (before after : Moment) (fault : ServeFault) → HasStreamCause before.source after.source before.sink after.sink fault → HasServeCause before after fault
cause_of_serving before after (faults.Open opening) cause = absurd cause
cause_of_serving before after (faults.BadInput reason offset) cause = tt
cause_of_serving before after faults.Read cause = cause
cause_of_serving before after faults.Write cause = cause

-- what the result says where it was opened, on a drive that was first so, then opened, and last so
pub says_opened : {A : Type 0} (form : Form) (limit : ℕ) (before after : Moment) (mid : DriveState) (opened : ℕ) (l l' : Layer) (is : IsOpened before.drive l mid) (one : opened ≤ before.calls + 1) (tied : Tied l' after.drive) (ties : TiesQueue l' after.drive) (r : Result A ServeFault)
    → IfOk r (λ _. RanWhole form limit (record { left = before.source.left; waited = before.source.waited; written = before.sink.written; stand = record { device = view l mid; tally = tally_of mid opened } }) (spot_at (view l' after.drive) after.calls after))
    → IfErr r (RanTo form limit (record { left = before.source.left; waited = before.source.waited; written = before.sink.written; stand = record { device = view l mid; tally = tally_of mid opened } }) (spot_at (view l' after.drive) after.calls after))
    → IfErr r (HasStreamCause before.source after.source before.sink after.sink) → ResultSays form limit before after r
says_opened form limit before after mid opened l l' is one tied ties r whole stopped cause = record {
  stopped = IfErr-weaker r _ _ (stops form limit before after mid opened l l' is one tied ties) stopped;
  causes = IfErr-weaker r _ _ (cause_of_serving before after) cause;
  refused = λ refusal refused. let both : Err refusal ≡ Ok l.identity = sym refused.refused ∙ is.identity in cc;
  complete = λ fs rest good well. all_complete form limit _ _ before after fs rest r whole stopped cause good well;
}

-- what one result says another does that gives something else
pub says_ok : {A B : Type 0} (form : Form) (limit : ℕ) (before after : Moment) (x : A) (y : B) → ResultSays form limit before after (Ok x) → ResultSays form limit before after (Ok y)
says_ok form limit before after x y says = record { stopped = tt; causes = tt; refused = says.refused; complete = says.complete }

pub says_err : {A B : Type 0} (form : Form) (limit : ℕ) (before after : Moment) (fault : ServeFault) (r : Result B ServeFault) (P : ServeFault → Type 0) → IsErrAnd r P → ((e : ServeFault) → P e → e ≡ fault) → ResultSays {A = A} form limit before after (Err fault) → ResultSays form limit before after r
says_err form limit before after fault (Ok u) P is same says = absurd is
says_err {B = B} form limit before after fault (Err e) P is same says = subst (λ (x : ServeFault). ResultSays {A = B} form limit before after (Err x)) (sym (same e is)) (record { stopped = says.stopped; causes = says.causes; refused = says.refused; complete = says.complete })
