-- How a load ends.
use Rattle.std.proofs.Common.{◌≡◌, ◌≤◌, ◌⊎◌, inl, inr, ℕ, false, List, [], refl, sym, subst, ap, ◌∙◌, arith}
use Rattle.std.specs.Prelude.{Option, Some, Ok, Err, Result, IfErr, IfOk, MatchResult}
use Rattle.satl_base.specs.Limits.{input_limit}
use Rattle.satl_io.specs.Causes.{Rose}
use Rattle.satl_frame.specs.declared.frames.Frame.{Frame}
use Rattle.satl_frame.specs.declared.frames.Version.TheVariants.{Two}
use Rattle.satl_text.specs.declared.summary.Summary.{Summary}
use Rattle.satl_drive.specs.State.{DriveState}
use Rattle.satl_identify.specs.declared.identity.IdentityFault.{IdentityFault}
use Rattle.satl_core.specs.declared.satl.OpenFault.TheVariants as opening
use Rattle.satl_gen.specs.Generated.{generated, generated_frames}
use Rattle.satl_gen.proofs.WholeInput.{reads_whole}
use Rattle.satl_serve.specs.Completeness.{GoesWell, IsGoodInput, MayStop}
use Rattle.satl_serve.specs.Headline.{IsServedWhole, IsStopped}
use Rattle.satl_serve.specs.Moments.{Moment, SinkState, SourceState, moment, source_state}
use Rattle.satl_serve.specs.Stopping.{HasServeCause, TellsRefusal}
use Rattle.satl_serve.specs.declared.serving.ServeFault.{ServeFault}
use Rattle.satl_serve.specs.declared.serving.ServeFault.TheVariants as faults
use Rattle.satl_serve.specs.declared.telling.Form.TheVariants as forms
use Rattle.satl_top.specs.Faults.{status_of}
use Rattle.satl_top.specs.Load.{IsLoaded, Load, LoadEnds, LoadStops, input_of, nowhere}
use Rattle.satl_top.specs.Top.{HasStatusCause}
use Rattle.satl_top.proofs.RequestLemmas.{frames_read, total_is}
use Rattle.satl_top.specs.declared.status.Status.{Status}
use Rattle.satl_top.specs.declared.status.Status.TheVariants as statuses

-- a count that stays 0 did not rise
never_rose : Rose 0 0 → ⊥
never_rose rose = omega (arith, rose)

-- a generated input is a good one
good_input : (load : Load) (made : List ℕ) → made ≡ generated load.seed load.requests → load.requests ≤ 100000 → IsGoodInput input_limit (Some made) (generated_frames load.seed load.requests) []
good_input load made is few = record { input = generated load.seed load.requests; told = ap (λ (bytes : List ℕ). Some bytes) is; whole = reads_whole Two load.seed load.requests few }

module _ (load : Load) (made : List ℕ) (left : Option (List ℕ)) (calls calls' : ℕ) (old new : DriveState) where
  abbrev begins : Moment
  begins = moment (source_state (Some made) false 0) nowhere calls old

  abbrev ends : Moment
  ends = moment (source_state left false 0) nowhere calls' new

  stops_so : (fault : ServeFault) → IsStopped forms.Count input_limit begins ends fault → HasServeCause begins ends fault → (GoesWell begins ends → MayStop begins ends fault) → (source : SourceState) (sink : SinkState) → LoadStops (moment source sink calls old) (moment source sink calls' new) fault
  stops_so (faults.Open fault) n cause may source sink =
      (record { read = refl; waits = refl; wrote = refl; undisturbed = n.undisturbed; nows = n.nows; unplugs = n.unplugs; orders = n.orders; one_call = n.one_call }, cause)
  stops_so (faults.BadInput reason offset) served cause may source sink =
      may (record { identity = served.first.identity; accepted = served.begins.identity; reads = never_rose; writes = never_rose })
  stops_so faults.Read served cause may source sink = never_rose cause
  stops_so faults.Write served cause may source sink = never_rose cause

  -- a load stops only where nothing was served
  pub load_stops : made ≡ generated load.seed load.requests → load.requests ≤ 100000 → (r : Result Summary ServeFault) → IfErr r (IsStopped forms.Count input_limit begins ends) → IfErr r (HasServeCause begins ends) → ((fs : List Frame) (rest : List ℕ) → IsGoodInput input_limit (Some made) fs rest → GoesWell begins ends → MatchResult r (λ _. left ≡ Some rest) (MayStop begins ends)) → IfErr r (λ fault. (source : SourceState) (sink : SinkState) → LoadStops (moment source sink calls old) (moment source sink calls' new) fault)
  load_stops is few (Ok summary) stopped cause complete = tt
  load_stops is few (Err fault) stopped cause complete =
      stops_so fault stopped cause (complete (generated_frames load.seed load.requests) [] (good_input load made is few))

  -- what was served whole was the generated frames, with their number
  all_served : load.requests ≤ 100000 → (summary : Summary) → IsServedWhole forms.Count input_limit summary (moment (source_state (input_of load) false 0) nowhere calls old) ends → (source : SourceState) (sink sink' : SinkState)
      → IsLoaded input_limit load summary (moment source sink calls old) (moment source sink' calls' new)
  all_served few summary served source sink sink' =
      let run = served.to_end.run in
      let frames_are : run.events ≡ generated_frames load.seed load.requests = frames_read load.seed load.requests few run.place left run.events run.read in
      record {
        left = left;
        served = served;
        frames_are = frames_are;
        requests_are = ap (λ (u : Summary). u.requests) served.totals ∙ total_is load.seed load.requests run.events few frames_are;
        unread = refl;
      }

  pub is_loaded : made ≡ generated load.seed load.requests → load.requests ≤ 100000 → (r : Result Summary ServeFault) → IfOk r (λ summary. IsServedWhole forms.Count input_limit summary begins ends)
      → IfOk r (λ summary. (source : SourceState) (sink sink' : SinkState) → IsLoaded input_limit load summary (moment source sink calls old) (moment source sink' calls' new))
  is_loaded is few (Err fault) served = tt
  is_loaded is few (Ok summary) served = all_served few summary (subst (λ m. IsServedWhole forms.Count input_limit summary (moment (source_state (Some m) false 0) nowhere calls old) ends) is served)

-- the status of such a fault says so
pub stop_ends : (limit : ℕ) (load : Load) (before after : Moment) (fault : ServeFault) (status : Status) → status ≡ status_of fault → LoadStops before after fault → LoadEnds limit load before after status
stop_ends limit load before after fault status is stops = subst (LoadEnds limit load before after) (sym is) (by_fault fault stops)
  where
    by_fault : (f : ServeFault) → LoadStops before after f → LoadEnds limit load before after (status_of f)
    by_fault (faults.Open opening.NoMemory) stops = stops.0
    by_fault (faults.Open opening.LinkDown) stops = stops.0
    by_fault (faults.Open (opening.Identity fault)) stops = stops.0
    by_fault (faults.BadInput reason offset) stops = absurd stops
    by_fault faults.Read stops = absurd stops
    by_fault faults.Write stops = absurd stops

-- and has its cause
pub stop_causes : (before after : Moment) (fault : ServeFault) (status : Status) → status ≡ status_of fault → LoadStops before after fault → HasStatusCause before after status
stop_causes before after fault status is stops = subst (HasStatusCause before after) (sym is) (by_fault fault stops)
  where
    by_fault : (f : ServeFault) → LoadStops before after f → HasStatusCause before after (status_of f)
    by_fault (faults.Open opening.NoMemory) stops = tt
    by_fault (faults.Open opening.LinkDown) stops = inr stops.1
    by_fault (faults.Open (opening.Identity fault)) stops = inl (fault, stops.1)
    by_fault (faults.BadInput reason offset) stops = absurd stops
    by_fault faults.Read stops = absurd stops
    by_fault faults.Write stops = absurd stops

-- a refusal that is told has one of two statuses
pub refusal_ends : (refusal : IdentityFault) (fault : ServeFault) (status : Status) → status ≡ status_of fault → TellsRefusal refusal fault → (status ≡ statuses.DriveRefused) ⊎ (status ≡ statuses.NoMemory)
refusal_ends refusal fault status is (inl told) = inl (is ∙ ap status_of told)
refusal_ends refusal fault status is (inr told) = inr (is ∙ ap status_of told)
