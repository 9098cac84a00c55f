-- What a run by a teller is.
use Rattle.std.proofs.Common.{◌≡◌, inl, inr, refl, sym, ap, subst, arith, ◌∙◌, ℕ, ◌≤◌, List, [], ◌∷◌, ◌++◌, length, map}
use Rattle.std.proofs.lemmas.List.{length-append}
use Rattle.std.specs.Prelude.{Bool, Option, None, Some}
use Rattle.satl_base.proofs.ListsLemmas.{how_many-push}
use Rattle.satl_base.specs.Limits.{input_limit}
use Rattle.satl_io.specs.Known.{Wrote, WrotePart}
use Rattle.satl_io.proofs.Joined.{Wrote-more, Wrote-none}
use Rattle.satl_frame.specs.declared.frames.Frame.{Frame}
use Rattle.satl_frame.specs.declared.frames.Frame.TheVariants as frames
use Rattle.satl_frame.specs.declared.frames.FrameFault.{FrameFault}
use Rattle.satl_frame.specs.declared.frames.FrameFault.TheVariants.{Bad, ReadFault}
use Rattle.satl_frame.specs.declared.frames.Place.{Place}
use Rattle.satl_frame.specs.declared.frames.Reason.{Reason}
use Rattle.satl_frame.specs.declared.frames.Version.{Version}
use Rattle.satl_frame.specs.declared.frames.Version.TheVariants.{Two}
use Rattle.satl_frame.specs.Output.{Answer}
use Rattle.satl_frame.specs.Progress.{HasRead, ReadTo, ReadUpTo}
use Rattle.satl_frame.specs.Reading.{Reading}
use Rattle.satl_io.specs.Causes.{total}
use Rattle.satl_line.specs.Tasks.{entries_of}
use Rattle.satl_direct.specs.Run.{RunDeep, joined}
use Rattle.satl_direct.specs.Tasks.{task_of}
use Rattle.satl_core.specs.Layer.{Layer}
use Rattle.satl_step.specs.Loop.{HasStopCause, LoopState, ReachedEnd, Refused, StoppedInAnswers, StoppedSo}
use Rattle.satl_step.specs.declared.frames_loop.Stop.{Stop}
use Rattle.satl_step.specs.declared.frames_loop.Stop.TheVariants as stops
use Rattle.satl_step.specs.Runs.{AreCounted, IsDeep, RunSoFar, Stand, is_request, requests_in}
use Rattle.satl_step.specs.Telling.{IsTold, Telling}
use Rattle.satl_step.proofs.RunLemmas.{run_start}
use Rattle.satl_step.proofs.TellingLemmas.{told_more}
use Rattle.satl_serve.specs.Forms.{begun, fault_told, output, told_of}
use Rattle.satl_serve.specs.Moments.{SinkState, SourceState, Spot}
use Rattle.satl_serve.specs.Runs.{BrokeInAnswers, BrokeInFault, BrokeInMagic, RanBefore, RanWhole, ReadBefore}
use Rattle.satl_serve.specs.Stopping.{HasStreamCause, RanTo, Tells, TellsSo, TellsStop}
use Rattle.satl_serve.specs.declared.serving.ServeFault.{ServeFault}
use Rattle.satl_serve.specs.declared.serving.ServeFault.TheVariants as faults
use Rattle.satl_serve.specs.declared.telling.Form.{Form}
use Rattle.satl_serve.specs.Tellers.{RanBy, TellsIn}
use Rattle.satl_serve.proofs.TellerLemmas.{all_told_in, tells_on}

-- where a stage stands that was reached behind what was written
abbrev pub spot_of : {T : Type 0} → Option (List ℕ) → LoopState T → Spot
spot_of written a = record { left = a.left; waited = a.waited; written = written; stand = a.scene.stand }

abbrev pub seen : {T : Type 0} → LoopState T → Spot
seen a = spot_of a.scene.telling.written a

-- what was read up to END
pub read_to : (limit : ℕ) (newest : Version) (r : Reading) (left left' : Option (List ℕ)) (events earlier : List Frame) → r.limit ≡ limit → r.newest ≡ newest → HasRead r left left' events → events ≡ earlier ++ frames.End ∷ [] → (place : Place) × ReadTo limit newest place left left' (earlier ++ frames.End ∷ [])
read_to limit newest r left left' events earlier limit_is newest_is read ends =
    by_place r.place (subst (λ (n : ℕ). ReadUpTo n newest r.place left left' (earlier ++ frames.End ∷ [])) limit_is (subst (λ (v : Version). ReadUpTo r.limit v r.place left left' (earlier ++ frames.End ∷ [])) newest_is (subst (λ fs. HasRead r left left' fs) ends read)))
  where
    by_place : (at : Option Place) → ReadUpTo limit newest at left left' (earlier ++ frames.End ∷ []) → (place : Place) × ReadTo limit newest place left left' (earlier ++ frames.End ∷ [])
    by_place None (nothing, same) = let long = length-append earlier (frames.End ∷ []) in let none = ap length nothing in absurd (omega (arith, long, none))
    by_place (Some place) read = (place, read)

-- how many of the events before END are requests
counted : (n : ℕ) (events earlier : List Frame) → events ≡ earlier ++ frames.End ∷ [] → n ≡ total (requests_in events) → n ≡ total (requests_in earlier)
counted n events earlier ends count =
    let all : requests_in events ≡ requests_in earlier = let last = how_many-push is_request earlier frames.End in let more = ap requests_in ends in omega (arith, last, more) in
    count ∙ ap total all

-- a run over frames that are these
run_to : (a b : Stand) (events all : List Frame) (groups : List (List Answer)) → events ≡ all → RunSoFar a b events groups → RunSoFar a b all groups
run_to a b events all groups is r = record {
  losses = r.losses;
  deep = r.deep;
  run = subst (λ fs. RunDeep a.device fs groups r.losses b.device r.deep) is r.run;
  covered = r.covered;
  counted = subst (λ fs. AreCounted fs r.losses a b) is r.counted;
}

module _ {T : Type 0} (by : T → Answer → List ℕ) (behind : T → Answer → T) where
  -- a stage at which serving begins: a new reader, a teller that tells in the form, and what stands before all answers
  pub record Begins (form : Form) (written : Option (List ℕ)) (a : LoopState T) : Type 0 where
    pub limit : a.reader.limit ≡ input_limit
    pub newest : a.reader.newest ≡ Two
    pub tells : TellsIn by behind form a.scene.telling.teller
    pub magic : Wrote written a.scene.telling.written (begun form)

  -- the output so far
  printed : (form : Form) (written : Option (List ℕ)) (a : LoopState T) (b : Telling T) (answers : List Answer) → Begins form written a → IsTold by behind a.scene.telling b answers → Wrote written b.written (output form answers)
  printed form written a b answers begins told_so =
      Wrote-more begins.magic (subst (λ l. Wrote a.scene.telling.written b.written l) (all_told_in by behind form a.scene.telling.teller answers begins.tells) told_so.wrote)

  ran : (form : Form) (written : Option (List ℕ)) (a b : LoopState T) (n : ℕ) → IsDeep a.scene.stand.tally → Begins form written a → (e : ReachedEnd by behind a b n) → RanWhole form input_limit (spot_of written a) (seen b)
  unfolding run_to
  ran form written a b n deep begins e =
      let s = e.so_far in
      let read = read_to input_limit Two b.reader a.left b.left s.events e.earlier (s.given.limit ∙ begins.limit) (s.given.newest ∙ begins.newest) s.given.read e.ends in
      record {
        events = e.earlier;
        groups = s.groups;
        place = read.0;
        read = read.1;
        unwaited = e.unwaited;
        wrote = printed form written a b.scene.telling (joined s.groups) begins s.told_so;
        run = run_to a.scene.stand b.scene.stand s.events (e.earlier ++ frames.End ∷ []) s.groups e.ends s.run;
        deep = s.run.covered deep;
      }

  pub whole : (form : Form) (written : Option (List ℕ)) (a b : LoopState T) (n : ℕ) → IsDeep a.scene.stand.tally → Begins form written a → ReachedEnd by behind a b n → RanBy behind form input_limit a.scene.telling.teller b.scene.telling.teller n (spot_of written a) (seen b)
  unfolding ran
  whole form written a b n deep begins e = record {
    to_end = ran form written a b n deep begins e;
    told_so = record { requests_are = counted n e.so_far.events e.earlier e.ends e.so_far.requests_are; teller = e.so_far.told_so.teller };
  }

  read_before : (form : Form) (written : Option (List ℕ)) (a b : LoopState T) (why : FrameFault) → Begins form written a → (r : Refused by behind a b why) → ReadBefore Two input_limit a.left b.left r.going.so_far.events why
  read_before form written a b why begins r =
      let given = r.going.so_far.given in
      record {
        reader = r.reader;
        mid = r.mid;
        limit_is = given.limit ∙ begins.limit;
        newest_is = given.newest ∙ begins.newest;
        none_ends = r.going.none_ends;
        read = given.read;
        blames = r.blames;
      }

  -- a refusal, which was told or was not
  before : (form : Form) (written last : Option (List ℕ)) (a b : LoopState T) (why : FrameFault) → Begins form written a → Refused by behind a b why → Wrote b.scene.telling.written last (told_of form why) → RanBefore form input_limit why (spot_of written a) (spot_of last b)
  before form written last a b why begins r wrote =
      let s = r.going.so_far in
      record {
        events = s.events;
        groups = s.groups;
        read = read_before form written a b why begins r;
        awaits = r.awaits;
        wrote = Wrote-more (printed form written a b.scene.telling (joined s.groups) begins s.told_so) wrote;
        run = s.run;
      }

  broken : (form : Form) (written last : Option (List ℕ)) (a b : LoopState T) (reason : Reason) (offset : ℕ) → Begins form written a → Refused by behind a b (Bad reason offset) → WrotePart b.scene.telling.written last (fault_told form reason offset) → BrokeInFault form input_limit (spot_of written a) (spot_of last b)
  broken form written last a b reason offset begins r part =
      let s = r.going.so_far in
      record {
        events = s.events;
        groups = s.groups;
        reason = reason;
        offset = offset;
        behind = b.scene.telling.written;
        read = read_before form written a b (Bad reason offset) begins r;
        awaits = r.awaits;
        wrote = printed form written a b.scene.telling (joined s.groups) begins s.told_so;
        part = part;
        run = s.run;
      }

  pub refused : (form : Form) (written last : Option (List ℕ)) (a b : LoopState T) (why : FrameFault) (fault : ServeFault) → Begins form written a → Refused by behind a b why → Tells form why b.scene.telling.written last fault → RanTo form input_limit (spot_of written a) (spot_of last b) fault
  refused form written last a b why (faults.Open opening) begins r tells = absurd tells
  refused form written last a b why (faults.BadInput reason offset) begins r (is, wrote) =
      before form written last a b (Bad reason offset) begins (subst (λ w. Refused by behind a b w) is r) wrote
  refused form written last a b why faults.Read begins r (is, same) =
      before form written last a b ReadFault begins (subst (λ w. Refused by behind a b w) is r) (subst (λ w. Wrote b.scene.telling.written w []) (sym same) (Wrote-none b.scene.telling.written))
  refused form written last a b why faults.Write begins r (reason, offset, is, part) =
      inr (inr (broken form written last a b reason offset begins (subst (λ w. Refused by behind a b w) is r) part))

  pub in_answers : (form : Form) (written : Option (List ℕ)) (a b : LoopState T) → Begins form written a → StoppedInAnswers by behind a b → BrokeInAnswers form input_limit (spot_of written a) (seen b)
  in_answers form written a b begins t =
      let s = t.going.so_far in
      let mid = t.told_so.mid in
      let told_so = told_more by behind a.scene.telling t.mid.scene.telling mid (joined s.groups) t.earlier s.told_so t.told_so.whole in
      let tells = subst (λ x. TellsIn by behind form x) (sym told_so.teller) (tells_on by behind form a.scene.telling.teller (joined s.groups ++ t.earlier) begins.tells) in
      record {
        events = s.events;
        groups = s.groups;
        event = t.event;
        earlier = t.earlier;
        last = t.last;
        reader = b.reader;
        behind = mid.written;
        limit_is = t.given.limit ∙ begins.limit;
        newest_is = t.given.newest ∙ begins.newest;
        none_ends = t.going.none_ends;
        read = t.given.read;
        unwaited = t.unwaited;
        wrote = printed form written a mid (joined s.groups ++ t.earlier) begins told_so;
        part = subst (λ l. WrotePart mid.written b.scene.telling.written l) (all_told_in by behind form mid.teller t.last tells) t.told_so.front.part;
        run = t.run;
      }

  -- where frames are carried out no further
  pub stopped : (form : Form) (written : Option (List ℕ)) (a b : LoopState T) (before after : SinkState) (fault : ServeFault) (stop : Stop) → before.written ≡ b.scene.telling.written → Begins form written a → StoppedSo by behind a b stop → TellsStop form before after fault stop → RanTo form input_limit (spot_of written a) (spot_of after.written b) fault
  stopped form written a b before after fault (stops.Refused why) same begins r told =
      refused form written after.written a b why fault begins r (subst (λ w. Tells form why w after.written fault) same told.tells)
  stopped form written a b before after fault stops.Write same begins t (is, stays) =
      subst (RanTo form input_limit (spot_of written a) (spot_of after.written b)) (sym is) (inr (inl (subst (λ w. BrokeInAnswers form input_limit (spot_of written a) (spot_of w b)) (sym same ∙ ap (λ (w : SinkState). w.written) (sym stays)) (in_answers form written a b begins t))))

-- and why
pub stop_cause : (form : Form) (read read' : SourceState) (first begun_at before after : SinkState) (fault : ServeFault) (stop : Stop) → first.faults ≤ begun_at.faults → HasStopCause read.faults read'.faults begun_at.faults before.faults stop → TellsStop form before after fault stop → begun_at.faults ≤ before.faults → HasStreamCause read read' first after fault
stop_cause form read read' first begun_at before after fault (stops.Refused why) earlier cause told later = by_fault fault why cause told
  where
    by_fault : (fault : ServeFault) (why : FrameFault) → HasStopCause read.faults read'.faults begun_at.faults before.faults (stops.Refused why) → TellsSo form why before after fault → HasStreamCause read read' first after fault
    by_fault (faults.Open opening) why cause told = absurd told.tells
    by_fault (faults.BadInput reason offset) why cause told = tt
    by_fault faults.Read why cause told = subst (λ w. HasStopCause read.faults read'.faults begun_at.faults before.faults (stops.Refused w)) told.tells.0 cause
    by_fault faults.Write why cause told = let rose = told.cause refl in omega (arith, rose, earlier, later)
stop_cause form read read' first begun_at before after fault stops.Write earlier cause (is, stays) later =
    let same = ap (λ (w : SinkState). w.faults) stays in subst (HasStreamCause read read' first after) (sym is) (omega (arith, cause, earlier, same))

-- nothing was read, and what stands before all answers was written in part
pub in_magic : (form : Form) (left : Option (List ℕ)) (waited : Bool) (written written' : Option (List ℕ)) (l : Layer) (a : Stand) → l.tasks ≡ [] → a.device.tasks ≡ map task_of (entries_of l.tasks) → WrotePart written written' (begun form) → BrokeInMagic form (record { left = left; waited = waited; written = written; stand = a }) (record { left = left; waited = waited; written = written'; stand = a })
in_magic form left waited written written' l a idle seen part = record { read = refl; waits = refl; part = part; run = run_start a (seen ∙ ap (λ t. map task_of (entries_of t)) idle) }
