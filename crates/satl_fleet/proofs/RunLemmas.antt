-- The runs of units, which grow by a round.
use Rattle.std.proofs.Common.{◌≡◌, append_assoc, refl, sym, ap, subst, arith, ◌∙◌, ℕ, zero, suc, ◌+◌, ◌<◌, max, List, [], ◌∷◌, ◌++◌, length}
use Rattle.std.proofs.lemmas.List.{append-nil, length-append}
use Rattle.std.specs.Prelude.{Option, slice_index_or}
use Rattle.std.specs.List.{AllByRecursion}
use Rattle.satl_io.specs.Causes.{RoseBy}
use Rattle.satl_io.proofs.Counting.{RoseBy-more, RoseBy-none}
use Rattle.satl_frame.specs.Output.{Answer}
use Rattle.satl_frame.specs.declared.frames.Frame.{Frame}
use Rattle.satl_drive.specs.State.{DriveState}
use Rattle.satl_direct.specs.Run.{losses_in}
use Rattle.satl_direct.specs.Run.RunDeep.{start, next_event}
use Rattle.satl_direct.proofs.Quieting.{quiet_none}
use Rattle.satl_step.specs.Events.{unplugs_behind}
use Rattle.satl_step.specs.Runs.{KeepsDeepest, is_unplug, orders_behind, tally_of}
use Rattle.satl_direct.specs.Run.RunInPart.{one_event_more}
use Rattle.satl_step.proofs.RunLemmas.{Counts, counts_more, orders_more, unplugs_one}
use Rattle.satl_fleet.specs.Output.{CutAnswers, NoAnswersBehind, Round, all_of, frames_of, group_of, groups_for}
use Rattle.satl_fleet.specs.Rounds.{EachDid, IsCut, Stops, round_of, silence}
use Rattle.satl_fleet.specs.Rounds.IsCut.{at_unit, behind_all}
use Rattle.satl_fleet.specs.Rounds.EachDid.{none as no_unit, passes as unit_passes, serves as unit_serves}
use Rattle.satl_fleet.specs.Rounds.Stops.{here as stop_here, passes as stop_passes, serves as stop_serves}
use Rattle.satl_fleet.specs.Routing.{project, seen}
use Rattle.satl_fleet.specs.Runs.{HasNoTask, HaveRun, HaveRunInPart, RanRounds, RanRoundsInPart, UnitCounted, UnitRan, UnitRanInPart, UnitStand, unit_stand_of}
use Rattle.satl_fleet.specs.Runs.HaveRunInPart.{here as run_here, later as run_later}
use Rattle.satl_fleet.specs.Units.{Did, DidInPart, UnitState, device_of}
use Rattle.satl_fleet.proofs.RoundLemmas.{group_at, silent_at}

-- ---- one unit

counted_more : (events : List Frame) (losses lost : ℕ) (old mid new : DriveState) (event : Frame) → UnitCounted events losses old mid → RoseBy lost mid.faults new.faults → new.unplugs ≡ unplugs_behind event mid.unplugs → new.orders ≡ orders_behind event mid.orders → KeepsDeepest (tally_of mid 0) (tally_of new 0) → UnitCounted (events ++ event ∷ []) (losses + lost) old new
counted_more events losses lost old mid new event counted faults unplugged ordered queue =
    let u = counts_more is_unplug events event old.unplugs mid.unplugs new.unplugs (record { rose = counted.unplugged; few = counted.few_unplugs }) (subst (Counts is_unplug (event ∷ []) mid.unplugs) (sym unplugged) (unplugs_one event mid.unplugs)) in
    record {
      faults = RoseBy-more losses lost old.faults mid.faults new.faults counted.faults faults;
      unplugged = u.rose;
      few_unplugs = u.few;
      orders = orders_more events event old.orders mid.orders new.orders counted.orders ordered;
      rises = omega (arith, counted.rises, queue.rises);
      covers = queue.covers counted.covers;
    }

module _ (first : UnitStand) (events : List Frame) (groups : List (List Answer)) (s new : UnitState) (event : Frame) (answers : List Answer) (r : UnitRan first events groups (unit_stand_of s)) where
  ran_more : Did event s answers new → UnitRan first (events ++ event ∷ []) (groups ++ answers ∷ []) (unit_stand_of new)
  ran_more did = record {
    losses = r.losses + losses_in event (device_of s) (device_of new);
    deep = max r.deep did.deep;
    run = next_event event answers did.deep r.run did.does;
    deepest = omega (arith, r.deepest, did.queue.rises, did.covered r.counted.covers);
    counted = counted_more events r.losses (losses_in event (device_of s) (device_of new)) first.drive s.drive new.drive event r.counted did.faults did.unplugs did.orders did.queue;
  }

  ran_in_part : (cut : CutAnswers) → DidInPart event s cut new → UnitRanInPart first (events ++ event ∷ []) groups cut (unit_stand_of new)
  ran_in_part cut did = record {
    losses = r.losses + losses_in event (device_of s) (device_of new);
    run = one_event_more event cut.earlier cut.last r.run did.does;
    counted = counted_more events r.losses (losses_in event (device_of s) (device_of new)) first.drive s.drive new.drive event r.counted did.faults did.unplugs did.orders did.queue;
  }

-- ---- a round more

events_push : (units k : ℕ) (rounds : List Round) (round : Round) → project units k (frames_of (rounds ++ round ∷ [])) ≡ project units k (frames_of rounds) ++ seen units k round.frame
events_push units k [] round = append-nil (seen units k round.frame)
events_push units k (r ∷ rounds) round =
    ap (λ l. seen units k r.frame ++ l) (events_push units k rounds round)
    ∙ sym (append_assoc (seen units k r.frame) (project units k (frames_of rounds)) (seen units k round.frame))

groups_push : (units k : ℕ) (rounds : List Round) (round : Round) → groups_for units k (rounds ++ round ∷ []) ≡ groups_for units k rounds ++ group_of k round (seen units k round.frame)
groups_push units k [] round = append-nil (group_of k round (seen units k round.frame))
groups_push units k (r ∷ rounds) round =
    ap (λ l. group_of k r (seen units k r.frame) ++ l) (groups_push units k rounds round)
    ∙ sym (append_assoc (group_of k r (seen units k r.frame)) (groups_for units k rounds) (group_of k round (seen units k round.frame)))

module _ (units k : ℕ) (rounds : List Round) (round : Round) where
  abbrev old_events : List Frame
  old_events = project units k (frames_of rounds)

  abbrev old_groups : List (List Answer)
  old_groups = groups_for units k rounds

  -- a unit that does not see its frame
  events_same : seen units k round.frame ≡ [] → old_events ≡ project units k (frames_of (rounds ++ round ∷ []))
  events_same unseen = sym (events_push units k rounds round ∙ (ap (λ l. old_events ++ l) unseen ∙ append-nil old_events))

  groups_same : seen units k round.frame ≡ [] → old_groups ≡ groups_for units k (rounds ++ round ∷ [])
  groups_same unseen = sym (groups_push units k rounds round ∙ (ap (λ l. old_groups ++ group_of k round l) unseen ∙ append-nil old_groups))

  -- one that does
  events_one : (event : Frame) → seen units k round.frame ≡ event ∷ [] → old_events ++ event ∷ [] ≡ project units k (frames_of (rounds ++ round ∷ []))
  events_one event sees = sym (events_push units k rounds round ∙ ap (λ l. old_events ++ l) sees)

  groups_one : (event : Frame) (answers : List Answer) → seen units k round.frame ≡ event ∷ [] → slice_index_or round.groups k [] ≡ answers → old_groups ++ answers ∷ [] ≡ groups_for units k (rounds ++ round ∷ [])
  groups_one event answers sees here = sym (groups_push units k rounds round ∙ (ap (λ l. old_groups ++ group_of k round l) sees ∙ ap (λ g. old_groups ++ g ∷ []) here))

  module _ (first : UnitStand) (s : UnitState) (r : RanRounds units k rounds first (unit_stand_of s)) where
    ran_past : seen units k round.frame ≡ [] → RanRounds units k (rounds ++ round ∷ []) first (unit_stand_of s)
    ran_past unseen = subst (λ gs. UnitRan first (project units k (frames_of (rounds ++ round ∷ []))) gs (unit_stand_of s)) (groups_same unseen) (subst (λ es. UnitRan first es old_groups (unit_stand_of s)) (events_same unseen) r)

    module _ (event : Frame) (answers : List Answer) (new : UnitState) (sees : seen units k round.frame ≡ event ∷ []) (here : slice_index_or round.groups k [] ≡ answers) where
      ran_on : Did event s answers new → RanRounds units k (rounds ++ round ∷ []) first (unit_stand_of new)
      ran_on did = subst (λ gs. UnitRan first (project units k (frames_of (rounds ++ round ∷ []))) gs (unit_stand_of new)) (groups_one event answers sees here) (subst (λ es. UnitRan first es (old_groups ++ answers ∷ []) (unit_stand_of new)) (events_one event sees) (ran_more first old_events old_groups s new event answers r did))

    ran_cut : (event : Frame) (cut : CutAnswers) (new : UnitState) → seen units k round.frame ≡ event ∷ [] → DidInPart event s cut new → RanRoundsInPart units k rounds round cut first (unit_stand_of new)
    ran_cut event cut new sees did = subst (λ es. UnitRanInPart first es old_groups cut (unit_stand_of new)) (events_one event sees) (ran_in_part first old_events old_groups s new event (all_of cut) r cut did)

-- the groups behind it, where those units are silent
silent_behind : (before : List (List Answer)) (answers : List Answer) (ss : List UnitState) (j : ℕ) → length before < j → slice_index_or (before ++ answers ∷ silence ss) j [] ≡ []
silent_behind before answers ss zero less = absurd (omega (arith, less))
silent_behind [] answers ss (suc j) less = silent_at ss j
silent_behind (g ∷ gs) answers ss (suc j) less = silent_behind gs answers ss j (omega (arith, less))

module _ (units : ℕ) (rounds : List Round) (frame : Frame) (groups : List (List Answer)) where
  abbrev whole : Round
  whole = round_of frame groups

  next_split : (before : List (List Answer)) (answers : List Answer) (behind : List (List Answer)) → groups ≡ before ++ answers ∷ behind → groups ≡ (before ++ answers ∷ []) ++ behind
  next_split before answers behind is = is ∙ sym (append_assoc before (answers ∷ []) behind)

  next_length : (before : List (List Answer)) (answers : List Answer) (k : ℕ) → length before ≡ k → length (before ++ answers ∷ []) ≡ suc k
  next_length before answers k is = let long = length-append before (answers ∷ []) in omega (arith, long, is)

  here_is : (before : List (List Answer)) (answers : List Answer) (behind : List (List Answer)) (k : ℕ) → groups ≡ before ++ answers ∷ behind → length before ≡ k → slice_index_or groups k [] ≡ answers
  here_is before answers behind k is long = ap (λ gs. slice_index_or gs k []) is ∙ group_at before answers behind k long

  none_behind : (before : List (List Answer)) (answers : List Answer) (ss : List UnitState) (k : ℕ) → groups ≡ before ++ answers ∷ silence ss → length before ≡ k → NoAnswersBehind k whole
  none_behind before answers ss k is long j less = ap (λ gs. slice_index_or gs j []) is ∙ silent_behind before answers ss j (omega (arith, less, long))

  pub run_round : (k : ℕ) (before : List (List Answer)) {behind : List (List Answer)} (starts : List UnitState) {olds news : List UnitState} → groups ≡ before ++ behind → length before ≡ k → HaveRun units k rounds starts olds → EachDid units frame k behind olds news → HaveRun units k (rounds ++ whole ∷ []) starts news
  run_round k before [] is long run no_unit = tt
  run_round k before (a ∷ starts) is long run no_unit = absurd run
  run_round k before [] is long run (unit_passes unseen others) = absurd run
  run_round k before {behind = g ∷ gs} (a ∷ starts) {olds = s ∷ ss} is long run (unit_passes unseen others) =
      (ran_past units k rounds whole (unit_stand_of a) s run.0 unseen, run_round (suc k) (before ++ g ∷ []) starts (next_split before g gs is) (next_length before g k long) run.1 others)
  run_round k before [] is long run (unit_serves event sees did others) = absurd run
  run_round k before {behind = g ∷ gs} (a ∷ starts) {olds = s ∷ ss} {news = w ∷ ws} is long run (unit_serves event sees did others) =
      (ran_on units k rounds whole (unit_stand_of a) s run.0 event g w sees (here_is before g gs k is long) did, run_round (suc k) (before ++ g ∷ []) starts (next_split before g gs is) (next_length before g k long) run.1 others)

  pub run_round_part : (stop : ℕ) (cut : CutAnswers) (k : ℕ) (before : List (List Answer)) {behind : List (List Answer)} (starts : List UnitState) {olds news : List UnitState} → groups ≡ before ++ behind → length before ≡ k → HaveRun units k rounds starts olds → Stops units frame stop cut k behind olds news → HaveRunInPart units rounds whole stop cut k starts news
  run_round_part stop cut k before [] is long run (stop_here event at sees did) = absurd run
  run_round_part stop cut k before {behind = g ∷ gs} (a ∷ starts) {olds = s ∷ ss} {news = w ∷ ws} is long run (stop_here event at sees did) =
      run_here event at sees (none_behind before g ss k is long) (ran_cut units k rounds whole (unit_stand_of a) s run.0 event cut w sees did) run.1
  run_round_part stop cut k before [] is long run (stop_passes unseen others) = absurd run
  run_round_part stop cut k before {behind = g ∷ gs} (a ∷ starts) {olds = s ∷ ss} is long run (stop_passes unseen others) =
      run_later (ran_past units k rounds whole (unit_stand_of a) s run.0 unseen) (run_round_part stop cut (suc k) (before ++ g ∷ []) starts (next_split before g gs is) (next_length before g k long) run.1 others)
  run_round_part stop cut k before [] is long run (stop_serves event sees did others) = absurd run
  run_round_part stop cut k before {behind = g ∷ gs} (a ∷ starts) {olds = s ∷ ss} {news = w ∷ ws} is long run (stop_serves event sees did others) =
      run_later (ran_on units k rounds whole (unit_stand_of a) s run.0 event g w sees (here_is before g gs k is long) did) (run_round_part stop cut (suc k) (before ++ g ∷ []) starts (next_split before g gs is) (next_length before g k long) run.1 others)
  run_round_part stop cut k before {behind = []} (a ∷ starts) {olds = olds} {news = news} is long run each = elim each [ ]
  run_round_part stop cut k before {behind = g ∷ gs} (a ∷ starts) {olds = []} {news = news} is long run each = absurd run

-- a round that was cut, told of other units' states
pub cut_so : {units : ℕ} {round : Round} {before after : Option (List ℕ)} {All All' : Type 0} {UpTo UpTo' : ℕ → CutAnswers → Type 0} → (All → All') → ((stop : ℕ) (cut : CutAnswers) → UpTo stop cut → UpTo' stop cut) → IsCut units round before after All UpTo → IsCut units round before after All' UpTo'
cut_so all up_to (behind_all is breaks) = behind_all (all is) breaks
cut_so all up_to (at_unit stop cut is breaks) = at_unit stop cut (up_to stop cut is) breaks

-- no round
pub run_none : (units k : ℕ) (ss : List UnitState) → AllByRecursion HasNoTask ss → HaveRun units k [] ss ss
run_none units k [] idle = tt
run_none units k (s ∷ ss) idle = (
  record {
    losses = 0;
    deep = 0;
    run = start (quiet_none (device_of s));
    deepest = omega arith;
    counted = record { faults = RoseBy-none s.drive.faults; unplugged = RoseBy-none s.drive.unplugs; few_unplugs = omega arith; orders = refl; rises = omega arith; covers = idle.0.covers };
  },
  run_none units (suc k) ss idle.1,
)
