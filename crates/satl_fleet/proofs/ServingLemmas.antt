-- Serving from before the units were opened.
use Rattle.std.proofs.Common.{◌≡◌, ◌∙◌, ap, subst, arith, ℕ, suc, List, [], ◌∷◌, ◌++◌, length}
use Rattle.std.specs.List.{AllByRecursion}
use Rattle.satl_io.specs.Causes.{RoseBy}
use Rattle.satl_frame.specs.Output.{Answer}
use Rattle.satl_frame.specs.declared.frames.Frame.{Frame}
use Rattle.satl_drive.specs.State.{DriveState}
use Rattle.satl_direct.specs.Device.{Device}
use Rattle.satl_core.specs.Layer.{Layer, view}
use Rattle.satl_core.specs.Tie.{given_by}
use Rattle.satl_serve.proofs.ServingLemmas.{first_of, left_as}
use Rattle.satl_step.specs.Runs.{orders_behind_all, unplugs_in}
use Rattle.satl_fleet.specs.Opening.{Opens, OpensTo}
use Rattle.satl_fleet.specs.Opening.OpensTo.{rest, more}
use Rattle.satl_fleet.specs.Output.{CutAnswers, Round, frames_of, groups_for}
use Rattle.satl_fleet.specs.Routing.{project}
use Rattle.satl_fleet.specs.Runs.{AreServed, AreServedInPart, HaveRun, HaveRunInPart, RanRounds, RanRoundsInPart, UnitCounted, UnitRan, UnitRanInPart, UnitServed, unit_stand}
use Rattle.satl_fleet.specs.Runs.AreServedInPart.{here as served_here, later as served_later}
use Rattle.satl_fleet.specs.Runs.HaveRunInPart.{here as run_here, later as run_later}
use Rattle.satl_fleet.specs.Units.{IsTiedUnit, unit_state, unit_states}

-- ---- a run is counted from before the layer was opened

module _ (old mid new : DriveState) (stays : mid ≡ record old { cells = mid.cells }) where
  sooner_counted : (events : List Frame) (losses : ℕ) → UnitCounted events losses mid new → UnitCounted events losses old new
  sooner_counted events losses c =
      let unplugs = ap (λ (d : DriveState). d.unplugs) stays in
      let deepest = ap (λ (d : DriveState). d.deepest) stays in
      record {
        faults = subst (λ n. RoseBy losses n new.faults) (ap (λ (d : DriveState). d.faults) stays) c.faults;
        unplugged = subst (λ n. RoseBy (unplugs_in events) n new.unplugs) unplugs c.unplugged;
        few_unplugs = omega (arith, c.few_unplugs, unplugs);
        orders = c.orders ∙ ap (λ (d : DriveState). orders_behind_all events d.orders) stays;
        rises = omega (arith, c.rises, deepest);
        covers = c.covers;
      }

  sooner : (first last : Device) (events : List Frame) (groups : List (List Answer)) → UnitRan (unit_stand first mid) events groups (unit_stand last new) → UnitRan (unit_stand first old) events groups (unit_stand last new)
  sooner first last events groups r = record { losses = r.losses; deep = r.deep; run = r.run; deepest = r.deepest; counted = sooner_counted events r.losses r.counted }

  sooner_part : (first last : Device) (events : List Frame) (groups : List (List Answer)) (cut : CutAnswers) → UnitRanInPart (unit_stand first mid) events groups cut (unit_stand last new) → UnitRanInPart (unit_stand first old) events groups cut (unit_stand last new)
  sooner_part first last events groups cut r = record { losses = r.losses; run = r.run; counted = sooner_counted events r.losses r.counted }

-- ---- one unit

module _ (units k : ℕ) (rounds : List Round) (old mid new : DriveState) (l l' : Layer) (o : Opens old l mid) (tied : IsTiedUnit (unit_state l' new)) where
  unit_served : RanRounds units k rounds (unit_stand (view l mid) mid) (unit_stand (view l' new) new) → UnitServed (RanRounds units k rounds) old new
  unit_served r = record {
    first = view l mid;
    last = view l' new;
    begins = first_of old mid l o.opened;
    run = sooner old mid new o.opened.stays (view l mid) (view l' new) (project units k (frames_of rounds)) (groups_for units k rounds) r;
    ends = left_as l' new tied.tied;
    queue = record { given = given_by l'; queue = tied.queue.queue };
  }

  unit_served_part : (round : Round) (cut : CutAnswers) → RanRoundsInPart units k rounds round cut (unit_stand (view l mid) mid) (unit_stand (view l' new) new) → UnitServed (RanRoundsInPart units k rounds round cut) old new
  unit_served_part round cut r = record {
    first = view l mid;
    last = view l' new;
    begins = first_of old mid l o.opened;
    run = sooner_part old mid new o.opened.stays (view l mid) (view l' new) (project units k (frames_of (rounds ++ round ∷ []))) (groups_for units k rounds) cut r;
    ends = left_as l' new tied.tied;
    queue = record { given = given_by l'; queue = tied.queue.queue };
  }

-- ---- all units

module _ (units : ℕ) where
  no_more : (k : ℕ) (rounds : List Round) (ls : List Layer) (news : List DriveState) → length ls ≡ length news → HaveRun units k rounds [] (unit_states ls news) → AreServed units k rounds [] news
  no_more k rounds [] [] long run = tt
  no_more k rounds [] (w ∷ ws) long run = absurd (omega (arith, long))
  no_more k rounds (x ∷ xs) [] long run = absurd (omega (arith, long))
  no_more k rounds (x ∷ xs) (w ∷ ws) long run = absurd run

  pub are_served : (k : ℕ) (rounds : List Round) {olds mids : List DriveState} {ls : List Layer} (ls' : List Layer) (news : List DriveState) → OpensTo olds ls mids → length ls ≡ length olds → length ls' ≡ length news → HaveRun units k rounds (unit_states ls mids) (unit_states ls' news) → AllByRecursion IsTiedUnit (unit_states ls' news) → AreServed units k rounds olds news
  are_served k rounds {olds = []} ls' news rest each long run tied = no_more k rounds ls' news long run
  are_served k rounds {olds = d ∷ ds} ls' news rest each long run tied = absurd (omega (arith, each))
  are_served k rounds [] [] (more o os) each long run tied = absurd run
  are_served k rounds [] (w ∷ ws) (more o os) each long run tied = absurd (omega (arith, long))
  are_served k rounds (x ∷ xs) [] (more o os) each long run tied = absurd (omega (arith, long))
  are_served k rounds {olds = d ∷ ds} {mids = m ∷ ms} {ls = l ∷ ls} (x ∷ xs) (w ∷ ws) (more o os) each long run tied =
      (unit_served units k rounds d m w l x o tied.0 run.0, are_served (suc k) rounds xs ws os (omega (arith, each)) (omega (arith, long)) run.1 tied.1)

  pub are_served_part : (stop : ℕ) (cut : CutAnswers) (k : ℕ) (rounds : List Round) (round : Round) {olds mids : List DriveState} {ls : List Layer} (ls' : List Layer) (news : List DriveState) → OpensTo olds ls mids → length ls ≡ length olds → length ls' ≡ length news → HaveRunInPart units rounds round stop cut k (unit_states ls mids) (unit_states ls' news) → AllByRecursion IsTiedUnit (unit_states ls' news) → AreServedInPart units rounds round stop cut k olds news
  are_served_part stop cut k rounds round {olds = d ∷ ds} {mids = m ∷ ms} {ls = l ∷ ls} (x ∷ xs) (w ∷ ws) (more o os) each long (run_here event at sees behind r others) tied =
      served_here event at sees behind (unit_served_part units k rounds d m w l x o tied.0 round cut r) (are_served (suc k) rounds xs ws os (omega (arith, each)) (omega (arith, long)) others tied.1)
  are_served_part stop cut k rounds round {olds = d ∷ ds} {mids = m ∷ ms} {ls = l ∷ ls} (x ∷ xs) (w ∷ ws) (more o os) each long (run_later r others) tied =
      served_later (unit_served units k (rounds ++ round ∷ []) d m w l x o tied.0 r) (are_served_part stop cut (suc k) rounds round xs ws os (omega (arith, each)) (omega (arith, long)) others tied.1)
  are_served_part stop cut k rounds round ls' news rest each long run tied = elim run [ ]
  are_served_part stop cut k rounds round [] news (more o os) each long run tied = elim run [ ]
  are_served_part stop cut k rounds round (x ∷ xs) [] (more o os) each long run tied = elim run [ ]
