-- How often the drives are called, where the links are known to be lost.
use Rattle.std.proofs.Common.{◌≡◌, refl, ap, subst, ◌∙◌, arith, ℕ, zero, suc, ◌+◌, ◌*◌, ◌≤◌, Bool, true, false, List, [], ◌∷◌, ◌++◌, length, map}
use Rattle.std.specs.Prelude.{◌==◌, IfSome, Option, None, Some, slice_get, if◌then◌else◌}
use Rattle.std.specs.List.{AllByRecursion}
use Rattle.satl_base.specs.declared.bench.BenchEvent.TheVariants as events
use Rattle.satl_base.specs.declared.request.Request.{Request}
use Rattle.satl_base.specs.declared.request.Manage.{Manage}
use Rattle.satl_frame.specs.declared.frames.Frame.{Frame}
use Rattle.satl_frame.specs.declared.frames.Frame.TheVariants as frames
use Rattle.satl_frame.specs.Output.{Answer}
use Rattle.satl_line.specs.Tasks.{Held, entries_of}
use Rattle.satl_direct.specs.Device.{Device}
use Rattle.satl_direct.specs.Run.{Does}
use Rattle.satl_direct.specs.Tasks.{task_of}
use Rattle.satl_core.specs.Turning.{turn_calls}
use Rattle.satl_step.specs.Events.{CallsNone}
use Rattle.satl_step.specs.Runs.{is_lost_behind, is_lost_behind_all}
use Rattle.satl_step.proofs.LostLemmas.{run_lost}
use Rattle.satl_step.proofs.RunLemmas.{powered_idle}
use Rattle.satl_fleet.specs.Loop.{calls_due_unless}
use Rattle.satl_fleet.specs.Output.{Round, frames_of, groups_for}
use Rattle.satl_fleet.specs.Rounds.{CallsNoneAt, EachDid, NoneCalls}
use Rattle.satl_fleet.specs.Rounds.EachDid.{none as no_unit, passes as unit_passes, serves as unit_serves}
use Rattle.satl_fleet.specs.Routing.{is_for_all, is_report, lun_0, project, route_to, seen}
use Rattle.satl_fleet.specs.Runs.{HaveRun}
use Rattle.satl_fleet.specs.Serving.{Target, calls_due}
use Rattle.satl_fleet.specs.Units.{UnitState, device_of, pending}
use Rattle.satl_fleet.proofs.SpotLemmas.{pending_cons}

-- ---- what a unit knows of its link

lost_join : (earlier later : List Frame) (before : Bool) → is_lost_behind_all (earlier ++ later) before ≡ is_lost_behind_all later (is_lost_behind_all earlier before)
lost_join [] later before = refl
lost_join (e ∷ earlier) later before = lost_join earlier later (is_lost_behind e before)

-- a link that is known to be lost is so whatever is known before
lost_more : (event : Frame) (b c : Bool) → (b ≡ true → c ≡ true) → is_lost_behind event b ≡ true → is_lost_behind event c ≡ true
lost_more (frames.Bench events.Unplug) b c more is = refl
lost_more (frames.Bench events.Power) b c more is = is
lost_more _ b c more is = more is

lost_more_all : (events : List Frame) (b c : Bool) → (b ≡ true → c ≡ true) → is_lost_behind_all events b ≡ true → is_lost_behind_all events c ≡ true
lost_more_all [] b c more is = more is
lost_more_all (e ∷ events) b c more is = lost_more_all events (is_lost_behind e b) (is_lost_behind e c) (lost_more e b c more) is

-- commands and functions say nothing of it, wherever they go
routed_request : (out here : Bool) (r : Request) (before : Bool) → is_lost_behind_all (if out then [] else if here then frames.Request r ∷ [] else []) before ≡ before
routed_request true here r before = refl
routed_request false true r before = refl
routed_request false false r before = refl

routed_manage : (all here : Bool) (m there : Manage) (before : Bool) → is_lost_behind_all (if all then frames.Manage m ∷ [] else if here then frames.Manage there ∷ [] else []) before ≡ before
routed_manage true here m there before = refl
routed_manage false true m there before = refl
routed_manage false false m there before = refl

-- a unit knows of it what the frames tell
seen_lost : (units k : ℕ) (frame : Frame) (before : Bool) → is_lost_behind_all (seen units k frame) before ≡ is_lost_behind frame before
seen_lost units k (frames.Request r) before = routed_request (is_report r) ((route_to units r.lun).unit == k) (record r { lun = (route_to units r.lun).lun }) before
seen_lost units k (frames.Manage m) before = routed_manage (is_for_all m) ((route_to units m.lun).unit == k) (record m { lun = lun_0 }) (record m { lun = (route_to units m.lun).lun }) before
seen_lost units k (frames.Turn n) before = refl
seen_lost units k (frames.Bench event) before = refl
seen_lost units k frames.End before = refl

project_lost : (units k : ℕ) (fs : List Frame) (before : Bool) → is_lost_behind_all (project units k fs) before ≡ is_lost_behind_all fs before
project_lost units k [] before = refl
project_lost units k (f ∷ fs) before =
    lost_join (seen units k f) (project units k fs) before
    ∙ (ap (is_lost_behind_all (project units k fs)) (seen_lost units k f before) ∙ project_lost units k fs (is_lost_behind f before))

-- ---- no unit calls its drive where all links are known to be lost

module _ (units : ℕ) (rounds : List Round) (lost : is_lost_behind_all (frames_of rounds) false ≡ true) where
  lost_to : (k : ℕ) (before : Bool) → is_lost_behind_all (project units k (frames_of rounds)) before ≡ true
  lost_to k before = project_lost units k (frames_of rounds) before ∙ lost_more_all (frames_of rounds) false before (λ is. absurd cc) lost

  units_lost : (k j : ℕ) (starts ss : List UnitState) → HaveRun units k rounds starts ss → IfSome (slice_get ss j) (λ s. (device_of s).down ≡ true)
  units_lost k j [] [] run = tt
  units_lost k j [] (s ∷ ss) run = absurd run
  units_lost k j (a ∷ starts) [] run = absurd run
  units_lost k zero (a ∷ starts) (s ∷ ss) run =
      run_lost (device_of a) (device_of s) (project units k (frames_of rounds)) (groups_for units k rounds) run.0.losses run.0.deep run.0.run (lost_to k (device_of a).down)
  units_lost k (suc j) (a ∷ starts) (s ∷ ss) run = units_lost (suc k) j starts ss run.1

lost_calls_none : (event : Frame) (s : Device) → s.down ≡ true → CallsNone event s
lost_calls_none (frames.Bench event) s is = tt
lost_calls_none (frames.Request r) s is = is
lost_calls_none (frames.Manage m) s is = is
lost_calls_none (frames.Turn n) s is = is
lost_calls_none frames.End s is = is

calls_none_at : (event : Frame) (o : Option UnitState) → IfSome o (λ s. (device_of s).down ≡ true) → IfSome o (λ s. CallsNone event (device_of s))
calls_none_at event None is = tt
calls_none_at event (Some s) is = lost_calls_none event (device_of s) is

all_none_at : (k : ℕ) (ss : List UnitState) (events : List Frame) → IfSome (slice_get ss k) (λ s. (device_of s).down ≡ true) → AllByRecursion (λ event. CallsNoneAt k event ss) events
all_none_at k ss [] is = tt
all_none_at k ss (e ∷ events) is = (calls_none_at e (slice_get ss k) is, all_none_at k ss events is)

pub lost_none_calls : (units : ℕ) (rounds : List Round) (starts ss : List UnitState) → HaveRun units 0 rounds starts ss → is_lost_behind_all (frames_of rounds) false ≡ true → (frame : Frame) → NoneCalls units frame ss
lost_none_calls units rounds starts ss run lost frame = λ k. all_none_at k ss (seen units k frame) (units_lost units rounds lost 0 k starts ss run)

-- ---- POWER leaves no task

no_task : (tasks : List Held) → map task_of (entries_of tasks) ≡ [] → length tasks ≡ 0
no_task [] none = refl
no_task (h ∷ tasks) none = absurd cc

powered_units : (units k : ℕ) {groups : List (List Answer)} {olds news : List UnitState} → EachDid units (frames.Bench events.Power) k groups olds news → pending news ≡ 0
powered_units units k no_unit = refl
powered_units units k (unit_passes unseen others) = absurd cc
powered_units units k (unit_serves {news = news} {old = old} {new = new} {answers = answers} event sees did others) =
    let is : event ≡ frames.Bench events.Power = cc in
    let idle = no_task new.layer.tasks (powered_idle (device_of old) (device_of new) answers did.deep (subst (λ e. Does e (device_of old) answers (device_of new) did.deep) is did.does)) in
    let rest = powered_units units (suc k) others in
    omega (arith, idle, rest, pending_cons new news)

pub power_idles : (units : ℕ) (frame : Frame) (groups : List (List Answer)) (olds news : List UnitState) → EachDid units frame 0 groups olds news → frame ≡ frames.Bench events.Power → pending news ≡ 0
power_idles units frame groups olds news each is = powered_units units 0 (subst (λ f. EachDid units f 0 groups olds news) is each)

-- ---- what is due

pub due_at_least : (lost : Bool) (t : Target) (calls : ℕ) → calls ≤ calls_due_unless lost t calls
due_at_least true t calls = omega arith
due_at_least false t calls = omega arith

due_at_most : (lost : Bool) (t : Target) (calls : ℕ) → calls_due_unless lost t calls ≤ calls_due t calls
due_at_most true t calls = omega arith
due_at_most false t calls = omega arith

due_behind_lost : (frame : Frame) (t : Target) (calls : ℕ) → (frame ≡ frames.Bench events.Power → pending t.units ≡ 0) → calls_due_unless (is_lost_behind frame true) t calls ≡ calls
due_behind_lost (frames.Bench events.Power) t calls idle = let none = ap (λ n. turn_calls * n) (idle refl) in omega (arith, none)
due_behind_lost _ t calls idle = refl

module _ (a b : Target) (before after limit cost : ℕ) (calls : calls_due b after ≤ calls_due a before + cost) where
  -- the calls of one frame more
  pub due_more : (lost : Bool) (frame : Frame) → (lost ≡ true → after ≡ before) → (frame ≡ frames.Bench events.Power → pending b.units ≡ 0) → calls_due_unless lost a before ≤ limit → calls_due_unless (is_lost_behind frame lost) b after ≤ limit + (if lost then 0 else cost)
  due_more false frame uncalled idle few = omega (arith, calls, few, due_at_most (is_lost_behind frame false) b after)
  due_more true frame uncalled idle few = omega (arith, few, uncalled refl, due_behind_lost frame b after idle)

  -- and of a part of it
  pub due_part : (lost : Bool) → (lost ≡ true → after ≡ before) → calls_due_unless lost a before ≤ limit → after ≤ limit + (if lost then 0 else cost)
  due_part false uncalled few = omega (arith, calls, few)
  due_part true uncalled few = omega (arith, few, uncalled refl)
