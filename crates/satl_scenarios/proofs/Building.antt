-- Runs, built from their steps, with quiet moves that change nothing.
use Rattle.std.proofs.Common.{◌≡◌, refl, ℕ, suc, ◌+◌, max, List, [], ◌∷◌, ◌++◌, map}
use Rattle.std.proofs.lemmas.List.{append_assoc, append-nil}
use Rattle.satl_base.specs.declared.bench.BenchEvent.{BenchEvent}
use Rattle.satl_base.specs.declared.reply.Reply.{Reply}
use Rattle.satl_base.specs.declared.reply.Response.{Response}
use Rattle.satl_base.specs.declared.request.Manage.{Manage}
use Rattle.satl_base.specs.declared.request.Request.{Request}
use Rattle.satl_frame.specs.declared.frames.Frame.{Frame}
use Rattle.satl_frame.specs.declared.frames.Frame.TheVariants as frames
use Rattle.satl_frame.specs.Output.{Answer}
use Rattle.satl_frame.specs.Output.Answer.{closed, managed, replied}
use Rattle.satl_direct.specs.Device.{Device}
use Rattle.satl_direct.specs.Arrival.{Arrives}
use Rattle.satl_direct.specs.Bench as bench
use Rattle.satl_direct.specs.Management.{IsManaged}
use Rattle.satl_direct.specs.Quiet.{Quiet}
use Rattle.satl_direct.specs.Turn.{Loss, Turn}
use Rattle.satl_direct.specs.Run.{Does, Manages, MayLose, RunDeep, TurnsOf, depth, losses_in}
use Rattle.satl_direct.specs.Run.MayLose.{keeps, keeps_and_loses}
use Rattle.satl_direct.specs.Run.TurnsOf.{none, more}
use Rattle.satl_direct.specs.Run.RunDeep.{start, next_event}
use Rattle.satl_direct.proofs.Quieting.{quiet_none, around_alone}
use Rattle.satl_scenarios.specs.Scenario.{Step, Scenario, CanHappen, groups_of}

-- ---- the events

-- what an event does
pub record Occurs (event : Frame) (s : Device) (answers : List Answer) (new : Device) (deep : ℕ) : Type 0 where
  pub does : Does event s answers new deep

pub arrives : {r : Request} {s : Device} (replies : List Reply) (new : Device) → Arrives r s replies new → Occurs (frames.Request r) s (map replied replies) new (depth new)
arrives {r = r} {s = s} replies new a = record { does = (replies, refl, around_alone (MayLose (Arrives r)) s new replies (keeps a), refl) }

-- and the link is lost at that
pub arrives_and_loses : {r : Request} {s : Device} (replies lost : List Reply) (mid new : Device) → Arrives r s replies mid → Loss mid lost new → Occurs (frames.Request r) s (map replied (replies ++ lost)) new (depth new)
arrives_and_loses {r = r} {s = s} replies lost mid new a loss = record { does = (replies ++ lost, refl, around_alone (MayLose (Arrives r)) s new (replies ++ lost) (keeps_and_loses a (quiet_none mid) loss), refl) }

pub happens : {event : BenchEvent} {s : Device} (replies : List Reply) (new : Device) → bench.Happens event s replies new → Occurs (frames.Bench event) s (map replied replies) new (depth new)
happens {event = event} {s = s} replies new h = record { does = (replies, refl, around_alone (bench.Happens event) s new replies h, refl) }

-- one turn more
pub turn_more : {n deep : ℕ} {s mid : Device} {first rest : List Reply} (new : Device) → TurnsOf n s first mid deep → Turn mid rest new → TurnsOf (suc n) s (first ++ rest) new (max deep (depth new))
turn_more {mid = mid} {rest = rest} new before turn = more before (around_alone Turn mid new rest turn)

pub turns : {n deep : ℕ} {s new : Device} {replies : List Reply} → TurnsOf n s replies new deep → Occurs (frames.Turn n) s (map replied replies) new (max deep (depth new))
turns {deep = deep} {replies = replies} all = record { does = (replies, deep, refl, all, refl) }

pub one_turn : {s : Device} {replies : List Reply} (new : Device) → Turn s replies new → Occurs (frames.Turn 1) s (map replied replies) new (max (max 0 (depth new)) (depth new))
one_turn new turn = turns (turn_more new none turn)

pub drained : {n deep : ℕ} {s new : Device} {replies : List Reply} → TurnsOf n s replies new deep → new.tasks ≡ [] → Occurs frames.End s (map replied replies ++ closed ∷ []) new deep
drained {n = n} {replies = replies} all empty = record { does = (replies, refl, record { count = n; turns = all; empty = empty }) }

-- a task management function, after quiet moves
pub manages : (m : Manage) (response : Response) (s shown new : Device) → Quiet s shown → IsManaged m shown response new → Occurs (frames.Manage m) s (managed m.nexus m.function response m.tag ∷ []) new (depth new)
manages m response s shown new quiet done = record {
  does = (
    record {
      response = response;
      replies = [];
      step = record { before = shown; after = new; quiet_before = quiet; step = keeps (refl, done); quiet_after = quiet_none new };
      answer = refl;
    },
    refl,
  );
}

-- and the link is lost at that
pub manages_and_loses : {m : Manage} {s : Device} (said : Response) (lost : List Reply) (mid new : Device) → IsManaged m s said mid → Loss mid lost new
    → Occurs (frames.Manage m) s (map replied lost ++ managed m.nexus m.function said m.tag ∷ []) new (depth new)
manages_and_loses {m = m} {s = s} said lost mid new done loss = record {
  does = (record { response = said; replies = lost; step = around_alone (MayLose (Manages m said)) s new lost (keeps_and_loses (refl, done) (quiet_none mid) loss); answer = refl }, refl);
}

-- ---- the run

-- the steps from a device on to the last one, where so many losses and this depth are there already
pub data Follows (losses depth : ℕ) (last : Device) : ℕ → ℕ → Device → List Step → Type 0 where
  ends_here : Follows losses depth last losses depth last []
  next : {lost deepest deep : ℕ} {s mid : Device} {now : Step} {rest : List Step} → Occurs now.event s now.answers mid deep
      → Follows losses depth last (lost + losses_in now.event s mid) (max deepest deep) mid rest → Follows losses depth last lost deepest s (now ∷ rest)

-- a run goes on with the steps that follow
run_on : {first last : Device} {losses depth : ℕ} (steps : List Step) {lost deepest : ℕ} {s : Device} (events : List Frame) (groups : List (List Answer)) → RunDeep first events groups lost s deepest → Follows losses depth last lost deepest s steps
    → RunDeep first (events ++ map (λ (x : Step). x.event) steps) (groups ++ map (λ (x : Step). x.answers) steps) losses last depth
run_on [] events groups r ends_here = rw (append-nil events, append-nil groups) r
run_on (now ∷ rest) events groups r (next {deep = deep} now_does follows) =
    rw (← append_assoc events (now.event ∷ []) (map (λ (x : Step). x.event) rest), ← append_assoc groups (now.answers ∷ []) (map (λ (x : Step). x.answers) rest))
    (run_on rest (events ++ now.event ∷ []) (groups ++ now.answers ∷ []) (next_event now.event now.answers deep r now_does.does) follows)

-- a scenario whose steps follow one another is a run
pub it_can_happen : (scenario : Scenario) → Follows scenario.losses scenario.depth scenario.last 0 0 scenario.first scenario.steps → CanHappen scenario
it_can_happen scenario follows =
    record { run = record { groups = groups_of scenario; deep = scenario.depth; answer = refl; run = run_on scenario.steps [] [] (start (quiet_none scenario.first)) follows }; groups = refl; depth = refl }
