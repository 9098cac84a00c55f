-- Serving from before the layer was opened.
use Rattle.std.proofs.Common.{◌≡◌, inl, inr, refl, sym, ap, subst, arith, ◌∙◌, ℕ, ◌+◌, ◌≤◌, List, [], map}
use Rattle.std.specs.Prelude.{Bool, Option, Ok, Err, Result, IfErr}
use Rattle.std.specs.Result.{IsErrAnd}
use Rattle.satl_io.specs.Causes.{RoseBy}
use Rattle.satl_frame.specs.declared.frames.Frame.{Frame}
use Rattle.satl_frame.specs.declared.frames.FrameFault.{FrameFault}
use Rattle.satl_frame.specs.declared.frames.FrameFault.TheVariants.{Bad, ReadFault}
use Rattle.satl_frame.specs.Output.{Answer}
use Rattle.satl_line.specs.Tasks.{entries_of}
use Rattle.satl_text.specs.Totals.{summary_of}
use Rattle.satl_text.specs.declared.summary.Summary.{Summary}
use Rattle.satl_drive.specs.State.{DriveState}
use Rattle.satl_direct.specs.Device.{Device}
use Rattle.satl_direct.specs.Run.{joined}
use Rattle.satl_direct.specs.Tasks.{task_of}
use Rattle.satl_core.specs.Layer.{Layer, Tied, view}
use Rattle.satl_core.specs.Opening.{IsOpened}
use Rattle.satl_core.specs.Tie.{TiesQueue, given_by}
use Rattle.satl_step.specs.Runs.{AreCounted, IsDeep, KeepsDeepest, RunCutSoFar, RunSoFar, Stand, Tally, orders_behind_all, requests_in, tally_of, unplugs_in}
use Rattle.satl_serve.specs.Headline.{IsServedToEnd, IsServedWhole, IsStopped}
use Rattle.satl_serve.specs.Moments.{Moment, Spot, spot_at}
use Rattle.satl_serve.specs.Runs.{IsFirstDevice, IsLeftAs, RanBefore, RanInPart, RanWhole, Serves}
use Rattle.satl_serve.specs.Stopping.{RanTo}
use Rattle.satl_serve.specs.Tellers.{IsServedBy, RanBy}
use Rattle.satl_serve.specs.declared.serving.ServeFault.{ServeFault}
use Rattle.satl_serve.specs.declared.serving.ServeFault.TheVariants as faults
use Rattle.satl_serve.specs.declared.telling.Form.{Form}

-- an opened layer and its drive are a first device
pub first_of : (old new : DriveState) (l : Layer) → IsOpened old l new → IsFirstDevice old (view l new)
first_of old new l o = record {
  cells = o.lost;
  tasks = ap (λ t. map task_of (entries_of t)) o.tasks;
  identity = o.identity;
  wce = o.wce;
  dra = o.dra;
  d_sense = o.d_sense;
  started = o.started;
  up = sym o.tied.agrees.mark ∙ o.up;
  active = ap (λ (d : DriveState). d.active) o.stays;
  attentions = o.attentions;
  glitches = ap (λ (d : DriveState). d.glitches) o.stays;
  valid = o.tied.agrees.valid;
}

-- a drive is left as the device that it and its layer are
pub left_as : (l : Layer) (d : DriveState) → Tied l d → IsLeftAs (view l d) d
left_as l d t = record {
  cells = refl;
  active = refl;
  glitches = refl;
  down = refl;
  cache = λ up. t.agrees.cache (t.agrees.mark ∙ up);
  look = λ up. t.agrees.look (t.agrees.mark ∙ up);
  no_error = t.agrees.queue.no_error;
  fit = t.agrees.fit;
  told = t.agrees.told;
}

-- ---- a run is counted from an earlier stand

module _ (s : Device) (old new : Tally) (same : new ≡ record old { calls = new.calls }) (few : new.calls ≤ old.calls) where
  sooner_counted : (events : List Frame) (losses : ℕ) (b : Stand) → AreCounted events losses (record { device = s; tally = new }) b → AreCounted events losses (record { device = s; tally = old }) b
  sooner_counted events losses b c = record {
    faults = subst (λ n. RoseBy losses n b.tally.faults) (ap (λ (t : Tally). t.faults) same) c.faults;
    unplugged = subst (λ n. RoseBy (unplugs_in events) n b.tally.unplugs) (ap (λ (t : Tally). t.unplugs) same) c.unplugged;
    few_unplugs = let is = ap (λ (t : Tally). t.unplugs) same in omega (arith, is, c.few_unplugs);
    orders = c.orders ∙ ap (λ (t : Tally). orders_behind_all events t.orders) same;
    few_calls = omega (arith, few, c.few_calls);
    queue = subst (λ t. KeepsDeepest (record t { calls = old.calls }) b.tally) same (record { rises = c.queue.rises; covers = c.queue.covers });
  }

  sooner_covered : (deep : ℕ) (b : Stand) → (IsDeep new → deep ≤ b.tally.deepest) → IsDeep old → deep ≤ b.tally.deepest
  sooner_covered deep b covered = subst (λ t. IsDeep (record t { calls = old.calls }) → deep ≤ b.tally.deepest) same covered

  pub sooner : (b : Stand) (events : List Frame) (groups : List (List Answer)) → RunSoFar (record { device = s; tally = new }) b events groups → RunSoFar (record { device = s; tally = old }) b events groups
  sooner b events groups r = record { losses = r.losses; deep = r.deep; run = r.run; covered = sooner_covered r.deep b r.covered; counted = sooner_counted events r.losses b r.counted }

  sooner_cut : (b : Stand) (events : List Frame) (groups : List (List Answer)) (earlier last : List Answer) → RunCutSoFar (record { device = s; tally = new }) b events groups earlier last → RunCutSoFar (record { device = s; tally = old }) b events groups earlier last
  sooner_cut b events groups earlier last r = record { losses = r.losses; run = r.run; counted = sooner_counted events r.losses b r.counted }

  module _ (form : Form) (limit : ℕ) (left : Option (List ℕ)) (waited : Bool) (written : Option (List ℕ)) (b : Spot) where
    sooner_whole : RanWhole form limit (record { left = left; waited = waited; written = written; stand = record { device = s; tally = new } }) b → RanWhole form limit (record { left = left; waited = waited; written = written; stand = record { device = s; tally = old } }) b
    unfolding sooner
    sooner_whole r = record { events = r.events; groups = r.groups; place = r.place; read = r.read; unwaited = r.unwaited; wrote = r.wrote; run = sooner b.stand _ _ r.run; deep = r.deep }

    sooner_before : (why : FrameFault) → RanBefore form limit why (record { left = left; waited = waited; written = written; stand = record { device = s; tally = new } }) b → RanBefore form limit why (record { left = left; waited = waited; written = written; stand = record { device = s; tally = old } }) b
    sooner_before why r = record { events = r.events; groups = r.groups; read = r.read; awaits = r.awaits; wrote = r.wrote; run = sooner b.stand _ _ r.run }

    sooner_part : RanInPart form limit (record { left = left; waited = waited; written = written; stand = record { device = s; tally = new } }) b → RanInPart form limit (record { left = left; waited = waited; written = written; stand = record { device = s; tally = old } }) b
    sooner_part (inl r) = inl (record { read = r.read; waits = r.waits; part = r.part; run = sooner b.stand [] [] r.run })
    sooner_part (inr (inl r)) = inr (inl (record { events = r.events; groups = r.groups; event = r.event; earlier = r.earlier; last = r.last; reader = r.reader; behind = r.behind; limit_is = r.limit_is; newest_is = r.newest_is; none_ends = r.none_ends; read = r.read; unwaited = r.unwaited; wrote = r.wrote; part = r.part; run = sooner_cut b.stand _ _ _ _ r.run }))
    sooner_part (inr (inr r)) = inr (inr (record { events = r.events; groups = r.groups; reason = r.reason; offset = r.offset; behind = r.behind; read = r.read; awaits = r.awaits; wrote = r.wrote; part = r.part; run = sooner b.stand _ _ r.run }))

-- ---- serving

-- how the layer was opened and served, on a drive that was first so, then opened, and last so
module _ (form : Form) (limit : ℕ) (before after : Moment) (mid : DriveState) (opened : ℕ) (l l' : Layer) (is : IsOpened before.drive l mid) (one : opened ≤ before.calls + 1) (tied : Tied l' after.drive) (ties : TiesQueue l' after.drive) where
  abbrev a : Spot
  a = record { left = before.source.left; waited = before.source.waited; written = before.sink.written; stand = record { device = view l mid; tally = tally_of mid opened } }

  abbrev b : Spot
  b = spot_at (view l' after.drive) after.calls after

  pub tally_same : tally_of mid opened ≡ record (tally_of before.drive (before.calls + 1)) { calls = opened }
  tally_same = ap (λ (d : DriveState). tally_of d opened) is.stays

  serves_whole : RanWhole form limit a b → IsServedToEnd form limit before after
  serves_whole r = record {
    first = view l mid;
    last = view l' after.drive;
    begins = first_of before.drive mid l is;
    run = sooner_whole (view l mid) (tally_of before.drive (before.calls + 1)) (tally_of mid opened) tally_same one form limit before.source.left before.source.waited before.sink.written b r;
    ends = left_as l' after.drive tied;
    queue = record { given = given_by l'; queue = ties.queue };
  }

  pub serves_by : {T : Type 0} (behind : T → Answer → T) (teller teller' : T) (requests : ℕ) → RanBy behind form limit teller teller' requests a b → IsServedBy behind form limit teller teller' requests before after
  unfolding serves_whole sooner_whole
  serves_by behind teller teller' requests r = record { to_end = serves_whole r.to_end; told_so = r.told_so }

  serves_before : (why : FrameFault) → RanBefore form limit why a b → Serves (RanBefore form limit why) before after
  serves_before why r = record {
    first = view l mid;
    last = view l' after.drive;
    begins = first_of before.drive mid l is;
    run = sooner_before (view l mid) (tally_of before.drive (before.calls + 1)) (tally_of mid opened) tally_same one form limit before.source.left before.source.waited before.sink.written b why r;
    ends = left_as l' after.drive tied;
    queue = record { given = given_by l'; queue = ties.queue };
  }

  serves_part : RanInPart form limit a b → Serves (RanInPart form limit) before after
  serves_part r = record {
    first = view l mid;
    last = view l' after.drive;
    begins = first_of before.drive mid l is;
    run = sooner_part (view l mid) (tally_of before.drive (before.calls + 1)) (tally_of mid opened) tally_same one form limit before.source.left before.source.waited before.sink.written b r;
    ends = left_as l' after.drive tied;
    queue = record { given = given_by l'; queue = ties.queue };
  }

  pub stops : (fault : ServeFault) → RanTo form limit a b fault → IsStopped form limit before after fault
  stops (faults.Open opening) r = absurd r
  stops (faults.BadInput reason offset) r = serves_before (Bad reason offset) r
  stops faults.Read r = serves_before ReadFault r
  stops faults.Write r = serves_part r

-- what holds of a write that failed holds of a result that has no other fault
pub any_write : {A : Type 0} (Holds : ServeFault → Type 0) (r : Result A ServeFault) (P : ServeFault → Type 0) → IsErrAnd r P → ((e : ServeFault) → P e → e ≡ faults.Write) → Holds faults.Write → IfErr r Holds
any_write Holds (Ok u) P is same held = tt
any_write Holds (Err e) P is same held = subst Holds (sym (same e is)) held

-- what was served up to END has totals, whether they were counted or not
pub with_totals : (form : Form) (limit : ℕ) (before after : Moment) → IsServedToEnd form limit before after → (summary : Summary) × IsServedWhole form limit summary before after
with_totals form limit before after served = (summary_of (requests_in served.run.events) (joined served.run.groups), record { to_end = served; totals = refl })
