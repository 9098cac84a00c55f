-- The replies and the tasks of one nexus and tag by an arrival, a management function and an event of the bench.
use Rattle.std.proofs.Common.{◌≡◌, refl, ap, ◌∙◌, ℕ, ◌+◌, List, [], ◌∷◌, arith}
use Rattle.std.specs.Prelude.{filter}
use Rattle.satl_base.specs.declared.bench.BenchEvent.{BenchEvent}
use Rattle.satl_base.specs.declared.bench.BenchEvent.TheVariants as bench
use Rattle.satl_base.specs.declared.request.Manage.{Manage}
use Rattle.satl_base.specs.declared.request.Request.{Request}
use Rattle.satl_base.specs.declared.reply.Reply.{Reply}
use Rattle.satl_base.specs.declared.reply.Response.{Response}
use Rattle.satl_frame.specs.declared.frames.Frame.{Frame}
use Rattle.satl_frame.specs.declared.frames.Frame.TheVariants as frames
use Rattle.satl_direct.specs.Device.{Device, is_called, is_of}
use Rattle.satl_direct.specs.Arrival.{Arrival, ArrivesAs, arrival}
use Rattle.satl_direct.specs.Arrival.Arrival.{answered, attended, overlaps, waits}
use Rattle.satl_direct.specs.Bench.{Happens}
use Rattle.satl_direct.specs.Management.{effect}
use Rattle.satl_direct.specs.Quiet.{Quiet}
use Rattle.satl_direct.specs.Run.{Manages, MayLose}
use Rattle.satl_direct.specs.Run.MayLose.{keeps, keeps_and_loses}
use Rattle.satl_laws.specs.OnceEach.{cleared_by, cut_by, taken_off}
use Rattle.satl_laws.proofs.Cases.{how_many-append, how_many-filter}
use Rattle.satl_laws.proofs.Arrivals.{IsFor, IsTo}
use Rattle.satl_laws.proofs.QuietArrivals.{arrival_quiet, effect_quiet}
use Rattle.satl_laws.proofs.Weighing.{loss_counts, mine, quiet_counts, replies, replies-append, same_weight, weigh}

module _ (nexus tag : ℕ) where
  -- a step, or a step and then a loss of the link
  pub may_lose_counts : (Step : Device → List Reply → Device → Type 0) (old new : Device) (answers : List Reply) (asked taken : ℕ)
      → ((mid : Device) (said : List Reply) → Step old said mid → replies nexus tag said + mine nexus tag mid.tasks + taken ≡ mine nexus tag old.tasks + asked)
      → MayLose Step old answers new → replies nexus tag answers + mine nexus tag new.tasks + taken ≡ mine nexus tag old.tasks + asked
  may_lose_counts Step old new answers asked taken each (keeps h) = each new answers h
  may_lose_counts Step old new _ asked taken each (keeps_and_loses {answers = said} {more = lost} {mid = mid} {after = after} h q l) =
      omega (arith, each mid said h, quiet_counts nexus tag mid after q, loss_counts nexus tag after new lost l.answer (ap (λ d. d.tasks) l.stays), replies-append nexus tag said lost)

  -- one reply to a request
  to_counts : (r : Request) (reply : Reply) (answers : List Reply) → IsTo r reply → answers ≡ reply ∷ [] → replies nexus tag answers ≡ weigh nexus tag r.nexus r.tag
  to_counts r reply answers to is = ap (replies nexus tag) is ∙ same_weight nexus tag reply.nexus r.nexus reply.tag r.tag to.nexus to.tag

  -- an arrival answers its request, makes it a task, and may take tasks off
  pub arrives_counts : (a : Arrival) (r : Request) (s new : Device) (answers : List Reply) → IsFor r a → ArrivesAs a r s answers new
      → replies nexus tag answers + mine nexus tag new.tasks + mine nexus tag (cleared_by a r s) ≡ mine nexus tag s.tasks + weigh nexus tag r.nexus r.tag
  arrives_counts (answered reply) r s new answers to h = omega (arith, to_counts r reply answers to h.0, ap (λ d. mine nexus tag d.tasks) h.1)
  arrives_counts (attended reply) r s new answers to h = omega (arith, to_counts r reply answers to h.0, ap (λ d. mine nexus tag d.tasks) h.1)
  arrives_counts (overlaps reply) r s new answers to h =
      omega (arith, to_counts r reply answers to h.0, ap (λ d. mine nexus tag d.tasks) h.1, how_many-filter (is_of r.nexus) (is_called nexus tag) s.tasks)
  arrives_counts (waits task) r s new answers to h =
      let come : weigh nexus tag task.nexus task.tag ≡ weigh nexus tag r.nexus r.tag = same_weight nexus tag task.nexus r.nexus task.tag r.tag to.nexus to.tag in
      omega (arith, ap (replies nexus tag) h.0, ap (λ d. mine nexus tag d.tasks) h.1, how_many-append (is_called nexus tag) s.tasks (task ∷ []), come)

  -- what is taken off a device is taken off it after quiet moves
  pub quiet_taken : (event : Frame) (old new : Device) → Quiet old new → mine nexus tag (taken_off event new) ≡ mine nexus tag (taken_off event old)
  quiet_taken event old new q = ap (λ d. mine nexus tag (taken_off event d)) q.stays ∙ same event
    where
      same : (e : Frame) → mine nexus tag (taken_off e (record old { cells = new.cells; active = new.active })) ≡ mine nexus tag (taken_off e old)
      same (frames.Request r) =
          ap (λ a. mine nexus tag (cleared_by a r (record old { cells = new.cells; active = new.active }))) (arrival_quiet old r new.cells new.active) ∙ of_arrival (arrival old r)
        where
          of_arrival : (a : Arrival) → mine nexus tag (cleared_by a r (record old { cells = new.cells; active = new.active })) ≡ mine nexus tag (cleared_by a r old)
          of_arrival (answered reply) = refl
          of_arrival _ = refl
      same (frames.Manage m) = ap (λ e. mine nexus tag (filter e.goes old.tasks)) (effect_quiet old new.cells new.active m)
      same (frames.Bench bench.Power) = refl
      same _ = refl

  -- a management function takes tasks off and answers none
  pub manages_counts : (m : Manage) (response : Response) (s new : Device) (answers : List Reply) → Manages m response s answers new
      → replies nexus tag answers + mine nexus tag new.tasks + mine nexus tag (filter (effect m s).goes s.tasks) ≡ mine nexus tag s.tasks + 0
  manages_counts m response s new answers h =
      omega (arith, ap (replies nexus tag) h.0, ap (λ d. mine nexus tag d.tasks) (h.1).stays, how_many-filter (effect m s).goes (is_called nexus tag) s.tasks)

  -- an event of the bench answers tasks or takes them off
  pub bench_counts : (event : BenchEvent) (s new : Device) (answers : List Reply) → Happens event s answers new → replies nexus tag answers + mine nexus tag new.tasks + mine nexus tag (cut_by event s) ≡ mine nexus tag s.tasks
  bench_counts bench.Power s new answers h = omega (arith, ap (replies nexus tag) h.none, ap (λ d. mine nexus tag d.tasks) h.stays)
  bench_counts bench.Unplug s new answers h = omega (arith, loss_counts nexus tag s new answers h.answer (ap (λ d. d.tasks) h.stays))
  bench_counts _ s new answers h = omega (arith, ap (replies nexus tag) h.none, ap (λ d. mine nexus tag d.tasks) h.new_is)
