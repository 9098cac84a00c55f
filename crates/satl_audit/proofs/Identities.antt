-- Steps keep what the drive says of itself.
use Rattle.std.proofs.Common.{◌≡◌, refl, ap, ◌∙◌, ℕ, Bool, true, List, [], ◌∷◌, ◌++◌}
use Rattle.std.specs.List.{AllByRecursion}
use Rattle.satl_base.specs.declared.reply.Reply.{Reply}
use Rattle.satl_base.specs.declared.request.Request.{Request}
use Rattle.satl_frame.specs.declared.frames.Frame.{Frame}
use Rattle.satl_frame.specs.declared.frames.Frame.TheVariants as frames
use Rattle.satl_frame.specs.Output.{Answer}
use Rattle.satl_direct.specs.Device.{Device}
use Rattle.satl_base.specs.declared.bench.BenchEvent.{BenchEvent}
use Rattle.satl_base.specs.declared.bench.BenchEvent.TheVariants as events
use Rattle.satl_direct.specs.Arrival.{Arrival, ArrivesAs, arrival}
use Rattle.satl_direct.specs.Arrival.Arrival.{answered, attended, overlaps, waits}
use Rattle.satl_audit.specs.Deeds.{Deed}
use Rattle.satl_cover.specs.Known.{is_known_frame}
use Rattle.satl_audit.specs.Skeleton.{Benched, Skeleton, Stepped, TurnsDone, bare}
use Rattle.satl_audit.proofs.Keeping.{IsSane}
use Rattle.satl_audit.proofs.Stepping.{Behind}

-- what holds of each of a list with one more
pub all_front : {X : Type 0} (P : X → Type 0) (xs : List X) (y : X) → AllByRecursion P (xs ++ y ∷ []) → AllByRecursion P xs
all_front P [] y h = tt
all_front P (x ∷ xs) y h = (h.0, all_front P xs y h.1)

pub all_last : {X : Type 0} (P : X → Type 0) (xs : List X) (y : X) → AllByRecursion P (xs ++ y ∷ []) → P y
all_last P [] y h = h.0
all_last P (x ∷ xs) y h = all_last P xs y h.1

abbrev pub AllKnown : Bool → List Frame → Type 0
AllKnown trim all = AllByRecursion (λ f. is_known_frame trim f ≡ true) all

-- ---- runs to steps

pub record RunSplit (first last : Device) (all : List Frame) (answers : List Answer) : Type 0 where
  pub deeds : List Deed
  pub skeleton : Skeleton (bare first) all answers deeds (bare last)
  pub behind : Behind first.cells deeds last
  pub sane : IsSane last
  pub same : last.identity ≡ first.identity

-- steps keep the identity
arrives_same : (a : Arrival) (r : Request) (s new : Device) (replies : List Reply) → ArrivesAs a r s replies new → new.identity ≡ s.identity
arrives_same (answered reply) r s new replies e = ap (λ (d : Device). d.identity) e.1
arrives_same (attended reply) r s new replies e = ap (λ (d : Device). d.identity) e.1
arrives_same (overlaps reply) r s new replies e = ap (λ (d : Device). d.identity) e.1
arrives_same (waits task) r s new replies e = ap (λ (d : Device). d.identity) e.1

turns_same : (s : Device) {n : ℕ} {replies : List Reply} {deeds : List Deed} {new : Device} → TurnsDone s n replies deeds new → new.identity ≡ s.identity
turns_same s TurnsDone.none = refl
turns_same s (TurnsDone.idle t e) = turns_same s t
turns_same s (TurnsDone.more reply deed t d) = ap (λ (x : Device). x.identity) d.stays ∙ turns_same s t

benched_same : (event : BenchEvent) (s new : Device) (deeds : List Deed) → Benched event s deeds new → new.identity ≡ s.identity
benched_same (events.Strike which lba) s new deeds e = absurd e
benched_same (events.Mend lba) s new deeds e = absurd e
benched_same (events.Glitch count) s new deeds e = absurd e
benched_same (events.Order order) s new deeds e = ap (λ (d : Device). d.identity) e.1
benched_same events.Power s new deeds e = ap (λ (d : Device). d.identity) e.1
benched_same events.Unplug s new deeds e = absurd e

pub stepped_same : (event : Frame) (s new : Device) (now : List Answer) (deeds : List Deed) → Stepped event s now deeds new → new.identity ≡ s.identity
stepped_same (frames.Request r) s new now deeds e = arrives_same (arrival s r) r s new e.0 e.2
stepped_same (frames.Manage m) s new now deeds e = absurd e
stepped_same (frames.Turn n) s new now deeds e = turns_same s e.2
stepped_same (frames.Bench event) s new now deeds e = benched_same event s new deeds e.1
stepped_same frames.End s new now deeds e = turns_same s e.3
