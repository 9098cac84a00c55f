-- The events of a run keep the order of arrival.
use Rattle.std.proofs.Common.{◌≡◌, refl, sym, ap, ◌∙◌, subst, ℕ, ◌<◌, Bool, true, false, List, [], ◌∷◌, ◌++◌, arith, map, length, append_assoc}
use Rattle.std.specs.Prelude.{◌&&◌, not, filter}
use Rattle.std.proofs.lemmas.List.{append-nil}
use Rattle.std.proofs.lemmas.Bool.{and_parts}
use Rattle.satl_base.specs.declared.bench.BenchEvent.{BenchEvent}
use Rattle.satl_base.specs.declared.bench.BenchEvent.TheVariants as bench
use Rattle.satl_base.specs.declared.request.Manage.{Manage}
use Rattle.satl_base.specs.declared.request.Request.{Request}
use Rattle.satl_base.specs.declared.reply.Reply.{Reply}
use Rattle.satl_base.specs.declared.reply.Response.{Response}
use Rattle.satl_base.specs.Lists.{how_many}
use Rattle.satl_regs.specs.Sectors.{with_flaw, without_flaws}
use Rattle.satl_frame.specs.declared.frames.Frame.{Frame}
use Rattle.satl_frame.specs.declared.frames.Frame.TheVariants as frames
use Rattle.satl_frame.specs.Output.{Answer}
use Rattle.satl_frame.specs.Output.Answer.{closed, managed, replied}
use Rattle.satl_direct.specs.Device.{Device}
use Rattle.satl_direct.specs.Arrival.{Arrives, arrival}
use Rattle.satl_direct.specs.Bench.{Happens}
use Rattle.satl_laws.specs.OnceEach.{asks_by}
use Rattle.satl_laws.specs.OrderUnderErrors.{becomes_in, waits_at}
use Rattle.satl_direct.specs.Management.{effect}
use Rattle.satl_direct.specs.Run.{Does, Manages}
use Rattle.satl_laws.proofs.InOrder.{Begin}
use Rattle.satl_laws.proofs.Cases.{how_many-append}
use Rattle.satl_laws.proofs.InOrderUnasked.{unasking_in_order}
use Rattle.satl_laws.proofs.InOrderFlaws.{flaw_now, flaws_at}
use Rattle.satl_laws.proofs.InOrderRequests.{MayStand, arrives_at, told_at}
use Rattle.satl_laws.proofs.InOrderTurns.{fewer, may_lose_at, turns_at}
use Rattle.satl_laws.proofs.InOrderSteps.{InOrderAt, lowered, quiet_at}
use Rattle.satl_laws.proofs.InOrderDrops.{filtered_in_order, lost_at}
use Rattle.satl_laws.proofs.Names.{asks_self, one}
use Rattle.satl_laws.proofs.QuietArrivals.{arrival_quiet}
use Rattle.satl_laws.proofs.Requests.{asked_in}

module _ (first : Begin) (exact : Bool) where
  -- so many events, and one that asks nothing
  unasking_at : (events : List Frame) (answers : List Answer) (s : Device) (event : Frame) → asked_in event ≡ [] → ((nexus tag : ℕ) → asks_by nexus tag event ≡ false) → InOrderAt first exact events answers s → InOrderAt first exact (events ++ event ∷ []) answers s
  unasking_at events answers s event asks_none never o = record {
    identity = o.identity;
    order = unasking_in_order first events answers s.cells s.tasks (exact && not s.down) event asks_none never o.order;
    calm = o.calm;
    steady = o.steady;
  }

  -- a task management function, which takes tasks off without an answer
  manages_at : (events : List Frame) (answers : List Answer) (s new : Device) (m : Manage) (response : Response) (said : List Reply) → ((nexus tag : ℕ) → how_many (asks_by nexus tag) events < 2) → (exact ≡ true → ⊥)
      → Manages m response s said new → InOrderAt first exact events answers s → InOrderAt first exact events (answers ++ map replied said) new
  manages_at events answers s new m response said once loose h o =
      subst (λ l. InOrderAt first exact events (answers ++ map replied l) new) (sym h.0)
      (subst (λ a. InOrderAt first exact events a new) (sym (append-nil answers))
      (subst (InOrderAt first exact events answers) (sym (h.1).stays)
      (record {
        identity = o.identity;
        order = lowered first exact events answers s.cells (filter (λ t. not ((effect m s).goes t)) s.tasks) false (exact && not s.down) (λ f. absurd (loose (and_parts exact (not s.down) f).0))
            (filtered_in_order first exact events s.cells once (effect m s).goes answers [] s.tasks (exact && not s.down) o.order);
        calm = λ x. absurd (loose x);
        steady = λ x. absurd (loose x);
      })))

  -- nothing is answered
  quietly : (events : List Frame) (answers : List Answer) (new : Device) (said : List Reply) → said ≡ [] → InOrderAt first exact events answers new → InOrderAt first exact events (answers ++ map replied said) new
  quietly events answers new said is k = subst (λ l. InOrderAt first exact events (answers ++ map replied l) new) (sym is) (subst (λ a. InOrderAt first exact events a new) (sym (append-nil answers)) k)

  -- an event of the bench but for a loss of power
  bench_at : (events : List Frame) (answers : List Answer) (s new : Device) (event : BenchEvent) (said : List Reply) → ((nexus tag : ℕ) → how_many (asks_by nexus tag) events < 2) → MayStand first exact (frames.Bench event)
      → Happens event s said new → InOrderAt first exact events answers s → InOrderAt first exact events (answers ++ map replied said) new
  bench_at events answers s new (bench.Strike which lba) said once fits h o =
      quietly events answers new said h.none (flaws_at first exact events answers s new lba (with_flaw which) (flaw_now first exact which) (λ x. let no : false ≡ true = fits.1 x in cc) h.new_is o)
  bench_at events answers s new (bench.Mend lba) said once fits h o =
      quietly events answers new said h.none (flaws_at first exact events answers s new lba without_flaws (λ c. refl) (λ x. let no : false ≡ true = fits.1 x in cc) h.new_is o)
  bench_at events answers s new (bench.Glitch count) said once fits h o =
      quietly events answers new said h.none
      (subst (InOrderAt first exact events answers) (sym h.new_is)
      (record { identity = o.identity; order = o.order; calm = λ x. let no : false ≡ true = fits.1 x in absurd cc; steady = o.steady }))
  bench_at events answers s new (bench.Order order) said once fits h o = quietly events answers new said h.none (subst (InOrderAt first exact events answers) (sym h.new_is) o)
  bench_at events answers s new bench.Power said once fits h o = let no : false ≡ true = fits.0 in absurd cc
  bench_at events answers s new bench.Unplug said once fits h o =
      lost_at first exact events answers s new said once h.answer (ap (λ d. d.cells) h.stays) (ap (λ d. d.tasks) h.stays) (ap (λ d. d.down) h.stays) (ap (λ d. d.identity) h.stays) o

  -- each event
  pub does_at : (event : Frame) (events : List Frame) (answers now : List Answer) (old new : Device) (d : ℕ) → length first.device.cells ≡ first.device.identity.capacity → MayStand first exact event → ((r : Request) → becomes_in r.nexus (r.tag).0 event old ≡ true → first.waits r ≡ true)
      → ((nexus tag : ℕ) → how_many (asks_by nexus tag) (events ++ event ∷ []) < 2) → Does event old now new d → InOrderAt first exact events answers old → InOrderAt first exact (events ++ event ∷ []) (answers ++ now) new
  does_at (frames.Request r) events answers now old new d size fits may once h o =
      let a = h.2 in
      subst (λ l. InOrderAt first exact (events ++ frames.Request r ∷ []) (answers ++ l) new) (sym h.1)
      (quiet_at first exact (events ++ frames.Request r ∷ []) (answers ++ map replied h.0) a.after new a.quiet_after
      (may_lose_at first exact (events ++ frames.Request r ∷ []) (Arrives r) answers a.before a.after h.0 once
      (λ mid said k. arrives_at first exact events answers a.before mid r said size unasked fits can k (quiet_at first exact events answers old a.before a.quiet_before o)) a.step))
    where
      -- quiet moves before it have no part in it
      same : arrival (h.2).before r ≡ arrival old r
      same = ap (λ d. arrival d r) ((h.2).quiet_before).stays ∙ arrival_quiet old r ((h.2).before).cells ((h.2).before).active

      can : waits_at (arrival (h.2).before r) ≡ true → first.waits r ≡ true
      can w = may r (ap (λ b. b && waits_at (arrival old r)) (asks_self r) ∙ sym (ap waits_at same) ∙ w)

      unasked : how_many (asks_by r.nexus (r.tag).0) events ≡ 0
      unasked =
          let self : one (asks_by r.nexus (r.tag).0 (frames.Request r)) ≡ 1 = ap one (asks_self r) in
          omega (arith, once r.nexus (r.tag).0, how_many-append (asks_by r.nexus (r.tag).0) events (frames.Request r ∷ []), self)
  does_at (frames.Manage m) events answers now old new d size fits may once h o =
      let k = h.0 in
      let a = k.step in
      let few = fewer events (frames.Manage m) once in
      let loose : exact ≡ true → ⊥ = λ x. let no : false ≡ true = fits.1 x in cc in
      subst (λ l. InOrderAt first exact (events ++ frames.Manage m ∷ []) l new) (append_assoc answers (map replied k.replies) (managed m.nexus m.function k.response m.tag ∷ []) ∙ ap (λ l. answers ++ l) (sym k.answer))
      (unasking_at events ((answers ++ map replied k.replies) ++ managed m.nexus m.function k.response m.tag ∷ []) new (frames.Manage m) refl (λ nexus tag. refl)
      (told_at first exact events (answers ++ map replied k.replies) new (managed m.nexus m.function k.response m.tag) (λ r. refl) (λ nexus tag. refl)
      (quiet_at first exact events (answers ++ map replied k.replies) a.after new a.quiet_after
      (may_lose_at first exact events (Manages m k.response) answers a.before a.after k.replies few
      (λ mid said step. manages_at events answers a.before mid m k.response said few loose step (quiet_at first exact events answers old a.before a.quiet_before o)) a.step))))
  does_at (frames.Turn count) events answers now old new d size fits may once h o =
      subst (λ l. InOrderAt first exact (events ++ frames.Turn count ∷ []) (answers ++ l) new) (sym h.2)
      (unasking_at events (answers ++ map replied h.0) new (frames.Turn count) refl (λ nexus tag. refl) (turns_at first exact events answers (fewer events (frames.Turn count) once) h.3 o))
  does_at (frames.Bench event) events answers now old new d size fits may once h o =
      let a = h.2 in
      subst (λ l. InOrderAt first exact (events ++ frames.Bench event ∷ []) (answers ++ l) new) (sym h.1)
      (unasking_at events (answers ++ map replied h.0) new (frames.Bench event) refl (λ nexus tag. refl)
      (quiet_at first exact events (answers ++ map replied h.0) a.after new a.quiet_after
      (bench_at events answers a.before a.after event h.0 (fewer events (frames.Bench event) once) fits a.step (quiet_at first exact events answers old a.before a.quiet_before o))))
  does_at frames.End events answers now old new d size fits may once h o =
      subst (λ l. InOrderAt first exact (events ++ frames.End ∷ []) l new) (append_assoc answers (map replied h.0) (closed ∷ []) ∙ ap (λ l. answers ++ l) (sym h.1))
      (unasking_at events ((answers ++ map replied h.0) ++ closed ∷ []) new frames.End refl (λ nexus tag. refl)
      (told_at first exact events (answers ++ map replied h.0) new closed (λ r. refl) (λ nexus tag. refl)
      (turns_at first exact events answers (fewer events frames.End once) (h.2).turns o)))
