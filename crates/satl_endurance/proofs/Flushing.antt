-- Events from the arrival of a SYNCHRONIZE CACHE on: once it was answered with GOOD, a sector that no task behind it writes has
-- one block alone.
use Rattle.std.proofs.Common.{◌≡◌, ◌⊎◌, ⊎_elim, inl, inr, refl, sym, ap, ◌∙◌, subst, ℕ, suc, Bool, true, false, List, [], ◌∷◌, ◌++◌, map}
use Rattle.std.specs.Prelude.{if◌then◌else◌, not, ◌||◌, take, Ok}
use Rattle.std.specs.List.{list_any}
use Rattle.std.proofs.lemmas.Bool.{and_parts}
use Rattle.satl_base.specs.declared.block.Block.{Block}
use Rattle.satl_base.specs.declared.request.Request.{Request}
use Rattle.satl_base.specs.declared.reply.Reply.{Reply}
use Rattle.satl_base.specs.Lists.{IsIn}
use Rattle.satl_base.specs.Names.{is_name}
use Rattle.satl_base.proofs.ListsLemmas.{All-in, in_either}
use Rattle.satl_cdb.specs.declared.command.Command.{Command}
use Rattle.satl_cdb.specs.declared.command.Command.TheVariants as commands
use Rattle.satl_cdb.specs.Table.{says}
use Rattle.satl_frame.specs.declared.frames.Frame.{Frame}
use Rattle.satl_frame.specs.declared.frames.Frame.TheVariants as frames
use Rattle.satl_frame.specs.Output.{Answer}
use Rattle.satl_frame.specs.Output.Answer.{closed, managed, replied}
use Rattle.satl_line.specs.declared.entry.Kind.TheVariants.{Barrier}
use Rattle.satl_line.specs.Kinds.{kind_of}
use Rattle.satl_direct.specs.Arrival.{Arrival, Arrives, ArrivesAs, arrival}
use Rattle.satl_direct.specs.Arrival.Arrival.{answered, attended, overlaps, waits}
use Rattle.satl_direct.specs.Bench.{Happens}
use Rattle.satl_direct.specs.Device.{Device, is_of, of_others}
use Rattle.satl_direct.specs.Quiet.{Quiet}
use Rattle.satl_direct.specs.Run.{Does, Manages, MayLose, joined}
use Rattle.satl_direct.proofs.Quieting.{quiet_tasks}
use Rattle.satl_laws.specs.ArrivalOrder.{is_done, is_good, was_done}
use Rattle.satl_laws.specs.OnceEach.{asks_by}
use Rattle.satl_laws.proofs.Addresses.{Alike}
use Rattle.satl_laws.proofs.Arrivals.{IsFor, arrival_for}
use Rattle.satl_laws.proofs.Names.{none_in}
use Rattle.satl_laws.proofs.Rows.{in_all}
use Rattle.satl_laws.proofs.Seen.{by_test}
use Rattle.satl_renaming.specs.UsedAgain.{how_many_before}
use Rattle.satl_origins.specs.Origins.{Brings, BringsAtArrival, BringsIn}
use Rattle.satl_origins.proofs.Events.{ArrivalSo, arrives_goes, does_go, in_replied}
use Rattle.satl_origins.proofs.Reading.{Chain}
use Rattle.satl_origins.proofs.Reading.Chain.{no_more, one_more}
use Rattle.satl_origins.proofs.Requested.{Made, arrival_made, requested_each}
use Rattle.satl_origins.proofs.Runs.{blocks_alone, event_so, nothing_asked}
use Rattle.satl_origins.proofs.Steps.{DeviceSo, GoesSo, TaskSo}
use Rattle.satl_endurance.specs.Endurance.{NoneAsksFor, flushes}
use Rattle.satl_endurance.proofs.Behind.{Behind, behind_filter, behind_first, behind_none, behind_push}
use Rattle.satl_endurance.proofs.FlushAnswers.{IsNotGood, not_at_once}
use Rattle.satl_endurance.proofs.Stepping.{After, Anything, Before, Comes, IsFlush, NotDone, OnlyThis, Spares, after_on, around_comes, bench_comes, called, flush_asked, manages_comes, may_lose_comes, none_told, of_flush, stays_with, turns_come}

module _ (first : Device) (x : ℕ) where
  -- no request of an event brings a block to the sector, at any device like the first
  abbrev pub BringsNone : Frame → Type 0
  BringsNone event = (s : Device) → Alike first s → (block : Block) → BringsIn event s x block → ⊥

  -- no event of an input does where no command of it may
  pub brings_none : (all : List Frame) → NoneAsksFor first all x → (event : Frame) → IsIn event all → BringsNone event
  brings_none all none (frames.Request r) i s alike block h = none block (r, i, requested_each first r s alike tt x block h)
  brings_none all none (frames.Manage m) i s alike block h = h
  brings_none all none (frames.Turn count) i s alike block h = h
  brings_none all none (frames.Bench event) i s alike block h = h
  brings_none all none frames.End i s alike block h = h

  -- afterwards it stays so
  pub event_after : (r : Request) (event : Frame) (s new : Device) (now : List Answer) (d : ℕ) → BringsNone event → Does event s now new d → After first r x s → After first r x new
  event_after r event s new now d none does a =
      let B : ℕ → Block → Type 0 = OnlyThis x a.block in
      let g = does_go (blocks_alone B) (nothing_asked B) event s new now d (event_so B event s (λ y block h same. absurd (none s a.alike block (subst (λ k. BringsIn event s k block) same h)))) does a.device in
      after_on first r x s new a g.alike g.device

  pub chain_after : {s last : Device} {events : List Frame} {groups : List (List Answer)} (r : Request) → Chain Anything s events groups last → NoneAsksFor first events x → After first r x s → After first r x last
  chain_after r no_more none a = a
  chain_after {s = s} r (one_more {mid = mid} {event = event} {now = now} {events = events} l rest) none a =
      chain_after r rest (λ block h. none block (h.0, inr h.1, h.2))
      (event_after r event s mid now l.depth (brings_none (event ∷ events) none event (inl refl)) l.does a)

module _ (first : Device) (r : Request) (x : ℕ) where
  -- an arrival gives no GOOD to the request, or a task that may wait
  abbrev Fits : Device → Arrival → Type 0
  Fits s (answered reply) = is_done r (replied reply) ≡ true → ⊥
  Fits s (attended reply) = is_done r (replied reply) ≡ true → ⊥
  Fits s (overlaps reply) = is_done r (replied reply) ≡ true → ⊥
  Fits s (waits task) = TaskSo (of_flush first r x) s task × Behind (called first r x) (Spares first r x s) (s.tasks ++ task ∷ [])

  single_told : (reply : Reply) (replies : List Reply) → replies ≡ reply ∷ [] → (is_done r (replied reply) ≡ true → ⊥) → NotDone first r x replies
  single_told reply replies same not_done other i h =
      ⊎_elim (λ e. not_done (subst (λ k. is_done r (replied k) ≡ true) e h)) (λ nothing. absurd nothing) (subst (IsIn other) same i)

  -- what is asked of an arrival
  fits_so : (s : Device) (a : Arrival) → Fits s a → ArrivalSo (of_flush first r x) (flush_asked first r x) s a
  fits_so s (answered reply) h = tt
  fits_so s (attended reply) h = tt
  fits_so s (overlaps reply) h = tt
  fits_so s (waits task) h = h.0

  arrives_comes : (a : Arrival) (q : Request) (s new : Device) (replies : List Reply) → Fits s a → ArrivesAs a q s replies new → Before first r x s → Comes first r x new replies
  arrives_comes a q s new replies fits h b = of a fits h (arrives_goes (of_flush first r x) (flush_asked first r x) a q s new replies (fits_so s a fits) h b.device)
    where
      of : (k : Arrival) → Fits s k → ArrivesAs k q s replies new → GoesSo (of_flush first r x) s new replies → Comes first r x new replies
      of (answered reply) f e g = stays_with first r x s new s.tasks replies b g (ap (λ d. d.tasks) e.1) b.behind (single_told reply replies e.0 f)
      of (attended reply) f e g = stays_with first r x s new s.tasks replies b g (ap (λ d. d.tasks) e.1) b.behind (single_told reply replies e.0 f)
      of (overlaps reply) f e g =
          stays_with first r x s new (of_others q.nexus s.tasks) replies b g (ap (λ d. d.tasks) e.1) (behind_filter (called first r x) (Spares first r x s) (λ t. not (is_of q.nexus t)) s.tasks b.behind) (single_told reply replies e.0 f)
      of (waits task) f e g = stays_with first r x s new (s.tasks ++ task ∷ []) replies b g (ap (λ d. d.tasks) e.1) f.1 (none_told first r x replies e.0)

  -- ---- an event

  -- an arrival of the event fits behind quiet moves
  abbrev pub FitsIn : Frame → Device → Type 0
  FitsIn (frames.Request q) s = (u : Device) → Quiet s u → Before first r x u → Fits u (arrival u q)
  FitsIn _ s = Unit {0}

  -- no answer is GOOD to the request
  abbrev pub NoneDone : List Answer → Type 0
  NoneDone now = (reply : Reply) → IsIn (replied reply) now → is_done r (replied reply) ≡ true → ⊥

  -- so after an event
  pub record Holds (new : Device) (now : List Answer) : Type 0 where
    pub told : NoneDone now
    pub before : Before first r x new

  answers_none : (new : Device) (replies : List Reply) (now : List Answer) → now ≡ map replied replies → Comes first r x new replies → Holds new now ⊎ After first r x new
  answers_none new replies now same (inl k) = inl (record { told = λ reply i. k.told reply (in_replied reply replies (subst (IsIn (replied reply)) same i)); before = k.before })
  answers_none new replies now same (inr a) = inr a

  answers_with : (new : Device) (replies : List Reply) (last : Answer) (now : List Answer) → ((reply : Reply) → replied reply ≡ last → ⊥) → now ≡ map replied replies ++ last ∷ [] → Comes first r x new replies → Holds new now ⊎ After first r x new
  answers_with new replies last now other same (inl k) =
      inl (record {
        told = λ reply i. ⊎_elim (λ here. k.told reply (in_replied reply replies here)) (λ end. ⊎_elim (λ e. absurd (other reply e)) (λ nothing. absurd nothing) end) (in_either (replied reply) (map replied replies) (last ∷ []) (subst (IsIn (replied reply)) same i));
        before = k.before;
      })
  answers_with new replies last now other same (inr a) = inr a

  pub event_comes : (event : Frame) (s new : Device) (now : List Answer) (d : ℕ) → FitsIn event s → Does event s now new d → Before first r x s → Holds new now ⊎ After first r x new
  event_comes (frames.Request q) s new now d fits h b =
      let a = h.2 in
      answers_none new h.0 now h.1
      (around_comes first r x (MayLose (Arrives q)) s new h.0 a (λ k. may_lose_comes first r x (Arrives q) a.before a.after h.0 (λ mid said e. arrives_comes (arrival a.before q) q a.before mid said (fits a.before a.quiet_before k) e k) a.step) b)
  event_comes (frames.Manage m) s new now d fits h b =
      answers_with new (h.0).replies (managed m.nexus m.function (h.0).response m.tag) now (λ reply e. cc) (h.0).answer
      (around_comes first r x (MayLose (Manages m (h.0).response)) s new (h.0).replies (h.0).step
      (λ k. may_lose_comes first r x (Manages m (h.0).response) ((h.0).step).before ((h.0).step).after (h.0).replies (λ mid said e. manages_comes first r x m (h.0).response ((h.0).step).before mid said e k) ((h.0).step).step) b)
  event_comes (frames.Turn count) s new now d fits h b = answers_none new h.0 now h.2 (turns_come first r x h.3 b)
  event_comes (frames.Bench event) s new now d fits h b =
      answers_none new h.0 now h.1 (around_comes first r x (Happens event) s new h.0 h.2 (λ k. bench_comes first r x event (h.2).before (h.2).after h.0 (h.2).step k) b)
  event_comes frames.End s new now d fits h b = answers_with new h.0 closed now (λ reply e. cc) h.1 (turns_come first r x (h.2).turns b)

  -- ---- which events fit

  -- a request of another name that brings no block to the sector
  other_fits : (q : Request) (u : Device) → asks_by r.nexus (r.tag).0 (frames.Request q) ≡ false → BringsNone first x (frames.Request q) → Before first r x u → Fits u (arrival u q)
  other_fits q u other none b = of (arrival u q) (arrival_for u q) (none u b.alike)
    where
      not_named : (n g : ℕ) → n ≡ q.nexus → g ≡ (q.tag).0 → is_name r.nexus (r.tag).0 n g ≡ true → ⊥
      not_named n g same_nexus same_tag named = let no : true ≡ false = sym named ∙ ap (λ k. is_name r.nexus (r.tag).0 k g) same_nexus ∙ ap (is_name r.nexus (r.tag).0 q.nexus) same_tag ∙ other in cc

      told : (reply : Reply) → (reply.nexus ≡ q.nexus) × ((reply.tag).0 ≡ (q.tag).0) → is_done r (replied reply) ≡ true → ⊥
      told reply k h = not_named reply.nexus (reply.tag).0 k.0 k.1 (and_parts (is_name r.nexus (r.tag).0 reply.nexus (reply.tag).0) (is_good reply.status) h).0

      of : (a : Arrival) → IsFor q a → ((block : Block) → BringsAtArrival u a x block → ⊥) → Fits u a
      of (answered reply) to its = told reply (to.nexus, ap (λ g. g.0) to.tag)
      of (attended reply) to its = told reply (to.nexus, ap (λ g. g.0) to.tag)
      of (overlaps reply) to its = told reply (to.nexus, ap (λ g. g.0) to.tag)
      of (waits task) to its = (
        record { own = to.own; brings = λ y block h. tt; known = λ it. absurd (not_named task.nexus (task.tag).0 to.nexus (ap (λ g. g.0) to.tag) it) },
        behind_push (called first r x) (Spares first r x u) u.tasks task b.behind (record { own = to.own; brings = λ y block h same. its block (subst (λ k. Brings u task k block) same h); known = tt }),
      )

  -- so does each such event
  others_fit : (event : Frame) (s : Device) → asks_by r.nexus (r.tag).0 event ≡ false → BringsNone first x event → FitsIn event s
  others_fit (frames.Request q) s other none = λ u quiet b. other_fits q u other none b
  others_fit (frames.Manage m) s other none = tt
  others_fit (frames.Turn count) s other none = tt
  others_fit (frames.Bench event) s other none = tt
  others_fit frames.End s other none = tt

  -- ---- the events

  -- no answer to the request is GOOD up to the next use of its name, or the sector has one block alone at the end
  chain_comes : {s last : Device} {events : List Frame} {groups : List (List Answer)} → Chain Anything s events groups last → NoneAsksFor first events x → Before first r x s
      → NoneDone (joined (take (how_many_before r.nexus (r.tag).0 events) groups)) ⊎ After first r x last
  chain_comes no_more none b = inl (λ reply i h. absurd i)
  chain_comes {s = s} {last = last} (one_more {mid = mid} {event = event} {now = now} {events = events} {groups = groups} l rest) none b =
      by_test (λ q. NoneDone (joined (take (if q then 0 else suc (how_many_before r.nexus (r.tag).0 events)) (now ∷ groups))) ⊎ After first r x last) (asks_by r.nexus (r.tag).0 event)
      (λ asks. inl (λ reply i h. absurd i))
      (λ other. on (chain_comes rest later) (event_comes event s mid now l.depth (others_fit event s other here) l.does b))
    where
      here : BringsNone first x event
      here = brings_none first x (event ∷ events) none event (inl refl)

      later : NoneAsksFor first events x
      later block h = none block (h.0, inr h.1, h.2)

      on : (Before first r x mid → NoneDone (joined (take (how_many_before r.nexus (r.tag).0 events) groups)) ⊎ After first r x last) → Holds mid now ⊎ After first r x mid
          → NoneDone (now ++ joined (take (how_many_before r.nexus (r.tag).0 events) groups)) ⊎ After first r x last
      on next (inr a) = inr (chain_after first x r rest later a)
      on next (inl k) =
          ⊎_elim
          (λ none_later. inl (λ reply i. ⊎_elim (k.told reply) (none_later reply) (in_either (replied reply) now (joined (take (how_many_before r.nexus (r.tag).0 events) groups)) i)))
          (λ a. inr a)
          (next k.before)

  -- ---- from its arrival on

  -- where no task has its name
  before_it : (s : Device) → Alike first s → list_any (called first r x) s.tasks ≡ false → DeviceSo (of_flush first r x) s → Before first r x s
  before_it s alike free so = record { alike = alike; device = so; behind = behind_none (called first r x) (Spares first r x s) s.tasks free }

  -- it fits
  flush_fits : (s : Device) → flushes (says r.cdb first.identity.trim) ≡ true → list_any (called first r x) s.tasks ≡ false → FitsIn (frames.Request r) s
  flush_fits s flush free u quiet b = of (arrival u r) (arrival_for u r) (arrival_made u r) (not_at_once u r it)
    where
      it : flushes (says r.cdb u.identity.trim) ≡ true
      it = subst (λ i. flushes (says r.cdb i.trim) ≡ true) (sym (b.alike).identity) flush

      free_there : list_any (called first r x) u.tasks ≡ false
      free_there = ap (list_any (called first r x)) (quiet_tasks s u quiet) ∙ free

      told : (reply : Reply) → is_good reply.status ≡ false → is_done r (replied reply) ≡ true → ⊥
      told reply bad h = let no : true ≡ false = sym (and_parts (is_name r.nexus (r.tag).0 reply.nexus (reply.tag).0) (is_good reply.status) h).1 ∙ bad in cc

      kind_is : (c : Command) (b : Bool) → flushes (Ok c) ≡ true → kind_of c b ≡ Barrier
      kind_is (commands.Flush form lba count) b h = refl
      kind_is _ b h = absurd cc

      of : (a : Arrival) → IsFor r a → Made u r (says r.cdb u.identity.trim) a → IsNotGood a → Fits u a
      of (answered reply) to made bad = told reply bad
      of (attended reply) to made bad = told reply bad
      of (overlaps reply) to made bad = told reply bad
      of (waits task) to made bad =
          let flush_it : flushes (Ok made.0) ≡ true = subst (λ said. flushes said ≡ true) made.1 it in (
            record {
              own = to.own;
              brings = λ y block h. tt;
              known = λ named. subst (IsFlush first r x) (sym made.2) (record { flush = flush_it; barrier = kind_is made.0 u.identity.queued_trim flush_it });
            },
            behind_first (called first r x) (Spares first r x u) u.tasks task free_there,
          )

  -- where nothing is done, nothing was
  not_done : (answers : List Answer) → NoneDone answers → was_done answers r ≡ true → ⊥
  not_done [] none h = cc
  not_done (replied reply ∷ answers) none h =
      by_test (λ b. (b || was_done answers r) ≡ true → ⊥) (is_done r (replied reply))
      (λ done k. none reply (inl refl) done)
      (λ other k. not_done answers (λ later i. none later (inr i)) k) h
  not_done (managed from function response named ∷ answers) none h = not_done answers (λ later i. none later (inr i)) h
  not_done (closed ∷ answers) none h = not_done answers (λ later i. none later (inr i)) h

  -- once it was answered with GOOD, the sector has one block alone
  pub flushed : {s last : Device} {groups : List (List Answer)} (after : List Frame) → Chain Anything s (frames.Request r ∷ after) groups last → Alike first s → DeviceSo (blocks_alone Anything) s
      → flushes (says r.cdb first.identity.trim) ≡ true → NoneAsksFor first after x
      → was_done (joined (take (suc (how_many_before r.nexus (r.tag).0 after)) groups)) r ≡ true → After first r x last
  flushed {s = s} {last = last} after (one_more {mid = mid} {now = now} {groups = groups} l rest) alike so flush none done =
      on (event_comes (frames.Request r) s mid now l.depth (flush_fits s flush l.free) l.does (before_it s alike l.free named_free))
    where
      named_free : DeviceSo (of_flush first r x) s
      named_free = record {
        cells = so.cells;
        tasks = All-in (TaskSo (of_flush first r x) s) s.tasks
            (λ t i. let k = in_all (TaskSo (blocks_alone Anything) s) s.tasks t so.tasks i in
            record { own = k.own; brings = k.brings; known = λ it. absurd (let no : true ≡ false = sym it ∙ none_in (called first r x) s.tasks t l.free i in cc) });
      }

      on : Holds mid now ⊎ After first r x mid → After first r x last
      on (inr a) = chain_after first x r rest none a
      on (inl k) =
          ⊎_elim
          (λ none_later. absurd (not_done (now ++ joined (take (how_many_before r.nexus (r.tag).0 after) groups)) (λ reply i. ⊎_elim (k.told reply) (none_later reply) (in_either (replied reply) now (joined (take (how_many_before r.nexus (r.tag).0 after) groups)) i)) done))
          (λ a. a)
          (chain_comes rest none k.before)
