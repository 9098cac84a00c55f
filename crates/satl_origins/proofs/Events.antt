-- Events: each block that a sector may have stays so, and each answer is so.
use Rattle.std.proofs.Common.{◌≡◌, ⊎_elim, inl, inr, sym, ap, ◌∙◌, subst, ℕ, List, [], ◌∷◌, ◌++◌, length, map}
use Rattle.std.specs.Prelude.{not, filter}
use Rattle.std.specs.List.{AllByRecursion}
use Rattle.std.proofs.lemmas.Slice.Zip.{AllZip-long}
use Rattle.satl_base.specs.declared.bench.BenchEvent.{BenchEvent}
use Rattle.satl_base.specs.declared.bench.BenchEvent.TheVariants as bench
use Rattle.satl_base.specs.declared.request.Manage.{Manage}
use Rattle.satl_base.specs.declared.request.Request.{Request}
use Rattle.satl_base.specs.declared.reply.Reply.{Reply}
use Rattle.satl_base.specs.declared.reply.Response.{Response}
use Rattle.satl_base.specs.Cells.{Cell}
use Rattle.satl_base.specs.Lists.{IsIn, change_at}
use Rattle.satl_base.proofs.CellsLemmas.{change_at-length}
use Rattle.satl_base.proofs.ListsLemmas.{All-filter, All-push_end, in_either}
use Rattle.satl_regs.specs.Sectors.{IsLeftBehind, with_flaw, without_flaws}
use Rattle.satl_frame.specs.declared.frames.Frame.{Frame}
use Rattle.satl_frame.specs.declared.frames.Frame.TheVariants as frames
use Rattle.satl_frame.specs.Output.{Answer}
use Rattle.satl_frame.specs.Output.Answer.{closed, managed, replied}
use Rattle.satl_direct.specs.Arrival.{Arrival, Arrives, ArrivesAs, arrival}
use Rattle.satl_direct.specs.Arrival.Arrival.{answered, attended, overlaps, waits}
use Rattle.satl_direct.specs.Bench.{Happens}
use Rattle.satl_direct.specs.Device.{Device, is_of, of_others}
use Rattle.satl_direct.specs.Management.{effect}
use Rattle.satl_direct.specs.Run.{Does, Manages, MayLose}
use Rattle.satl_direct.specs.Run.MayLose.{keeps, keeps_and_loses}
use Rattle.satl_laws.proofs.Addresses.{Alike}
use Rattle.satl_laws.proofs.Names.{one_reply}
use Rattle.satl_laws.proofs.QuietArrivals.{arrival_quiet}
use Rattle.satl_origins.proofs.Held.{AllSo, so_left, so_mended, so_same, so_struck}
use Rattle.satl_origins.proofs.Steps.{AnswersSo, Asked, DeviceSo, GoesSo, RepliesSo, TaskSo, around_goes, goes_on, loss_goes, quiet_goes, same_cells, task_alike, tasks_alike, then_quiet, turns_go}

-- an answer among some replies is one of them
pub in_replied : (reply : Reply) (replies : List Reply) → IsIn (replied reply) (map replied replies) → IsIn reply replies
in_replied reply [] i = absurd i
in_replied reply (r ∷ rs) i = ⊎_elim (λ same. inl (one_reply reply r same)) (λ later. inr (in_replied reply rs later)) i

module _ (A : Asked) (answers : AnswersSo A) where
  -- an arrival is answered so, or gives a task that is so
  abbrev pub ArrivalSo : Device → Arrival → Type 0
  ArrivalSo s (answered reply) = A.reply reply
  ArrivalSo s (attended reply) = A.reply reply
  ArrivalSo s (overlaps reply) = A.reply reply
  ArrivalSo s (waits task) = TaskSo A s task

  -- a single answer
  told_one : (reply : Reply) (replies : List Reply) → replies ≡ reply ∷ [] → A.reply reply → RepliesSo A replies
  told_one reply replies same so other i = ⊎_elim (λ e. subst A.reply (sym e) so) (λ none. absurd none) (subst (IsIn other) same i)

  -- no answer
  told_none : (replies : List Reply) → replies ≡ [] → RepliesSo A replies
  told_none replies same other i = absurd (subst (IsIn other) same i)

  pub arrives_goes : (a : Arrival) (r : Request) (s new : Device) (replies : List Reply) → ArrivalSo s a → ArrivesAs a r s replies new → DeviceSo A s → GoesSo A s new replies
  arrives_goes (answered reply) r s new replies so h g = same_cells A s new s.tasks replies (ap (λ d. d.cells) h.1) (ap (λ d. d.identity) h.1) (ap (λ d. d.tasks) h.1) (told_one reply replies h.0 so) g.cells g.tasks
  arrives_goes (attended reply) r s new replies so h g = same_cells A s new s.tasks replies (ap (λ d. d.cells) h.1) (ap (λ d. d.identity) h.1) (ap (λ d. d.tasks) h.1) (told_one reply replies h.0 so) g.cells g.tasks
  arrives_goes (overlaps reply) r s new replies so h g =
      same_cells A s new (of_others r.nexus s.tasks) replies (ap (λ d. d.cells) h.1) (ap (λ d. d.identity) h.1) (ap (λ d. d.tasks) h.1) (told_one reply replies h.0 so) g.cells (All-filter (TaskSo A s) (λ t. not (is_of r.nexus t)) s.tasks g.tasks)
  arrives_goes (waits task) r s new replies so h g =
      same_cells A s new (s.tasks ++ task ∷ []) replies (ap (λ d. d.cells) h.1) (ap (λ d. d.identity) h.1) (ap (λ d. d.tasks) h.1) (told_none replies h.0) g.cells (All-push_end (TaskSo A s) s.tasks task g.tasks so)

  pub manages_goes : (m : Manage) (response : Response) (s new : Device) (replies : List Reply) → Manages m response s replies new → DeviceSo A s → GoesSo A s new replies
  manages_goes m response s new replies h g =
      same_cells A s new (filter (λ t. not ((effect m s).goes t)) s.tasks) replies (ap (λ d. d.cells) (h.1).stays) (ap (λ d. d.identity) (h.1).stays) (ap (λ d. d.tasks) (h.1).stays) (told_none replies h.0) g.cells
      (All-filter (TaskSo A s) (λ t. not ((effect m s).goes t)) s.tasks g.tasks)

  -- a step before a loss of the link
  may_lose_goes : (Step : Device → List Reply → Device → Type 0) (old new : Device) (replies : List Reply)
      → ((mid : Device) (said : List Reply) → Step old said mid → GoesSo A old mid said) → MayLose Step old replies new → GoesSo A old new replies
  may_lose_goes Step old new replies each (keeps h) = each new replies h
  may_lose_goes Step old new _ each (keeps_and_loses {answers = said} {more = lost} {mid = mid} {after = after} h q l) =
      goes_on A old after new said lost (then_quiet A old mid after said (each mid said h) q)
      (λ g. loss_goes A answers after new lost (ap (λ d. d.cells) l.stays) (ap (λ d. d.identity) l.stays) (ap (λ d. d.tasks) l.stays) l.answer g)

  -- a change of flaws at one place
  flaws_go : (s new : Device) (lba : ℕ) (f : Cell → Cell) (replies : List Reply) → AllSo A.block (change_at s.cells lba f) → new ≡ record s { cells = change_at s.cells lba f } → replies ≡ [] → DeviceSo A s → GoesSo A s new replies
  flaws_go s new lba f replies so is none g =
      let a : Alike s new = record { identity = ap (λ d. d.identity) is; size = ap (λ d. length d.cells) is ∙ change_at-length s.cells lba f } in
      record {
        alike = a;
        device = record { cells = so_same A.block (change_at s.cells lba f) new.cells (ap (λ d. d.cells) is) so; tasks = tasks_alike A s new s.tasks a (ap (λ d. d.tasks) is) g.tasks };
        told = told_none replies none;
      }

  -- an event of the bench, be it a loss of power
  pub bench_goes : (event : BenchEvent) (s new : Device) (replies : List Reply) → Happens event s replies new → DeviceSo A s → GoesSo A s new replies
  bench_goes (bench.Strike which lba) s new replies h g = flaws_go s new lba (with_flaw which) replies (so_struck A.block which lba s.cells g.cells) h.new_is h.none g
  bench_goes (bench.Mend lba) s new replies h g = flaws_go s new lba without_flaws replies (so_mended A.block lba s.cells g.cells) h.new_is h.none g
  bench_goes bench.Power s new replies h g = record {
    alike = record { identity = ap (λ d. d.identity) h.stays; size = AllZip-long IsLeftBehind s.cells new.cells h.cells };
    device = record { cells = so_left A.block s.cells new.cells h.cells g.cells; tasks = subst (AllByRecursion (TaskSo A new)) (sym (ap (λ d. d.tasks) h.stays)) tt };
    told = told_none replies h.none;
  }
  bench_goes bench.Unplug s new replies h g = loss_goes A answers s new replies (ap (λ d. d.cells) h.stays) (ap (λ d. d.identity) h.stays) (ap (λ d. d.tasks) h.stays) h.answer g
  bench_goes _ s new replies h g = same_cells A s new s.tasks replies (ap (λ d. d.cells) h.new_is) (ap (λ d. d.identity) h.new_is) (ap (λ d. d.tasks) h.new_is) (told_none replies h.none) g.cells g.tasks

  -- what comes in an event is so
  abbrev pub EventSo : Frame → Device → Type 0
  EventSo (frames.Request r) s = ArrivalSo s (arrival s r)
  EventSo _ s = Unit {0}

  -- it is so too behind quiet moves
  arrival_later : (a : Arrival) (s u : Device) → Alike s u → ArrivalSo s a → ArrivalSo u a
  arrival_later (answered reply) s u a so = so
  arrival_later (attended reply) s u a so = so
  arrival_later (overlaps reply) s u a so = so
  arrival_later (waits task) s u a so = task_alike A s u a task so

  -- a like device, of which all is so, and answers that are so
  pub record EventGoes (old new : Device) (now : List Answer) : Type 0 where
    pub alike : Alike old new
    pub device : DeviceSo A new
    pub told : (reply : Reply) → IsIn (replied reply) now → A.reply reply

  -- replies alone
  goes_replied : (s new : Device) (replies : List Reply) (now : List Answer) → now ≡ map replied replies → GoesSo A s new replies → EventGoes s new now
  goes_replied s new replies now same g = record { alike = g.alike; device = g.device; told = λ reply i. g.told reply (in_replied reply replies (subst (IsIn (replied reply)) same i)) }

  -- replies, and an answer that is none
  goes_with : (s new : Device) (replies : List Reply) (last : Answer) (now : List Answer) → ((reply : Reply) → replied reply ≡ last → ⊥) → now ≡ map replied replies ++ last ∷ [] → GoesSo A s new replies → EventGoes s new now
  goes_with s new replies last now other same g = record {
    alike = g.alike;
    device = g.device;
    told = λ reply i.
        ⊎_elim (λ here. g.told reply (in_replied reply replies here)) (λ end. ⊎_elim (λ e. absurd (other reply e)) (λ none. absurd none) end) (in_either (replied reply) (map replied replies) (last ∷ []) (subst (IsIn (replied reply)) same i));
  }

  -- each event
  pub does_go : (event : Frame) (s new : Device) (now : List Answer) (d : ℕ) → EventSo event s → Does event s now new d → DeviceSo A s → EventGoes s new now
  does_go (frames.Request r) s new now d so h g =
      goes_replied s new h.0 now h.1
      (around_goes A (MayLose (Arrives r)) s new h.0 h.2
      (λ step k. may_lose_goes (Arrives r) (h.2).before (h.2).after h.0 (λ mid said e. arrives_goes (arrival (h.2).before r) r (h.2).before mid said here e k) step) g)
    where
      here : ArrivalSo (h.2).before (arrival (h.2).before r)
      here =
          let q = (h.2).quiet_before in
          let same : arrival (h.2).before r ≡ arrival s r = ap (λ d. arrival d r) q.stays ∙ arrival_quiet s r ((h.2).before).cells ((h.2).before).active in
          subst (ArrivalSo (h.2).before) (sym same) (arrival_later (arrival s r) s (h.2).before (quiet_goes A s (h.2).before q g).alike so)
  does_go (frames.Manage m) s new now d so h g =
      goes_with s new (h.0).replies (managed m.nexus m.function (h.0).response m.tag) now (λ reply e. cc) (h.0).answer
      (around_goes A (MayLose (Manages m (h.0).response)) s new (h.0).replies (h.0).step
      (λ step k. may_lose_goes (Manages m (h.0).response) ((h.0).step).before ((h.0).step).after (h.0).replies (λ mid said e. manages_goes m (h.0).response ((h.0).step).before mid said e k) step) g)
  does_go (frames.Turn count) s new now d so h g = goes_replied s new h.0 now h.2 (turns_go A answers h.3 g)
  does_go (frames.Bench event) s new now d so h g = goes_replied s new h.0 now h.1 (around_goes A (Happens event) s new h.0 h.2 (λ step k. bench_goes event (h.2).before (h.2).after h.0 step k) g)
  does_go frames.End s new now d so h g = goes_with s new h.0 closed now (λ reply e. cc) h.1 (turns_go A answers (h.2).turns g)
