-- Events in which no task writes a sector, but for a loss of power.
use Rattle.std.proofs.Common.{◌≡◌, sym, ap, ◌∙◌, subst, ℕ, false, List, [], ◌∷◌, ◌++◌, length}
use Rattle.std.specs.Prelude.{not, filter}
use Rattle.satl_base.specs.declared.bench.BenchEvent.{BenchEvent}
use Rattle.satl_base.specs.declared.bench.BenchEvent.TheVariants as bench
use Rattle.satl_base.specs.declared.request.Manage.{Manage}
use Rattle.satl_base.specs.declared.request.Request.{Request}
use Rattle.satl_base.specs.declared.reply.Reply.{Reply}
use Rattle.satl_base.specs.declared.reply.Response.{Response}
use Rattle.satl_base.specs.Cells.{Cell}
use Rattle.satl_base.specs.Lists.{change_at}
use Rattle.satl_base.proofs.CellsLemmas.{change_at-length}
use Rattle.satl_base.proofs.ListsLemmas.{All-push_end, All-filter}
use Rattle.satl_regs.specs.Sectors.{with_flaw, without_flaws}
use Rattle.satl_frame.specs.declared.frames.Frame.{Frame}
use Rattle.satl_frame.specs.declared.frames.Frame.TheVariants as frames
use Rattle.satl_frame.specs.Output.{Answer}
use Rattle.satl_direct.specs.Device.{Device, is_of, of_others}
use Rattle.satl_direct.specs.Arrival.{Arrival, Arrives, ArrivesAs, arrival}
use Rattle.satl_direct.specs.Arrival.Arrival.{overlaps, waits}
use Rattle.satl_direct.specs.Bench.{Happens}
use Rattle.satl_direct.specs.Management.{effect}
use Rattle.satl_direct.specs.Quiet.{Quiet}
use Rattle.satl_direct.specs.Run.{Does, Manages, MayLose}
use Rattle.satl_direct.specs.Run.MayLose.{keeps, keeps_and_loses}
use Rattle.satl_laws.specs.Untouched.{is_power}
use Rattle.satl_laws.proofs.Addresses.{Alike}
use Rattle.satl_laws.proofs.Kept.{KeptAt, mend_keeps, strike_keeps}
use Rattle.satl_laws.proofs.Sparing.{Keeps, NoneWrites, SparesAt, around_keeps, keeps_on, loss_keeps, none_still, quiet_keeps, same_cells, turns_keep}

module _ (x : ℕ) where
  -- nor does the task that a request becomes
  abbrev pub NoneComes : Device → Arrival → Type 0
  NoneComes s (waits task) = SparesAt x s task
  NoneComes s _ = Unit {0}

  -- so does a step before a loss of the link
  may_lose_keeps : (Step : Device → List Reply → Device → Type 0) (old new : Device) (answers : List Reply)
      → ((mid : Device) (said : List Reply) → Step old said mid → Keeps x old mid) → MayLose Step old answers new → Keeps x old new
  may_lose_keeps Step old new answers each (keeps h) = each new answers h
  may_lose_keeps Step old new _ each (keeps_and_loses {answers = said} {mid = mid} {after = after} h q l) =
      keeps_on x old after new (keeps_on x old mid after (each mid said h) (quiet_keeps x mid after q))
      (λ g. loss_keeps x after new (ap (λ d. d.cells) l.stays) (ap (λ d. d.identity) l.stays) (ap (λ d. d.tasks) l.stays))

  -- so does an arrival
  arrives_keeps : (a : Arrival) (r : Request) (s new : Device) (answers : List Reply) → NoneComes s a → ArrivesAs a r s answers new → NoneWrites x s → Keeps x s new
  arrives_keeps (overlaps reply) r s new answers comes h g =
      same_cells x s new (of_others r.nexus s.tasks) (ap (λ d. d.cells) h.1) (ap (λ d. d.identity) h.1) (ap (λ d. d.tasks) h.1) (All-filter (SparesAt x s) (λ t. not (is_of r.nexus t)) s.tasks g.each)
  arrives_keeps (waits task) r s new answers comes h g =
      same_cells x s new (s.tasks ++ task ∷ []) (ap (λ d. d.cells) h.1) (ap (λ d. d.identity) h.1) (ap (λ d. d.tasks) h.1) (All-push_end (SparesAt x s) s.tasks task g.each comes)
  arrives_keeps _ r s new answers comes h g = same_cells x s new s.tasks (ap (λ d. d.cells) h.1) (ap (λ d. d.identity) h.1) (ap (λ d. d.tasks) h.1) g.each

  -- so does a management function
  manages_keeps : (m : Manage) (response : Response) (s new : Device) (answers : List Reply) → Manages m response s answers new → NoneWrites x s → Keeps x s new
  manages_keeps m response s new answers h g =
      same_cells x s new (filter (λ t. not ((effect m s).goes t)) s.tasks) (ap (λ d. d.cells) (h.1).stays) (ap (λ d. d.identity) (h.1).stays) (ap (λ d. d.tasks) (h.1).stays)
      (All-filter (SparesAt x s) (λ t. not ((effect m s).goes t)) s.tasks g.each)

  -- a change of flaws at one place
  flaws_keep : (s new : Device) (lba : ℕ) (f : Cell → Cell) → KeptAt x s.cells (change_at s.cells lba f) → new ≡ record s { cells = change_at s.cells lba f } → NoneWrites x s → Keeps x s new
  flaws_keep s new lba f kept is g =
      let a : Alike s new = record { identity = ap (λ d. d.identity) is; size = ap (λ d. length d.cells) is ∙ change_at-length s.cells lba f } in
      record {
        cells = subst (KeptAt x s.cells) (sym (ap (λ d. d.cells) is)) kept;
        alike = a;
        none_writes = none_still x s new s.tasks a (ap (λ d. d.tasks) is) g.each;
      }

  -- so does an event of the bench but for a loss of power
  bench_keeps : (event : BenchEvent) (s new : Device) (answers : List Reply) → is_power (frames.Bench event) ≡ false → Happens event s answers new → NoneWrites x s → Keeps x s new
  bench_keeps (bench.Strike which lba) s new answers mains h g = flaws_keep s new lba (with_flaw which) (strike_keeps which x lba s.cells) h.new_is g
  bench_keeps (bench.Mend lba) s new answers mains h g = flaws_keep s new lba without_flaws (mend_keeps x lba s.cells) h.new_is g
  bench_keeps bench.Power s new answers mains h g = absurd cc
  bench_keeps bench.Unplug s new answers mains h g = loss_keeps x s new (ap (λ d. d.cells) h.stays) (ap (λ d. d.identity) h.stays) (ap (λ d. d.tasks) h.stays)
  bench_keeps _ s new answers mains h g = same_cells x s new s.tasks (ap (λ d. d.cells) h.new_is) (ap (λ d. d.identity) h.new_is) (ap (λ d. d.tasks) h.new_is) g.each

  -- what an event brings is judged after quiet moves
  abbrev pub NoneComesBy : Frame → Device → Type 0
  NoneComesBy (frames.Request r) s = NoneComes s (arrival s r)
  NoneComesBy _ s = Unit {0}

  -- so does each event but for a loss of power
  pub does_keep : (event : Frame) (s new : Device) (now : List Answer) (d : ℕ) → is_power event ≡ false → ((before : Device) → Quiet s before → NoneComesBy event before) → Does event s now new d → NoneWrites x s → Keeps x s new
  does_keep (frames.Request r) s new now d mains comes h =
      around_keeps x (MayLose (Arrives r)) s new h.0 h.2
      (λ step g. may_lose_keeps (Arrives r) (h.2).before (h.2).after h.0 (λ mid said k. arrives_keeps (arrival (h.2).before r) r (h.2).before mid said (comes (h.2).before (h.2).quiet_before) k g) step)
  does_keep (frames.Manage m) s new now d mains comes h =
      around_keeps x (MayLose (Manages m (h.0).response)) s new (h.0).replies (h.0).step
      (λ step g. may_lose_keeps (Manages m (h.0).response) ((h.0).step).before ((h.0).step).after (h.0).replies (λ mid said k. manages_keeps m (h.0).response ((h.0).step).before mid said k g) step)
  does_keep (frames.Turn count) s new now d mains comes h = turns_keep x h.3
  does_keep (frames.Bench event) s new now d mains comes h = around_keeps x (Happens event) s new h.0 h.2 (λ step g. bench_keeps event (h.2).before (h.2).after h.0 mains step g)
  does_keep frames.End s new now d mains comes h = turns_keep x (h.2).turns
