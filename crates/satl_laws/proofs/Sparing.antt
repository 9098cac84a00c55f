-- Quiet moves and turns in which no task writes a sector.
use Rattle.std.proofs.Common.{◌≡◌, sym, ap, ◌∙◌, subst, ℕ, List, [], length}
use Rattle.std.specs.List.{AllByRecursion}
use Rattle.satl_base.specs.declared.reply.Reply.{Reply}
use Rattle.satl_base.specs.Lists.{remove_first}
use Rattle.satl_base.proofs.ListsLemmas.{All-remove_first, All-weaken}
use Rattle.satl_base.proofs.MovesLemmas.{moves-length}
use Rattle.satl_line.specs.declared.entry.Entry.{Entry}
use Rattle.satl_direct.specs.Device.{Device, is_called}
use Rattle.satl_direct.specs.Quiet.{Around, Quiet, writes}
use Rattle.satl_direct.specs.Turn.{OneEnds, Turn}
use Rattle.satl_direct.specs.Turn.Turn.{idle, ends, loses, ends_and_loses}
use Rattle.satl_direct.specs.Run.{TurnsOf}
use Rattle.satl_direct.specs.Run.TurnsOf.{none, more}
use Rattle.satl_direct.proofs.Quieting.{quiet_tasks}
use Rattle.satl_laws.specs.Untouched.{Spares}
use Rattle.satl_laws.proofs.Addresses.{Alike, alike_none, alike_on, writes_alike}
use Rattle.satl_laws.proofs.Coming.{WritesItsOwn}
use Rattle.satl_laws.proofs.Ends.{eligible_in, ends_leaves, may_end_in}
use Rattle.satl_laws.proofs.Kept.{KeptAt, at_none, at_on, at_same}
use Rattle.satl_laws.proofs.Reaching.{ends_reach}
use Rattle.satl_laws.proofs.Rows.{in_all}
use Rattle.satl_laws.proofs.SparedCells.{moves_keep, spared_in}
use Rattle.satl_laws.proofs.Steps.{steps-length, steps_keep}

module _ (x : ℕ) where
  -- a task writes the sector under no circumstances
  pub record SparesAt (s : Device) (t : Entry) : Type 0 where
    pub spares : Spares x (writes s t)
    pub own : WritesItsOwn t.command

  -- no task of the device does
  pub record NoneWrites (s : Device) : Type 0 where
    pub each : AllByRecursion (SparesAt s) s.tasks

  -- the sector is kept, and still no task writes it
  pub record Keeps (old new : Device) : Type 0 where
    pub cells : KeptAt x old.cells new.cells
    pub alike : Alike old new
    pub none_writes : NoneWrites new

  -- a task that spares the sector at a device spares it at a like one
  pub spares_alike : (s u : Device) → Alike s u → (t : Entry) → SparesAt s t → SparesAt u t
  spares_alike s u a t h = record { spares = writes_alike x s u a t ∙ h.spares; own = h.own }

  -- tasks of a device that are those of an alike one, or some of them
  pub none_still : (s u : Device) (tasks : List Entry) → Alike s u → u.tasks ≡ tasks → AllByRecursion (SparesAt s) tasks → NoneWrites u
  none_still s u tasks a same all = record { each = subst (AllByRecursion (SparesAt u)) (sym same) (All-weaken (SparesAt s) (SparesAt u) (spares_alike s u a) tasks all) }

  -- steps after steps
  pub keeps_on : (a b c : Device) → Keeps a b → (NoneWrites b → Keeps b c) → Keeps a c
  keeps_on a b c k next =
      let l = next k.none_writes in
      record { cells = at_on x a.cells b.cells c.cells k.cells l.cells; alike = alike_on a b c k.alike l.alike; none_writes = l.none_writes }

  -- no step
  pub keeps_none : (s : Device) → NoneWrites s → Keeps s s
  keeps_none s h = record { cells = at_none x s.cells; alike = alike_none s; none_writes = h }

  -- the cells, the identity and these tasks are those before
  pub same_cells : (s u : Device) (tasks : List Entry) → u.cells ≡ s.cells → u.identity ≡ s.identity → u.tasks ≡ tasks → AllByRecursion (SparesAt s) tasks → Keeps s u
  same_cells s u tasks cells identity same all =
      let a : Alike s u = record { identity = identity; size = ap length cells } in
      record { cells = at_same x s.cells u.cells cells; alike = a; none_writes = none_still s u tasks a same all }

  -- no task is left, and the cells are those before
  pub loss_keeps : (s u : Device) → u.cells ≡ s.cells → u.identity ≡ s.identity → u.tasks ≡ [] → Keeps s u
  loss_keeps s u cells identity same = same_cells s u [] cells identity same tt

  -- quiet moves leave a like device
  pub quiet_alike : (old new : Device) → Quiet old new → Alike old new
  quiet_alike old new q = record { identity = ap (λ d. d.identity) q.stays; size = moves-length q.cells }

  -- quiet moves keep the sector
  pub quiet_keeps : (old new : Device) → Quiet old new → NoneWrites old → Keeps old new
  quiet_keeps old new q h = record {
    cells = moves_keep x (λ p m. spared_in x (writes old m.task) p (in_all (SparesAt old) old.tasks m.task h.each (eligible_in old.tasks m.task (m.under_way).eligible)).spares m.among) q.cells;
    alike = quiet_alike old new q;
    none_writes = none_still old new old.tasks (quiet_alike old new q) (quiet_tasks old new q) h.each;
  }

  -- a task ends
  pub one_keeps : (s new : Device) (reply : Reply) → OneEnds s reply new → NoneWrites s → Keeps s new
  one_keeps s new reply e h =
      let spares = in_all (SparesAt s) s.tasks e.task h.each (may_end_in s e.task e.may) in
      let r = ends_reach s new e.task reply e.ends in
      let l = ends_leaves s new e.task reply e.ends in
      let a : Alike s new = record { identity = r.identity; size = steps-length r.pairs s.cells new.cells r.cells } in
      record {
        cells = steps_keep x r.pairs s.cells new.cells (r.spared x spares.own spares.spares) r.cells;
        alike = a;
        none_writes = none_still s new (remove_first (is_called (e.task).nexus ((e.task).tag).0) s.tasks) a l.tasks (All-remove_first (SparesAt s) (is_called (e.task).nexus ((e.task).tag).0) s.tasks h.each);
      }

  -- so does a turn
  turn_keeps : {s new : Device} {answers : List Reply} → Turn s answers new → NoneWrites s → Keeps s new
  turn_keeps {s = s} (idle e) h = keeps_none s h
  turn_keeps {s = s} (ends {new = new} reply e) h = one_keeps s new reply e h
  turn_keeps {s = s} (loses {new = new} some l) h = loss_keeps s new (ap (λ d. d.cells) l.stays) (ap (λ d. d.identity) l.stays) (ap (λ d. d.tasks) l.stays)
  turn_keeps {s = s} (ends_and_loses {mid = mid} {after = after} {new = new} reply e q l) h =
      keeps_on s after new (keeps_on s mid after (one_keeps s mid reply e h) (quiet_keeps mid after q))
      (λ g. loss_keeps after new (ap (λ d. d.cells) l.stays) (ap (λ d. d.identity) l.stays) (ap (λ d. d.tasks) l.stays))

  -- so does a step with quiet moves around it, where the step does
  pub around_keeps : {A : Type 0} (Step : Device → List A → Device → Type 0) (old new : Device) (answers : List A) (a : Around Step old answers new)
      → (Step a.before answers a.after → NoneWrites a.before → Keeps a.before a.after) → NoneWrites old → Keeps old new
  around_keeps Step old new answers a each h =
      keeps_on old a.after new (keeps_on old a.before a.after (quiet_keeps old a.before a.quiet_before h) (each a.step)) (quiet_keeps a.after new a.quiet_after)

  -- so do many turns
  pub turns_keep : {n deep : ℕ} {s new : Device} {answers : List Reply} → TurnsOf n s answers new deep → NoneWrites s → Keeps s new
  turns_keep {s = s} none h = keeps_none s h
  turns_keep {s = s} {new = new} (more {mid = mid} {rest = rest} so_far next) h =
      keeps_on s mid new (turns_keep so_far h) (around_keeps Turn mid new rest next (λ t g. turn_keeps t g))
