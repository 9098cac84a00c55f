-- Tasks are taken off, and what may be issued then is.
use Rattle.std.proofs.Common.{◌≡◌, inl, ⊎_elim, refl, sym, ap, subst, ◌∙◌, ◌-◌, arith, ◌≤◌, true, false, Bool, List, [], ◌∷◌, ◌++◌, length, map, cond, Some, eqb-true, eq-eqb}
use Rattle.std.specs.Prelude.{not, ◌||◌, ◌==◌, filter, MatchBool}
use Rattle.std.specs.List.{find}
use Rattle.std.proofs.lemmas.Bool.{or_right}
use Rattle.satl_base.proofs.ListsLemmas.{All-in}
use Rattle.satl_base.specs.declared.modes.Modes.{Modes}
use Rattle.satl_base.specs.declared.reply.Reply.{Reply}
use Rattle.satl_base.specs.Lists.{IsIn}
use Rattle.satl_identify.specs.declared.identity.Identity.{Identity}
use Rattle.satl_line.specs.declared.entry.Entry.{Entry}
use Rattle.satl_line.specs.Tasks.{Held, entries_of}
use Rattle.satl_unit.specs.declared.attention.Attention.{Attention}
use Rattle.satl_pages.specs.Counts.{Counts}
use Rattle.satl_drive.specs.State.{DriveState, IsFit}
use Rattle.satl_direct.specs.Device.{Device}
use Rattle.satl_direct.specs.Quiet.{Around}
use Rattle.satl_direct.specs.Run.{MayLose}
use Rattle.satl_direct.specs.Tasks.{task_of}
use Rattle.satl_direct.specs.Valid.{IsValid}
use Rattle.satl_direct.proofs.Quieting.{quiet_none}
use Rattle.satl_flight.specs.declared.flight.Flying.{Flying}
use Rattle.satl_flight.specs.Flown.{IsInFlight, is_outstanding, is_in_slot}
use Rattle.satl_flight.specs.Lending.{Waiting}
use Rattle.satl_flight.specs.Settled.{IsCut, IsFilled, IsLostQuietly}
use Rattle.satl_flight.proofs.ComingLemmas.{tie_kept}
use Rattle.satl_core.specs.declared.leaving.Scope.{Scope}
use Rattle.satl_core.specs.Layer.{Agrees, IsUsed, Layer, held_pages, view, works}
use Rattle.satl_core.specs.Leaving.{AreWaiting, is_within, left_by}
use Rattle.satl_core.specs.Refilling.{Answers, KeepsRest, Refills, Removes}
use Rattle.satl_core.specs.Turning.{lost_replies}
use Rattle.satl_core.proofs.AgreeingLemmas.{agrees_by, agrees_cut}
use Rattle.satl_core.proofs.ComposeLemmas.{removes_and_loses, removes_quietly, step_on}
use Rattle.satl_core.proofs.DeviceLemmas.{rest_lost}
use Rattle.satl_core.proofs.LeavingLemmas.{idle_waits, left_tasks}
use Rattle.satl_core.proofs.ManagingLemmas.{within_seen}
use Rattle.satl_core.proofs.QueuedLemmas.{is_up, moves_shown}
use Rattle.satl_core.proofs.TieLemmas.{layer_of}
use Rattle.satl_core.proofs.ValidLemmas.{valid_left}

-- ---- the others stay outstanding

in_holds : (flying : List Flying) (f : Flying) → IsIn f flying → is_outstanding flying f.slot ≡ true
in_holds [] f i = absurd i
in_holds (g ∷ flying) f i = ⊎_elim (λ e. ap (λ b. b || is_outstanding flying f.slot) (eq-eqb g.slot f.slot (ap (λ (x : Flying). x.slot) (sym e)))) (λ later. or_right (g.slot == f.slot) (is_outstanding flying f.slot) (in_holds flying f later)) i

-- a task that is outstanding does not go
stays_flying : (goes : Entry → Bool) (flying : List Flying) (tasks all : List Held) → AreWaiting goes flying tasks → (f : Flying) → is_outstanding flying f.slot ≡ true → (h : Held) → find (is_in_slot f.slot) tasks ≡ Some h → not (goes h.entry) ≡ true
stays_flying goes flying [] all waits f held h found = absurd cc
stays_flying goes flying (k ∷ tasks) all waits f held h found = by (k.slot == f.slot) refl found (stays_flying goes flying tasks all waits.1 f held h)
  where
    by : (b : Bool) → (k.slot == f.slot) ≡ b → cond b (Some k) (find (is_in_slot f.slot) tasks) ≡ Some h → (find (is_in_slot f.slot) tasks ≡ Some h → not (goes h.entry) ≡ true) → not (goes h.entry) ≡ true
    by false is e rest = rest e
    by true is e rest =
        let one : k ≡ h = cc in
        subst (λ (x : Held). not (goes x.entry) ≡ true) one
        ((elim (goes k.entry) as (λ b. goes k.entry ≡ b → not b ≡ true) [
          | true ↦ λ go. let none = waits.0 go in let some : is_outstanding flying k.slot ≡ true = ap (is_outstanding flying) (eqb-true k.slot f.slot is) ∙ held in absurd cc
          | false ↦ λ stay. refl
        ]) refl)

-- ---- the layer without the tasks that go

pub left_seen : (scope : Scope) (tasks : List Held) → map task_of (entries_of (left_by (is_within scope) tasks)) ≡ filter (λ t. not (is_within scope t)) (map task_of (entries_of tasks))
left_seen scope tasks = left_tasks (is_within scope) (is_within scope) (within_seen scope) tasks

pub dropped_layer : (identity : Identity) (modes : Modes) (started down : Bool) (attentions : List (List Attention)) (goes : Entry → Bool) (q q' : Waiting) (pool pool' : Counts) → q'.tasks ≡ left_by goes q.tasks → q'.flying ≡ q.flying → q'.slots ≡ q.slots
    → layer_of identity modes started down attentions q' pool' ≡ record (layer_of identity modes started down attentions q pool) { tasks = left_by goes q.tasks; free = pool'.free; out = pool'.out - held_pages q'.tasks }
dropped_layer identity modes started down attentions goes q q' pool pool' tasks flying slots =
    let n = pool'.out - held_pages q'.tasks in
    ap (λ ts. record (layer_of identity modes started down attentions q' pool') { tasks = ts; out = n }) tasks
    ∙ (ap (λ fs. record (layer_of identity modes started down attentions q' pool') { tasks = left_by goes q.tasks; flying = fs; out = n }) flying
    ∙ ap (λ ss. record (layer_of identity modes started down attentions q' pool') { tasks = left_by goes q.tasks; flying = q.flying; slots = ss; out = n }) slots)

pub agrees_left : (scope : Scope) (l new : Layer) (d : DriveState) → new ≡ record l { tasks = left_by (is_within scope) l.tasks; free = new.free; out = new.out } → AreWaiting (is_within scope) l.flying l.tasks → Agrees l d → Agrees new d
agrees_left scope l new d same waits agrees =
    agrees_by l new d d (ap (λ (x : Layer). x.down) same) (ap (λ (x : Layer). x.modes) same) (ap (λ (x : Layer). x.identity) same) (record { down = refl; cache = refl; look = refl; identify = refl })
    (subst (λ fs. IsInFlight fs new.tasks d) (sym (ap (λ (x : Layer). x.flying) same)) (subst (λ ts. IsInFlight l.flying ts d) (sym (ap (λ (x : Layer). x.tasks) same))
    (tie_kept l.flying l.tasks (λ h. not (is_within scope h.entry)) d
    (All-in _ l.flying (λ f i h found. stays_flying (is_within scope) l.flying l.tasks l.tasks waits f (in_holds l.flying f i) h found)) agrees.queue)))
    agrees.fit
    (subst IsValid (sym (ap (λ x. view x d) same ∙ ap (λ ts. record (view l d) { tasks = ts }) (left_seen scope l.tasks))) (valid_left (λ t. not (is_within scope t)) (view l d) agrees.valid)) agrees

-- nothing more is outstanding than before, where the unit does not work
pub still_idle : (scope : Scope) (l new : Layer) → new ≡ record l { tasks = left_by (is_within scope) l.tasks; free = new.free; out = new.out } → IsUsed l → MatchBool (works new) (Unit {0}) (new.flying ≡ [])
still_idle scope l new same used =
    subst (λ (x : Layer). MatchBool (works x) (Unit {0}) (x.flying ≡ [])) (sym same)
    ((elim (works l) as (λ b. MatchBool b (IsFilled l.flying l.tasks) (l.flying ≡ []) → MatchBool b (Unit {0}) (l.flying ≡ [])) [ true ↦ λ u. tt | false ↦ λ u. u ]) used)

-- ---- what is answered

-- tasks go that wait, and then what may be issued is
pub waiting_removed : (scope : Scope) (l now mid new : Layer) (d d' : DriveState) (given replies : List Reply) → l ≡ now → mid ≡ record l { tasks = left_by (is_within scope) l.tasks; free = mid.free; out = mid.out }
    → Answers (λ more. Refills (view mid d) more (view new d')) given replies → Answers (λ more. Around (MayLose (Removes (is_within scope))) (view now d) more (view new d')) given replies
waiting_removed scope l now mid new d d' given replies is same a = record {
  more = a.more;
  behind = a.behind;
  step = subst (λ x. Around (MayLose (Removes (is_within scope))) (view x d) a.more (view new d')) is
      (step_on (Removes (is_within scope)) (view l d) (view mid d) (view new d') [] a.more
      (removes_quietly (is_within scope) (view l d) (view l d) (view mid d) (quiet_none (view l d)) (ap (λ x. view x d) same ∙ ap (λ ts. record (view l d) { tasks = ts }) (left_seen scope l.tasks))) a.step);
}

-- the drive was reset first
module _ (scope : Scope) (l now cut mid new : Layer) (d e : DriveState) (is : l ≡ now) (w : works l ≡ true) (agrees : Agrees now d) (reset : cut ≡ record l { flying = []; slots = cut.slots }) (same : mid ≡ record cut { tasks = left_by (is_within scope) cut.tasks; free = mid.free; out = mid.out }) where
  was : Agrees l d
  was = subst (λ x. Agrees x d) (sym is) agrees

  left : map task_of (entries_of mid.tasks) ≡ filter (λ t. not (is_within scope t)) (map task_of (entries_of l.tasks))
  left = ap (λ (x : Layer). map task_of (entries_of x.tasks)) same ∙ (ap (λ (x : Layer). map task_of (entries_of (left_by (is_within scope) x.tasks))) reset ∙ left_seen scope l.tasks)

  whole : mid ≡ record l { tasks = mid.tasks; flying = []; slots = mid.slots; free = mid.free; out = mid.out }
  whole =
      let first : mid ≡ record l { tasks = left_by (is_within scope) cut.tasks; flying = []; slots = cut.slots; free = mid.free; out = mid.out } = same ∙ ap (λ (x : Layer). record x { tasks = left_by (is_within scope) cut.tasks; free = mid.free; out = mid.out }) reset in
      first ∙ (ap (λ ts. record l { tasks = ts; flying = []; slots = cut.slots; free = mid.free; out = mid.out }) (sym (ap (λ (x : Layer). x.tasks) same)) ∙ ap (λ ss. record l { tasks = mid.tasks; flying = []; slots = ss; free = mid.free; out = mid.out }) (sym (ap (λ (x : Layer). x.slots) same)))

  pub cut_agrees : IsCut l.tasks d e → (IsFit d → IsFit e) → Agrees mid e
  cut_agrees done fit =
      agrees_left scope cut mid e same (idle_waits (is_within scope) cut.flying cut.tasks (ap (λ (x : Layer). x.flying) reset)) (agrees_cut l cut d e done reset (fit was.fit) was)

  pub cut_removed : (d' : DriveState) (given replies : List Reply) → IsCut l.tasks d e → Answers (λ more. Refills (view mid e) more (view new d')) given replies → Answers (λ more. Around (MayLose (Removes (is_within scope))) (view now d) more (view new d')) given replies
  cut_removed d' given replies done a = record {
    more = a.more;
    behind = a.behind;
    step = subst (λ x. Around (MayLose (Removes (is_within scope))) (view x d) a.more (view new d')) is
        (step_on (Removes (is_within scope)) (view l d) (view mid e) (view new d') [] a.more
        (removes_quietly (is_within scope) (view l d) (record (view l d) { cells = e.cells }) (view mid e) (record { cells = moves_shown l d was w e.cells done.moves; active = inl refl; stays = refl })
        (ap (λ x. view x e) whole ∙ (ap (λ (x : DriveState). record (view mid e) { modes = l.modes; started = l.started; attentions = l.attentions; identity = l.identity; active = x.active; down = x.down; glitches = x.glitches }) done.stays ∙ ap (λ ts. record (view l d) { cells = e.cells; tasks = ts }) left))) a.step);
  }

  pub cut_lost : (given replies : List Reply) → IsLostQuietly l.tasks d e → new ≡ record mid { down = true; tasks = []; slots = new.slots; free = new.free } → replies ≡ given ++ lost_replies mid.modes.d_sense mid.tasks
      → Answers (λ more. Around (MayLose (Removes (is_within scope))) (view now d) more (view new e)) given replies
  cut_lost given replies lost gone answers = record {
    more = lost_replies mid.modes.d_sense mid.tasks;
    behind = answers;
    step = subst (λ x. Around (MayLose (Removes (is_within scope))) (view x d) (lost_replies mid.modes.d_sense mid.tasks) (view new e)) is
        (removes_and_loses (is_within scope) (view l d) (record (view l d) { cells = e.cells }) after (view new e) (lost_replies mid.modes.d_sense mid.tasks)
        (record { cells = moves_shown l d was w e.cells lost.moves; active = inl refl; stays = refl })
        (ap (λ ts. record (view l d) { cells = e.cells; tasks = ts }) left)
        (record {
          was_up = is_up l d was w;
          answer = ap (λ (m : Modes). lost_replies m.d_sense mid.tasks) (ap (λ (x : Layer). x.modes) whole) ∙ rest_lost after mid.tasks;
          stays = ap (λ x. view x e) gone ∙ (ap (λ (x : Layer). view (record x { down = true; tasks = []; slots = new.slots; free = new.free }) e) whole
              ∙ ap (λ (x : DriveState). record after { tasks = []; active = x.active; down = x.down; glitches = x.glitches }) lost.stays);
        }));
  }
    where
      after : Device
      after = record (view l d) { cells = e.cells; tasks = map task_of (entries_of mid.tasks) }

-- ---- what is kept beside it

pub rest_left : (scope : Scope) (l now mid new : Layer) (given replies : List Reply) → l ≡ now → mid.modes ≡ l.modes → mid.out ≡ l.out → length mid.tasks ≤ length l.tasks → KeepsRest mid given new replies → KeepsRest now given new replies
rest_left scope l now mid new given replies is modes out fewer r =
    subst (λ x. KeepsRest x given new replies) is (record { modes = r.modes ∙ modes; out = r.out ∙ out; fewer = omega (arith, r.fewer, fewer); pages = r.pages; writable = r.writable })
