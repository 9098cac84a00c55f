-- What a task management function does to the layer is what it does to the device.
use Rattle.std.proofs.Common.{◌≡◌, refl, sym, ap, subst, ◌∙◌, arith, cond, ℕ, zero, suc, ◌+◌, ◌≤◌, Bool, true, false, List, [], ◌∷◌, length, map, Option, Some, None}
use Rattle.std.specs.Prelude.{not, ◌&&◌, ◌==◌, filter}
use Rattle.std.specs.List.{list_any}
use Rattle.satl_base.specs.declared.request.Manage.{Manage}
use Rattle.satl_base.specs.declared.reply.Reply.{Reply}
use Rattle.satl_base.specs.declared.reply.Response.TheVariants.{IncorrectLun}
use Rattle.satl_unit.specs.declared.attention.Attention.{Attention}
use Rattle.satl_unit.specs.declared.attention.Attention.TheVariants as attentions
use Rattle.satl_unit.specs.declared.function.Function.{Function}
use Rattle.satl_unit.specs.declared.function.Function.TheVariants.{AbortTask, AbortTaskSet, ClearTaskSet, UnitReset, NexusReset, QueryTask, QueryTaskSet}
use Rattle.satl_unit.specs.Conditions.{posted}
use Rattle.satl_unit.specs.Functions.{function_of}
use Rattle.satl_line.specs.declared.entry.Entry.{Entry}
use Rattle.satl_line.specs.Tasks.{Held, entries_of}
use Rattle.satl_drive.specs.State.{DriveState}
use Rattle.satl_direct.specs.Arrival.{is_unit_0}
use Rattle.satl_direct.specs.Attentions.{posted_for}
use Rattle.satl_direct.specs.Device.{Device, is_of}
use Rattle.satl_direct.specs.Management as direct
use Rattle.satl_direct.specs.Management.{IsManaged, found, has_unit}
use Rattle.satl_direct.specs.Quiet.{Around}
use Rattle.satl_direct.specs.Run.{Manages, MayLose}
use Rattle.satl_direct.specs.Tasks.{task_of}
use Rattle.satl_direct.specs.Valid.{IsValid}
use Rattle.satl_direct.proofs.Conditions.{valid_attended}
use Rattle.satl_core.specs.declared.leaving.Scope.{Scope}
use Rattle.satl_core.specs.declared.leaving.Scope.TheVariants as scopes
use Rattle.satl_core.specs.declared.managing.Effect.{Effect}
use Rattle.satl_core.specs.declared.managing.Posting.{Posting}
use Rattle.satl_core.specs.declared.managing.Posting.TheVariants as postings
use Rattle.satl_core.specs.Layer.{Layer, Tied, view}
use Rattle.satl_core.specs.Leaving.{is_within, left_by}
use Rattle.satl_core.specs.Managing.{effect, effect_of, effect_or_none, is_told, once_posted, response_alone}
use Rattle.satl_core.specs.Refilling.{Removes}
use Rattle.satl_core.proofs.ComposeLemmas.{map_step}
use Rattle.satl_core.proofs.QuietLemmas.{quiet_posted}
use Rattle.satl_core.proofs.LeavingLemmas.{any_tasks, left_tasks}
use Rattle.satl_core.proofs.PostingLemmas.{once_kept, once_length}
use Rattle.satl_core.proofs.ValidLemmas.{tied_told}

-- ---- conditions that are posted one nexus after the other

-- the conditions once those of the nexuses from a place on are posted
abbrev pub rest_posted : (ℕ → Bool) → Attention → ℕ → ℕ → List (List Attention) → List (List Attention)
rest_posted for what zero nexus lists = posted_for for what nexus lists
rest_posted for what (suc place) nexus [] = []
rest_posted for what (suc place) nexus (conditions ∷ lists) = conditions ∷ rest_posted for what place (nexus + 1) lists

-- all are posted
pub rest_none : (for : ℕ → Bool) (what : Attention) (place nexus : ℕ) (lists : List (List Attention)) → length lists ≤ place → rest_posted for what place nexus lists ≡ lists
rest_none for what zero nexus [] few = refl
rest_none for what zero nexus (conditions ∷ lists) few = absurd (omega (arith, few))
rest_none for what (suc place) nexus [] few = refl
rest_none for what (suc place) nexus (conditions ∷ lists) few = ap (λ l. conditions ∷ l) (rest_none for what place (nexus + 1) lists (omega (arith, few)))

posted_alike : (p q : ℕ → Bool) (what : Attention) (nexus : ℕ) (lists : List (List Attention)) → ((n : ℕ) → p n ≡ q n) → posted_for p what nexus lists ≡ posted_for q what nexus lists
posted_alike p q what nexus [] same = refl
posted_alike p q what nexus (conditions ∷ lists) same = ap (λ b. cond b (posted what conditions) conditions ∷ posted_for p what (nexus + 1) lists) (same nexus) ∙ ap (λ l. cond (q nexus) (posted what conditions) conditions ∷ l) (posted_alike p q what (nexus + 1) lists same)

-- ---- the effect of a function

-- a test says the same of a task in the layer and in the device
pub within_seen : (scope : Scope) (t : Entry) → is_within scope (task_of t) ≡ is_within scope t
within_seen (scopes.OneTask nexus tag) t = refl
within_seen (scopes.OfNexus nexus) t = refl
within_seen scopes.All t = refl
within_seen scopes.Nothing t = refl

any_seen : (scope : Scope) (tasks : List Held) → list_any (is_within scope) (entries_of tasks) ≡ list_any (is_within scope) (map task_of (entries_of tasks))
any_seen scope tasks = any_tasks (is_within scope) (is_within scope) (within_seen scope) tasks

-- what the layer does is what the device does
record Mirrors (tasks : List Held) (lists : List (List Attention)) (own : Effect) (effect : direct.Effect) : Type 0 where
  goes : (t : Entry) → effect.goes (task_of t) ≡ is_within own.goes t
  posts : once_posted own.posts tasks lists ≡ effect.attentions
  response : own.response ≡ effect.response

-- the device of these tasks and conditions
abbrev with_these : Device → List Held → List (List Attention) → Device
with_these s tasks lists = record s { tasks = map task_of (entries_of tasks); attentions = lists }

function_mirrors : (f : Function) (m : Manage) (s : Device) (tasks : List Held) (lists : List (List Attention)) → Mirrors tasks lists (effect_of f m tasks) (direct.effect_of f m (with_these s tasks lists))
function_mirrors AbortTask m s tasks lists = record { goes = λ t. refl; posts = refl; response = refl }
function_mirrors AbortTaskSet m s tasks lists = record { goes = λ t. refl; posts = refl; response = refl }
function_mirrors ClearTaskSet m s tasks lists = record {
  goes = λ t. refl;
  posts = posted_alike (is_told (postings.ClearedBy m.nexus) tasks) (λ nexus. not (nexus == m.nexus) && list_any (is_of nexus) (map task_of (entries_of tasks))) attentions.Cleared 0 lists (λ n. ap (λ b. not (n == m.nexus) && b) (any_seen (scopes.OfNexus n) tasks));
  response = refl;
}
function_mirrors UnitReset m s tasks lists = record { goes = λ t. refl; posts = posted_alike (is_told postings.UnitReset tasks) (λ nexus. true) attentions.UnitReset 0 lists (λ n. refl); response = refl }
function_mirrors NexusReset m s tasks lists = record { goes = λ t. refl; posts = posted_alike (is_told (postings.NexusLoss m.nexus) tasks) (λ nexus. nexus == m.nexus) attentions.NexusLoss 0 lists (λ n. refl); response = refl }
function_mirrors QueryTask m s tasks lists = record { goes = λ t. refl; posts = refl; response = ap found (any_seen (scopes.OneTask m.nexus m.tag) tasks) }
function_mirrors QueryTaskSet m s tasks lists = record { goes = λ t. refl; posts = refl; response = ap found (any_seen (scopes.OfNexus m.nexus) tasks) }

code_mirrors : (f : Option Function) (m : Manage) (s : Device) (tasks : List Held) (lists : List (List Attention)) → Mirrors tasks lists (effect_or_none f m tasks) (direct.effect_or_none f m (with_these s tasks lists))
code_mirrors None m s tasks lists = record { goes = λ t. refl; posts = refl; response = refl }
code_mirrors (Some f) m s tasks lists = function_mirrors f m s tasks lists

effect_mirrors : (m : Manage) (s : Device) (tasks : List Held) (lists : List (List Attention)) → Mirrors tasks lists (effect m tasks) (direct.effect m (with_these s tasks lists))
effect_mirrors m s tasks lists =
    elim (has_unit (function_of m.function) && not (is_unit_0 m.lun)) as (λ b. Mirrors tasks lists (cond b (response_alone IncorrectLun) (effect_or_none (function_of m.function) m tasks)) (cond b (direct.nothing_but IncorrectLun (with_these s tasks lists)) (direct.effect_or_none (function_of m.function) m (with_these s tasks lists)))) [
      | true ↦ record { goes = λ t. refl; posts = refl; response = refl }
      | false ↦ code_mirrors (function_of m.function) m s tasks lists
    ]

-- ---- the step

-- the layer with the tasks that stay and the conditions that are posted is the device after the function
manages : (m : Manage) (s new : Device) (tasks tasks' : List Held) (lists lists' : List (List Attention)) (own : Effect) → own ≡ effect m tasks → s.tasks ≡ map task_of (entries_of tasks) → s.attentions ≡ lists
    → tasks' ≡ left_by (is_within own.goes) tasks → lists' ≡ once_posted own.posts tasks lists → new ≡ record s { tasks = map task_of (entries_of tasks'); attentions = lists' } → IsManaged m s own.response new
manages m s new tasks tasks' lists lists' own is ts cs left posts same =
    let mirrors = subst (λ e. Mirrors tasks lists e (direct.effect m s)) (sym is) (subst (λ (x : Device). Mirrors tasks lists (effect m tasks) (direct.effect m x)) these (effect_mirrors m s tasks lists)) in
    record {
      response_is = mirrors.response;
      stays = same
          ∙ (ap (λ l. record s { tasks = map task_of (entries_of tasks'); attentions = l }) (posts ∙ mirrors.posts)
          ∙ ap (λ l. record s { tasks = l; attentions = (direct.effect m s).attentions }) (ap (λ l. map task_of (entries_of l)) left ∙ (left_tasks (is_within own.goes) (direct.effect m s).goes mirrors.goes tasks ∙ ap (filter (λ t. not ((direct.effect m s).goes t))) (sym ts))));
    }
  where
    these : with_these s tasks lists ≡ s
    these = ap (λ l. record s { tasks = l; attentions = lists }) (sym ts) ∙ ap (λ l. record s { attentions = l }) (sym cs)

valid_posted : (posts : Option Posting) (tasks : List Held) (s : Device) → IsValid s → IsValid (record s { attentions = once_posted posts tasks s.attentions })
valid_posted posts tasks s v = valid_attended s _ (once_length posts tasks s.attentions ∙ v.nexuses) (once_kept posts tasks s.attentions v.attentions) v

-- ---- the layer

-- conditions that are posted leave the layer tied
pub posted_tied : (posts : Option Posting) (l new : Layer) (d : DriveState) → new ≡ record l { attentions = once_posted posts l.tasks l.attentions } → Tied l d → Tied new d
posted_tied posts l new d same tied =
    tied_told l new d (same ∙ (ap (λ lists. record l { attentions = lists }) (sym (ap (λ (x : Layer). x.attentions) same)) ∙ (ap (λ n. record l { attentions = new.attentions; free = n }) (sym (ap (λ (x : Layer). x.free) same)) ∙ ap (λ n. record l { attentions = new.attentions; free = new.free; out = n }) (sym (ap (λ (x : Layer). x.out) same)))))
    (subst IsValid (sym (ap (λ x. view x d) same)) (valid_posted posts l.tasks (view l d) tied.agrees.valid)) tied

-- tasks go at a device with the conditions that were posted: that is the function
pub managed_around : (m : Manage) (own : Effect) (l : Layer) (d : DriveState) (answers : List Reply) (new : Device) → own ≡ effect m l.tasks → Around (MayLose (Removes (is_within own.goes))) (record (view l d) { attentions = once_posted own.posts l.tasks l.attentions }) answers new
    → Around (MayLose (Manages m own.response)) (view l d) answers new
managed_around m own l d answers new is a = record {
  before = before;
  after = a.after;
  quiet_before = quiet_posted l.attentions (record (view l d) { attentions = once_posted own.posts l.tasks l.attentions }) a.before a.quiet_before;
  step = map_step (Removes (is_within own.goes)) (Manages m own.response) [] a.before before (λ mid given r. (r.none, step mid r)) answers a.after a.step;
  quiet_after = a.quiet_after;
}
  where
    before : Device
    before = record a.before { attentions = l.attentions }

    listed : a.before.attentions ≡ once_posted own.posts l.tasks l.attentions
    listed = ap (λ (x : Device). x.attentions) a.quiet_before.stays

    there : a.before.tasks ≡ map task_of (entries_of l.tasks)
    there = ap (λ (x : Device). x.tasks) a.quiet_before.stays

    step : (mid : Device) {given : List Reply} → Removes (is_within own.goes) a.before given mid → IsManaged m before own.response mid
    step mid r =
        manages m before mid l.tasks (left_by (is_within own.goes) l.tasks) l.attentions (once_posted own.posts l.tasks l.attentions) own is there refl refl refl
        (r.stays ∙ (ap (λ ts. record a.before { tasks = filter (λ t. not (is_within own.goes t)) ts }) there
        ∙ (ap (λ ts. record a.before { tasks = ts }) (sym (left_tasks (is_within own.goes) (is_within own.goes) (within_seen own.goes) l.tasks))
        ∙ ap (λ lists. record before { tasks = map task_of (entries_of (left_by (is_within own.goes) l.tasks)); attentions = lists }) listed)))
