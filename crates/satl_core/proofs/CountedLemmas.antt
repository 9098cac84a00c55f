-- What is counted: losses of the link, and tasks.
use Rattle.std.proofs.Common.{◌≡◌, refl, sym, ap, subst, ◌∙◌, arith, ℕ, ◌+◌, ◌≤◌, Bool, true, false, List, [], ◌∷◌, length, map}
use Rattle.std.proofs.lemmas.List.{length-append, length-map}
use Rattle.std.specs.Prelude.{if◌then◌else◌, MatchBool}
use Rattle.satl_base.specs.declared.reply.Reply.{Reply}
use Rattle.satl_base.specs.declared.request.Request.{Request}
use Rattle.satl_io.specs.Causes.{Rose, RoseBy}
use Rattle.satl_io.proofs.Counting.{RoseBy-fewer, RoseBy-more, RoseBy-none}
use Rattle.satl_cdb.specs.declared.command.Command.{Command}
use Rattle.satl_line.specs.Tasks.{Held, entries_of, is_too_much}
use Rattle.satl_direct.specs.Device.{Device}
use Rattle.satl_direct.specs.Tasks.{task_for, task_of, task_without_pages}
use Rattle.satl_direct.specs.Run.{losses_of}
use Rattle.satl_drive.specs.State.{DriveState}
use Rattle.satl_flight.specs.Settled.{Deepens}
use Rattle.satl_flight.proofs.LaunchedLemmas.{deepens_on, deepens_same}
use Rattle.satl_core.specs.Layer.{Layer, view}
use Rattle.satl_core.specs.Refilling.{AreKept}
use Rattle.satl_core.specs.Submitting.{Becomes, FindsSetFull, IsAdded}

-- ---- losses

-- the losses between a link that is down or not, and a later one
abbrev lost : Bool → Bool → ℕ
lost was is = if was then 0 else (if is then 1 else 0)

-- a link that stays as it is was not lost
none_lost : (b : Bool) → lost b b ≡ 0
none_lost true = refl
none_lost false = refl

-- it is lost once at most
one_at_most : (b b' : Bool) → lost b b' ≤ 1
one_at_most true b' = omega arith
one_at_most false true = omega arith
one_at_most false false = omega arith

-- a loss lies before or behind each third
adds_up : (a b c : Bool) → lost a c ≤ lost a b + lost b c
adds_up true b c = omega arith
adds_up false b false = omega arith
adds_up false true true = omega arith
adds_up false false true = omega arith

-- where neither the link nor the count changed
pub counted_same : (a b : Device) (before now : ℕ) → b.down ≡ a.down → now ≡ before → RoseBy (losses_of a b) before now
counted_same a b before now link count =
    subst (λ d. RoseBy (lost a.down d) before now) (sym link) (subst (λ n. RoseBy n before now) (sym (none_lost a.down)) (subst (λ n. RoseBy 0 before n) (sym count) (RoseBy-none before)))

-- where the count rose, whatever became of the link
pub counted_rose : (a b : Device) (before now : ℕ) → Rose before now → RoseBy (losses_of a b) before now
counted_rose a b before now rose = RoseBy-fewer (losses_of a b) 1 before now (one_at_most a.down b.down) rose

-- one step after the other
pub counted_more : (a b c : Device) (before mid now : ℕ) → RoseBy (losses_of a b) before mid → RoseBy (losses_of b c) mid now → RoseBy (losses_of a c) before now
counted_more a b c before mid now first rest =
    RoseBy-fewer (losses_of a c) (losses_of a b + losses_of b c) before now (adds_up a.down b.down c.down) (RoseBy-more (losses_of a b) (losses_of b c) before mid now first rest)

-- a count that rose before, or after, rose in all
pub rose_first : (n a b c : ℕ) → Rose a b → RoseBy n b c → Rose a c
rose_first n a b c rose rest = RoseBy-fewer 1 (1 + n) a c (omega arith) (RoseBy-more 1 n a b c rose rest)

pub rose_later : (n a b c : ℕ) → RoseBy n a b → Rose b c → Rose a c
rose_later n a b c first rose = RoseBy-fewer 1 (n + 1) a c (omega arith) (RoseBy-more n 1 a b c first rose)

-- a loss is one
pub one_loss : (a b : Device) → a.down ≡ false → b.down ≡ true → losses_of a b ≡ 1
one_loss a b up down = ap (λ x. lost x b.down) up ∙ ap (lost false) down

-- ---- counts of the drive

-- nothing was counted
pub kept_none : (a : Layer) (d : DriveState) → AreKept a d a d
kept_none a d = record { losses = counted_same (view a d) (view a d) d.faults d.faults refl refl; unplugs = refl; orders = refl; deep = deepens_same d }

-- where neither the link nor the counts changed
pub kept_same : (a b : Layer) (d d' : DriveState) → d'.down ≡ d.down → d'.faults ≡ d.faults → d'.unplugs ≡ d.unplugs → d'.orders ≡ d.orders → Deepens d d' → AreKept a d b d'
kept_same a b d d' link faults unplugs orders deep = record { losses = counted_same (view a d) (view b d') d.faults d'.faults link faults; unplugs = unplugs; orders = orders; deep = deep }

-- where the count of faults rose
pub kept_rose : (a b : Layer) (d d' : DriveState) → Rose d.faults d'.faults → d'.unplugs ≡ d.unplugs → d'.orders ≡ d.orders → Deepens d d' → AreKept a d b d'
kept_rose a b d d' rose unplugs orders deep = record { losses = counted_rose (view a d) (view b d') d.faults d'.faults rose; unplugs = unplugs; orders = orders; deep = deep }

-- one part of a call after the other
pub kept_on : (a b c : Layer) (d e f : DriveState) → AreKept a d b e → AreKept b e c f → AreKept a d c f
kept_on a b c d e f first rest = record {
  losses = counted_more (view a d) (view b e) (view c f) d.faults e.faults f.faults first.losses rest.losses;
  unplugs = rest.unplugs ∙ first.unplugs;
  orders = rest.orders ∙ first.orders;
  deep = deepens_on d e f first.deep rest.deep;
}

-- ---- tasks

-- the device has as many tasks as the layer
pub tasks_seen : (tasks : List Held) → length (map task_of (entries_of tasks)) ≡ length tasks
tasks_seen tasks = length-map (entries_of tasks) task_of ∙ length-map tasks (λ h. h.entry)

pub few_tasks : (tasks : List Held) → length (map task_of (entries_of tasks)) ≤ 64 → length tasks ≤ 64
few_tasks tasks few = omega (arith, few, tasks_seen tasks)

added_more : (r : Request) (c : Command) (old : Layer) (replies : List Reply) (new : Layer) → IsAdded r c old replies new → length new.tasks ≤ length old.tasks + 1
added_more r c old replies new a =
    let last = ap length a.last in
    omega (arith, last, tasks_seen old.tasks, tasks_seen new.tasks, length-append (map task_of (entries_of old.tasks)) (task_for old.identity.queued_trim r c ∷ []))

-- a request adds one task at most, and leaves the modes
pub becomes_more : (r : Request) (c : Command) (old : Layer) (replies : List Reply) (new : Layer) → Becomes r c old replies new → (length new.tasks ≤ length old.tasks + 1) × (new.modes ≡ old.modes)
becomes_more r c old replies new b =
    (elim (is_too_much old.tasks (task_without_pages old.identity.queued_trim r c)) as (λ f. MatchBool f (FindsSetFull r old replies new) (IsAdded r c old replies new) → (length new.tasks ≤ length old.tasks + 1) × (new.modes ≡ old.modes)) [
      | true ↦ λ a. let same = ap (λ (l : Layer). length l.tasks) a.stays in (omega (arith, same), ap (λ (l : Layer). l.modes) a.stays)
      | false ↦ λ a. (added_more r c old replies new a, ap (λ (l : Layer). l.modes) a.stays)
    ]) b
