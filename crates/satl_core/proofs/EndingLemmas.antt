-- Tasks end: the first one, or one that was outstanding.
use Rattle.std.proofs.Common.{◌≡◌, inl, inr, refl, sym, ap, subst, ◌∙◌, arith, ℕ, suc, ◌+◌, ◌≤◌, true, false, Bool, List, [], ◌∷◌, ◌++◌, length, map, Some, None}
use Rattle.std.specs.Prelude.{IsSome, MatchBool, Option, not}
use Rattle.std.specs.Option.{option_map}
use Rattle.std.specs.List.{AllByRecursion, AllZip, remove}
use Rattle.satl_base.specs.declared.reply.Reply.{Reply}
use Rattle.satl_cdb.specs.declared.command.Command.TheVariants as cdbs
use Rattle.satl_errlog.specs.declared.entry.NcqError.{NcqError}
use Rattle.satl_identify.specs.declared.identity.Identity.{Identity}
use Rattle.satl_line.specs.declared.entry.Entry.{Entry}
use Rattle.satl_line.specs.Kinds.{kind_of}
use Rattle.satl_line.specs.Ranged.{ranged_of}
use Rattle.satl_line.specs.Tasks.{Held, entries_of, entry_at}
use Rattle.satl_drive.specs.State.{DriveState, IsFit, Outstanding}
use Rattle.satl_direct.specs.Quiet.{Around}
use Rattle.satl_direct.specs.Tasks.{task_of}
use Rattle.satl_direct.specs.Turn.{Turn}
use Rattle.satl_flight.specs.declared.flight.Flying.{Flying}
use Rattle.satl_flight.specs.Flown.{IsFlown}
use Rattle.satl_flight.specs.Lending.{AreAlike}
use Rattle.satl_flight.specs.Queueing.{EndsAndLeaves}
use Rattle.satl_flight.specs.Settled.{Deepens, IsFilled, IsLostInFlight, OnDrive, outcome_of}
use Rattle.satl_flight.proofs.ZipLemmas.{All-remove, zip-none}
use Rattle.satl_barrier.specs.Leaving.{Stays}
use Rattle.satl_direct.specs.Senses.{link_lost}
use Rattle.satl_core.specs.declared.turning.Ending.{Ending}
use Rattle.satl_core.specs.declared.turning.Ending.TheVariants as endings
use Rattle.satl_core.specs.Alone.{alone_of}
use Rattle.satl_core.specs.Flushed.{IsFlushed}
use Rattle.satl_core.specs.Layer.{Agrees, IsKept, IsTask, IsUsed, Layer, Tied, held_pages, view, works}
use Rattle.satl_core.specs.Refilling.{EndsOne, EndsOrLoses}
use Rattle.satl_core.specs.Turning.{IsLostInTask, ended_reply, ending_by, is_read, lost_replies}
use Rattle.satl_core.proofs.AgreeingLemmas.{agrees_settled, in_flight_down, tied_lost}
use Rattle.satl_core.proofs.FlushedLemmas.{queued_no_flush}
use Rattle.satl_core.proofs.HeldLemmas.{IsFirst, IsKeptEntry, alike_lost, at_place}
use Rattle.satl_core.proofs.LeavingLemmas.{count_removed, pages_removed}
use Rattle.satl_core.proofs.QueuedLemmas.{first_is_barrier, loses_in_flight, queue_on, settled_reply, settles_one}
use Rattle.satl_core.proofs.RefillLemmas.{works_by}
use Rattle.satl_core.proofs.ServedLemmas.{first_loses}
use Rattle.satl_core.proofs.Transfers.{of_task}

-- ---- the first task runs alone

alone_by : (capacity : ℕ) (queued_trim : Bool) (e : Entry) → IsTask capacity e.command e.blocks → e.kind ≡ kind_of e.command queued_trim → ranged_of e ≡ None → IsSome (alone_of e.command)
alone_by capacity queued_trim e task kind none =
    of_task (λ c. e.kind ≡ kind_of c queued_trim → ranged_of (record e { command = c }) ≡ None → IsSome (alone_of c)) capacity e.blocks e.command
    (λ form lba count fua t k n. let some = subst (λ x. ranged_of (record e { command = cdbs.Read form lba count fua; kind = x }) ≡ None) k n in absurd cc)
    (λ form lba count fua t k n. let some = subst (λ x. ranged_of (record e { command = cdbs.Write form lba count fua; kind = x }) ≡ None) k n in absurd cc)
    (λ form lba count t k n. refl) (λ start no_flush t k n. refl) (λ ten size t k n. refl) (λ form lba count t k n. refl) (λ form lba count t k n. refl)
    (λ form lba count unmap t k n. elim unmap as (λ b. IsSome (alone_of (cdbs.WriteSame form lba count b))) [ true ↦ refl | false ↦ refl ]) (λ size t k n. refl) (λ cdb t k n. refl) task kind none

-- where nothing is outstanding at a unit that works, the first task's command is not queued
pub first_alone : (l : Layer) (rest : List Held) (entry : Entry) → IsUsed l → l.flying ≡ [] → IsFirst l.tasks entry rest → IsKeptEntry l.identity entry → l.down ≡ false → l.started ≡ true → IsSome (alone_of entry.command)
first_alone l rest entry used idle first kept up on =
    let filled : IsFilled l.flying l.tasks = subst (λ b. MatchBool b (IsFilled l.flying l.tasks) (l.flying ≡ [])) (works_by l.down l.started up on) used in
    let none = first_is_barrier first.held rest (subst (λ ts. IsFilled [] ts) first.are (subst (λ (fs : List Flying). IsFilled fs l.tasks) idle filled)) in
    alone_by l.identity.capacity l.identity.queued_trim entry kept.task kept.kind (subst (λ (e : Entry). ranged_of e ≡ None) first.entry_is none)

-- nothing is outstanding on the drive either
pub nothing_out : (l : Layer) (d : DriveState) → Agrees l d → l.flying ≡ [] → d.outstanding ≡ []
nothing_out l d agrees idle = zip-none (IsFlown l.tasks) d.outstanding (subst (λ fs. AllZip (IsFlown l.tasks) fs d.outstanding) idle agrees.queue.each)

-- so the deepest queue stays
pub alone_deepens : (l : Layer) (d d' : DriveState) → Agrees l d → l.flying ≡ [] → Stays d d' → Deepens d d'
alone_deepens l d d' agrees idle stays =
    let none = ap length stays.free.idle in
    record { rises = omega (arith, stays.deepest); covers = λ was. omega (arith, none) }

-- the link is lost while the first task is carried out
pub alone_loses : (l now new : Layer) (rest : List Held) (entry : Entry) (d d' : DriveState) → AllByRecursion (IsKept l.identity) l.tasks → IsFirst l.tasks entry rest → Agrees l d → l ≡ now → (ending : Ending) (given pushed answers : List Reply) (reply : Reply)
    → new ≡ record l { down = true; tasks = []; flying = []; slots = new.slots; free = new.free; out = new.out } → IsLostInTask l.down l.started entry d d' → given ≡ [] → pushed ≡ given ++ reply ∷ [] → answers ≡ pushed ++ lost_replies l.modes.d_sense rest → reply ≡ ended_reply entry ending l.modes.d_sense
    → ending ≡ endings.Check link_lost → Around Turn (view now d) answers (view new d')
alone_loses l now new rest entry d d' kept first agrees is ending given pushed answers reply same lost none push more told by =
    subst (λ x. Around Turn (view x d) answers (view new d')) is
    (subst (Around Turn (view l d) answers) (sym (ap (λ x. view x d') same)) (first_loses l rest entry d d' kept first agrees ending given pushed answers reply [] refl lost none push more told by))

-- ---- the task that has ended

-- the task that ended, as it is read
pub ended_as : (error : Option NcqError) (task read : Entry) (old new : OnDrive) → read ≡ task → EndsAndLeaves error task old new → EndsAndLeaves error read old new
ended_as error task read old new is e = subst (λ t. EndsAndLeaves error t old new) (sym is) e

module _ (error : Option NcqError) (task : Entry) (old new : OnDrive) (e : EndsAndLeaves error task old new) where
  entry_is : entry_at old.queue.tasks e.place ≡ Some e.settled.held.entry
  entry_is = ap (option_map (λ (h : Held). h.entry)) e.settled.stands

  pub ended_pages : held_pages old.queue.tasks ≡ length task.body + held_pages new.queue.tasks
  ended_pages =
      let all = pages_removed old.queue.tasks e.place e.settled.held.entry entry_is in
      let left = ap held_pages e.left in
      omega (arith, all, left, e.size)

  pub ended_count : length old.queue.tasks ≡ suc (length new.queue.tasks)
  ended_count = count_removed old.queue.tasks e.place e.settled.held.entry entry_is ∙ ap (λ ts. suc (length ts)) (sym e.left)

  module _ (identity : Identity) (kept : AllByRecursion (IsKept identity) old.queue.tasks) where
    held_kept : IsKept identity e.settled.held
    held_kept = at_place (IsKept identity) old.queue.tasks e.place e.settled.held kept e.settled.stands

    pub ended_kept : IsKeptEntry identity task
    ended_kept = subst (IsKeptEntry identity) (sym e.task_is) (record { pages = e.size ∙ held_kept.pages; trims = held_kept.trims; task = held_kept.task; kind = held_kept.kind; change = held_kept.change; expected = held_kept.expected })

    pub others_kept : AllByRecursion (IsKept identity) new.queue.tasks
    others_kept = subst (AllByRecursion (IsKept identity)) (sym e.left) (All-remove (IsKept identity) old.queue.tasks e.place kept)

  -- no SYNCHRONIZE CACHE has ended
  pub ended_unflushed : (l : Layer) (ending : Ending) (given replies : List Reply) (r : Reply) → l.tasks ≡ old.queue.tasks → Agrees l old.drive → given ≡ [] → replies ≡ given ++ r ∷ [] → r ≡ ended_reply task ending l.modes.d_sense → IsFlushed l.tasks replies → ⊥
  ended_unflushed l ending given replies r same agrees none push is flushed =
      queued_no_flush old.queue.tasks e.place e.settled.held e.ranged ending l.modes.d_sense task.body given replies r
      (subst (λ ts. Rattle.satl_direct.specs.Valid.AreOwn (map task_of (entries_of ts))) same agrees.valid.own) e.settled.stands e.ranged_is none push
      (is ∙ ap (λ t. ended_reply t ending l.modes.d_sense) e.task_is) (subst (λ ts. IsFlushed ts replies) same flushed)

-- it ends as the device says
module _ (l now new : Layer) (d d' : DriveState) (error : Option NcqError) (task : Entry) (is : l ≡ now) (w : works l ≡ true) (agrees : Agrees now d)
    (e : EndsAndLeaves error task (queue_on l d) (queue_on new d'))
    (same : new ≡ record l { tasks = new.tasks; flying = new.flying; slots = new.slots; free = new.free; out = new.out }) where
  was : Agrees l d
  was = subst (λ x. Agrees x d) (sym is) agrees

  whole : new ≡ record l { tasks = remove l.tasks e.place; flying = new.flying; slots = new.slots; free = new.free; out = new.out }
  whole = same ∙ ap (λ ts. record l { tasks = ts; flying = new.flying; slots = new.slots; free = new.free; out = new.out }) e.left

  ranged_same : e.ranged ≡ e.settled.ranged
  ranged_same = let both : Some e.ranged ≡ Some e.settled.ranged = sym e.ranged_is ∙ e.settled.ranged_is in cc

  pub queued_ends : (given replies : List Reply) (r : Reply) (ending : Ending) → given ≡ [] → replies ≡ given ++ r ∷ [] → r ≡ ended_reply task ending l.modes.d_sense → ending ≡ ending_by (not (is_read task.command)) error → EndsOrLoses (view now d) replies (view new d')
  queued_ends given replies r ending none push answer by =
      inl (
        r,
        push ∙ ap (λ g. g ++ r ∷ []) none,
        subst (λ x. EndsOne (view x d) r (view new d')) is (subst (λ reply. EndsOne (view l d) reply (view new d')) (sym told)
            (settles_one l d was w new d' e.place (outcome_of error e.ranged task.body) was.valid.own e.settled whole)),
      )
    where
      told : r ≡ Rattle.satl_direct.specs.Ending.outcome_reply (view l d) (task_of e.settled.held.entry) e.settled.ranged (outcome_of error e.ranged task.body)
      told =
          answer ∙ (ap (λ x. ended_reply task x l.modes.d_sense) by
          ∙ (ap (λ (t : Entry). ended_reply t (ending_by (not (is_read t.command)) error) l.modes.d_sense) e.task_is
          ∙ (settled_reply (view l d) e.settled.held.entry e.ranged task.body error e.ranged_is e.error_is
          ∙ ap (λ x. Rattle.satl_direct.specs.Ending.outcome_reply (view l d) (task_of e.settled.held.entry) x (outcome_of error e.ranged task.body)) ranged_same)))

  pub queued_agrees : IsFit d' → Agrees new d'
  queued_agrees fit = agrees_settled l new d d' e.place (outcome_of error e.ranged task.body) e.settled whole fit was

-- ---- what is outstanding is a task

pub some_tasks : (l : Layer) (d : DriveState) → Agrees l d → (l.flying ≡ [] → ⊥) → l.tasks ≡ [] → ⊥
some_tasks l d agrees some none = some (by l.flying d.outstanding (subst (λ ts. AllZip (IsFlown ts) l.flying d.outstanding) none agrees.queue.each))
  where
    by : (fs : List Flying) (qs : List Outstanding) → AllZip (IsFlown []) fs qs → fs ≡ []
    by [] qs z = refl
    by (f ∷ fs) [] z = absurd z
    by (f ∷ fs) (q ∷ qs) z = let found = z.0.found in absurd cc

pub some_count : (l : Layer) (d : DriveState) → Agrees l d → (l.flying ≡ [] → ⊥) → 1 ≤ length l.tasks
some_count l d agrees some = by l.tasks (some_tasks l d agrees some)
  where
    by : (ts : List Held) → (ts ≡ [] → ⊥) → 1 ≤ length ts
    by [] none = absurd (none refl)
    by (t ∷ ts) none = omega arith

-- ---- the link is lost

pub flight_loses : (l now new : Layer) (d d' : DriveState) (tasks : List Held) (given replies : List Reply) → l ≡ now → works l ≡ true → Agrees now d → (l.tasks ≡ [] → ⊥) → IsLostInFlight l.tasks d d' → AreAlike l.tasks tasks
    → new ≡ record l { down = true; tasks = []; flying = []; slots = new.slots; free = new.free; out = new.out } → given ≡ [] → replies ≡ given ++ lost_replies l.modes.d_sense tasks → EndsOrLoses (view now d) replies (view new d')
flight_loses l now new d d' tasks given replies is w agrees some lost alike same none answers =
    let was = subst (λ x. Agrees x d) (sym is) agrees in
    inr (
      subst (λ l. Around Turn (view now d) l (view new d')) (sym (answers ∙ (ap (λ g. g ++ lost_replies l.modes.d_sense tasks) none ∙ alike_lost l.modes.d_sense l.tasks tasks alike)))
          (subst (λ x. Around Turn (view x d) (lost_replies l.modes.d_sense l.tasks) (view new d')) is (loses_in_flight l d was w new d' some same lost)),
      ap (λ (x : DriveState). x.down) lost.stays,
    )

pub flight_tied : (l now new : Layer) (d d' : DriveState) → l ≡ now → Agrees now d → IsLostInFlight l.tasks d d' → IsFit d' → new ≡ record l { down = true; tasks = []; flying = []; slots = new.slots; free = new.free; out = new.out } → Tied new d'
flight_tied l now new d d' is agrees lost fit same = tied_lost l new d d' (in_flight_down l.tasks d d' lost fit) same (subst (λ x. Agrees x d) (sym is) agrees)
