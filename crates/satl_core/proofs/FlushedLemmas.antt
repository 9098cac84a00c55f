-- A SYNCHRONIZE CACHE that ends with GOOD leaves nothing to a loss of power.
use Rattle.std.proofs.Common.{◌≡◌, ⊎_elim, inl, inr, refl, sym, ap, subst, ◌∙◌, ℕ, zero, suc, Bool, true, false, List, [], ◌∷◌, ◌++◌, map, eq-eqb, Some}
use Rattle.std.specs.Prelude.{MatchBool, slice_get, not, ◌&&◌, ◌||◌, ◌==◌}
use Rattle.std.specs.List.{AllByRecursion, list_any}
use Rattle.std.proofs.lemmas.Bool.{or_right}
use Rattle.satl_base.specs.declared.block.Block.{Block}
use Rattle.satl_base.specs.declared.block.Range.{Range}
use Rattle.satl_base.specs.declared.modes.Modes.{Modes}
use Rattle.satl_base.specs.declared.reply.Reply.{Reply}
use Rattle.satl_base.specs.declared.reply.Scsi.TheVariants.{Good}
use Rattle.satl_base.specs.declared.request.Tag.{Tag}
use Rattle.satl_base.specs.Cells.{Cell, settle}
use Rattle.satl_base.specs.Lists.{IsIn, LeavesOut}
use Rattle.satl_base.specs.Losses.{Loses, Lost}
use Rattle.satl_cdb.specs.declared.command.Command.{Command}
use Rattle.satl_cdb.specs.declared.command.Command.TheVariants as commands
use Rattle.satl_line.specs.declared.entry.Entry.{Entry}
use Rattle.satl_line.specs.Ranged.{RangedTask, ranged_by, ranged_of}
use Rattle.satl_line.specs.Tasks.{Held, entries_of}
use Rattle.satl_direct.specs.Device.{is_called}
use Rattle.satl_direct.specs.Ending.{task_reply}
use Rattle.satl_direct.specs.Senses.{not_ready}
use Rattle.satl_direct.specs.Tasks.{asks, task_of}
use Rattle.satl_core.specs.declared.turning.Ending.{Ending}
use Rattle.satl_core.specs.declared.turning.Ending.TheVariants as endings
use Rattle.satl_core.specs.Flushed.{IsFlush, IsFlushed, IsSettled}
use Rattle.satl_core.specs.Turning.{DoneAlone, IsUnasked, TaskEnds, TaskOnDrive, ended_reply, ending_status, task_on}
use Rattle.satl_direct.specs.Valid.{AreOwn}
use Rattle.satl_direct.proofs.Naming.{none_of_each, own_first, own_rest}
use Rattle.satl_core.proofs.HeldLemmas.{IsFirst}
use Rattle.satl_core.proofs.QueuedLemmas.{by_command}

-- ---- sectors that were written back stay so

settled_may : (v w : Block) (may : List Block) → w ≡ v → LeavesOut (v ∷ []) may → IsIn w may → may ≡ w ∷ []
settled_may v w [] same left sound = absurd sound
settled_may v w (x ∷ []) same left sound = ap (λ b. b ∷ []) (⊎_elim (λ e. sym e) (λ none. absurd none) sound)
settled_may v w (x ∷ y ∷ may) same left sound = absurd (⊎_elim (λ none. none) (λ both. both.1) left)

settled_one : (c new : Cell) → Lost (settle c) new → IsSettled new
settled_one c new lost = settled_may c.now new.now new.may lost.now lost.fewer lost.sound

all_settled : (cells new : List Cell) → Loses (map settle cells) new → AllByRecursion IsSettled new
all_settled [] [] loses = tt
all_settled (c ∷ cells) (c' ∷ new) loses = (settled_one c c' loses.0, all_settled cells new loses.1)
all_settled [] (c ∷ new) loses = absurd loses
all_settled (c ∷ cells) [] loses = absurd loses

-- sectors that were written back stay so where entries are lost
pub still_settled : (cells new : List Cell) → AllByRecursion IsSettled cells → Loses cells new → AllByRecursion IsSettled new
still_settled [] [] all loses = tt
still_settled (c ∷ cells) (c' ∷ new) all loses = (settled_may c.now c'.now c'.may loses.0.now (subst (λ may. LeavesOut may c'.may) all.0 loses.0.fewer) loses.0.sound, still_settled cells new all.1 loses.1)
still_settled [] (c ∷ new) all loses = absurd loses
still_settled (c ∷ cells) [] all loses = absurd loses

-- ---- a task that is done was carried out

pub flush_done : (down started : Bool) (wanted : Modes) (old new : TaskOnDrive) (ending : Ending) → IsFlush old.task.command → ending ≡ endings.Good → TaskEnds (record { down = down; started = started; wanted = wanted }) ending old new → AllByRecursion IsSettled new.drive.cells
flush_done true started wanted old new ending flush good = λ ends. let sensed = ends.sensed in absurd cc
flush_done false started wanted old new ending flush good =
    elim (not started && (asks old.task.command).needs_started) as (λ b. MatchBool b (IsUnasked not_ready old.drive ending new.drive) (DoneAlone wanted ending old new) → AllByRecursion IsSettled new.drive.cells) [
      | true ↦ λ x. let sensed = x.sensed in absurd cc
      | false ↦ λ x. carried old.task.command flush x
    ]
  where
    carried : (c : Command) → IsFlush c → DoneAlone wanted ending (task_on (record old.task { command = c }) old.drive) new → AllByRecursion IsSettled new.drive.cells
    carried (commands.Flush form lba count) flush done = all_settled old.drive.cells new.drive.cells done.1.lost
    carried _ flush done = absurd flush

-- ---- the task that was answered is the first

-- one of these tasks has this nexus and tag
called_in : (nexus : ℕ) (tag : Tag) (t : Held) (rest : List Held) → IsIn t rest → t.entry.nexus ≡ nexus → t.entry.tag ≡ tag → list_any (is_called nexus tag.0) (map task_of (entries_of rest)) ≡ true
called_in nexus tag t [] among same named = absurd among
called_in nexus tag t (h ∷ rest) among same named =
    ⊎_elim
    (λ e. ap (λ b. b || list_any (is_called nexus tag.0) (map task_of (entries_of rest))) (ap (λ (x : Held). is_called nexus tag.0 (task_of x.entry)) (sym e) ∙ (ap (λ b. b && ((t.entry.tag).0 == tag.0)) (eq-eqb t.entry.nexus nexus same) ∙ eq-eqb (t.entry.tag).0 tag.0 (ap (λ (x : Tag). x.0) named))))
    (λ i. or_right (is_called nexus tag.0 (task_of h.entry)) (list_any (is_called nexus tag.0) (map task_of (entries_of rest))) (called_in nexus tag t rest i same named)) among

-- so it is the first task, and done
pub record IsFirstFlush (first : Entry) (ending : Ending) : Type 0 where
  pub flush : IsFlush first.command
  pub good : ending ≡ endings.Good

done_by : (ending : Ending) → ending_status ending ≡ Good → ending ≡ endings.Good
done_by endings.Good e = refl
done_by (endings.Informed sense) e = absurd cc
done_by (endings.Check sense) e = absurd cc

pub first_flush : (tasks rest : List Held) (first entry : Entry) (ending : Ending) (descriptor : Bool) (given replies : List Reply) (r : Reply) → IsFirst tasks first rest → entry.nexus ≡ first.nexus → entry.tag ≡ first.tag
    → list_any (is_called first.nexus (first.tag).0) (map task_of (entries_of rest)) ≡ false → given ≡ [] → replies ≡ given ++ r ∷ [] → r ≡ ended_reply entry ending descriptor → IsFlushed tasks replies → IsFirstFlush first ending
first_flush tasks rest first entry ending descriptor given replies r is nexus tag own none push reply flushed =
    let one : replies ≡ r ∷ [] = push ∙ ap (λ l. l ++ r ∷ []) none in
    let answer : task_reply flushed.task.entry Good [] [] ≡ r = ⊎_elim (λ e. e) (λ i. absurd i) (subst (IsIn (task_reply flushed.task.entry Good [] [])) one flushed.answer) in
    let same : task_reply flushed.task.entry Good [] [] ≡ ended_reply entry ending descriptor = answer ∙ reply in
    let held : IsIn flushed.task (is.held ∷ rest) = subst (IsIn flushed.task) is.are flushed.among in
    record {
      flush = ⊎_elim (λ e. subst (λ (x : Entry). IsFlush x.command) (ap (λ (h : Held). h.entry) e ∙ is.entry_is) flushed.flush) (λ i. other i (ap (λ (x : Reply). x.nexus) same ∙ nexus) (ap (λ (x : Reply). x.tag) same ∙ tag)) held;
      good = done_by ending (sym (ap (λ (x : Reply). x.status) same));
    }
  where
    other : IsIn flushed.task rest → flushed.task.entry.nexus ≡ first.nexus → flushed.task.entry.tag ≡ first.tag → IsFlush first.command
    other i n t = let there = called_in first.nexus first.tag flushed.task rest i n t in absurd cc

-- ---- a task that was queued is no SYNCHRONIZE CACHE

not_flush : (c : Command) (ranges : List Range) (body : List Block) (ranged : RangedTask) → ranged_by c ranges body ≡ Some ranged → IsFlush c → ⊥
not_flush (commands.Flush form lba count) ranges body ranged is flush = absurd cc
not_flush _ ranges body ranged is flush = flush

-- tasks of one nexus and tag are one
one_named : (tasks : List Held) (t u : Held) (place : ℕ) → AreOwn (map task_of (entries_of tasks)) → IsIn t tasks → slice_get tasks place ≡ Some u → t.entry.nexus ≡ u.entry.nexus → t.entry.tag ≡ u.entry.tag → t.entry ≡ u.entry
one_named [] t u place own among stands nexus tag = absurd among
one_named (h ∷ tasks) t u zero own among stands nexus tag =
    let here : h ≡ u = cc in
    ⊎_elim (λ e. ap (λ (x : Held). x.entry) (e ∙ here))
    (λ i. let there = called_in h.entry.nexus h.entry.tag t tasks i (nexus ∙ ap (λ (x : Held). x.entry.nexus) (sym here)) (tag ∙ ap (λ (x : Held). x.entry.tag) (sym here)) in let none = none_of_each (is_called h.entry.nexus (h.entry.tag).0) (map task_of (entries_of tasks)) (own_first _ _ own) in absurd cc) among
one_named (h ∷ tasks) t u (suc place) own among stands nexus tag =
    ⊎_elim
    (λ e. let there = called_in h.entry.nexus h.entry.tag u tasks (is_in_at tasks place u stands) (sym nexus ∙ ap (λ (x : Held). x.entry.nexus) e) (sym tag ∙ ap (λ (x : Held). x.entry.tag) e) in let none = none_of_each (is_called h.entry.nexus (h.entry.tag).0) (map task_of (entries_of tasks)) (own_first _ _ own) in absurd cc)
    (λ i. one_named tasks t u place (own_rest _ _ own) i stands nexus tag) among
  where
    is_in_at : (ts : List Held) (k : ℕ) (x : Held) → slice_get ts k ≡ Some x → IsIn x ts
    is_in_at [] k x at = absurd cc
    is_in_at (y ∷ ts) zero x at = let one : x ≡ y = cc in inl one
    is_in_at (y ∷ ts) (suc k) x at = inr (is_in_at ts k x at)

-- so its answer is that of no SYNCHRONIZE CACHE
pub queued_no_flush : (tasks : List Held) (place : ℕ) (held : Held) (ranged : RangedTask) (ending : Ending) (descriptor : Bool) (body : List Block) (given replies : List Reply) (r : Reply) → AreOwn (map task_of (entries_of tasks)) → slice_get tasks place ≡ Some held → ranged_of held.entry ≡ Some ranged
    → given ≡ [] → replies ≡ given ++ r ∷ [] → r ≡ ended_reply (record held.entry { body = body }) ending descriptor → IsFlushed tasks replies → ⊥
queued_no_flush tasks place held ranged ending descriptor body given replies r own stands is none push reply flushed =
    let one : replies ≡ r ∷ [] = push ∙ ap (λ l. l ++ r ∷ []) none in
    let answer : task_reply flushed.task.entry Good [] [] ≡ r = ⊎_elim (λ e. e) (λ i. absurd i) (subst (IsIn (task_reply flushed.task.entry Good [] [])) one flushed.answer) in
    let same : task_reply flushed.task.entry Good [] [] ≡ ended_reply (record held.entry { body = body }) ending descriptor = answer ∙ reply in
    let entry = one_named tasks flushed.task held place own flushed.among stands (ap (λ (x : Reply). x.nexus) same) (ap (λ (x : Reply). x.tag) same) in
    not_flush held.entry.command held.entry.ranges.items held.entry.body ranged (by_command held.entry ranged is) (subst (λ (x : Entry). IsFlush x.command) entry flushed.flush)
