-- Quiet moves and turns: each block that a sector may have stays so, and each answer is so.
use Rattle.std.proofs.Common.{◌≡◌, ⊎_elim, sym, ap, subst, ℕ, List, [], ◌∷◌, ◌++◌, length, map}
use Rattle.std.specs.List.{AllByRecursion}
use Rattle.satl_base.specs.declared.block.Block.{Block}
use Rattle.satl_base.specs.declared.reply.Reply.{Reply}
use Rattle.satl_base.specs.Cells.{Pair}
use Rattle.satl_base.specs.Lists.{IsIn, remove_first}
use Rattle.satl_base.proofs.ListsLemmas.{All-remove_first, All-weaken, in_either}
use Rattle.satl_base.proofs.MovesLemmas.{moves-length}
use Rattle.satl_line.specs.declared.entry.Entry.{Entry}
use Rattle.satl_direct.specs.Device.{Device, is_called}
use Rattle.satl_direct.specs.Ending.{Ends, task_check}
use Rattle.satl_direct.specs.Quiet.{Around, Quiet, writes}
use Rattle.satl_direct.specs.Run.{TurnsOf}
use Rattle.satl_direct.specs.Run.TurnsOf.{none, more}
use Rattle.satl_direct.specs.Senses.{link_lost}
use Rattle.satl_direct.specs.Turn.{OneEnds, Turn}
use Rattle.satl_direct.specs.Turn.Turn.{idle, ends, loses, ends_and_loses}
use Rattle.satl_direct.proofs.Quieting.{quiet_tasks}
use Rattle.satl_laws.proofs.Addresses.{Alike, alike_none, alike_on}
use Rattle.satl_laws.proofs.Coming.{WritesItsOwn}
use Rattle.satl_laws.proofs.Ends.{eligible_in, ends_leaves, may_end_in}
use Rattle.satl_laws.proofs.Reaching.{ends_reach}
use Rattle.satl_laws.proofs.Rows.{in_all}
use Rattle.satl_laws.proofs.Steps.{steps-length}
use Rattle.satl_origins.specs.Origins.{Brings}
use Rattle.satl_origins.proofs.Alike.{brings_alike}
use Rattle.satl_origins.proofs.Held.{AllSo, so_moved, so_same}
use Rattle.satl_origins.proofs.Putting.{ends_so}

-- what is asked: which blocks a sector may have, what is known of a task, and what of an answer
pub record Asked : Type 1 where
  pub block : ℕ → Block → Type 0
  pub task : Entry → Type 0
  pub reply : Reply → Type 0

module _ (A : Asked) where
  -- a task writes its own blocks alone, each of which is so, and what is asked is known of it
  pub record TaskSo (s : Device) (t : Entry) : Type 0 where
    pub own : WritesItsOwn t.command
    pub brings : (x : ℕ) (block : Block) → Brings s t x block → A.block x block
    pub known : A.task t

  -- each block of the sectors and of the tasks is so
  pub record DeviceSo (s : Device) : Type 0 where
    pub cells : AllSo A.block s.cells
    pub tasks : AllByRecursion (TaskSo s) s.tasks

  -- each of these answers is so
  abbrev pub RepliesSo : List Reply → Type 0
  RepliesSo replies = (reply : Reply) → IsIn reply replies → A.reply reply

  -- the end of a task is answered so, and so is a task whose link is lost
  pub record AnswersSo : Type 0 where
    pub ending : (s new : Device) (t : Entry) (reply : Reply) → AllSo A.block s.cells → A.task t → Ends s t reply new → A.reply reply
    pub losing : (s : Device) (t : Entry) → A.task t → A.reply (task_check s t link_lost)

  -- a like device, of which all is so, and answers that are so
  pub record GoesSo (old new : Device) (replies : List Reply) : Type 0 where
    pub alike : Alike old new
    pub device : DeviceSo new
    pub told : RepliesSo replies

  -- the pairs of a task
  pairs_so : (s : Device) (t : Entry) → TaskSo s t → (p : Pair) → IsIn p (writes s t) → A.block p.lba p.block
  pairs_so s t h p i = h.brings p.lba p.block (p.cached, i)

  -- a task at a like device
  pub task_alike : (s u : Device) → Alike s u → (t : Entry) → TaskSo s t → TaskSo u t
  task_alike s u a t h = record { own = h.own; brings = λ x block b. h.brings x block (brings_alike x block s u a t b); known = h.known }

  -- tasks of a device that are those of an alike one, or some of them
  pub tasks_alike : (s u : Device) (tasks : List Entry) → Alike s u → u.tasks ≡ tasks → AllByRecursion (TaskSo s) tasks → AllByRecursion (TaskSo u) u.tasks
  tasks_alike s u tasks a same all = subst (AllByRecursion (TaskSo u)) (sym same) (All-weaken (TaskSo s) (TaskSo u) (task_alike s u a) tasks all)

  -- steps after steps
  pub goes_on : (a b c : Device) (xs ys : List Reply) → GoesSo a b xs → (DeviceSo b → GoesSo b c ys) → GoesSo a c (xs ++ ys)
  goes_on a b c xs ys g next =
      let h = next g.device in
      record { alike = alike_on a b c g.alike h.alike; device = h.device; told = λ reply i. ⊎_elim (g.told reply) (h.told reply) (in_either reply xs ys i) }

  -- no step
  pub goes_none : (s : Device) → DeviceSo s → GoesSo s s []
  goes_none s h = record { alike = alike_none s; device = h; told = λ reply i. absurd i }

  -- the cells, the identity and these tasks are those before
  pub same_cells : (s u : Device) (tasks : List Entry) (replies : List Reply) → u.cells ≡ s.cells → u.identity ≡ s.identity → u.tasks ≡ tasks → RepliesSo replies → AllSo A.block s.cells → AllByRecursion (TaskSo s) tasks → GoesSo s u replies
  same_cells s u tasks replies cells identity same told so all =
      let a : Alike s u = record { identity = identity; size = ap length cells } in
      record { alike = a; device = record { cells = so_same A.block s.cells u.cells cells so; tasks = tasks_alike s u tasks a same all }; told = told }

  -- quiet moves
  pub quiet_goes : (old new : Device) → Quiet old new → DeviceSo old → GoesSo old new []
  quiet_goes old new q h =
      let a : Alike old new = record { identity = ap (λ d. d.identity) q.stays; size = moves-length q.cells } in
      record {
        alike = a;
        device = record {
          cells = so_moved A.block (λ p m. pairs_so old m.task (in_all (TaskSo old) old.tasks m.task h.tasks (eligible_in old.tasks m.task (m.under_way).eligible)) p m.among) q.cells h.cells;
          tasks = tasks_alike old new old.tasks a (quiet_tasks old new q) h.tasks;
        };
        told = λ reply i. absurd i;
      }

  -- steps, and quiet moves behind them
  pub then_quiet : (a b c : Device) (xs : List Reply) → GoesSo a b xs → Quiet b c → GoesSo a c xs
  then_quiet a b c xs g q =
      let h = quiet_goes b c q g.device in
      record { alike = alike_on a b c g.alike h.alike; device = h.device; told = g.told }

  -- a step with quiet moves around it
  pub around_goes : (Step : Device → List Reply → Device → Type 0) (old new : Device) (replies : List Reply) (a : Around Step old replies new)
      → (Step a.before replies a.after → DeviceSo a.before → GoesSo a.before a.after replies) → DeviceSo old → GoesSo old new replies
  around_goes Step old new replies a each h =
      then_quiet old a.after new replies (goes_on old a.before a.after [] replies (quiet_goes old a.before a.quiet_before h) (each a.step)) a.quiet_after

  module _ (answers : AnswersSo) where
    -- the answers at a lost link
    lost_told : (s : Device) (tasks : List Entry) → AllByRecursion (TaskSo s) tasks → RepliesSo (map (λ t. task_check s t link_lost) tasks)
    lost_told s [] all reply i = absurd i
    lost_told s (t ∷ ts) all reply i = ⊎_elim (λ same. subst A.reply (sym same) (answers.losing s t (all.0).known)) (λ later. lost_told s ts all.1 reply later) i

    pub loss_goes : (s u : Device) (replies : List Reply) → u.cells ≡ s.cells → u.identity ≡ s.identity → u.tasks ≡ [] → replies ≡ map (λ t. task_check s t link_lost) s.tasks → DeviceSo s → GoesSo s u replies
    loss_goes s u replies cells identity same answer h = same_cells s u [] replies cells identity same (subst RepliesSo (sym answer) (lost_told s s.tasks h.tasks)) h.cells tt

    -- a task ends
    pub one_goes : (s new : Device) (reply : Reply) → OneEnds s reply new → DeviceSo s → GoesSo s new (reply ∷ [])
    one_goes s new reply e h =
        let its = in_all (TaskSo s) s.tasks e.task h.tasks (may_end_in s e.task e.may) in
        let r = ends_reach s new e.task reply e.ends in
        let l = ends_leaves s new e.task reply e.ends in
        let a : Alike s new = record { identity = r.identity; size = steps-length r.pairs s.cells new.cells r.cells } in
        record {
          alike = a;
          device = record {
            cells = ends_so A.block s new e.task reply h.cells its.own (pairs_so s e.task its) e.ends;
            tasks = tasks_alike s new (remove_first (is_called (e.task).nexus ((e.task).tag).0) s.tasks) a l.tasks (All-remove_first (TaskSo s) (is_called (e.task).nexus ((e.task).tag).0) s.tasks h.tasks);
          };
          told = λ other i. ⊎_elim (λ same. subst A.reply (sym same) (answers.ending s new e.task reply h.cells its.known e.ends)) (λ none. absurd none) i;
        }

    -- a turn
    pub turn_goes : {s new : Device} {replies : List Reply} → Turn s replies new → DeviceSo s → GoesSo s new replies
    turn_goes {s = s} (idle e) h = goes_none s h
    turn_goes {s = s} (ends {new = new} reply e) h = one_goes s new reply e h
    turn_goes {s = s} (loses {new = new} {answers = replies} some l) h = loss_goes s new replies (ap (λ d. d.cells) l.stays) (ap (λ d. d.identity) l.stays) (ap (λ d. d.tasks) l.stays) l.answer h
    turn_goes {s = s} (ends_and_loses {mid = mid} {after = after} {new = new} {answers = replies} reply e q l) h =
        goes_on s after new (reply ∷ []) replies (then_quiet s mid after (reply ∷ []) (one_goes s mid reply e h) q)
        (λ g. loss_goes after new replies (ap (λ d. d.cells) l.stays) (ap (λ d. d.identity) l.stays) (ap (λ d. d.tasks) l.stays) l.answer g)

    -- many turns
    pub turns_go : {n deep : ℕ} {s new : Device} {replies : List Reply} → TurnsOf n s replies new deep → DeviceSo s → GoesSo s new replies
    turns_go {s = s} none h = goes_none s h
    turns_go {s = s} {new = new} (more {mid = mid} {earlier = earlier} {rest = rest} so_far next) h =
        goes_on s mid new earlier rest (turns_go so_far h) (λ g. around_goes Turn mid new rest next (λ t k. turn_goes t k) g)
