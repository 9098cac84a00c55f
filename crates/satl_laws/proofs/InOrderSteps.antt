-- The steps of the device keep the order of arrival.
use Rattle.std.proofs.Common.{◌≡◌, refl, sym, ap, ◌∙◌, subst, ℕ, ◌<◌, Bool, true, false, List, [], ◌∷◌, ◌++◌}
use Rattle.std.specs.Prelude.{◌&&◌, not, Ok}
use Rattle.std.specs.List.{AllByRecursion}
use Rattle.std.proofs.lemmas.Bool.{both_ways, and_parts, MatchBool-at_true}
use Rattle.satl_base.specs.declared.reply.Reply.{Reply}
use Rattle.satl_base.specs.Cells.{Cell}
use Rattle.satl_base.specs.Lists.{IsIn, how_many}
use Rattle.satl_base.proofs.ListsLemmas.{All-remove_first}
use Rattle.satl_frame.specs.declared.frames.Frame.{Frame}
use Rattle.satl_frame.specs.Output.{Answer}
use Rattle.satl_frame.specs.Output.Answer.{replied}
use Rattle.satl_line.specs.declared.entry.Entry.{Entry}
use Rattle.satl_direct.specs.Device.{Device, is_called}
use Rattle.satl_direct.specs.Ending.{IsChecked}
use Rattle.satl_laws.specs.ArrivalOrder.{stops_or_starts}
use Rattle.satl_laws.specs.OnceEach.{asks_by}
use Rattle.satl_direct.specs.Quiet.{Quiet}
use Rattle.satl_direct.specs.Senses.{link_lost}
use Rattle.satl_direct.specs.Turn.{OneEnds}
use Rattle.satl_direct.proofs.Quieting.{quiet_tasks}
use Rattle.satl_laws.proofs.Calm.{EndsCalm, IsCalm, ends_calm, quiet_calm}
use Rattle.satl_laws.proofs.Ends.{eligible_in, ends_leaves}
use Rattle.satl_laws.proofs.InOrder.{Begin, InOrder, sectors, trim}
use Rattle.satl_laws.proofs.InOrderEnds.{one_in_order}
use Rattle.satl_laws.proofs.InOrderMoves.{moved_in_order}
use Rattle.satl_laws.proofs.Reaching.{ends_reach}
use Rattle.satl_laws.proofs.Seen.{by_test}
use Rattle.satl_laws.proofs.Rows.{in_all}
use Rattle.satl_laws.proofs.Tasks.{IsPlainTask, may_eligible, tasks_plain}

-- a device that is down stays down when a task ends
pub one_down : (s new : Device) (reply : Reply) → s.down ≡ true → OneEnds s reply new → new.down ≡ true
one_down s new reply down e = ap (λ d. d.down) (MatchBool-at_true (IsChecked link_lost s e.task reply new) _ down e.ends).stays ∙ down

-- neither of two flags
pub up_of : (p q : Bool) → (p && not q) ≡ true → q ≡ false
up_of true false h = refl
up_of _ _ h = absurd cc

pub not_both : (p q : Bool) → q ≡ true → (p && not q) ≡ true → ⊥
not_both p q h k = let no : true ≡ false = sym h ∙ up_of p q k in cc

module _ (first : Begin) (exact : Bool) where
  -- no task stops or starts the unit
  abbrev pub AreSteady : List Entry → Type 0
  AreSteady tasks = AllByRecursion (λ t. stops_or_starts (Ok t.command) ≡ false) tasks

  -- the device after some events and answers; where the run is exact and its link is up it is calm, and each WRITE that has
  -- acted was answered with GOOD
  pub record InOrderAt (events : List Frame) (answers : List Answer) (s : Device) : Type 0 where
    pub identity : s.identity ≡ first.device.identity
    pub order : InOrder first events answers s.cells s.tasks (exact && not s.down)
    pub calm : exact ≡ true → s.down ≡ false → IsCalm s
    pub steady : exact ≡ true → AreSteady s.tasks

  -- what is faithful is in order
  pub lowered : (events : List Frame) (answers : List Answer) (cells : List Cell) (tasks : List Entry) (f g : Bool) → (g ≡ true → f ≡ true) → InOrder first events answers cells tasks f → InOrder first events answers cells tasks g
  lowered events answers cells tasks f g h o = record {
    items = o.items;
    requests = o.requests;
    tasks_are = o.tasks_are;
    size = o.size;
    counts = o.counts;
    well = o.well;
    sorted = o.sorted;
    stands = o.stands;
    sure = o.sure;
    only = λ k. o.only (h k);
    aside = o.aside;
    right = o.right;
  }

  -- quiet moves
  pub quiet_at : (events : List Frame) (answers : List Answer) (old new : Device) → Quiet old new → InOrderAt events answers old → InOrderAt events answers new
  quiet_at events answers old new q o =
      let tasks : new.tasks ≡ old.tasks = quiet_tasks old new q in
      let down : new.down ≡ old.down = ap (λ d. d.down) q.stays in
      record {
        identity = ap (λ d. d.identity) q.stays ∙ o.identity;
        order = subst (λ b. InOrder first events answers new.cells new.tasks (exact && not b)) (sym down)
            (subst (λ ts. InOrder first events answers new.cells ts (exact && not old.down)) (sym tasks) (moved_in_order first events answers old new.cells (exact && not old.down) q.cells o.order));
        calm = λ e up. quiet_calm old new q (o.calm e (sym down ∙ up));
        steady = λ e. subst AreSteady (sym tasks) (o.steady e);
      }

  -- the end of a task
  pub one_at : (events : List Frame) (answers : List Answer) (s new : Device) (reply : Reply) → ((nexus tag : ℕ) → how_many (asks_by nexus tag) events < 2) → OneEnds s reply new
      → InOrderAt events answers s → InOrderAt events (answers ++ replied reply ∷ []) new
  one_at events answers s new reply once e o = record {
    identity = (ends_reach s new e.task reply e.ends).identity ∙ o.identity;
    order = one_in_order first events answers s new (exact && not s.down) (exact && not new.down) o.order once reply e
        (λ f. let x = (and_parts exact (not new.down) f).0 in
        let up = was_up (up_of exact new.down f) in
        (ap (λ b. b && not s.down) x ∙ ap not up, (well x up).whole_write));
    calm = λ x up. (well x (was_up up)).calm_still;
    steady = λ x. subst AreSteady (sym (ends_leaves s new e.task reply e.ends).tasks) (All-remove_first (λ t. stops_or_starts (Ok t.command) ≡ false) (is_called (e.task).nexus ((e.task).tag).0) s.tasks (o.steady x));
  }
    where
      was_up : new.down ≡ false → s.down ≡ false
      was_up up = by_test (λ b. b ≡ false) s.down (λ yes. absurd (both_ways new.down up (one_down s new reply yes e))) (λ no. refl)

      there : IsIn e.task s.tasks
      there = eligible_in s.tasks e.task (may_eligible s e.task e.may)

      well : (x : exact ≡ true) (up : s.down ≡ false) → EndsCalm s new e.task reply (o.calm x up) (e.task).command
      well x up =
          ends_calm s new e.task reply (o.calm x up) up
          (in_all (IsPlainTask (sectors first)) s.tasks e.task (subst (AllByRecursion (IsPlainTask (sectors first))) (sym o.order.tasks_are) (tasks_plain (trim first) (sectors first) o.order.items o.order.well)) there).plain
          (in_all (λ t. stops_or_starts (Ok t.command) ≡ false) s.tasks e.task (o.steady x) there) e.ends
