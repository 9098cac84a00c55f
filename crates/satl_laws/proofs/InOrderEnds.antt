-- The end of a task keeps the order of arrival.
use Rattle.std.proofs.Common.{◌≡◌, ⊎_elim, sym, ap, ◌∙◌, subst, ℕ, ◌<◌, Bool, true, false, List, [], ◌∷◌, ◌++◌, arith}
use Rattle.std.specs.Prelude.{◌&&◌, ◌||◌, ◌==◌}
use Rattle.std.proofs.lemmas.Bool.{and_parts}
use Rattle.satl_base.specs.declared.reply.Reply.{Reply}
use Rattle.satl_base.specs.Lists.{how_many}
use Rattle.satl_cdb.specs.Table.{says}
use Rattle.satl_frame.specs.declared.frames.Frame.{Frame}
use Rattle.satl_frame.specs.Output.{Answer}
use Rattle.satl_frame.specs.Output.Answer.{replied}
use Rattle.satl_line.specs.declared.entry.Entry.{Entry}
use Rattle.satl_line.specs.Eligible.{IsEligible}
use Rattle.satl_direct.specs.Device.{Device, is_called, without}
use Rattle.satl_direct.specs.Turn.{OneEnds}
use Rattle.satl_laws.specs.ArrivalOrder.{IsGoodReply, IsReadOf, is_done, is_good, read_at}
use Rattle.satl_laws.specs.OnceEach.{answers_to, asks_by}
use Rattle.satl_laws.proofs.Eligibles.{SplitAt, split_at, without_is}
use Rattle.satl_laws.proofs.Ends.{eligible_in, ends_leaves}
use Rattle.satl_laws.proofs.Given.{GivesRight}
use Rattle.satl_laws.proofs.InOrder.{Begin, InOrder, holds, sectors, trim}
use Rattle.satl_laws.proofs.InOrderLeaves.{awaits, own, place}
use Rattle.satl_laws.proofs.InOrderLeft.{left_in_order}
use Rattle.satl_laws.proofs.InOrderPlace.{clear, it, sorted_at, stands_at, tasks_at}
use Rattle.satl_laws.proofs.InOrderReads.{alone, gives_right}
use Rattle.satl_laws.proofs.Items.{AreSorted, Awaits, Item, PlaceOf, waiting}
use Rattle.satl_laws.proofs.Names.{one, one_reply}
use Rattle.satl_laws.proofs.Settling.{pending}
use Rattle.satl_laws.proofs.Standing.{Leaves, NoneCovers, Stands, leaves_done, leaves_still, writes_at}
use Rattle.satl_laws.proofs.TaskEnds.{ends_change, ends_read, ends_size}
use Rattle.satl_laws.proofs.Tasks.{IsPlainTask, done_good, good_done, may_eligible, reply_named, reply_other, writer_fits}
use Rattle.satl_laws.proofs.Transferring.{brings, spans}

module _ (first : Begin) (events : List Frame) (answers : List Answer) (s new : Device) (faithful still_faithful : Bool) (o : InOrder first events answers s.cells s.tasks faithful)
    (once : (nexus tag : ℕ) → how_many (asks_by nexus tag) events < 2) (reply : Reply) (e : OneEnds s reply new)
    (whole : still_faithful ≡ true → (faithful ≡ true) × (brings (e.task).command ≡ true → is_good reply.status ≡ true)) where
  -- its task
  abbrev t : Entry
  t = e.task

  eligible : IsEligible s.tasks t
  eligible = may_eligible s t e.may

  at : SplitAt s.tasks t
  at = split_at s.tasks t (eligible_in s.tasks t eligible)

  -- and its place
  abbrev its_place : PlaceOf o.items at.before t at.later
  its_place = place first events answers s.cells s.tasks faithful o once at.before at.later t at.split

  abbrev in_front : List Item
  in_front = its_place.front

  abbrev behind : List Item
  behind = its_place.back

  abbrev its_item : Item
  its_item = its_place.item

  it_awaits : Awaits (trim first) (sectors first) its_item t
  it_awaits = awaits first events answers s.cells s.tasks faithful o once at.before at.later t at.split

  abbrev task_plain : IsPlainTask (sectors first) t
  task_plain = it first events answers s.cells s.tasks faithful o once at.before at.later t at.split

  abbrev all_tasks : waiting in_front ++ t ∷ waiting behind ≡ s.tasks
  all_tasks = tasks_at first events answers s.cells s.tasks faithful o once at.before at.later t at.split

  abbrev none_before : (x : ℕ) → writes_at t x ≡ true → NoneCovers x in_front
  none_before x = clear first events answers s.cells s.tasks faithful o once at.before at.later t at.split x eligible

  abbrev sorted_here : (x : ℕ) → x < sectors first → AreSorted (trim first) x (in_front ++ its_item ∷ behind)
  sorted_here = sorted_at first events answers s.cells s.tasks faithful o once at.before at.later t at.split

  abbrev stands_here : (x : ℕ) → x < sectors first →
      Stands x (read_at s.cells x) (holds first (in_front ++ its_item ∷ behind) x) (waiting in_front ++ t ∷ waiting behind)
  stands_here = stands_at first events answers s.cells s.tasks faithful o once at.before at.later t at.split

  -- what it leaves in a sector
  leaves : (x : ℕ) → x < sectors first → (acted : Bool) × Leaves (trim first) (sectors first) x (read_at s.cells x) (read_at new.cells x) (read_at first.device.cells x) in_front behind its_item t (is_good reply.status) acted
  leaves x inside =
      ⊎_elim
      (λ c. leaves_still (trim first) (sectors first) x (read_at s.cells x) (read_at new.cells x) (read_at first.device.cells x) in_front behind its_item t (is_good reply.status) it_awaits (sorted_here x inside) its_place.is
      c.0 c.1 (λ el. none_before x) (stands_here x inside))
      (λ c. leaves_done (trim first) (sectors first) x (read_at s.cells x) (read_at new.cells x) (read_at first.device.cells x) in_front behind its_item t (is_good reply.status) it_awaits (sorted_here x inside) its_place.is
      c.0 c.1 (none_before x)
      (λ u el writes mine. alone first events answers s.cells s.tasks faithful o once at.before at.later t at.split eligible x (writer_fits (sectors first) t task_plain (and_parts (brings t.command) (spans t.command x) mine).0) (and_parts (brings t.command) (spans t.command x) mine).1 u (subst (λ ts. IsEligible ts u) all_tasks el) writes)
      (stands_here x inside))
      (ends_change s new t reply (sectors first) task_plain.plain task_plain.fits e.ends x (omega (arith, inside, o.size)))

  -- what it gives, if it is a READ that is done
  reads : (other : Reply) (lba count : ℕ) → IsReadOf (says its_item.request.cdb (trim first)) lba count → IsGoodReply its_item.request other (replied reply ∷ [])
      → GivesRight (trim first) (holds first in_front) (pending (λ x. false) in_front) other lba count
  reads other lba count is_read g =
      let same : other ≡ reply = ⊎_elim (λ same. one_reply other reply same) (λ nothing. absurd nothing) g.among in
      let good : is_good reply.status ≡ true = done_good its_item.request reply (ap (λ b. b || false) (ap (λ k. is_done its_item.request (replied k)) (sym same) ∙ g.done)) in
      gives_right first events answers s.cells s.tasks faithful o once at.before at.later t at.split eligible other lba count is_read
      (λ it_gives. ap (λ k. k.body) same ∙ ends_read s new t reply (sectors first) task_plain.plain task_plain.fits e.ends it_gives good)

  -- the task has ended, and is answered
  pub one_in_order : InOrder first events (answers ++ replied reply ∷ []) new.cells new.tasks still_faithful
  one_in_order =
      let l = ends_leaves s new t reply e.ends in
      let gone : new.tasks ≡ at.before ++ at.later =
      l.tasks ∙ ap (without t) at.split ∙ without_is at.before t at.later (own first events answers s.cells s.tasks faithful o once at.before at.later t at.split) in
      subst (λ ts. InOrder first events (answers ++ replied reply ∷ []) new.cells ts still_faithful) (sym gone)
      (left_in_order first events answers s.cells s.tasks faithful o once at.before at.later t at.split (is_good reply.status) (replied reply ∷ []) new.cells still_faithful
      (record {
        few = λ nexus tag. let same : one (answers_to nexus tag (replied reply)) ≡ one (is_called nexus tag t) = ap (λ k. one ((k == nexus) && ((reply.tag).0 == tag))) l.nexus ∙ ap (λ k. one ((t.nexus == nexus) && (k.0 == tag))) l.tag in omega (arith, same);
        others = λ r other. reply_other t.nexus (t.tag).0 r reply l.nexus (ap (λ k. k.0) l.tag) other;
        good_only = λ r h. done_good r reply h;
        told_good = λ f good. good_done its_item.request reply (reply_named its_item.request reply (l.nexus ∙ it_awaits.nexus) (l.tag ∙ it_awaits.tag)) good;
        whole = whole;
        size = ends_size s new t reply (sectors first) task_plain.plain task_plain.fits e.ends;
        leaves = leaves;
        reads = reads;
      }))
