-- A READ that may end gives what the requests before it left.
use Rattle.std.proofs.Common.{◌≡◌, ⊎_elim, refl, sym, ap, ◌∙◌, subst, ℕ, ◌+◌, ◌≤◌, ◌<◌, Bool, true, false, List, [], ◌∷◌, ◌++◌, arith}
use Rattle.std.specs.Prelude.{◌&&◌, ◌||◌, if◌then◌else◌}
use Rattle.std.proofs.lemmas.Bool.{and_parts}
use Rattle.satl_base.specs.declared.block.Block.{Block}
use Rattle.satl_base.specs.declared.reply.Reply.{Reply}
use Rattle.satl_base.specs.Cells.{Cell, nows}
use Rattle.satl_base.specs.Lists.{how_many}
use Rattle.satl_cdb.specs.Table.{says}
use Rattle.satl_frame.specs.declared.frames.Frame.{Frame}
use Rattle.satl_frame.specs.Output.{Answer}
use Rattle.satl_line.specs.declared.entry.Entry.{Entry}
use Rattle.satl_line.specs.Eligible.{IsEligible}
use Rattle.satl_direct.specs.Tasks.{range_of}
use Rattle.satl_laws.specs.ArrivalOrder.{IsReadOf, brought, read_at}
use Rattle.satl_laws.specs.OnceEach.{asks_by}
use Rattle.satl_laws.proofs.Ends.{eligible_in}
use Rattle.satl_laws.proofs.Given.{GivesRight}
use Rattle.satl_laws.proofs.InOrder.{Begin, InOrder, holds, sectors, trim}
use Rattle.satl_laws.proofs.InOrderLeaves.{awaits, place}
use Rattle.satl_laws.proofs.InOrderPlace.{back, free, front, it, one_item, plain, sorted_at, stands_at, tasks_at, well_front}
use Rattle.satl_laws.proofs.Items.{AreSorted, Awaits, Item, covers, held, held-append}
use Rattle.satl_laws.proofs.Rows.{in_all}
use Rattle.satl_base.specs.Blocks.{lies_in}
use Rattle.satl_laws.proofs.Seen.{nows_seen, range_same, within_to}
use Rattle.satl_laws.proofs.Settling.{none_to_write, pending, pending_none}
use Rattle.satl_laws.proofs.Standing.{writes_at}
use Rattle.satl_laws.proofs.Tasks.{IsPlainTask, reader_fits, writes_alone}
use Rattle.satl_laws.proofs.Transferring.{Transfers, brings, gives, read_of, reads_only, spans}

module _ (first : Begin) (events : List Frame) (answers : List Answer) (cells : List Cell) (tasks : List Entry) (faithful : Bool) (o : InOrder first events answers cells tasks faithful)
    (once : (nexus tag : ℕ) → how_many (asks_by nexus tag) events < 2) (before later : List Entry) (t : Entry) (split : tasks ≡ before ++ t ∷ later) (eligible : IsEligible tasks t) where
  -- its place
  abbrev in_front : List Item
  in_front = front first events answers cells tasks faithful o once before later t split

  abbrev behind : List Item
  behind = back first events answers cells tasks faithful o once before later t split

  abbrev its_item : Item
  its_item = one_item first events answers cells tasks faithful o once before later t split

  abbrev it_awaits : Awaits (trim first) (sectors first) its_item t
  it_awaits = awaits first events answers cells tasks faithful o once before later t split

  abbrev task_plain : IsPlainTask (sectors first) t
  task_plain = it first events answers cells tasks faithful o once before later t split

  -- no other eligible task writes a sector that it reads or writes
  pub alone : (x : ℕ) → Transfers (sectors first) t → spans t.command x ≡ true → (u : Entry) → IsEligible tasks u → writes_at u x ≡ true → u ≡ t
  alone x fits has u el writes =
      writes_alone (sectors first) x tasks t u eligible el fits
      (in_all (IsPlainTask (sectors first)) tasks u (plain first events answers cells tasks faithful o once before later t split) (eligible_in tasks u el)) has writes

  -- no request behind it has acted on a sector that it reads
  none_behind : (x : ℕ) → x < sectors first → gives t.command ≡ true → spans t.command x ≡ true → (v : Block) → held (trim first) x v (its_item ∷ behind) ≡ v
  none_behind x inside g has v =
      ap (λ b. held (trim first) x (if b then brought (says its_item.request.cdb (trim first)) its_item.request.body x v else v) behind) (it_awaits.idle x)
      ∙ sorted_of in_front (sorted_at first events answers cells tasks faithful o once before later t split x inside)
      (ap (λ q. covers q x) (place first events answers cells tasks faithful o once before later t split).is ∙ ap (λ b. (b || brings t.command) && spans t.command x) g ∙ has) v
    where
      sorted_of : (items : List Item) → AreSorted (trim first) x (items ++ its_item ∷ behind) → covers its_item.task x ≡ true → (w : Block) → held (trim first) x w behind ≡ w
      sorted_of [] k = k.0
      sorted_of (i ∷ items) k = sorted_of items k.1

  -- a sector that it reads holds what the requests before it left
  reads_held : (x : ℕ) → x < sectors first → gives t.command ≡ true → spans t.command x ≡ true → read_at cells x ≡ holds first in_front x
  reads_held x inside g has =
      ⊎_elim
      (λ is. is ∙ held-append (trim first) x (read_at first.device.cells x) in_front (its_item ∷ behind) ∙ none_behind x inside g has (holds first in_front x))
      (λ early. absurd (reads_only t.command g
      (ap (λ u. brings u.command) (sym (alone x (reader_fits (sectors first) t task_plain g) has early.task
      (subst (λ ts. IsEligible ts early.task) (tasks_at first events answers cells tasks faithful o once before later t split) early.eligible) early.writes_it))
      ∙ (and_parts (brings (early.task).command) (spans (early.task).command x) early.writes_it).0)))
      (stands_at first events answers cells tasks faithful o once before later t split x inside)

  -- a reply with what its sectors hold gives what it is to give
  pub gives_right : (reply : Reply) (lba count : ℕ) → IsReadOf (says its_item.request.cdb (trim first)) lba count
      → (gives t.command ≡ true → reply.body ≡ nows cells (range_of t.command).lba (range_of t.command).count) → GivesRight (trim first) (holds first in_front) (pending (λ x. false) in_front) reply lba count
  gives_right reply lba count is_read given =
      let r = read_of t.command lba count (subst (λ said. IsReadOf said lba count) it_awaits.says_it is_read) in
      let fits = reader_fits (sectors first) t task_plain r.0 in
      let has : (x : ℕ) → lba ≤ x → x < lba + count → spans t.command x ≡ true =
      λ x from to. ap (λ k. lies_in k (range_of t.command).count x) r.1 ∙ ap (λ k. lies_in lba k x) r.2 ∙ within_to lba count x from to in
      record {
        blocks =
            given r.0
            ∙ ap (λ k. nows cells k (range_of t.command).count) r.1
            ∙ ap (λ k. nows cells lba k) r.2
            ∙ nows_seen lba count cells (omega (arith, fits.inside, r.1, r.2, o.size))
            ∙ range_same count lba (read_at cells) (holds first in_front) (λ x from to. reads_held x (omega (arith, fits.inside, r.1, r.2, to)) r.0 (has x from to));
        settled = λ x from to. pending_none (λ y. false) in_front x refl
            (none_to_write (trim first) (sectors first) x t fits (has x from to) in_front (free first events answers cells tasks faithful o once before later t split eligible)
            (well_front first events answers cells tasks faithful o once before later t split));
      }
