-- A task that waits by its place, and that leaves without GOOD.
use Rattle.std.proofs.Common.{◌≡◌, inl, refl, sym, ap, ◌∙◌, subst, ℕ, ◌≤◌, ◌<◌, Bool, true, false, List, [], ◌∷◌, ◌++◌}
use Rattle.std.specs.List.{AllByRecursion, list_any}
use Rattle.std.proofs.lemmas.Bool.{and_parts}
use Rattle.satl_base.specs.declared.request.Request.{Request}
use Rattle.satl_base.specs.Cells.{Cell}
use Rattle.satl_base.specs.Lists.{IsIn, how_many}
use Rattle.satl_base.proofs.ListsLemmas.{in_right}
use Rattle.satl_frame.specs.declared.frames.Frame.{Frame}
use Rattle.satl_frame.specs.Output.{Answer}
use Rattle.satl_frame.specs.Output.Answer.{replied}
use Rattle.satl_line.specs.declared.entry.Entry.{Entry}
use Rattle.satl_line.specs.Conflict.{conflicts}
use Rattle.satl_line.specs.Eligible.{IsEligible}
use Rattle.satl_direct.specs.Device.{is_called}
use Rattle.satl_laws.specs.ArrivalOrder.{is_done, read_at}
use Rattle.satl_laws.specs.OnceEach.{answers_to, asks_by}
use Rattle.satl_direct.specs.Quiet.{writes}
use Rattle.satl_laws.proofs.InOrder.{Begin, InOrder, holds, sectors, trim}
use Rattle.satl_laws.proofs.InOrderLeaves.{awaits, own, place}
use Rattle.satl_laws.proofs.InOrderLeft.{left_in_order}
use Rattle.satl_laws.proofs.Rows.{all_front, in_all}
use Rattle.satl_laws.proofs.Items.{AreSorted, IsWell, Item, PlaceOf, waiting}
use Rattle.satl_laws.proofs.Eligibles.{before_free}
use Rattle.satl_laws.proofs.Names.{none_in}
use Rattle.satl_laws.proofs.Settling.{none_covers}
use Rattle.satl_laws.proofs.Standing.{NoneCovers, Stands, leaves_still, writes_at}
use Rattle.satl_laws.proofs.Tasks.{IsPlainTask, tasks_plain, writer_fits}
use Rattle.satl_laws.proofs.Transferring.{brings, spans}

module _ (first : Begin) (events : List Frame) (answers : List Answer) (cells : List Cell) (tasks : List Entry) (faithful : Bool) (o : InOrder first events answers cells tasks faithful)
    (once : (nexus tag : ℕ) → how_many (asks_by nexus tag) events < 2) (before later : List Entry) (t : Entry) (split : tasks ≡ before ++ t ∷ later) where
  -- its place
  abbrev its_place : PlaceOf o.items before t later
  its_place = place first events answers cells tasks faithful o once before later t split

  abbrev pub front : List Item
  front = its_place.front

  abbrev pub back : List Item
  back = its_place.back

  abbrev pub one_item : Item
  one_item = its_place.item

  -- the tasks before it, it, and those behind it
  pub tasks_at : waiting front ++ t ∷ waiting back ≡ tasks
  tasks_at = ap (λ l. l ++ t ∷ waiting back) its_place.fronts ∙ ap (λ l. before ++ t ∷ l) its_place.backs ∙ sym split

  -- each is plain
  pub plain : AllByRecursion (IsPlainTask (sectors first)) tasks
  plain = subst (AllByRecursion (IsPlainTask (sectors first))) (sym o.tasks_are) (tasks_plain (trim first) (sectors first) o.items o.well)

  pub it : IsPlainTask (sectors first) t
  it = in_all (IsPlainTask (sectors first)) tasks t plain (subst (IsIn t) (sym split) (in_right t before (t ∷ later) (inl refl)))

  pub well_front : AllByRecursion (IsWell (trim first) (sectors first)) front
  well_front = all_front (IsWell (trim first) (sectors first)) front back one_item (subst (AllByRecursion (IsWell (trim first) (sectors first))) its_place.split o.well)

  -- where it is eligible, no task before it conflicts with it
  pub free : IsEligible tasks t → AllByRecursion (λ u. conflicts u t ≡ false) (waiting front)
  free el = subst (AllByRecursion (λ u. conflicts u t ≡ false)) (sym its_place.fronts)
      (before_free before t later (own first events answers cells tasks faithful o once before later t split) (subst (λ ts. IsEligible ts t) split el))

  -- and none reads or writes a sector that it writes
  pub clear : (x : ℕ) → IsEligible tasks t → writes_at t x ≡ true → NoneCovers x front
  clear x el writes =
      none_covers (trim first) (sectors first) x t (writer_fits (sectors first) t it (and_parts (brings t.command) (spans t.command x) writes).0) (and_parts (brings t.command) (spans t.command x) writes).1
      front (and_parts (brings t.command) (spans t.command x) writes).0 (free el) well_front

  -- what its sector holds
  pub sorted_at : (x : ℕ) → x < sectors first → AreSorted (trim first) x (front ++ one_item ∷ back)
  sorted_at x inside = subst (AreSorted (trim first) x) its_place.split (o.sorted x inside)

  pub stands_at : (x : ℕ) → x < sectors first → Stands x (read_at cells x) (holds first (front ++ one_item ∷ back) x) (waiting front ++ t ∷ waiting back)
  stands_at x inside = subst (λ ts. Stands x (read_at cells x) (holds first (front ++ one_item ∷ back) x) ts) (sym tasks_at) (subst (λ l. Stands x (read_at cells x) (holds first l x) tasks) its_place.split (o.stands x inside))

  -- ---- it leaves, and nothing changes

  -- it is not answered with GOOD
  pub dropped_in_order : (more : List Answer) → ((nexus tag : ℕ) → how_many (answers_to nexus tag) more ≤ how_many (is_called nexus tag) (t ∷ [])) → ((r : Request) → list_any (is_done r) more ≡ false)
      → InOrder first events (answers ++ more) cells (before ++ later) false
  dropped_in_order more few bad =
      left_in_order first events answers cells tasks faithful o once before later t split false more cells false
      (record {
        few = few;
        others = λ r other. bad r;
        good_only = λ r h. absurd (let no : true ≡ false = sym h ∙ bad r in cc);
        told_good = λ f. absurd cc;
        whole = λ f. absurd cc;
        size = refl;
        leaves = λ x inside. leaves_still (trim first) (sectors first) x (read_at cells x) (read_at cells x) (read_at first.device.cells x) front back one_item t false
            (awaits first events answers cells tasks faithful o once before later t split) (sorted_at x inside) its_place.is refl refl
            (λ el. clear x (subst (λ ts. IsEligible ts t) tasks_at el)) (stands_at x inside);
        reads = λ other lba count is_read g. absurd (let no : true ≡ false = sym g.done ∙ none_in (is_done one_item.request) more (replied other) (bad one_item.request) g.among in cc);
      })
