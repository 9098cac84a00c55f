-- A task that waits, by its place, and how it may leave.
use Rattle.std.proofs.Common.{◌≡◌, sym, ap, ◌∙◌, subst, ℕ, ◌≤◌, ◌<◌, Bool, true, false, List, [], ◌∷◌, ◌++◌, arith, length}
use Rattle.std.specs.Prelude.{◌&&◌, ◌==◌}
use Rattle.std.specs.List.{AllByRecursion, list_any}
use Rattle.satl_base.specs.declared.request.Request.{Request}
use Rattle.satl_base.specs.declared.reply.Reply.{Reply}
use Rattle.satl_base.specs.Cells.{Cell}
use Rattle.satl_base.specs.Lists.{how_many}
use Rattle.satl_cdb.specs.Table.{says}
use Rattle.satl_frame.specs.declared.frames.Frame.{Frame}
use Rattle.satl_frame.specs.Output.{Answer}
use Rattle.satl_line.specs.declared.entry.Entry.{Entry}
use Rattle.satl_direct.specs.Device.{is_called}
use Rattle.satl_laws.specs.ArrivalOrder.{IsGoodReply, IsReadOf, is_done, read_at, was_done}
use Rattle.satl_laws.specs.OnceEach.{answers_to, asks_by}
use Rattle.satl_direct.specs.Valid.{AreOwn}
use Rattle.satl_laws.proofs.Cases.{how_many-append}
use Rattle.satl_laws.proofs.Given.{GivesRight}
use Rattle.satl_laws.proofs.Items.{Awaits, AwaitsIf, IsWell, Item, PlaceOf, place_of}
use Rattle.satl_laws.proofs.Names.{asks_self, none_done, one, own_counted}
use Rattle.satl_laws.proofs.Requests.{AreApart, are_apart, asked_as_often, has_name, how_many-map}
use Rattle.satl_laws.proofs.Settling.{pending}
use Rattle.satl_laws.proofs.Standing.{Leaves}
use Rattle.satl_laws.proofs.Transferring.{brings}
use Rattle.satl_laws.proofs.Rows.{all_at}
use Rattle.satl_laws.proofs.InOrder.{Begin, InOrder, holds, sectors, trim}

module _ (first : Begin) where
  module _ (events : List Frame) (answers : List Answer) (cells : List Cell) (tasks : List Entry) (faithful : Bool) (o : InOrder first events answers cells tasks faithful)
      (once : (nexus tag : ℕ) → how_many (asks_by nexus tag) events < 2) (before later : List Entry) (t : Entry) (split : tasks ≡ before ++ t ∷ later) where
    -- its place
    pub place : PlaceOf o.items before t later
    place = place_of o.items before t later (sym o.tasks_are ∙ split)

    abbrev pub item : Item
    item = place.item

    -- each task has a nexus and tag of its own
    pub own : AreOwn (before ++ t ∷ later)
    own = subst AreOwn split (own_counted tasks (λ nexus tag. omega (arith, o.counts nexus tag, once nexus tag)))

    pub awaits : Awaits (trim first) (sectors first) item t
    awaits = subst (AwaitsIf (trim first) (sectors first) item) place.is (all_at (IsWell (trim first) (sectors first)) place.front place.back item (subst (AllByRecursion (IsWell (trim first) (sectors first))) place.split o.well)).waits

    -- it is called as its request
    named : has_name t.nexus (t.tag).0 item.request ≡ true
    named = ap (λ k. has_name k (t.tag).0 item.request) awaits.nexus ∙ ap (λ k. has_name item.request.nexus k.0 item.request) awaits.tag ∙ asks_self item.request

    -- the other requests have other names
    pub apart : AreApart (λ k. has_name t.nexus (t.tag).0 k.request) place.front place.back
    apart = are_apart (λ k. has_name t.nexus (t.tag).0 k.request) place.front place.back item named
        (subst (λ l. how_many (λ k. has_name t.nexus (t.tag).0 k.request) l < 2) place.split
        (subst (λ k. k < 2) (sym (asked_as_often t.nexus (t.tag).0 events) ∙ ap (how_many (has_name t.nexus (t.tag).0)) (sym o.requests) ∙ how_many-map (λ k. k.request) (has_name t.nexus (t.tag).0) o.items) (once t.nexus (t.tag).0)))

    called : is_called item.request.nexus (item.request.tag).0 t ≡ true
    called = ap (λ k. (k == item.request.nexus) && ((t.tag).0 == (item.request.tag).0)) awaits.nexus ∙ ap (λ k. (item.request.nexus == item.request.nexus) && (k.0 == (item.request.tag).0)) awaits.tag ∙ asks_self item.request

    -- nothing was answered to it
    pub not_done : was_done answers item.request ≡ false
    not_done =
        let self : one (is_called item.request.nexus (item.request.tag).0 t) ≡ 1 = ap one called in
        none_done item.request answers (omega (
          arith,
          o.counts item.request.nexus (item.request.tag).0,
          once item.request.nexus (item.request.tag).0,
          ap (how_many (is_called item.request.nexus (item.request.tag).0)) split,
          how_many-append (is_called item.request.nexus (item.request.tag).0) before (t ∷ later),
          self,
        ))

    -- it leaves with an answer or without one, and may have acted on each sector
    pub record Leaving (good : Bool) (more : List Answer) (new : List Cell) (still_faithful : Bool) : Type 0 where
      pub few : (nexus tag : ℕ) → how_many (answers_to nexus tag) more ≤ how_many (is_called nexus tag) (t ∷ [])
      pub others : (r : Request) → has_name t.nexus (t.tag).0 r ≡ false → list_any (is_done r) more ≡ false
      pub good_only : (r : Request) → list_any (is_done r) more ≡ true → good ≡ true
      pub told_good : still_faithful ≡ true → good ≡ true → list_any (is_done item.request) more ≡ true
      pub whole : still_faithful ≡ true → (faithful ≡ true) × (brings t.command ≡ true → good ≡ true)
      pub size : length new ≡ length cells
      pub leaves : (x : ℕ) → x < (sectors first) → (acted : Bool) × Leaves (trim first) (sectors first) x (read_at cells x) (read_at new x) (read_at first.device.cells x) place.front place.back item t good acted
      pub reads : (reply : Reply) (lba count : ℕ) → IsReadOf (says item.request.cdb (trim first)) lba count → IsGoodReply item.request reply more → GivesRight (trim first) (holds first place.front) (pending (λ x. false) place.front) reply lba count
