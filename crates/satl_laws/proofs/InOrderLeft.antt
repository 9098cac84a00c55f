-- Where a task that waits leaves, what is left is in order.
use Rattle.std.proofs.Common.{◌≡◌, ⊎_elim, refl, sym, ap, ◌∙◌, subst, ℕ, ◌<◌, Bool, true, false, List, ◌∷◌, ◌++◌, Some, None, arith, map}
use Rattle.std.specs.Prelude.{◌||◌}
use Rattle.std.specs.List.{AllByRecursion, list_any}
use Rattle.std.proofs.lemmas.List.{map-append}
use Rattle.std.proofs.lemmas.List.Folds.{list_any-append}
use Rattle.std.proofs.Math.Bool.{or-false}
use Rattle.satl_base.specs.declared.block.Block.{Block}
use Rattle.satl_base.specs.declared.request.Request.{Request}
use Rattle.satl_base.specs.declared.reply.Reply.{Reply}
use Rattle.satl_base.specs.Cells.{Cell}
use Rattle.satl_base.specs.Lists.{how_many}
use Rattle.satl_base.proofs.ListsLemmas.{All-weaken, in_either}
use Rattle.satl_cdb.specs.Table.{says}
use Rattle.satl_frame.specs.declared.frames.Frame.{Frame}
use Rattle.satl_frame.specs.Output.{Answer}
use Rattle.satl_frame.specs.Output.Answer.{replied}
use Rattle.satl_line.specs.declared.entry.Entry.{Entry}
use Rattle.satl_direct.specs.Device.{is_called}
use Rattle.satl_laws.specs.ArrivalOrder.{IsGoodReply, IsReadOf, is_done, read_at, was_done}
use Rattle.satl_laws.specs.OnceEach.{answers_to, asks_by}
use Rattle.satl_laws.proofs.Cases.{how_many-append}
use Rattle.satl_laws.proofs.Given.{AllRight, GivesRight, IsTold, right_leave}
use Rattle.satl_laws.proofs.Items.{AreSorted, Awaits, IsWell, Item, PlaceOf, held-append, is_to_write, left, waiting, waiting-append}
use Rattle.satl_laws.proofs.Names.{none_in}
use Rattle.satl_laws.proofs.Requests.{AreApart, has_name}
use Rattle.satl_laws.proofs.Settling.{pending, sorted_leave}
use Rattle.satl_laws.proofs.Standing.{Stands, writes_at}
use Rattle.satl_laws.proofs.Rows.{all_at, all_replaced}
use Rattle.satl_laws.proofs.Settled.{HasSettled, alike_or_clear, has_settled, leaves_alike, settled}
use Rattle.satl_laws.proofs.InOrder.{Begin, InOrder, IsAside, IsOnly, IsSure, holds, sectors, trim}
use Rattle.satl_laws.proofs.InOrderLeaves.{Leaving, apart, awaits, not_done, place}

module _ (first : Begin) where
  module _ (events : List Frame) (answers : List Answer) (cells : List Cell) (tasks : List Entry) (faithful : Bool) (o : InOrder first events answers cells tasks faithful)
      (once : (nexus tag : ℕ) → how_many (asks_by nexus tag) events < 2) (before later : List Entry) (t : Entry) (split : tasks ≡ before ++ t ∷ later) where
    module _ (good : Bool) (more : List Answer) (new : List Cell) (still_faithful : Bool) (l : Leaving first events answers cells tasks faithful o once before later t split good more new still_faithful) where
      -- its place, and what is known of it
      abbrev its_place : PlaceOf o.items before t later
      its_place = place first events answers cells tasks faithful o once before later t split

      abbrev its_item : Item
      its_item = its_place.item

      abbrev it_awaits : Awaits (trim first) (sectors first) its_item t
      it_awaits = awaits first events answers cells tasks faithful o once before later t split

      abbrev others_apart : AreApart (λ k. has_name t.nexus (t.tag).0 k.request) its_place.front its_place.back
      others_apart = apart first events answers cells tasks faithful o once before later t split

      abbrev was_not_done : was_done answers its_item.request ≡ false
      was_not_done = not_done first events answers cells tasks faithful o once before later t split

      -- it has settled
      abbrev acting : HasSettled (trim first) (sectors first) (read_at cells) (read_at new) (read_at first.device.cells)
          its_place.front its_place.back its_item t good
      acting = has_settled (trim first) (sectors first) (read_at cells) (read_at new) (read_at first.device.cells) its_place.front its_place.back its_item t good l.leaves

      abbrev its_end : Item
      its_end = settled (trim first) (sectors first) (read_at cells) (read_at new) (read_at first.device.cells) its_place.front its_place.back its_item t good acting it_awaits

      -- where it writes no sector, it leaves what it did
      alike : (x : ℕ) (w : Block) → writes_at t x ≡ false → left (trim first) its_end x w ≡ left (trim first) its_item x w
      alike = leaves_alike (trim first) (sectors first) (read_at cells) (read_at new) (read_at first.device.cells) its_place.front its_place.back its_item t good acting it_awaits

      -- a request has another nexus or tag
      abbrev IsOther : Item → Type 0
      IsOther k = has_name t.nexus (t.tag).0 k.request ≡ false

      -- who was done before, and who then
      done_more : (r : Request) → was_done (answers ++ more) r ≡ (was_done answers r || list_any (is_done r) more)
      done_more r = list_any-append (is_done r) answers more

      sure_other : (k : Item) → IsOther k → IsSure first answers k → IsSure first (answers ++ more) k
      sure_other k other sure h x = sure (sym (done_more k.request ∙ ap (λ b. was_done answers k.request || b) (l.others k.request other) ∙ or-false (was_done answers k.request)) ∙ h) x

      only_still : (k : Item) → IsOther k → IsOnly first answers k → IsOnly first (answers ++ more) k
      only_still k other only x h = done_more k.request ∙ ap (λ b. b || list_any (is_done k.request) more) (only x h)

      aside_still : (k : Item) → IsOther k → IsAside first answers k → IsAside first (answers ++ more) k
      aside_still k other aside never = let a = aside never in (a.0, only_still k other a.1)

      told_other : (k : Item) → IsOther k → IsTold (trim first) answers (answers ++ more) k
      told_other k other reply g =
          ⊎_elim (λ earlier. record { among = earlier; done = g.done })
          (λ later_one. absurd (let no : true ≡ false = sym g.done ∙ none_in (is_done k.request) more (replied reply) (l.others k.request other) later_one in cc))
          (in_either (replied reply) answers more g.among)

      abbrev after_items : List Item
      after_items = its_place.front ++ its_end ∷ its_place.back

      -- what held of all, of those in front, of it, and of those behind
      abbrev all_in : (P : Item → Type 0) → AllByRecursion P o.items →
          AllByRecursion P (its_place.front ++ its_item ∷ its_place.back)
      all_in P all = subst (AllByRecursion P) its_place.split all

      -- the READ that it was, if it was one
      read_settled : (reply : Reply) (lba count : ℕ) → IsReadOf (says its_item.request.cdb (trim first)) lba count → IsGoodReply its_item.request reply (answers ++ more) → GivesRight (trim first) (holds first its_place.front) (pending (λ x. false) its_place.front) reply lba count
      read_settled reply lba count reads g =
          ⊎_elim
          (λ earlier. absurd (let no : true ≡ false = sym g.done ∙ none_in (is_done its_item.request) answers (replied reply) was_not_done earlier in cc))
          (λ later_one. l.reads reply lba count reads (record { among = later_one; done = g.done }))
          (in_either (replied reply) answers more g.among)

      pub left_in_order : InOrder first events (answers ++ more) new (before ++ later) still_faithful
      left_in_order = record {
        items = after_items;
        requests =
            map-append (λ i. i.request) its_place.front (its_end ∷ its_place.back)
            ∙ sym (map-append (λ i. i.request) its_place.front (its_item ∷ its_place.back))
            ∙ ap (map (λ i. i.request)) (sym its_place.split)
            ∙ o.requests;
        tasks_are = sym (waiting-append its_place.front (its_end ∷ its_place.back) ∙ ap (λ l. l ++ waiting its_place.back) its_place.fronts ∙ ap (λ l. before ++ l) its_place.backs);
        size = l.size ∙ o.size;
        counts = λ nexus tag. omega (
          arith,
          o.counts nexus tag,
          l.few nexus tag,
          how_many-append (answers_to nexus tag) answers more,
          ap (how_many (is_called nexus tag)) split,
          how_many-append (is_called nexus tag) before (t ∷ later),
          how_many-append (is_called nexus tag) before later,
        );
        well = all_replaced IsOther (IsWell (trim first) (sectors first)) (IsWell (trim first) (sectors first)) (λ k other well. well) its_place.front its_place.back its_item its_end others_apart.fronts others_apart.backs
            (all_in (IsWell (trim first) (sectors first)) o.well) (record { waits = tt });
        sorted = λ x inside. sorted_leave (trim first) x its_place.front its_place.back its_item its_end refl
            (alike_or_clear (trim first) (sectors first) (read_at cells) (read_at new) (read_at first.device.cells) its_place.front its_place.back its_item t good acting it_awaits x inside)
            (subst (AreSorted (trim first) x) its_place.split (o.sorted x inside));
        stands = λ x inside.
            subst (λ ts. Stands x (read_at new x) (holds first after_items x) ts) (ap (λ l. l ++ waiting its_place.back) its_place.fronts ∙ ap (λ l. before ++ l) its_place.backs)
            (subst (λ h. Stands x (read_at new x) h (waiting its_place.front ++ waiting its_place.back)) (sym (held-append (trim first) x (read_at first.device.cells x) its_place.front (its_end ∷ its_place.back))) (acting.inside x inside).stands);
        sure = all_replaced IsOther (IsSure first answers) (IsSure first (answers ++ more)) sure_other its_place.front its_place.back its_item its_end others_apart.fronts others_apart.backs
            (all_in (IsSure first answers) o.sure)
            (λ h x. acting.sure x (l.good_only its_item.request (sym (done_more its_item.request ∙ ap (λ b. b || list_any (is_done its_item.request) more) was_not_done) ∙ h)));
        only = λ f. all_replaced IsOther (IsOnly first answers) (IsOnly first (answers ++ more)) only_still its_place.front its_place.back its_item its_end others_apart.fronts others_apart.backs
            (all_in (IsOnly first answers) (o.only (l.whole f).0))
            (λ x h. done_more its_item.request ∙ ap (λ b. b || list_any (is_done its_item.request) more) was_not_done ∙ l.told_good f (⊎_elim (λ good_it. good_it) (l.whole f).1 (acting.only x h)));
        aside = all_replaced IsOther (IsAside first answers) (IsAside first (answers ++ more)) aside_still its_place.front its_place.back its_item its_end others_apart.fronts others_apart.backs
            (all_in (IsAside first answers) o.aside)
            (λ no. absurd (let none : Some t ≡ None = sym its_place.is ∙ (all_at (IsAside first answers) its_place.front its_place.back its_item (all_in (IsAside first answers) o.aside) no).0 in cc));
        right = right_leave (trim first) answers (answers ++ more) its_place.front its_place.back its_item its_end (read_at first.device.cells) (λ x. false) refl
            (λ x w none. alike x w (sym (ap (λ k. is_to_write k x) its_place.is) ∙ none))
            (All-weaken IsOther (IsTold (trim first) answers (answers ++ more)) told_other its_place.front others_apart.fronts)
            (All-weaken IsOther (IsTold (trim first) answers (answers ++ more)) told_other its_place.back others_apart.backs) read_settled
            (subst (AllRight (trim first) answers (read_at first.device.cells) (λ x. false)) its_place.split o.right);
      }
