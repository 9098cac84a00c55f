-- Where no task waits, items that are in order say what the law says.
use Rattle.std.proofs.Common.{◌≡◌, ⊎_elim, refl, sym, ap, ◌∙◌, subst, ℕ, ◌<◌, Bool, true, false, List, [], ◌∷◌, ◌++◌, arith}
use Rattle.std.specs.Prelude.{◌&&◌, ◌||◌}
use Rattle.std.specs.List.{AllByRecursion, list_any}
use Rattle.std.proofs.lemmas.List.Folds.{list_any-append}
use Rattle.std.proofs.Math.Bool.{or-false}
use Rattle.satl_base.specs.declared.request.Request.{Request}
use Rattle.satl_base.specs.Lists.{IsIn, how_many}
use Rattle.satl_cdb.specs.Table.{says}
use Rattle.satl_frame.specs.declared.frames.Frame.{Frame}
use Rattle.satl_frame.specs.declared.frames.Frame.TheVariants as frames
use Rattle.satl_frame.specs.Output.{Answer}
use Rattle.satl_direct.specs.Device.{Device}
use Rattle.satl_laws.specs.ArrivalOrder.{IsGoodReply, read_at, was_done}
use Rattle.satl_laws.specs.OnceEach.{asks_by}
use Rattle.satl_laws.proofs.InOrder.{Begin, InOrder, holds, trim}
use Rattle.satl_laws.proofs.Names.{asks_self}
use Rattle.satl_laws.proofs.Items.{Item}
use Rattle.std.proofs.lemmas.Option.{slice_get_within}
use Rattle.satl_base.proofs.ListsLemmas.{All-in}
use Rattle.satl_laws.specs.ArrivalOrder.{IsInOrder, IsReadOf, content}
use Rattle.satl_laws.proofs.InOrder.{IsAside, IsOnly, IsSure}
use Rattle.satl_laws.proofs.Rows.{all_at, all_front, in_all}
use Rattle.satl_laws.proofs.Eligibles.{split_at}
use Rattle.satl_laws.proofs.Requests.{AreApart, are_apart, asked_as_often, content_held, has_name, how_many-map, placed_at, requests-append, requests_of}
use Rattle.satl_laws.proofs.Seen.{by_test, range_same, seen_get}
use Rattle.satl_laws.proofs.Given.{AllRight, right_at}

-- ---- the sectors and answers of a device without tasks

-- two tests that imply one another
both_imply : (p q : Bool) → (p ≡ true → q ≡ true) → (q ≡ true → p ≡ true) → p ≡ q
both_imply true q h k = sym (h refl)
both_imply false true h k = k refl
both_imply false false h k = refl

-- whether a request has acted on a sector, by its item
abbrev pub acted_by : List Item → ℕ → Request → Bool
acted_by items x r = list_any (λ i. has_name r.nexus (r.tag).0 i.request && i.acted x) items

-- those of other names have no part in it
none_acts : (items : List Item) (x : ℕ) (r : Request) → AllByRecursion (λ i. has_name r.nexus (r.tag).0 i.request ≡ false) items → acted_by items x r ≡ false
none_acts [] x r h = refl
none_acts (i ∷ items) x r h = ap (λ b. (b && i.acted x) || acted_by items x r) h.0 ∙ none_acts items x r h.1

acts_itself : (front back : List Item) (i : Item) (x : ℕ) → AreApart (λ k. has_name i.request.nexus (i.request.tag).0 k.request) front back → acted_by (front ++ i ∷ back) x i.request ≡ i.acted x
acts_itself front back i x apart =
    list_any-append (λ k. has_name i.request.nexus (i.request.tag).0 k.request && k.acted x) front (i ∷ back)
    ∙ ap (λ b. b || ((has_name i.request.nexus (i.request.tag).0 i.request && i.acted x) || acted_by back x i.request)) (none_acts front x i.request apart.fronts)
    ∙ ap (λ b. (b && i.acted x) || acted_by back x i.request) (asks_self i.request)
    ∙ ap (λ b. i.acted x || b) (none_acts back x i.request apart.backs)
    ∙ or-false (i.acted x)

module _ (first : Begin) (last : Device) (events : List Frame) (answers : List Answer) (f : Bool) (o : InOrder first events answers last.cells [] f) where
  -- each item acts as this says
  abbrev ActAs : (ℕ → Request → Bool) → Type 0
  ActAs acted = (x : ℕ) → AllByRecursion (λ i. acted x i.request ≡ i.acted x) o.items

  -- then all is in order
  pub in_order_as : (acted : ℕ → Request → Bool) → ActAs acted → (all : List Frame) → requests_of all ≡ requests_of events → IsInOrder acted first.device all answers last
  in_order_as acted acts all same = record {
    reads = λ before after r reply lba count place reads good.
        let k = placed_at o.items (requests_of before) r (requests_of after) (o.requests ∙ sym same ∙ ap requests_of place ∙ requests-append before (frames.Request r ∷ after)) in
        let right = right_at (trim first) answers k.front k.back k.item (read_at first.device.cells) (λ x. false) (subst (AllRight (trim first) answers (read_at first.device.cells) (λ x. false)) k.split o.right) in
        let g = right reply lba count (subst (λ q. IsReadOf (says q.cdb (trim first)) lba count) (sym k.is) reads) (subst (λ q. IsGoodReply q reply answers) (sym k.is) good) in
        g.blocks
        ∙ range_same count lba (holds first k.front) (λ x. content (acted x) (trim first) x before (read_at first.device.cells x))
        (λ x from to. sym (content_held (trim first) x (acted x) before k.front (read_at first.device.cells x) k.fronts
        (all_front (λ i. acted x i.request ≡ i.acted x) k.front k.back k.item (subst (AllByRecursion (λ i. acted x i.request ≡ i.acted x)) k.split (acts x)))));
    writes = λ x c there.
        seen_get last.cells x c there
        ∙ ⊎_elim (λ is. is) (λ early. absurd early.eligible) (o.stands x (omega (arith, slice_get_within last.cells x c there, o.size)))
        ∙ sym (content_held (trim first) x (acted x) all o.items (read_at first.device.cells x) (o.requests ∙ sym same) (acts x));
  }

  -- each acts as its item
  pub act_as_items : ((nexus tag : ℕ) → how_many (asks_by nexus tag) events < 2) → ActAs (acted_by o.items)
  act_as_items once x = All-in (λ i. acted_by o.items x i.request ≡ i.acted x) o.items
      (λ i among. let k = split_at o.items i among in
      ap (λ l. acted_by l x i.request) k.split
      ∙ acts_itself k.before k.later i x (are_apart (λ j. has_name i.request.nexus (i.request.tag).0 j.request) k.before k.later i (asks_self i.request)
      (subst (λ l. how_many (λ j. has_name i.request.nexus (i.request.tag).0 j.request) l < 2) k.split
      (subst (λ n. n < 2) (sym (asked_as_often i.request.nexus (i.request.tag).0 events) ∙ ap (how_many (has_name i.request.nexus (i.request.tag).0)) (sym o.requests) ∙ how_many-map (λ j. j.request) (has_name i.request.nexus (i.request.tag).0) o.items)
      (once i.request.nexus (i.request.tag).0)))))

  -- one that was answered with GOOD has acted
  pub done_acts : ((nexus tag : ℕ) → how_many (asks_by nexus tag) events < 2) → (x : ℕ) (r : Request) → IsIn (frames.Request r) events → was_done answers r ≡ true → acted_by o.items x r ≡ true
  done_acts once x r among done =
      let e = split_at events (frames.Request r) among in
      let k = placed_at o.items (requests_of e.before) r (requests_of e.later) (o.requests ∙ ap requests_of e.split ∙ requests-append e.before (frames.Request r ∷ e.later)) in
      ap (acted_by o.items x) (sym k.is)
      ∙ all_at (λ i. acted_by o.items x i.request ≡ i.acted x) k.front k.back k.item (subst (AllByRecursion (λ i. acted_by o.items x i.request ≡ i.acted x)) k.split (act_as_items once x))
      ∙ all_at (IsSure first answers) k.front k.back k.item (subst (AllByRecursion (IsSure first answers)) k.split o.sure) (ap (was_done answers) k.is ∙ done) x

  -- one that may not become a task, and was not answered with GOOD, has not
  pub aside_stays : ((nexus tag : ℕ) → how_many (asks_by nexus tag) events < 2) → (x : ℕ) (r : Request) → IsIn (frames.Request r) events → first.waits r ≡ false → was_done answers r ≡ false → acted_by o.items x r ≡ false
  aside_stays once x r among never not_done =
      let e = split_at events (frames.Request r) among in
      let k = placed_at o.items (requests_of e.before) r (requests_of e.later) (o.requests ∙ ap requests_of e.split ∙ requests-append e.before (frames.Request r ∷ e.later)) in
      let aside = all_at (IsAside first answers) k.front k.back k.item (subst (AllByRecursion (IsAside first answers)) k.split o.aside) (ap first.waits k.is ∙ never) in
      ap (acted_by o.items x) (sym k.is)
      ∙ all_at (λ i. acted_by o.items x i.request ≡ i.acted x) k.front k.back k.item (subst (AllByRecursion (λ i. acted_by o.items x i.request ≡ i.acted x)) k.split (act_as_items once x))
      ∙ by_test (λ b. b ≡ false) (k.item.acted x) (λ yes. sym (aside.1 x yes) ∙ ap (was_done answers) k.is ∙ not_done) (λ no. refl)

  -- where it is faithful, exactly those have
  pub act_as_done : f ≡ true → ActAs (λ x. was_done answers)
  act_as_done faithful x = All-in (λ i. was_done answers i.request ≡ i.acted x) o.items
      (λ i among. both_imply (was_done answers i.request) (i.acted x) (λ h. in_all (IsSure first answers) o.items i o.sure among h x) (λ h. in_all (IsOnly first answers) o.items i (o.only faithful) among x h))
