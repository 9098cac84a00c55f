-- A request that is answered as it arrives keeps the order of arrival.
use Rattle.std.proofs.Common.{◌≡◌, ⊎_elim, refl, sym, ap, ◌∙◌, subst, ℕ, Bool, true, false, List, [], ◌∷◌, ◌++◌, None, arith, map}
use Rattle.std.specs.Prelude.{◌||◌, if◌then◌else◌}
use Rattle.std.specs.List.{AllByRecursion, range_with_len}
use Rattle.std.proofs.lemmas.List.{append-nil, map-append}
use Rattle.std.proofs.lemmas.List.Folds.{list_any-append}
use Rattle.std.proofs.Math.Bool.{or-false}
use Rattle.satl_base.specs.declared.block.Block.{Block}
use Rattle.satl_base.specs.declared.request.Request.{Request}
use Rattle.satl_base.specs.declared.reply.Reply.{Reply}
use Rattle.satl_base.specs.Cells.{Cell}
use Rattle.satl_base.specs.Lists.{how_many}
use Rattle.satl_base.proofs.ListsLemmas.{All-push_end, All-weaken, in_either}
use Rattle.satl_cdb.specs.Table.{says}
use Rattle.satl_frame.specs.declared.frames.Frame.{Frame}
use Rattle.satl_frame.specs.declared.frames.Frame.TheVariants as frames
use Rattle.satl_frame.specs.Output.{Answer}
use Rattle.satl_frame.specs.Output.Answer.{replied}
use Rattle.satl_line.specs.declared.entry.Entry.{Entry}
use Rattle.satl_laws.specs.ArrivalOrder.{IsGoodReply, IsReadOf, brought, is_done, is_good, read_at, was_done}
use Rattle.satl_laws.specs.OnceEach.{answers_to, asks_by}
use Rattle.satl_laws.proofs.Arrivals.{IsTo}
use Rattle.satl_laws.proofs.Bringing.{Answers}
use Rattle.satl_laws.proofs.Cases.{how_many-append}
use Rattle.satl_laws.proofs.Weighing.{weigh}
use Rattle.satl_laws.proofs.Given.{GivesRight, IsTold, right_on, right_push}
use Rattle.satl_laws.proofs.InOrder.{Begin, InOrder, IsAside, IsOnly, IsSure, holds, sectors, trim}
use Rattle.satl_laws.proofs.Items.{IsWell, Item, held-append, left, waiting, waiting-append}
use Rattle.satl_laws.proofs.Names.{none_done, none_in, one_reply}
use Rattle.satl_laws.proofs.Requests.{asked_as_often, has_name, how_many-map, none_pass, requests-append, requests_of}
use Rattle.satl_laws.proofs.Rows.{all_from}
use Rattle.satl_laws.proofs.Seen.{by_test, range_none}
use Rattle.satl_laws.proofs.Settling.{pending, sorted_push}
use Rattle.satl_laws.proofs.Standing.{Stands}
use Rattle.satl_laws.proofs.Tasks.{done_good, good_done, reply_named, reply_other}

module _ (first : Begin) where
  module _ (events : List Frame) (answers : List Answer) (cells : List Cell) (tasks : List Entry) (faithful : Bool) (r : Request) (o : InOrder first events answers cells tasks faithful)
      (unasked : how_many (asks_by r.nexus (r.tag).0) events ≡ 0) where
    -- a request has another nexus or tag
    abbrev IsOther : Item → Type 0
    IsOther k = has_name r.nexus (r.tag).0 k.request ≡ false

    -- each one before has
    apart : AllByRecursion IsOther o.items
    apart = none_pass (λ k. has_name r.nexus (r.tag).0 k.request) o.items
        (sym (how_many-map (λ k. k.request) (has_name r.nexus (r.tag).0) o.items) ∙ ap (how_many (has_name r.nexus (r.tag).0)) o.requests ∙ asked_as_often r.nexus (r.tag).0 events ∙ unasked)

    -- nor an answer
    pub not_done : was_done answers r ≡ false
    not_done = none_done r answers (omega (arith, o.counts r.nexus (r.tag).0, unasked))

    -- the requests, and one more
    abbrev pub more_requests : Item → Type 0
    more_requests j = map (λ i. i.request) (o.items ++ j ∷ []) ≡ requests_of (events ++ frames.Request r ∷ [])

    pub requests_push : (j : Item) → j.request ≡ r → more_requests j
    requests_push j same =
        map-append (λ i. i.request) o.items (j ∷ []) ∙ ap (λ l. l ++ j.request ∷ []) o.requests ∙ ap (λ q. requests_of events ++ q ∷ []) same ∙ sym (requests-append events (frames.Request r ∷ []))

    -- it is answered at once
    pub answered_in_order : (reply : Reply) → IsTo r reply → Answers (says r.cdb (trim first)) r.body reply → InOrder first (events ++ frames.Request r ∷ []) (answers ++ replied reply ∷ []) cells tasks faithful
    answered_in_order reply to says_so = record {
      items = o.items ++ mine ∷ [];
      requests = requests_push mine refl;
      tasks_are = o.tasks_are ∙ sym (append-nil (waiting o.items)) ∙ sym (waiting-append o.items (mine ∷ []));
      size = o.size;
      counts = λ nexus tag.
          let named : weigh nexus tag reply.nexus reply.tag ≡ weigh nexus tag r.nexus r.tag = ap (λ k. weigh nexus tag k reply.tag) to.nexus ∙ ap (weigh nexus tag r.nexus) to.tag in
          omega (arith, o.counts nexus tag, named, how_many-append (answers_to nexus tag) answers (replied reply ∷ []), how_many-append (asks_by nexus tag) events (frames.Request r ∷ []));
      well = All-push_end (IsWell (trim first) (sectors first)) o.items mine o.well (record { waits = tt });
      sorted = λ x inside. sorted_push (trim first) x o.items mine (idle x) (o.sorted x inside);
      stands = λ x inside. subst (λ h. Stands x (read_at cells x) h tasks) (sym (held-append (trim first) x (read_at first.device.cells x) o.items (mine ∷ []) ∙ idle x (holds first o.items x))) (o.stands x inside);
      sure = All-push_end (IsSure first now) o.items mine (all_from IsOther (IsSure first answers) (IsSure first now) sure_other o.items apart o.sure) (λ h x. done_good r reply (sym its_own ∙ h));
      only = λ f. All-push_end (IsOnly first now) o.items mine (all_from IsOther (IsOnly first answers) (IsOnly first now) only_other o.items apart (o.only f)) (λ x good. its_own ∙ good_done r reply (reply_named r reply to.nexus to.tag) good);
      aside = All-push_end (IsAside first now) o.items mine (all_from IsOther (IsAside first answers) (IsAside first now) aside_other o.items apart o.aside)
          (λ no. (refl, λ x good. its_own ∙ good_done r reply (reply_named r reply to.nexus to.tag) good));
      right = right_push (trim first) now o.items mine (read_at first.device.cells) (λ x. false) mine_right
          (right_on (trim first) answers now o.items (read_at first.device.cells) (read_at first.device.cells) (λ x. false) (λ x. false) (λ x h. (refl, h)) (All-weaken IsOther (IsTold (trim first) answers now) told_other o.items apart) o.right);
    }
      where
        now : List Answer
        now = answers ++ replied reply ∷ []

        mine : Item
        mine = record { request = r; task = None; acted = λ x. is_good reply.status }

        -- who is done now
        now_done : (q : Request) → was_done now q ≡ (was_done answers q || (is_done q (replied reply) || false))
        now_done q = list_any-append (is_done q) answers (replied reply ∷ [])

        its_own : was_done now r ≡ (is_done r (replied reply) || false)
        its_own = now_done r ∙ ap (λ b. b || (is_done r (replied reply) || false)) not_done

        idle : (x : ℕ) (w : Block) → left (trim first) mine x w ≡ w
        idle x w = by_test (λ b. (if b then brought (says r.cdb (trim first)) r.body x w else w) ≡ w) (is_good reply.status) (λ good. says_so.writes_none good x w) (λ bad. refl)

        other : (q : Request) → has_name r.nexus (r.tag).0 q ≡ false → (is_done q (replied reply) || false) ≡ false
        other q h = reply_other r.nexus (r.tag).0 q reply to.nexus (ap (λ k. k.0) to.tag) h

        sure_other : (k : Item) → IsOther k → IsSure first answers k → IsSure first now k
        sure_other k apart_k sure h x = sure (sym (now_done k.request ∙ ap (λ b. was_done answers k.request || b) (other k.request apart_k) ∙ or-false (was_done answers k.request)) ∙ h) x

        only_other : (k : Item) → IsOther k → IsOnly first answers k → IsOnly first now k
        only_other k apart_k only x h = now_done k.request ∙ ap (λ b. b || (is_done k.request (replied reply) || false)) (only x h)

        aside_other : (k : Item) → IsOther k → IsAside first answers k → IsAside first now k
        aside_other k apart_k aside never = let a = aside never in (a.0, only_other k apart_k a.1)

        told_other : (k : Item) → IsOther k → IsTold (trim first) answers now k
        told_other k apart_k q g =
            ⊎_elim (λ earlier. record { among = earlier; done = g.done })
            (λ later. absurd (let no : true ≡ false = sym g.done ∙ none_in (is_done k.request) (replied reply ∷ []) (replied q) (other k.request apart_k) later in cc))
            (in_either (replied q) answers (replied reply ∷ []) g.among)

        mine_right : (q : Reply) (lba count : ℕ) → IsReadOf (says r.cdb (trim first)) lba count → IsGoodReply r q now → GivesRight (trim first) (holds first o.items) (pending (λ x. false) o.items) q lba count
        mine_right q lba count reads g =
            ⊎_elim (λ earlier. absurd (let no : true ≡ false = sym g.done ∙ none_in (is_done r) answers (replied q) not_done earlier in cc))
            (⊎_elim (λ same. it (one_reply q reply same)) (λ nothing. absurd nothing))
            (in_either (replied q) answers (replied reply ∷ []) g.among)
          where
            it : q ≡ reply → GivesRight (trim first) (holds first o.items) (pending (λ x. false) o.items) q lba count
            it same =
                let k = says_so.reads_none (done_good r reply (ap (λ b. b || false) (ap (λ a. is_done r (replied a)) (sym same) ∙ g.done))) lba count reads in
                record {
                  blocks = ap (λ a. a.body) same ∙ k.1 ∙ sym (ap (λ m. map (holds first o.items) (range_with_len lba m)) k.0 ∙ range_none lba (holds first o.items));
                  settled = λ x from to. absurd (omega (arith, from, to, k.0));
                }
