-- A request that arrives keeps the order of arrival.
use Rattle.std.proofs.Common.{◌≡◌, ⊎_elim, refl, sym, ap, ◌∙◌, subst, ℕ, Bool, true, false, List, [], ◌∷◌, ◌++◌, arith, map, length}
use Rattle.std.specs.Prelude.{◌&&◌, ◌||◌, not, Ok}
use Rattle.std.specs.List.{AllByRecursion, list_any}
use Rattle.std.proofs.lemmas.List.{append-nil}
use Rattle.std.proofs.lemmas.List.Folds.{list_any-append}
use Rattle.satl_base.specs.declared.request.Request.{Request}
use Rattle.satl_base.specs.declared.reply.Reply.{Reply}
use Rattle.satl_base.specs.Lists.{how_many}
use Rattle.satl_base.proofs.ListsLemmas.{All-push_end, All-weaken, in_either, none_counted}
use Rattle.satl_cdb.specs.Table.{says}
use Rattle.satl_frame.specs.declared.frames.Frame.{Frame}
use Rattle.satl_frame.specs.declared.frames.Frame.TheVariants as frames
use Rattle.satl_frame.specs.Output.{Answer}
use Rattle.satl_frame.specs.Output.Answer.{replied}
use Rattle.satl_direct.specs.Device.{Device, is_called}
use Rattle.satl_direct.specs.Arrival.{Arrival, Arrives, ArrivesAs, arrival}
use Rattle.satl_direct.specs.Arrival.Arrival.{answered, attended, overlaps, waits}
use Rattle.satl_laws.specs.ArrivalOrder.{is_done, is_plain, read_at, stops_or_starts, was_done, writes_plainly}
use Rattle.satl_laws.specs.OnceEach.{answers_to, asks_by}
use Rattle.satl_laws.specs.OrderUnderErrors.{is_mild, waits_at}
use Rattle.satl_laws.proofs.Arrivals.{IsFor, IsTo, arrival_for}
use Rattle.satl_laws.proofs.Bringing.{Answers, Gets}
use Rattle.satl_laws.proofs.Arriving.{arrival_gets}
use Rattle.satl_laws.proofs.Calm.{IsCalm}
use Rattle.satl_laws.proofs.Cases.{how_many-append}
use Rattle.satl_laws.proofs.Given.{IsTold, right_on}
use Rattle.satl_laws.proofs.InOrder.{Begin, InOrder, IsAside, IsOnly, IsSure, sectors, trim}
use Rattle.satl_laws.proofs.InOrderArrivals.{answered_in_order}
use Rattle.satl_laws.proofs.InOrderWaits.{waits_in_order}
use Rattle.satl_laws.proofs.InOrderSteps.{InOrderAt, up_of}
use Rattle.satl_laws.proofs.Names.{one}
use Rattle.satl_laws.proofs.Flawless.{IsClean}
use Rattle.satl_laws.proofs.Items.{Item}

module _ (first : Begin) (exact : Bool) where
  -- an event that may stand in such a run
  abbrev pub MayStand : Frame → Type 0
  MayStand event = (is_mild first.device.identity.trim event ≡ true) × (exact ≡ true → is_plain first.device.identity.trim event ≡ true)

  -- ---- answers that are no replies

  -- the end of the input is told, or a task management function
  pub told_at : (events : List Frame) (answers : List Answer) (s : Device) (a : Answer) → ((r : Request) → is_done r a ≡ false) → ((nexus tag : ℕ) → answers_to nexus tag a ≡ false)
      → InOrderAt first exact events answers s → InOrderAt first exact events (answers ++ a ∷ []) s
  told_at events answers s a bad silent o = record {
    identity = o.identity;
    order = record {
      items = p.items;
      requests = p.requests;
      tasks_are = p.tasks_are;
      size = p.size;
      counts = λ nexus tag. let no : one (answers_to nexus tag a) ≡ 0 = ap one (silent nexus tag) in omega (arith, p.counts nexus tag, how_many-append (answers_to nexus tag) answers (a ∷ []), no);
      well = p.well;
      sorted = p.sorted;
      stands = p.stands;
      sure = All-weaken (IsSure first answers) (IsSure first now) (λ k sure h. sure (sym (same k.request) ∙ h)) p.items p.sure;
      only = λ f. All-weaken (IsOnly first answers) (IsOnly first now) (λ k only x h. same k.request ∙ only x h) p.items (p.only f);
      aside = All-weaken (IsAside first answers) (IsAside first now) (λ k aside no. let a = aside no in (a.0, λ x h. same k.request ∙ a.1 x h)) p.items p.aside;
      right = right_on (trim first) answers now p.items (read_at first.device.cells) (read_at first.device.cells) (λ x. false) (λ x. false) (λ x h. (refl, h)) (told p.items) p.right;
    };
    calm = o.calm;
    steady = o.steady;
  }
    where
      p : InOrder first events answers s.cells s.tasks (exact && not s.down)
      p = o.order

      now : List Answer
      now = answers ++ a ∷ []

      or_false : (b c : Bool) → c ≡ false → (b || (c || false)) ≡ b
      or_false true c h = refl
      or_false false c h = ap (λ k. k || false) h

      same : (r : Request) → was_done now r ≡ was_done answers r
      same r = list_any-append (is_done r) answers (a ∷ []) ∙ or_false (was_done answers r) (is_done r a) (bad r)

      told : (items : List Item) → AllByRecursion (IsTold (trim first) answers now) items
      told [] = tt
      told (k ∷ items) = (
        (λ q g. ⊎_elim (λ earlier. record { among = earlier; done = g.done })
            (⊎_elim (λ is. absurd (let no : true ≡ false = sym g.done ∙ ap (is_done k.request) is ∙ bad k.request in cc)) (λ nothing. absurd nothing))
            (in_either (replied q) answers (a ∷ []) g.among)),
        told items,
      )

  -- ---- arrivals

  -- a request arrives
  pub arrives_at : (events : List Frame) (answers : List Answer) (old new : Device) (r : Request) (said : List Reply) → length first.device.cells ≡ first.device.identity.capacity → how_many (asks_by r.nexus (r.tag).0) events ≡ 0
      → MayStand (frames.Request r) → (waits_at (arrival old r) ≡ true → first.waits r ≡ true) → Arrives r old said new → InOrderAt first exact events answers old → InOrderAt first exact (events ++ frames.Request r ∷ []) (answers ++ map replied said) new
  arrives_at events answers old new r said size unasked fits may h o = go (arrival old r) (arrival_for old r) gets may h
    where
      no_task : list_any (is_called r.nexus (r.tag).0) old.tasks ≡ false
      no_task = none_counted (is_called r.nexus (r.tag).0) old.tasks (omega (arith, o.order.counts r.nexus (r.tag).0, unasked))

      gets : Gets (sectors first) false (says r.cdb (trim first)) r.body (arrival old r)
      gets =
          subst (λ n. Gets n false (says r.cdb (trim first)) r.body (arrival old r)) (ap (λ i. i.capacity) o.identity ∙ sym size)
          (subst (λ t. Gets old.identity.capacity false (says r.cdb t) r.body (arrival old r)) (ap (λ i. i.trim) o.identity)
          (subst (λ b. Gets old.identity.capacity b (says r.cdb old.identity.trim) r.body (arrival old r)) no_task
          (arrival_gets old r (ap (λ i. writes_plainly (says r.cdb i.trim)) o.identity ∙ fits.0))))

      -- it is answered at once, and the device is this one
      at_once : (reply : Reply) → IsTo r reply → Answers (says r.cdb (trim first)) r.body reply → new.cells ≡ old.cells → new.tasks ≡ old.tasks → new.down ≡ old.down → new.started ≡ old.started → new.glitches ≡ old.glitches
          → new.identity ≡ old.identity → InOrderAt first exact (events ++ frames.Request r ∷ []) (answers ++ replied reply ∷ []) new
      at_once reply to g cells tasks down started glitches identity = record {
        identity = identity ∙ o.identity;
        order = same_order (answers ++ replied reply ∷ []) cells tasks down (answered_in_order first events answers old.cells old.tasks (exact && not old.down) r o.order unasked reply to g);
        calm = λ x up. same_calm cells started glitches (o.calm x (sym down ∙ up));
        steady = λ x. subst (λ ts. AllByRecursion (λ t. stops_or_starts (Ok t.command) ≡ false) ts) (sym tasks) (o.steady x);
      }
        where
          same_order : (told : List Answer) → new.cells ≡ old.cells → new.tasks ≡ old.tasks → new.down ≡ old.down → InOrder first (events ++ frames.Request r ∷ []) told old.cells old.tasks (exact && not old.down)
              → InOrder first (events ++ frames.Request r ∷ []) told new.cells new.tasks (exact && not new.down)
          same_order told c t d p =
              subst (λ k. InOrder first (events ++ frames.Request r ∷ []) told k new.tasks (exact && not new.down)) (sym c)
              (subst (λ k. InOrder first (events ++ frames.Request r ∷ []) told old.cells k (exact && not new.down)) (sym t)
              (subst (λ k. InOrder first (events ++ frames.Request r ∷ []) told old.cells old.tasks (exact && not k)) (sym d) p))

          same_calm : new.cells ≡ old.cells → new.started ≡ old.started → new.glitches ≡ old.glitches → IsCalm old → IsCalm new
          same_calm c s g k = record { started = s ∙ k.started; no_glitches = g ∙ k.no_glitches; clean = subst (AllByRecursion IsClean) (sym c) k.clean }

      go : (a : Arrival) → IsFor r a → Gets (sectors first) false (says r.cdb (trim first)) r.body a → (waits_at a ≡ true → first.waits r ≡ true) → ArrivesAs a r old said new → InOrderAt first exact (events ++ frames.Request r ∷ []) (answers ++ map replied said) new
      go (answered reply) to g can k =
          subst (λ l. InOrderAt first exact (events ++ frames.Request r ∷ []) (answers ++ map replied l) new) (sym k.0)
          (at_once reply to g (ap (λ d. d.cells) k.1) (ap (λ d. d.tasks) k.1) (ap (λ d. d.down) k.1) (ap (λ d. d.started) k.1) (ap (λ d. d.glitches) k.1) (ap (λ d. d.identity) k.1))
      go (attended reply) to g can k =
          subst (λ l. InOrderAt first exact (events ++ frames.Request r ∷ []) (answers ++ map replied l) new) (sym k.0)
          (at_once reply to g (ap (λ d. d.cells) k.1) (ap (λ d. d.tasks) k.1) (ap (λ d. d.down) k.1) (ap (λ d. d.started) k.1) (ap (λ d. d.glitches) k.1) (ap (λ d. d.identity) k.1))
      go (overlaps reply) to g can k = absurd cc
      go (waits task) to g can k =
          subst (λ l. InOrderAt first exact (events ++ frames.Request r ∷ []) (answers ++ map replied l) new) (sym k.0)
          (subst (λ l. InOrderAt first exact (events ++ frames.Request r ∷ []) l new) (sym (append-nil answers))
          (subst (InOrderAt first exact (events ++ frames.Request r ∷ []) answers) (sym k.1)
          (record {
            identity = o.identity;
            order = waits_in_order first events answers old.cells old.tasks (exact && not old.down) r o.order unasked task to g fits.0 (can refl);
            calm = λ x up. let c = o.calm x up in record { started = c.started; no_glitches = c.no_glitches; clean = c.clean };
            steady = λ x. All-push_end (λ t. stops_or_starts (Ok t.command) ≡ false) old.tasks task (o.steady x)
                (sym (ap stops_or_starts g.says_it) ∙ up_of (writes_plainly (says r.cdb (trim first))) (stops_or_starts (says r.cdb (trim first))) (fits.1 x));
          })))
