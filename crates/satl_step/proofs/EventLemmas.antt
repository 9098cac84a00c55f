-- What each event does, from what the layer did, and how it is told.
use Rattle.std.proofs.Common.{◌≡◌, refl, sym, ap, subst, arith, ℕ, suc, ◌+◌, ◌-◌, ◌≤◌, max, inl, inr, List, [], ◌∷◌, ◌++◌, length, map, take}
use Rattle.std.specs.Prelude.{Result, OnErr, OnOk}
use Rattle.std.proofs.lemmas.List.{length-append, length-map}
use Rattle.std.proofs.lemmas.Result.{on_err_weaker, on_ok_weaker}
use Rattle.satl_base.proofs.OutcomeLemmas.{on_both, on_both_err}
use Rattle.satl_base.specs.declared.bench.BenchEvent.{BenchEvent}
use Rattle.satl_base.specs.declared.reply.Reply.{Reply}
use Rattle.satl_base.specs.declared.reply.Response.{Response}
use Rattle.satl_base.specs.declared.request.Manage.{Manage}
use Rattle.satl_base.specs.declared.request.Request.{Request}
use Rattle.satl_io.specs.Known.{Wrote, WrotePart}
use Rattle.satl_frame.specs.declared.frames.Frame.{Frame}
use Rattle.satl_frame.specs.declared.frames.Frame.TheVariants as frames
use Rattle.satl_frame.specs.Output.{Answer}
use Rattle.satl_frame.specs.Output.Answer.{replied, managed, closed}
use Rattle.satl_frame.specs.Pulls.{cut_to}
use Rattle.satl_line.specs.Tasks.{Held, entries_of}
use Rattle.satl_direct.specs.Arrival.{Arrives}
use Rattle.satl_direct.specs.Bench.{Happens}
use Rattle.satl_direct.specs.Quiet.{Around}
use Rattle.satl_direct.specs.Tasks.{task_of}
use Rattle.satl_direct.specs.Device.{Device}
use Rattle.satl_direct.specs.Turn.{Turn}
use Rattle.satl_direct.specs.Run.{CutTurns, Does, DoesShort, IsLastStep, Manages, MayLose, TurnsOf, depth}
use Rattle.satl_direct.specs.Run.TurnsOf.{none, more}
use Rattle.satl_core.specs.Layer.{Layer}
use Rattle.satl_core.specs.Submitting.{IsCutOf}
use Rattle.satl_step.specs.Telling.{IsTold, IsToldInPart, IsToldInto, Telling}
use Rattle.satl_step.specs.Events.{Carried, Done, DoneInPart, IsTallied, Scene, SomeTurnsTold, TurnsTold}
use Rattle.satl_step.specs.Runs.{IsDeep, Stand}
use Rattle.satl_step.specs.Serving.{WholeOrInPart}
use Rattle.satl_step.proofs.LostLemmas.{turns_lost}
use Rattle.satl_step.proofs.TallyLemmas.{end_tallied, turns_on, turns_start}
use Rattle.satl_step.proofs.TellingLemmas.{into_first, into_more, part_before, part_one, told_more, told_none, told_one, told_part}

pub map-append : (xs ys : List Reply) → map replied (xs ++ ys) ≡ map replied xs ++ map replied ys
map-append [] ys = refl
map-append (x ∷ xs) ys = ap (λ l. replied x ∷ l) (map-append xs ys)

-- ---- one turn

pub zero_turns : (n : ℕ) (s new : Device) (replies : List Reply) (deep : ℕ) → n ≡ 0 → TurnsOf n s replies new deep → (new ≡ s) × (replies ≡ []) × (deep ≡ 0)
zero_turns n s new replies deep is none = (refl, refl, refl)
zero_turns n s new replies deep is (more a step) = absurd (omega (arith, is))

-- one turn, and the depth after it
pub record OneTurn (s : Device) (replies : List Reply) (new : Device) (deep : ℕ) : Type 0 where
  pub step : Around Turn s replies new
  pub deep_is : deep ≡ max 0 (depth new)

pub one_turn : (n : ℕ) (s new : Device) (replies : List Reply) (deep : ℕ) → n ≡ 1 → TurnsOf n s replies new deep → OneTurn s replies new deep
one_turn n s new replies deep is none = absurd (omega (arith, is))
one_turn n s new replies deep is (more {n = m} {mid = mid} {earlier = first} {rest = rest} a step) =
    let z = zero_turns m s mid first _ (omega (arith, is)) a in
    record {
      step = subst (λ l. Around Turn s (l ++ rest) new) (sym z.1) (subst (λ x. Around Turn x rest new) z.0 step);
      deep_is = ap (λ n. max n (depth new)) z.2;
    }

-- ---- whole events

-- a request of which this one is the cut form
pub record WholeRequest (room : ℕ) (whole : Frame) (r : Request) : Type 0 where
  pub w : Request
  pub is : whole ≡ frames.Request w
  pub cut : r ≡ record w { body = take room w.body }

whole_request : (room : ℕ) (r : Request) (whole : Frame) → frames.Request r ≡ cut_to room whole → WholeRequest room whole r
whole_request room r (frames.Request w) e = record { w = w; is = refl; cut = cc }
whole_request room r (frames.Manage m) e = absurd cc
whole_request room r (frames.Turn k) e = absurd cc
whole_request room r (frames.Bench event) e = absurd cc
whole_request room r frames.End e = absurd cc

whole_turn : (room n : ℕ) (whole : Frame) → frames.Turn n ≡ cut_to room whole → whole ≡ frames.Turn n
whole_turn room n (frames.Request w) e = absurd cc
whole_turn room n (frames.Manage m) e = absurd cc
whole_turn room n (frames.Turn k) e = cc
whole_turn room n (frames.Bench event) e = absurd cc
whole_turn room n frames.End e = absurd cc

whole_end : (room : ℕ) (whole : Frame) → frames.End ≡ cut_to room whole → whole ≡ frames.End
whole_end room (frames.Request w) e = absurd cc
whole_end room (frames.Manage m) e = absurd cc
whole_end room (frames.Turn k) e = absurd cc
whole_end room (frames.Bench event) e = absurd cc
whole_end room frames.End e = refl

whole_manage : (room : ℕ) (m : Manage) (whole : Frame) → frames.Manage m ≡ cut_to room whole → whole ≡ frames.Manage m
whole_manage room m (frames.Request w) e = absurd cc
whole_manage room m (frames.Manage k) e = cc
whole_manage room m (frames.Turn k) e = absurd cc
whole_manage room m (frames.Bench event) e = absurd cc
whole_manage room m frames.End e = absurd cc

whole_bench : (room : ℕ) (event : BenchEvent) (whole : Frame) → frames.Bench event ≡ cut_to room whole → whole ≡ frames.Bench event
whole_bench room event (frames.Request w) e = absurd cc
whole_bench room event (frames.Manage m) e = absurd cc
whole_bench room event (frames.Turn k) e = absurd cc
whole_bench room event (frames.Bench k) e = cc
whole_bench room event frames.End e = absurd cc

-- ---- what they do

pub carried_request : (r : Request) (a c : Stand) (replies : List Reply) → ((whole : Request) → IsCutOf whole r → Around (MayLose (Arrives whole)) a.device replies c.device) → (IsDeep a.tally → depth c.device ≤ c.tally.deepest) → Carried (frames.Request r) a (map replied replies) c
carried_request r a c replies step covered = record {
  deep = depth c.device;
  does = λ whole is.
      let found = whole_request is.room r whole is.cut in
      subst (λ f. Does f a.device (map replied replies) c.device (depth c.device)) (sym found.is) (replies, refl, step found.w (record { count = is.room; cut_is = found.cut }), refl);
  covered = covered;
}

pub carried_manage : (m : Manage) (response : Response) (a c : Stand) (replies : List Reply) → Around (MayLose (Manages m response)) a.device replies c.device → (IsDeep a.tally → depth c.device ≤ c.tally.deepest) → Carried (frames.Manage m) a (map replied replies ++ managed m.nexus m.function response m.tag ∷ []) c
carried_manage m response a c replies step covered = record {
  deep = depth c.device;
  does = λ whole is. subst (λ f. Does f a.device (map replied replies ++ managed m.nexus m.function response m.tag ∷ []) c.device (depth c.device)) (sym (whole_manage is.room m whole is.cut))
      (record { response = response; replies = replies; step = step; answer = refl }, refl);
  covered = covered;
}

pub carried_bench : (event : BenchEvent) (a c : Stand) (replies : List Reply) → Around (Happens event) a.device replies c.device → (IsDeep a.tally → depth c.device ≤ c.tally.deepest) → Carried (frames.Bench event) a (map replied replies) c
carried_bench event a c replies step covered = record {
  deep = depth c.device;
  does = λ whole is. subst (λ f. Does f a.device (map replied replies) c.device (depth c.device)) (sym (whole_bench is.room event whole is.cut)) (replies, refl, step, refl);
  covered = covered;
}

pub carried_turns : (n : ℕ) (a c : Stand) (replies : List Reply) (deep : ℕ) → TurnsOf n a.device replies c.device deep → (IsDeep a.tally → deep ≤ c.tally.deepest) → (IsDeep a.tally → depth c.device ≤ c.tally.deepest) → Carried (frames.Turn n) a (map replied replies) c
carried_turns n a c replies deep turns covered last = record {
  deep = max deep (depth c.device);
  does = λ whole is. subst (λ f. Does f a.device (map replied replies) c.device (max deep (depth c.device))) (sym (whole_turn is.room n whole is.cut)) (replies, deep, refl, turns, refl);
  covered = λ deep_before. omega (arith, covered deep_before, last deep_before);
}

pub carried_end : (n : ℕ) (a c : Stand) (replies : List Reply) (deep : ℕ) → TurnsOf n a.device replies c.device deep → (IsDeep a.tally → deep ≤ c.tally.deepest) → c.device.tasks ≡ [] → Carried frames.End a (map replied replies ++ closed ∷ []) c
carried_end n a c replies deep turns covered empty = record {
  deep = deep;
  does = λ whole is. subst (λ f. Does f a.device (map replied replies ++ closed ∷ []) c.device deep) (sym (whole_end is.room whole is.cut)) (replies, refl, record { count = n; turns = turns; empty = empty });
  covered = covered;
}

none_left : (tasks : List Held) → length tasks ≤ 0 → map task_of (entries_of tasks) ≡ []
none_left [] few = refl
none_left (h ∷ tasks) few = absurd (omega (arith, few))

-- an event was cut short behind the turn that follows so many
cut_turns : (event : Frame) (s new : Device) (count : ℕ) → CutTurns event (suc count) → (before : List Reply) (mid : Device) (deep : ℕ) → TurnsOf count s before mid deep → (replies : List Reply) → Around Turn mid replies new → DoesShort event s (map replied before) (map replied replies) new
cut_turns event s new count asked before mid deep turns replies turn = record {
  count = count;
  asked = asked;
  before = before;
  mid = mid;
  deep = deep;
  turns = turns;
  earlier_are = refl;
  replies = replies;
  turn = turn;
  last_are = refl;
}

-- turns that leave no task
pub all_ended : (n : ℕ) (l new : Layer) → n ≡ length l.tasks → length new.tasks ≤ length l.tasks - n → map task_of (entries_of new.tasks) ≡ []
all_ended n l new all few = none_left new.tasks (omega (arith, all, few))

-- ---- and how it is told

module _ {T : Type 0} (told : T → Answer → List ℕ) (behind : T → Answer → T) where
  -- ---- turns

  pub turns_none : (a : Scene T) → TurnsTold told behind 0 a a
  turns_none a = record { replies = []; deep = 0; turns = none; covered = λ deep. omega arith; tallied = turns_start a.stand; told_so = told_none told behind a.telling }

  -- a turn that ended
  pub turn_end : {X E : Type 0} (a c : Scene T) (replies : List Reply) (r : Result X E) → Around Turn a.stand.device replies c.stand.device → (IsDeep a.stand.tally → depth c.stand.device ≤ c.stand.tally.deepest) → IsTallied (frames.Turn 1) a.stand c.stand → OnOk r (IsTold told behind a.telling c.telling (map replied replies)) → OnErr r (1 ≤ length replies) → OnErr r (IsToldInPart told behind a.telling c.telling (map replied replies)) → WholeOrInPart (TurnsTold told behind 1) (SomeTurnsTold told behind 1) a c r
  turn_end a c replies r step covered tallied all some part = record {
    whole = on_ok_weaker r (λ told_so. record {
      replies = replies;
      deep = max 0 (depth c.stand.device);
      turns = more none step;
      covered = λ deep. omega (arith, covered deep);
      tallied = tallied;
      told_so = told_so;
    }) all;
    part = on_both_err r _ _ _ (λ some told_so. record {
      taken = 0;
      few = omega arith;
      earlier = [];
      mid = a.stand.device;
      deep = 0;
      turns = none;
      replies = replies;
      some = some;
      turn = step;
      tallied = tallied;
      told_so = into_first told behind a.telling c.telling (map replied replies) told_so;
    }) some part;
  }

  pub turns_more : (n : ℕ) (a b c : Scene T) → TurnsTold told behind n a b → TurnsTold told behind 1 b c → TurnsTold told behind (n + 1) a c
  turns_more n a b c first rest =
      let new = c.stand.device in
      let turn = one_turn 1 b.stand.device new rest.replies rest.deep refl rest.turns in
      record {
        replies = first.replies ++ rest.replies;
        deep = max first.deep (depth new);
        turns = subst (λ m. TurnsOf m a.stand.device (first.replies ++ rest.replies) new (max first.deep (depth new))) (omega arith) (more first.turns turn.step);
        covered = λ deep. omega (arith, first.covered deep, rest.covered (first.tallied.queue.covers deep), turn.deep_is, rest.tallied.queue.rises);
        tallied = turns_on n 1 (n + 1) a.stand b.stand c.stand (turns_lost n _ first.replies _ first.deep first.turns) first.tallied rest.tallied;
        told_so = subst (λ l. IsTold told behind a.telling c.telling l) (sym (map-append first.replies rest.replies)) (told_more told behind a.telling b.telling c.telling (map replied first.replies) (map replied rest.replies) first.told_so rest.told_so);
      }

  pub turns_cut : (n count : ℕ) (a b c : Scene T) → n + 1 ≤ count → TurnsTold told behind n a b → SomeTurnsTold told behind 1 b c → SomeTurnsTold told behind count a c
  turns_cut n count a b c few first rest =
      let at = zero_turns rest.taken b.stand.device rest.mid rest.earlier rest.deep (omega (arith, rest.few)) rest.turns in
      record {
        taken = n;
        few = omega (arith, few);
        earlier = first.replies;
        mid = b.stand.device;
        deep = first.deep;
        turns = first.turns;
        replies = rest.replies;
        some = rest.some;
        turn = subst (λ mid. Around Turn mid rest.replies c.stand.device) at.0 rest.turn;
        tallied = turns_on n 1 count a.stand b.stand c.stand (turns_lost n _ first.replies _ first.deep first.turns) first.tallied rest.tallied;
        told_so = into_more told behind a.telling b.telling c.telling (map replied first.replies) (map replied rest.replies) first.told_so (subst (λ l. IsToldInto told behind b.telling c.telling (map replied l) (map replied rest.replies)) at.1 rest.told_so);
      }

  -- ---- whole events

  -- an event that is known
  pub ends_is : {X E : Type 0} (event known : Frame) (a c : Scene T) (r : Result X E) → event ≡ known → WholeOrInPart (Done told behind known) (DoneInPart told behind known) a c r → WholeOrInPart (Done told behind event) (DoneInPart told behind event) a c r
  ends_is event known a c r is ends = subst (λ e. WholeOrInPart (Done told behind e) (DoneInPart told behind e) a c r) (sym is) ends

  turns_done : (n : ℕ) (a c : Scene T) → TurnsTold told behind n a c → (IsDeep a.stand.tally → depth c.stand.device ≤ c.stand.tally.deepest) → Done told behind (frames.Turn n) a c
  turns_done n a c turns last = record { answers = map replied turns.replies; carried = carried_turns n a.stand c.stand turns.replies turns.deep turns.turns turns.covered last; tallied = turns.tallied; told_so = turns.told_so }

  turns_in_part : (n : ℕ) (a c : Scene T) → SomeTurnsTold told behind n a c → DoneInPart told behind (frames.Turn n) a c
  turns_in_part n a c turns = record {
    earlier = map replied turns.earlier;
    last = map replied turns.replies;
    some = omega (arith, length-map turns.replies replied, turns.some);
    carried = inr (cut_turns (frames.Turn n) a.stand.device c.stand.device turns.taken turns.few turns.earlier turns.mid turns.deep turns.turns turns.replies turns.turn);
    tallied = turns.tallied;
    told_so = turns.told_so;
  }

  -- turns that ended, which were an event
  pub turns_end : {X E : Type 0} (n : ℕ) (a c : Scene T) (r : Result X E) → WholeOrInPart (TurnsTold told behind n) (SomeTurnsTold told behind n) a c r → OnOk r (depth c.stand.device ≤ c.stand.tally.outstanding) → WholeOrInPart (Done told behind (frames.Turn n)) (DoneInPart told behind (frames.Turn n)) a c r
  turns_end n a c r turns deep = record {
    whole = on_both r _ _ _ (λ turns deep. turns_done n a c turns (λ before. omega (arith, deep, turns.tallied.queue.covers before))) turns.whole deep;
    part = on_err_weaker r (turns_in_part n a c) turns.part;
  }

  pub end_done : (n : ℕ) (a b c : Scene T) → b.stand ≡ c.stand → c.stand.device.tasks ≡ [] → TurnsTold told behind n a b → Wrote b.telling.written c.telling.written (told b.telling.teller closed) → c.telling.teller ≡ behind b.telling.teller closed → Done told behind frames.End a c
  end_done n a b c same empty turns wrote next = record {
    answers = map replied turns.replies ++ closed ∷ [];
    carried = carried_end n a.stand c.stand turns.replies turns.deep (subst (λ s. TurnsOf n a.stand.device turns.replies s.device turns.deep) same turns.turns) (subst (λ s. IsDeep a.stand.tally → turns.deep ≤ s.tally.deepest) same turns.covered) empty;
    tallied = end_tallied n a.stand c.stand (subst (λ s. IsTallied (frames.Turn n) a.stand s) same turns.tallied);
    told_so = told_more told behind a.telling b.telling c.telling (map replied turns.replies) (closed ∷ []) turns.told_so (told_one told behind b.telling c.telling closed wrote next);
  }

  pub end_in_part : (n : ℕ) (a b c : Scene T) → b.stand ≡ c.stand → c.stand.device.tasks ≡ [] → TurnsTold told behind n a b → WrotePart b.telling.written c.telling.written (told b.telling.teller closed) → DoneInPart told behind frames.End a c
  end_in_part n a b c same empty turns part = record {
    earlier = map replied turns.replies;
    last = closed ∷ [];
    some = omega arith;
    carried = inl (carried_end n a.stand c.stand turns.replies turns.deep (subst (λ s. TurnsOf n a.stand.device turns.replies s.device turns.deep) same turns.turns) (subst (λ s. IsDeep a.stand.tally → turns.deep ≤ s.tally.deepest) same turns.covered) empty, refl);
    tallied = end_tallied n a.stand c.stand (subst (λ s. IsTallied (frames.Turn n) a.stand s) same turns.tallied);
    told_so = record { mid = b.telling; whole = turns.told_so; front = part_one told behind b.telling c.telling closed part };
  }

  pub end_cut : (n : ℕ) (a c : Scene T) → SomeTurnsTold told behind n a c → DoneInPart told behind frames.End a c
  end_cut n a c turns = record {
    earlier = map replied turns.earlier;
    last = map replied turns.replies;
    some = omega (arith, length-map turns.replies replied, turns.some);
    carried = inr (cut_turns frames.End a.stand.device c.stand.device turns.taken tt turns.earlier turns.mid turns.deep turns.turns turns.replies turns.turn);
    tallied = end_tallied n a.stand c.stand turns.tallied;
    told_so = turns.told_so;
  }

  -- an event whose answers are replies
  pub replies_end : {X E : Type 0} (event : Frame) (a c : Scene T) (replies : List Reply) (r : Result X E) → IsLastStep event [] (map replied replies) → Carried event a.stand (map replied replies) c.stand → IsTallied event a.stand c.stand → OnOk r (IsTold told behind a.telling c.telling (map replied replies)) → OnErr r (1 ≤ length replies) → OnErr r (IsToldInPart told behind a.telling c.telling (map replied replies)) → WholeOrInPart (Done told behind event) (DoneInPart told behind event) a c r
  replies_end event a c replies r step carried tallied all some part = record {
    whole = on_ok_weaker r (λ told_so. record { answers = map replied replies; carried = carried; tallied = tallied; told_so = told_so }) all;
    part = on_both_err r _ _ _ (λ some told_so. record { earlier = []; last = map replied replies; some = omega (arith, length-map replies replied, some); carried = inl (carried, step); tallied = tallied; told_so = into_first told behind a.telling c.telling (map replied replies) told_so }) some part;
  }

  -- a task management function, whose response comes behind replies
  module _ (m : Manage) (response : Response) (a c : Scene T) (replies : List Reply) (step : Around (MayLose (Manages m response)) a.stand.device replies c.stand.device) (covered : IsDeep a.stand.tally → depth c.stand.device ≤ c.stand.tally.deepest) (tallied : IsTallied (frames.Manage m) a.stand c.stand) where
    abbrev last : Answer
    last = managed m.nexus m.function response m.tag

    -- it is told behind them
    pub manage_done : (b : Telling T) → IsTold told behind a.telling b (map replied replies) → Wrote b.written c.telling.written (told b.teller last) → c.telling.teller ≡ behind b.teller last → Done told behind (frames.Manage m) a c
    manage_done b told_so wrote next = record {
      answers = map replied replies ++ last ∷ [];
      carried = carried_manage m response a.stand c.stand replies step covered;
      tallied = tallied;
      told_so = told_more told behind a.telling b c.telling (map replied replies) (last ∷ []) told_so (told_one told behind b c.telling last wrote next);
    }

    told_to_a_front : IsToldInPart told behind a.telling c.telling (map replied replies ++ last ∷ []) → DoneInPart told behind (frames.Manage m) a c
    told_to_a_front front = record {
      earlier = [];
      last = map replied replies ++ last ∷ [];
      some = omega (arith, length-append (map replied replies) (last ∷ []));
      carried = inl (carried_manage m response a.stand c.stand replies step covered, refl);
      tallied = tallied;
      told_so = into_first told behind a.telling c.telling (map replied replies ++ last ∷ []) front;
    }

    -- a write failed in it
    pub manage_in_part : (b : Telling T) → IsTold told behind a.telling b (map replied replies) → WrotePart b.written c.telling.written (told b.teller last) → DoneInPart told behind (frames.Manage m) a c
    manage_in_part b told_so part = told_to_a_front (told_part told behind a.telling b c.telling (map replied replies) (last ∷ []) told_so (part_one told behind b c.telling last part))

    -- a write failed before it
    pub manage_before : IsToldInPart told behind a.telling c.telling (map replied replies) → DoneInPart told behind (frames.Manage m) a c
    manage_before part = told_to_a_front (part_before told behind a.telling c.telling (map replied replies) (last ∷ []) part)
