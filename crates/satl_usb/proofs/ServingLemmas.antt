-- A request and one turn, from what each of them did.
use Rattle.std.proofs.Common.{rules, ◌≡◌, inl, inr, refl, sym, ap, subst, ◌∙◌, arith, ℕ, suc, ◌≤◌, max, List, [], ◌∷◌, ◌++◌, length, map}
use Rattle.std.specs.Prelude.{Result}
use Rattle.std.proofs.lemmas.List.{append-nil, length-append, take_all}
use Rattle.std.proofs.lemmas.Result.{on_err_weaker, on_ok_weaker}
use Rattle.satl_base.specs.declared.reply.Reply.{Reply}
use Rattle.satl_base.specs.declared.request.Request.{Request}
use Rattle.satl_frame.specs.declared.frames.Frame.TheVariants as frames
use Rattle.satl_frame.specs.Output.{Answer}
use Rattle.satl_frame.specs.Output.Answer.{replied}
use Rattle.satl_line.specs.Tasks.{Held, entries_of}
use Rattle.satl_direct.specs.Device.{Device}
use Rattle.satl_direct.specs.Arrival.{Arrives}
use Rattle.satl_direct.specs.Quiet.{Around}
use Rattle.satl_direct.specs.Tasks.{task_of}
use Rattle.satl_direct.specs.Turn.{Turn}
use Rattle.satl_direct.specs.Turn.Turn.{idle}
use Rattle.satl_direct.specs.Run.{DoesShort, MayLose, TurnsOf, depth}
use Rattle.satl_direct.specs.Run.TurnsOf.{none, more}
use Rattle.satl_direct.proofs.Quieting.{quiet_none}
use Rattle.satl_laws.proofs.CutShort.{as_turns}
use Rattle.satl_laws.proofs.OneReply.{Half, around_half, one_reply}
use Rattle.satl_laws.proofs.OneReply.Half.{given, held}
use Rattle.satl_core.proofs.CountedLemmas.{counted_same}
use Rattle.satl_step.specs.Events.{Carried, CarriedInPart, Done, DoneInPart, IsTallied, Scene}
use Rattle.satl_step.specs.Runs.{Stand}
use Rattle.satl_step.specs.Telling.{IsTold, IsToldInPart}
use Rattle.satl_step.specs.Serving.{WholeOrInPart}
use Rattle.satl_step.proofs.EventLemmas.{carried_turns, map-append, one_turn}
use Rattle.satl_step.proofs.RunLemmas.{covers_same}
use Rattle.satl_step.proofs.TellingLemmas.{into_part, told_more, told_part}
use Rattle.satl_usb.specs.Serving.{BothCarried, Exchanged, ExchangedInPart}

-- ---- what each of the two did

-- what a request did, as replies
pub record Arrived (r : Request) (s : Device) (first : List Answer) (mid : Device) : Type 0 where
  pub replies : List Reply
  pub answers : first ≡ map replied replies
  pub step : Around (MayLose (Arrives r)) s replies mid

-- what a turn did
pub record Turned (s : Device) (second : List Answer) (new : Device) : Type 0 where
  pub replies : List Reply
  pub answers : second ≡ map replied replies
  pub step : Around Turn s replies new

arrived : (r : Request) (a b : Stand) (first : List Answer) → Carried (frames.Request r) a first b → Arrived r a.device first b.device
arrived r a b first c =
    let does = c.does (frames.Request r) (record { room = length r.body; cut = ap (λ l. frames.Request (record r { body = l })) (sym (take_all (length r.body) r.body (omega arith))) }) in
    record { replies = does.0; answers = does.1; step = does.2 }

turned : (a b : Stand) (second : List Answer) → Carried (frames.Turn 1) a second b → Turned a.device second b.device
turned a b second c =
    let does = c.does (frames.Turn 1) (record { room = 0; cut = refl }) in
    record { replies = does.0; answers = does.2; step = (one_turn 1 a.device b.device does.0 does.1 refl does.3).step }

-- without tasks nothing is outstanding
no_depth : (s : Device) → s.tasks ≡ [] → depth s ≡ 0
no_depth s empty = search rules

-- ---- both

both : (r : Request) (a b c : Stand) (first second : List Answer) → a.device.tasks ≡ [] → Carried (frames.Request r) a first b → IsTallied (frames.Request r) a b → Carried (frames.Turn 1) b second c → IsTallied (frames.Turn 1) b c → BothCarried r a c
both r a b c first second empty arrives arrival_tallied turns turn_tallied =
    let x = arrived r a b first arrives in
    let y = turned b c second turns in
    let z = one_reply r a.device b.device c.device x.replies y.replies empty x.step y.step in
    record {
      mid = b;
      first = first;
      second = second;
      arrives = arrives;
      arrival_tallied = arrival_tallied;
      turns = turns;
      turn_tallied = turn_tallied;
      reply = z.reply;
      one = ap (λ l. l ++ second) x.answers ∙ (ap (λ l. map replied x.replies ++ l) y.answers ∙ (sym (map-append x.replies y.replies) ∙ ap (map replied) z.one));
      its_own = z.its_own;
      none = z.none;
    }

-- a turn without tasks does nothing
idle_turn : (a : Stand) → a.device.tasks ≡ [] → Carried (frames.Turn 1) a [] a
idle_turn a empty =
    let flat = no_depth a.device empty in
    carried_turns 1 a a [] (max 0 (depth a.device)) (more none (record { before = a.device; after = a.device; quiet_before = quiet_none a.device; step = idle empty; quiet_after = quiet_none a.device })) (λ deep. omega (arith, flat)) (λ deep. omega (arith, flat))

idle_tallied : (a : Stand) → IsTallied (frames.Turn 1) a a
idle_tallied a = record { faults = counted_same a.device a.device _ _ refl refl; unplugs = refl; orders = refl; calls = omega arith; uncalled = λ lost. refl; queue = covers_same a }

-- a turn that was cut short was taken
short_turn : (r : Request) (a b c : Stand) (first earlier last : List Answer) → a.device.tasks ≡ [] → Carried (frames.Request r) a first b → DoesShort (frames.Turn 1) b.device earlier last c.device → Carried (frames.Turn 1) b (earlier ++ last) c
short_turn r a b c first earlier last empty arrives short =
    let one : suc short.count ≡ 1 = omega (arith, short.asked) in
    let does = as_turns short in
    let turn = one_turn (suc short.count) b.device c.device does.0 does.1 one does.3 in
    let x = arrived r a b first arrives in
    let left = (one_reply r a.device b.device c.device x.replies does.0 empty x.step turn.step).none in
    let flat = no_depth c.device left in
    subst (λ l. Carried (frames.Turn 1) b l c) (sym does.2) (carried_turns 1 b c does.0 does.1 (subst (λ n. TurnsOf n b.device does.0 c.device does.1) one does.3) (λ deep. omega (arith, flat, turn.deep_is)) (λ deep. omega (arith, flat)))

-- where the reply was given at once, no task is left
given_at_once : (r : Request) (a b : Stand) (first : List Answer) → a.device.tasks ≡ [] → Carried (frames.Request r) a first b → 1 ≤ length first → b.device.tasks ≡ []
given_at_once r a b first empty arrives some =
    let x = arrived r a b first arrives in
    by_half x.replies x.answers (around_half r a.device b.device x.replies empty x.step)
  where
    by_half : (replies : List Reply) → first ≡ map replied replies → Half r replies b.device.tasks → b.device.tasks ≡ []
    by_half replies are (given reply to is left) = left
    by_half replies are (held task its is left) = let no : length first ≡ 0 = ap length are ∙ ap (λ l. length (map replied l)) is in absurd (omega (arith, no, some))

-- a layer that shows no task has none
pub no_tasks : (tasks : List Held) → map task_of (entries_of tasks) ≡ [] → tasks ≡ []
no_tasks [] is = refl
no_tasks (h ∷ tasks) is = absurd cc

-- ---- and how they are told

module _ {T : Type 0} (told : T → Answer → List ℕ) (behind : T → Answer → T) where
  pub exchanged : (r : Request) (a b c : Scene T) → a.stand.device.tasks ≡ [] → Done told behind (frames.Request r) a b → Done told behind (frames.Turn 1) b c → Exchanged told behind r a c
  unfolding both
  exchanged r a b c empty first second =
      let x = both r a.stand b.stand c.stand first.answers second.answers empty first.carried first.tallied second.carried second.tallied in
      record {
        both = x;
        told_so = subst (λ l. IsTold told behind a.telling c.telling l) x.one (told_more told behind a.telling b.telling c.telling first.answers second.answers first.told_so second.told_so);
      }

  -- the write failed in the turn
  second_fails : (r : Request) (a b c : Scene T) → a.stand.device.tasks ≡ [] → Done told behind (frames.Request r) a b → DoneInPart told behind (frames.Turn 1) b c → ExchangedInPart told behind r a c
  unfolding both
  second_fails r a b c empty first second =
      let answers = second.earlier ++ second.last in
      let x = both r a.stand b.stand c.stand first.answers answers empty first.carried first.tallied (whole second.carried) second.tallied in
      record {
        both = x;
        told_so = subst (λ l. IsToldInPart told behind a.telling c.telling l) x.one
            (told_part told behind a.telling b.telling c.telling first.answers answers first.told_so (into_part told behind b.telling c.telling second.earlier second.last second.told_so));
      }
    where
      whole : CarriedInPart (frames.Turn 1) b.stand second.earlier second.last c.stand → Carried (frames.Turn 1) b.stand (second.earlier ++ second.last) c.stand
      whole (inl all) = all.0
      whole (inr short) = short_turn r a.stand b.stand c.stand first.answers second.earlier second.last empty first.carried short

  -- a turn behind it ended
  pub turn_ends : {X E : Type 0} (r : Request) (a b c : Scene T) (result : Result X E) → a.stand.device.tasks ≡ [] → Done told behind (frames.Request r) a b → WholeOrInPart (Done told behind (frames.Turn 1)) (DoneInPart told behind (frames.Turn 1)) b c result → WholeOrInPart (Exchanged told behind r) (ExchangedInPart told behind r) a c result
  turn_ends r a b c result empty first turn = record {
    whole = on_ok_weaker result (exchanged r a b c empty first) turn.whole;
    part = on_err_weaker result (second_fails r a b c empty first) turn.part;
  }

  -- the write failed as the request arrived
  pub first_fails : (r : Request) (a b : Scene T) → a.stand.device.tasks ≡ [] → DoneInPart told behind (frames.Request r) a b → ExchangedInPart told behind r a b
  unfolding both
  first_fails r a b empty first =
      let answers = first.earlier ++ first.last in
      let arrives = whole first.carried in
      let left = given_at_once r a.stand b.stand answers empty arrives (omega (arith, length-append first.earlier first.last, first.some)) in
      let x = both r a.stand b.stand b.stand answers [] empty arrives first.tallied (idle_turn b.stand left) (idle_tallied b.stand) in
      record {
        both = x;
        told_so = subst (λ l. IsToldInPart told behind a.telling b.telling l) (sym (append-nil answers) ∙ x.one) (into_part told behind a.telling b.telling first.earlier first.last first.told_so);
      }
    where
      whole : CarriedInPart (frames.Request r) a.stand first.earlier first.last b.stand → Carried (frames.Request r) a.stand (first.earlier ++ first.last) b.stand
      whole (inl all) = all.0
      whole (inr short) = absurd short.asked
