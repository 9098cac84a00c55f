-- A request at a device without tasks, and a turn, are answered by one reply, which is to it.
use Rattle.std.proofs.Common.{◌≡◌, refl, sym, ap, subst, ◌∙◌, inl, inr, List, [], ◌∷◌, ◌++◌, map}
use Rattle.satl_base.specs.Lists.{IsIn}
use Rattle.satl_laws.proofs.Arrivals.{IsFor, IsOf, IsTo, arrival_for}
use Rattle.satl_laws.proofs.Eligibles.{without_is}
use Rattle.satl_laws.proofs.Ends.{ends_leaves, may_end_in}
use Rattle.satl_laws.proofs.Tasks.{reply_named}
use Rattle.satl_base.specs.declared.reply.Reply.{Reply}
use Rattle.satl_base.specs.declared.request.Request.{Request}
use Rattle.satl_line.specs.declared.entry.Entry.{Entry}
use Rattle.satl_direct.specs.Device.{Device, of_others, without}
use Rattle.satl_direct.specs.Arrival.{Arrival, Arrives, ArrivesAs, arrival}
use Rattle.satl_direct.specs.Arrival.Arrival.{answered, attended, overlaps, waits}
use Rattle.satl_direct.specs.Ending.{task_check}
use Rattle.satl_direct.specs.Quiet.{Around, Quiet}
use Rattle.satl_direct.specs.Senses.{link_lost}
use Rattle.satl_direct.specs.Turn.{OneEnds, Turn, device_lost_replies}
use Rattle.satl_direct.specs.Turn.Turn.{ends, ends_and_loses, idle, loses}
use Rattle.satl_direct.specs.Run.{MayLose}
use Rattle.satl_direct.specs.Run.MayLose.{keeps, keeps_and_loses}
use Rattle.satl_direct.proofs.Quieting.{quiet_tasks}
use Rattle.satl_direct.proofs.Steps.{turn_idle}
use Rattle.satl_direct.proofs.Naming.{own_more, own_none}
use Rattle.satl_laws.specs.OneReplyEach.{OneAnswered, OneReplyEach}

-- ---- one task is left, or its answer was given

-- one reply was given to the request and no task is left, or none was given and one task of it is left
pub data Half (r : Request) (replies : List Reply) (tasks : List Entry) : Type 0 where
  given : (reply : Reply) → IsTo r reply → replies ≡ reply ∷ [] → tasks ≡ [] → Half r replies tasks
  held : (task : Entry) → IsOf r task → replies ≡ [] → tasks ≡ task ∷ [] → Half r replies tasks

arrives_as : (a : Arrival) (r : Request) (s new : Device) (replies : List Reply) → IsFor r a → s.tasks ≡ [] → ArrivesAs a r s replies new → Half r replies new.tasks
arrives_as (answered reply) r s new replies to none is = given reply to is.0 (ap (λ (x : Device). x.tasks) is.1 ∙ none)
arrives_as (attended reply) r s new replies to none is = given reply to is.0 (ap (λ (x : Device). x.tasks) is.1 ∙ none)
arrives_as (overlaps reply) r s new replies to none is = given reply to is.0 (ap (λ (x : Device). x.tasks) is.1 ∙ ap (of_others r.nexus) none)
arrives_as (waits task) r s new replies its none is = held task its is.0 (ap (λ (x : Device). x.tasks) is.1 ∙ ap (λ l. l ++ task ∷ []) none)

half_quiet : (r : Request) (s s' : Device) (replies : List Reply) → Quiet s s' → Half r replies s.tasks → Half r replies s'.tasks
half_quiet r s s' replies q h = subst (Half r replies) (sym (quiet_tasks s s' q)) h

-- an answer to a task of the request is to the request
check_to : (r : Request) (s : Device) (t : Entry) → IsOf r t → IsTo r (task_check s t link_lost)
check_to r s t its = record { nexus = its.nexus; tag = its.tag }

-- all tasks are answered at a loss
half_lost : (r : Request) (s new : Device) (replies more : List Reply) → Half r replies s.tasks → more ≡ device_lost_replies s → new.tasks ≡ [] → Half r (replies ++ more) new.tasks
half_lost r s new replies more (given reply to is none) lost empty =
    let no : more ≡ [] = lost ∙ ap (map (λ t. task_check s t link_lost)) none in
    given reply to (ap (λ l. l ++ more) is ∙ ap (λ l. reply ∷ l) no) empty
half_lost r s new replies more (held task its is one) lost empty =
    let all : more ≡ task_check s task link_lost ∷ [] = lost ∙ ap (map (λ t. task_check s t link_lost)) one in
    given (task_check s task link_lost) (check_to r s task its) (ap (λ l. l ++ more) is ∙ all) empty

pub arrives_half : (r : Request) (s new : Device) (replies : List Reply) → s.tasks ≡ [] → MayLose (Arrives r) s replies new → Half r replies new.tasks
arrives_half r s new replies none (keeps arrived) = arrives_as (arrival s r) r s new replies (arrival_for s r) none arrived
arrives_half r s new replies none (keeps_and_loses {answers} {more} {mid} {after} arrived quiet loss) =
    half_lost r after new answers more (half_quiet r mid after answers quiet (arrives_as (arrival s r) r s mid answers (arrival_for s r) none arrived)) loss.answer (ap (λ (x : Device). x.tasks) loss.stays)

-- ---- a turn

turn_none : (s new : Device) (replies : List Reply) → s.tasks ≡ [] → Turn s replies new → (replies ≡ []) × (new.tasks ≡ [])
turn_none s new replies none turn = let idle = turn_idle s new replies none turn in (idle.0, ap (λ (x : Device). x.tasks) idle.1 ∙ none)

-- the only task is the one that ends
the_one : (t u : Entry) → IsIn u (t ∷ []) → u ≡ t
the_one t u (inl same) = same
the_one t u (inr rest) = absurd rest

ends_one : (s new : Device) (t : Entry) (reply : Reply) → s.tasks ≡ t ∷ [] → (e : OneEnds s reply new) → e.task ≡ t
ends_one s new t reply one e = the_one t e.task (subst (IsIn e.task) one (may_end_in s e.task e.may))

one_gone : (s new : Device) (t : Entry) (reply : Reply) → s.tasks ≡ t ∷ [] → OneEnds s reply new → new.tasks ≡ []
one_gone s new t reply one e =
    (ends_leaves s new e.task reply e.ends).tasks
    ∙ (ap (without e.task) one ∙ (ap (λ u. without u (t ∷ [])) (ends_one s new t reply one e) ∙ without_is [] t [] (own_more t [] tt own_none)))

-- and its answer is to the request
one_to : (r : Request) (s new : Device) (t : Entry) (reply : Reply) → IsOf r t → s.tasks ≡ t ∷ [] → OneEnds s reply new → IsTo r reply
one_to r s new t reply its one e =
    let l = ends_leaves s new e.task reply e.ends in
    let is = ends_one s new t reply one e in
    record { nexus = l.nexus ∙ (ap (λ (u : Entry). u.nexus) is ∙ its.nexus); tag = l.tag ∙ (ap (λ (u : Entry). u.tag) is ∙ its.tag) }

-- one reply to the request, and it has its nexus and tag
one_answered : (r : Request) (new : Device) (before behind : List Reply) (reply : Reply) → IsTo r reply → before ++ behind ≡ reply ∷ [] → new.tasks ≡ [] → OneAnswered r before behind new
one_answered r new before behind reply to one none = record { reply = reply; one = one; its_own = reply_named r reply to.nexus to.tag; none = none }

-- a turn of the only task
turn_one : (r : Request) (s new : Device) (t : Entry) (replies : List Reply) → IsOf r t → s.tasks ≡ t ∷ [] → Turn s replies new → OneAnswered r [] replies new
turn_one r s new t replies its one (idle h) = let no : t ∷ [] ≡ [] = sym one ∙ h in absurd cc
turn_one r s new t replies its one (ends reply e) = one_answered r new [] replies reply (one_to r s new t reply its one e) refl (one_gone s new t reply one e)
turn_one r s new t replies its one (loses some l) =
    one_answered r new [] replies (task_check s t link_lost) (check_to r s t its) (l.answer ∙ ap (map (λ u. task_check s u link_lost)) one) (ap (λ (x : Device). x.tasks) l.stays)
turn_one r s new t replies its one (ends_and_loses {mid} {after} {answers} reply e q l) =
    let empty : after.tasks ≡ [] = quiet_tasks mid after q ∙ one_gone s mid t reply one e in
    let no : answers ≡ [] = l.answer ∙ ap (map (λ u. task_check after u link_lost)) empty in
    one_answered r new [] replies reply (one_to r s mid t reply its one e) (ap (λ l. reply ∷ l) no) (ap (λ (x : Device). x.tasks) l.stays)

-- ---- both

behind_half : (r : Request) (s new : Device) (before behind : List Reply) → Half r before s.tasks → Turn s behind new → OneAnswered r before behind new
behind_half r s new before behind (given reply to is none) turn =
    let t = turn_none s new behind none turn in
    one_answered r new before behind reply to (ap (λ l. l ++ behind) is ∙ ap (λ l. reply ∷ l) t.0) t.1
behind_half r s new before behind (held task its is one) turn =
    let t = turn_one r s new task behind its one turn in
    record { reply = t.reply; one = ap (λ l. l ++ behind) is ∙ t.one; its_own = t.its_own; none = t.none }

pub around_half : (r : Request) (s new : Device) (replies : List Reply) → s.tasks ≡ [] → Around (MayLose (Arrives r)) s replies new → Half r replies new.tasks
around_half r s new replies none a = half_quiet r a.after new replies a.quiet_after (arrives_half r a.before a.after replies (quiet_tasks s a.before a.quiet_before ∙ none) a.step)

around_turn : (r : Request) (s new : Device) (before behind : List Reply) → Half r before s.tasks → Around Turn s behind new → OneAnswered r before behind new
around_turn r s new before behind half a =
    let x = behind_half r a.before a.after before behind (half_quiet r s a.before before a.quiet_before half) a.step in
    record { reply = x.reply; one = x.one; its_own = x.its_own; none = quiet_tasks a.after new a.quiet_after ∙ x.none }

pub one_reply : OneReplyEach
one_reply r s mid new before behind none arrives turn = around_turn r mid new before behind (around_half r s mid before none arrives) turn
