-- One turn, in which a reply with GOOD was given.
use Rattle.std.proofs.Common.{◌≡◌, ⊎_elim, inl, inr, refl, sym, ap, ◌∙◌, subst, ℕ, true, List, [], ◌∷◌, ◌++◌, map, eq-eqb, eqb-true}
use Rattle.std.specs.Prelude.{◌==◌, ◌&&◌}
use Rattle.std.proofs.lemmas.Bool.{and_parts}
use Rattle.satl_base.specs.declared.request.Request.{Request}
use Rattle.satl_base.specs.declared.reply.Reply.{Reply}
use Rattle.satl_base.specs.declared.reply.Scsi.{Scsi}
use Rattle.satl_base.specs.declared.reply.Scsi.TheVariants.{Good, CheckCondition}
use Rattle.satl_base.specs.Cells.{Cell}
use Rattle.satl_base.specs.Lists.{IsIn}
use Rattle.satl_frame.specs.declared.frames.Frame.TheVariants as frames
use Rattle.satl_frame.specs.Output.{Answer}
use Rattle.satl_frame.specs.Output.Answer.{replied}
use Rattle.satl_line.specs.declared.entry.Entry.{Entry}
use Rattle.satl_line.specs.Eligible.{IsEligible}
use Rattle.satl_direct.specs.Device.{Device}
use Rattle.satl_direct.specs.Ending.{task_check}
use Rattle.satl_laws.specs.ArrivalOrder.{IsGoodReply, is_good}
use Rattle.satl_direct.specs.Quiet.{Around, Quiet}
use Rattle.satl_direct.specs.Run.{RunDeep, TurnsOf, joined}
use Rattle.satl_direct.specs.Run.TurnsOf.{none, more}
use Rattle.satl_direct.specs.Senses.{link_lost}
use Rattle.satl_direct.specs.Turn.{MayEnd, OneEnds, Turn}
use Rattle.satl_direct.specs.Turn.Turn.{idle, ends, loses, ends_and_loses}
use Rattle.satl_laws.specs.Scenes.{at_work}
use Rattle.satl_laws.proofs.Runs.{once}
use Rattle.satl_laws.proofs.Sparing.{Keeps, NoneWrites, keeps_none, keeps_on, loss_keeps, quiet_keeps}
use Rattle.satl_laws.proofs.Names.{one_reply}

-- no turn changes nothing
none_taken : {s new : Device} {answers : List Reply} {n deep : ℕ} → TurnsOf n s answers new deep → n ≡ 0 → (new ≡ s) × (answers ≡ [])
none_taken none h = (refl, refl)
none_taken (more so_far next) h = absurd cc

-- one turn is a turn with quiet moves around it
one_taken : {s new : Device} {answers : List Reply} {n deep : ℕ} → TurnsOf n s answers new deep → n ≡ 1 → Around Turn s answers new
one_taken none h = absurd cc
one_taken {s = s} {new = new} (more {n = n} {rest = rest} so_far next) h =
    let before : n ≡ 0 = cc in
    let r = none_taken so_far before in
    subst (λ said. Around Turn s (said ++ rest) new) (sym r.1) (subst (λ d. Around Turn d rest new) r.0 next)

-- a reply with GOOD is that to the task that ended; what else the turn does writes no sector that no task writes
pub record GoodEnd (s : Device) (reply : Reply) (new : Device) : Type 0 where
  pub mid : Device
  pub one : OneEnds s reply mid
  pub rest : (x : ℕ) → NoneWrites x mid → Keeps x mid new

-- a reply at a lost link is not GOOD
lost_is_bad : (s : Device) (tasks : List Entry) (reply : Reply) → IsIn reply (map (λ t. task_check s t link_lost) tasks) → reply.status ≡ Good → ⊥
lost_is_bad s [] reply i good = i
lost_is_bad s (t ∷ ts) reply i good =
    ⊎_elim (λ same. let clash : Good ≡ CheckCondition = sym good ∙ ap (λ r. r.status) same in absurd cc) (λ later. lost_is_bad s ts reply later good) i

-- a turn that gives a reply with GOOD has ended its task
good_end : {s new : Device} {answers : List Reply} (reply : Reply) → Turn s answers new → IsIn reply answers → reply.status ≡ Good → GoodEnd s reply new
good_end reply (idle h) i good = absurd i
good_end {s = s} reply (ends {new = new} other e) i good =
    ⊎_elim (λ same. record { mid = new; one = subst (λ r. OneEnds s r new) (sym same) e; rest = λ x h. keeps_none x new h }) (λ nothing. absurd nothing) i
good_end {s = s} reply (loses some l) i good = absurd (lost_is_bad s s.tasks reply (subst (IsIn reply) l.answer i) good)
good_end {s = s} reply (ends_and_loses {mid = mid} {after = after} {new = new} other e q l) i good =
    ⊎_elim
    (λ same. record { mid = mid; one = subst (λ r. OneEnds s r mid) (sym same) e; rest = λ x h. keeps_on x mid after new (quiet_keeps x mid after q h) (λ g. loss_keeps x after new (ap (λ d. d.cells) l.stays) (ap (λ d. d.identity) l.stays) (ap (λ d. d.tasks) l.stays)) })
    (λ later. absurd (lost_is_bad after after.tasks reply (subst (IsIn reply) l.answer later) good))
    i

-- ---- replies

-- a reply among answers is among their replies
replied_in : (reply : Reply) (replies : List Reply) → IsIn (replied reply) (map replied replies) → IsIn reply replies
replied_in reply [] i = i
replied_in reply (r ∷ rs) i = ⊎_elim (λ same. inl (one_reply reply r same)) (λ later. inr (replied_in reply rs later)) i

-- a status that is GOOD by its test
good_is : (status : Scsi) → is_good status ≡ true → status ≡ Good
good_is Good h = refl
good_is _ h = absurd cc

-- what a reply that answers a request with GOOD is
pub record IsDoneBy (r : Request) (reply : Reply) : Type 0 where
  pub nexus : reply.nexus ≡ r.nexus
  pub tag : (reply.tag).0 ≡ (r.tag).0
  pub good : reply.status ≡ Good

-- a good reply to a request, by its parts
pub done_by : (r : Request) (reply : Reply) (answers : List Answer) → IsGoodReply r reply answers → IsDoneBy r reply
done_by r reply answers h = parts h.done
  where
    parts : ((reply.nexus == r.nexus) && ((reply.tag).0 == (r.tag).0) && is_good reply.status) ≡ true → IsDoneBy r reply
    parts d =
        let named : ((reply.nexus == r.nexus) && ((reply.tag).0 == (r.tag).0)) ≡ true = (and_parts ((reply.nexus == r.nexus) && ((reply.tag).0 == (r.tag).0)) (is_good reply.status) d).0 in
        record {
          nexus = eqb-true reply.nexus r.nexus (and_parts (reply.nexus == r.nexus) ((reply.tag).0 == (r.tag).0) named).0;
          tag = eqb-true (reply.tag).0 (r.tag).0 (and_parts (reply.nexus == r.nexus) ((reply.tag).0 == (r.tag).0) named).1;
          good = good_is reply.status (and_parts ((reply.nexus == r.nexus) && ((reply.tag).0 == (r.tag).0)) (is_good reply.status) d).1;
        }

-- equal nexuses and tags pass the test
pub same_name : (n m g h : ℕ) → n ≡ m → g ≡ h → ((n == m) && (g == h)) ≡ true
same_name n m g h p q = ap (λ b. b && (g == h)) (eq-eqb n m p) ∙ eq-eqb g h q

-- one turn, in which a reply with GOOD was given
pub record GoodTurn (first last : Device) (reply : Reply) : Type 0 where
  pub begin : Device
  pub before : Device
  pub after : Device
  pub quiet_first : Quiet first begin
  pub quiet_before : Quiet begin before
  pub good : GoodEnd before reply after
  pub quiet_after : Quiet after last

-- a run of one turn that gives a reply with GOOD
pub good_turn : {first last : Device} {groups : List (List Answer)} {losses deep : ℕ} (reply : Reply) → RunDeep first (frames.Turn 1 ∷ []) groups losses last deep → IsIn (replied reply) (joined groups) → reply.status ≡ Good → GoodTurn first last reply
good_turn reply run i good =
    let o = once (frames.Turn 1) run in
    let t = o.does in
    let a = one_taken t.3 refl in
    let among : IsIn reply t.0 = replied_in reply t.0 (subst (IsIn (replied reply)) (o.answers ∙ t.2) i) in
    record { begin = o.begin; quiet_first = o.quiet; before = a.before; after = a.after; quiet_before = a.quiet_before; good = good_end reply a.step among good; quiet_after = a.quiet_after }

-- a task that may end after quiet moves of a device at work is eligible there
pub may_still : (a b : Cell) (tasks : List Entry) (s begin before : Device) (t : Entry) → Quiet (at_work a b tasks s) begin → Quiet begin before → MayEnd before t → IsEligible tasks t
may_still a b tasks s begin before t first q may = subst (λ d. MayEnd d t) first.stays (subst (λ d. MayEnd d t) q.stays may)
