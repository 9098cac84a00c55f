-- The tasks that wait, with what their items say of them.
use Rattle.std.proofs.Common.{◌≡◌, ⊎_elim, inl, inr, refl, sym, ap, ◌∙◌, ℕ, Bool, true, false, List, [], ◌∷◌, Option, Some, None}
use Rattle.std.specs.Prelude.{◌&&◌, ◌||◌, ◌==◌, not, Ok}
use Rattle.std.specs.List.{AllByRecursion}
use Rattle.std.proofs.lemmas.Bool.{or_right, and_parts}
use Rattle.satl_base.specs.declared.request.Request.{Request}
use Rattle.satl_base.specs.declared.reply.Reply.{Reply}
use Rattle.satl_frame.specs.Output.Answer.{replied}
use Rattle.satl_line.specs.declared.entry.Entry.{Entry}
use Rattle.satl_line.specs.Eligible.{IsEligible}
use Rattle.satl_line.proofs.EligibleLemmas.{eligible_do_not_conflict}
use Rattle.satl_laws.specs.ArrivalOrder.{is_done, is_good, writes_plainly}
use Rattle.satl_direct.specs.Turn.{IsFirst, MayEnd}
use Rattle.satl_direct.specs.Device.{Device}
use Rattle.satl_laws.proofs.Cases.{by_bool}
use Rattle.satl_laws.proofs.Items.{AwaitsIf, IsWell, Item, before_all, waiting}
use Rattle.satl_laws.proofs.Names.{and_three, asks_self, swapped}
use Rattle.satl_laws.proofs.Requests.{has_name}
use Rattle.satl_laws.proofs.Standing.{writes_at}
use Rattle.satl_laws.proofs.Transferring.{Transfers, brings, clash, gives, spans}

-- a task that changes no block but as a WRITE does
pub record IsPlainTask (n : ℕ) (t : Entry) : Type 0 where
  pub plain : writes_plainly (Ok t.command) ≡ true
  pub fits : gives t.command || brings t.command ≡ true → Transfers n t

-- each that waits is one
pub tasks_plain : (trim : Bool) (n : ℕ) (items : List Item) → AllByRecursion (IsWell trim n) items → AllByRecursion (IsPlainTask n) (waiting items)
tasks_plain trim n [] w = tt
tasks_plain trim n (j ∷ items) w = one j.task w.0.waits (tasks_plain trim n items w.1)
  where
    one : (o : Option Entry) → AwaitsIf trim n j o → AllByRecursion (IsPlainTask n) (waiting items) → AllByRecursion (IsPlainTask n) (before_all o (waiting items))
    one None a rest = rest
    one (Some t) a rest = (record { plain = a.plain; fits = a.fits }, rest)

-- one that writes is a transfer
pub writer_fits : (n : ℕ) (t : Entry) → IsPlainTask n t → brings t.command ≡ true → Transfers n t
writer_fits n t p b = p.fits (or_right (gives t.command) (brings t.command) b)

-- one that reads is
pub reader_fits : (n : ℕ) (t : Entry) → IsPlainTask n t → gives t.command ≡ true → Transfers n t
reader_fits n t p g = p.fits (ap (λ b. b || brings t.command) g)

-- an eligible task that writes a sector is the only eligible one that reads or writes it
pub writes_alone : (n x : ℕ) (tasks : List Entry) (t u : Entry) → IsEligible tasks t → IsEligible tasks u → Transfers n t → IsPlainTask n u → spans t.command x ≡ true → writes_at u x ≡ true → u ≡ t
writes_alone n x tasks t u a b fits plain has writes =
    let brings_u : brings u.command ≡ true = (and_parts (brings u.command) (spans u.command x) writes).0 in
    let has_u : spans u.command x ≡ true = (and_parts (brings u.command) (spans u.command x) writes).1 in
    let other : Transfers n u = writer_fits n u plain brings_u in
    ⊎_elim
    (λ same. sym same)
    (λ free. absurd (let no : true ≡ false = sym (clash n t u x fits other (inr brings_u) has has_u) ∙ free in cc))
    (eligible_do_not_conflict tasks t u a b)

-- a task that may end is eligible
pub may_eligible : (s : Device) (t : Entry) → MayEnd s t → IsEligible s.tasks t
may_eligible s t = by_bool (s.down || not s.started) (first s.tasks) (λ e. e)
  where
    first : (tasks : List Entry) → IsFirst tasks t → IsEligible tasks t
    first [] h = elim h [ ]
    first (u ∷ us) h = inl h

-- ---- answers

-- a reply to one name is none to a request of another
pub reply_other : (nexus tag : ℕ) (r : Request) (reply : Reply) → reply.nexus ≡ nexus → (reply.tag).0 ≡ tag → has_name nexus tag r ≡ false → (is_done r (replied reply) || false) ≡ false
reply_other nexus tag r reply n g h =
    ap (λ b. b || false)
    (and_three (reply.nexus == r.nexus) ((reply.tag).0 == (r.tag).0) (is_good reply.status)
    (ap (λ k. (k == r.nexus) && ((reply.tag).0 == (r.tag).0)) n ∙ ap (λ k. (nexus == r.nexus) && (k == (r.tag).0)) g ∙ swapped r.nexus nexus (r.tag).0 tag h))

-- one to its own name is named so
pub reply_named : (r : Request) (reply : Reply) → reply.nexus ≡ r.nexus → reply.tag ≡ r.tag → ((reply.nexus == r.nexus) && ((reply.tag).0 == (r.tag).0)) ≡ true
reply_named r reply n g = ap (λ k. (k == r.nexus) && ((reply.tag).0 == (r.tag).0)) n ∙ ap (λ k. (r.nexus == r.nexus) && (k.0 == (r.tag).0)) g ∙ asks_self r

-- a reply that is done is GOOD
pub done_good : (r : Request) (reply : Reply) → (is_done r (replied reply) || false) ≡ true → is_good reply.status ≡ true
done_good r reply = third (reply.nexus == r.nexus) ((reply.tag).0 == (r.tag).0) (is_good reply.status)
  where
    third : (p q g : Bool) → ((p && q && g) || false) ≡ true → g ≡ true
    third true true true h = refl
    third true true false h = h
    third _ _ g h = absurd cc

-- and GOOD to a request of its name is done
pub good_done : (r : Request) (reply : Reply) → ((reply.nexus == r.nexus) && ((reply.tag).0 == (r.tag).0)) ≡ true → is_good reply.status ≡ true → (is_done r (replied reply) || false) ≡ true
good_done r reply = all (reply.nexus == r.nexus) ((reply.tag).0 == (r.tag).0) (is_good reply.status)
  where
    all : (p q g : Bool) → (p && q) ≡ true → g ≡ true → ((p && q && g) || false) ≡ true
    all true true true h k = refl
    all true true false h k = k
    all _ _ g h k = absurd cc
