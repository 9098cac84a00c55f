-- What the layer judges of a request is what the device does with it.
use Rattle.std.proofs.Common.{◌≡◌, refl, sym, ap, subst, ◌∙◌, arith, cond, ℕ, ◌+◌, Bool, true, false, List, [], ◌∷◌, map}
use Rattle.std.specs.Prelude.{Option, Some, None, Result, Ok, Err, not, ◌==◌, ◌&&◌, ◌||◌, nat_lt, slice_get, slice_index, slice_index_or, MatchBool}
use Rattle.std.proofs.lemmas.Bool.{eqb-true, le-ltb}
use Rattle.satl_base.specs.declared.reply.Reply.{Reply}
use Rattle.satl_base.specs.declared.reply.Scsi.TheVariants as statuses
use Rattle.satl_base.specs.declared.request.Request.{Request}
use Rattle.satl_base.specs.Fields.{bit, bytes}
use Rattle.satl_base.specs.Lists.{is_in}
use Rattle.satl_base.proofs.ListsLemmas.{sum_by-map}
use Rattle.satl_cdb.specs.declared.command.Command.{Command}
use Rattle.satl_cdb.specs.declared.command.Command.TheVariants as cdbs
use Rattle.satl_cdb.specs.declared.command.Illegal.{Illegal}
use Rattle.satl_cdb.specs.Rows.{found_says, format_of}
use Rattle.satl_cdb.specs.BlockCommands.{ten}
use Rattle.satl_cdb.specs.PrimaryCommands.{inquiry}
use Rattle.satl_cdb.specs.Table.{says, table}
use Rattle.satl_vpd.specs.Standard.{standard_data}
use Rattle.satl_line.specs.Tasks.{Held, entries_of, is_too_much, total_blocks}
use Rattle.satl_line.specs.declared.entry.Entry.{Entry}
use Rattle.satl_drive.specs.State.{DriveState}
use Rattle.satl_unit.specs.declared.attention.Attention.{Attention}
use Rattle.satl_direct.specs.Device.{Device, is_of, attentions_left}
use Rattle.satl_direct.specs.Senses.{attention_sense, no_sense, out_of_range, overlapped, refusal_sense, sense_spelled, short_data, unknown_unit}
use Rattle.satl_direct.specs.Arrival as direct
use Rattle.satl_direct.specs.Arrival.{codes_before_attentions, attended, Arrival, ArrivesAs, Arrives, answered, waits, arrival, asks_for, attention_arrival, cdb_arrival, check, code_arrival, operation_code, other_arrival, unit_arrival}
use Rattle.satl_direct.specs.Tasks.{asks, held_by, is_full, needed, range_of, task_for, task_of, task_without_pages}
use Rattle.satl_core.specs.declared.submitting.AtOnce.{AtOnce}
use Rattle.satl_core.specs.declared.submitting.AtOnce.TheVariants as at_once
use Rattle.satl_core.specs.Layer.{Layer, view}
use Rattle.satl_core.specs.Leaving.{left_by}
use Rattle.satl_asks.specs.Requests.{is_for_unit}
use Rattle.satl_core.specs.Submitting.{sense_data, tell_attention, answer_to, other_answer, Becomes, IsAdded, FindsSetFull, attention_of, cdb_answer, code_answer, judged, once_judged, overlaps, readiness, reply_at_once, is_idle}
use Rattle.satl_telling.specs.declared.telling.Data.TheVariants as datas
use Rattle.satl_core.proofs.LeavingLemmas.{found_is, left_tasks}
use Rattle.satl_core.proofs.SayingLemmas.{IsSaid, said_of}
use Rattle.satl_core.proofs.JudgingLemmas.{by_ok, judged_by, tested}
use Rattle.satl_core.proofs.CountedLemmas.{tasks_seen}

-- ---- the arrival

-- two choices by one test
cond_is : {A B : Type 0} (b : Bool) (x y v : A) (p q z : B) → (x ≡ v → p ≡ z) → (y ≡ v → q ≡ z) → cond b x y ≡ v → cond b p q ≡ z
cond_is true x y v p q z f g e = f e
cond_is false x y v p q z f g e = g e

abbrev refused : AtOnce → Result Command AtOnce
refused x = Err x

abbrev kept : Command → Result Command AtOnce
kept c = Ok c

err_is : (x y : AtOnce) → refused x ≡ refused y → x ≡ y
err_is x y e = cc

readiness_is : (l : Layer) (d : DriveState) (r : Request) → l.down ≡ d.down → direct.ready_reply (view l d) r ≡ reply_at_once l.identity l.modes r (readiness l)
readiness_is l d r mark =
    (elim l.down as (λ b. l.down ≡ b → direct.ready_reply (view l d) r ≡ reply_at_once l.identity l.modes r (readiness l)) [
      | true ↦ λ is. rw (sym mark, is) refl
      | false ↦ λ is. (elim l.started as (λ b. l.started ≡ b → direct.ready_reply (view l d) r ≡ reply_at_once l.identity l.modes r (readiness l)) [
        | true ↦ λ on. rw (sym mark, is, on) refl
        | false ↦ λ on. rw (sym mark, is, on) refl
      ]) refl
    ]) refl

-- a request that is answered at once
same_answer : (l : Layer) (d : DriveState) (r : Request) (x a : AtOnce) (reply : Reply) → reply ≡ reply_at_once l.identity l.modes r x → refused x ≡ refused a → answered reply ≡ answered (reply_at_once l.identity l.modes r a)
same_answer l d r x a reply is e = ap answered is ∙ ap (λ y. answered (reply_at_once l.identity l.modes r y)) (err_is x a e)

-- a request that becomes a task, or meets a full task set
abbrev pub full_or_waits : Layer → DriveState → Request → Command → Arrival
full_or_waits l d r c = cond (is_full (map task_of (entries_of l.tasks)) c) (answered (direct.reply_to r statuses.TaskSetFull [])) (waits (task_for l.identity.queued_trim r c))

inquiry_is : (l : Layer) (d : DriveState) (r : Request) (page : Option ℕ) (alloc : ℕ) → answered (direct.good_with_data r alloc (direct.inquiry_text (view l d) page)) ≡ answered (reply_at_once l.identity l.modes r (at_once.Tell (datas.Inquiry page) alloc))
inquiry_is l d r None alloc = refl
inquiry_is l d r (Some page) alloc = refl

-- one that has nothing to do is answered as TEST UNIT READY is
idle_is : (l : Layer) (d : DriveState) (r : Request) (a : AtOnce) (c : Command) (idle : Bool) → l.down ≡ d.down → cond idle (Err (readiness l)) (Ok c) ≡ Err a → direct.placed_unless idle (view l d) r c ≡ answered (reply_at_once l.identity l.modes r a)
idle_is l d r a c idle mark = cond_is idle _ _ _ _ _ _ (same_answer l d r (readiness l) a _ (readiness_is l d r mark)) (λ e. absurd cc)

-- the first condition of the nexus of a request
abbrev first_of : Layer → Request → Option Attention
first_of l r = slice_get (slice_index_or l.attentions r.nexus []) 0

becomes_at_once : (l : Layer) (d : DriveState) (r : Request) (a : AtOnce) (c : Command) → IsSaid r.cdb l.identity.trim c → (slice_index r.cdb 0 ≡ 0x03 → first_of l r ≡ None) → l.down ≡ d.down → answer_to l r.body c ≡ Err a → direct.becomes (view l d) r c ≡ answered (reply_at_once l.identity l.modes r a)
becomes_at_once l d r a cdbs.TestUnitReady here none mark e = same_answer l d r (readiness l) a _ (readiness_is l d r mark) e
becomes_at_once l d r a (cdbs.Inquiry page alloc) here none mark e = inquiry_is l d r page alloc ∙ same_answer l d r (at_once.Tell (datas.Inquiry page) alloc) a _ refl e
becomes_at_once l d r a (cdbs.ModeSense ten long_lba no_descriptor control page alloc) here none mark e = same_answer l d r (at_once.Tell (datas.Modes (direct.mode_sense_asked ten long_lba no_descriptor control page)) alloc) a _ refl e
becomes_at_once l d r a cdbs.ReadCapacity10 here none mark e = same_answer l d r (at_once.Tell datas.Capacity10 8) a _ refl e
becomes_at_once l d r a (cdbs.ReadCapacity16 alloc) here none mark e = same_answer l d r (at_once.Tell datas.Capacity16 alloc) a _ refl e
becomes_at_once l d r a (cdbs.ReportLuns select alloc) here none mark e = same_answer l d r (at_once.Tell (datas.Luns select) alloc) a _ refl e
becomes_at_once l d r a (cdbs.RequestSense descriptor alloc) here none mark e = ap (λ what. direct.sense_told what r descriptor alloc) (none here) ∙ same_answer l d r (at_once.Tell (datas.Sense descriptor no_sense) alloc) a _ refl e
becomes_at_once l d r a c here none mark e = idle_is l d r a c (is_idle c r.body) mark e

-- what the device does by these tests
abbrev tested_arrival : Layer → DriveState → Request → Option Illegal → Bool → Option Illegal → Bool → Option Illegal → Arrival → Arrival
tested_arrival l d r fields outside header short sound next =
    direct.unless_refused fields (view l d) r
    (cond outside (answered (check (view l d) r out_of_range))
    (direct.unless_refused header (view l d) r
    (cond short (answered (check (view l d) r short_data))
    (direct.unless_refused sound (view l d) r next))))

-- the tests answer what those of the device answer
tests_at_once : (l : Layer) (d : DriveState) (r : Request) (a : AtOnce) (fields : Option Illegal) (outside : Bool) (header : Option Illegal) (short : Bool) (sound : Option Illegal) (next : Result Command AtOnce) (then : Arrival)
    → (next ≡ Err a → then ≡ answered (reply_at_once l.identity l.modes r a)) → tested fields outside header short sound next ≡ Err a → tested_arrival l d r fields outside header short sound then ≡ answered (reply_at_once l.identity l.modes r a)
tests_at_once l d r a (Some why) outside header short sound next then go e = same_answer l d r (at_once.Check (refusal_sense why)) a _ refl e
tests_at_once l d r a None true header short sound next then go e = same_answer l d r (at_once.Check out_of_range) a _ refl e
tests_at_once l d r a None false (Some why) short sound next then go e = same_answer l d r (at_once.Check (refusal_sense why)) a _ refl e
tests_at_once l d r a None false None true sound next then go e = same_answer l d r (at_once.Check short_data) a _ refl e
tests_at_once l d r a None false None false (Some why) next then go e = same_answer l d r (at_once.Check (refusal_sense why)) a _ refl e
tests_at_once l d r a None false None false None next then go e = go e

cdb_at_once : (l : Layer) (d : DriveState) (r : Request) (a : AtOnce) (found : Result Command Illegal) → (slice_index r.cdb 0 ≡ 0x03 → first_of l r ≡ None) → l.down ≡ d.down → says r.cdb l.identity.trim ≡ found → cdb_answer l r found ≡ Err a
    → cdb_arrival (view l d) r found ≡ answered (reply_at_once l.identity l.modes r a)
cdb_at_once l d r a (Err why) none mark said e = same_answer l d r (at_once.Check (refusal_sense why)) a _ refl e
cdb_at_once l d r a (Ok c) none mark said e =
    tests_at_once l d r a (asks c).fields_fault (nat_lt l.identity.capacity ((range_of c).lba + (range_of c).count)) (asks c).length_fault (nat_lt r.data_len (needed c)) ((asks c).data_fault l.identity l.modes r.body) (answer_to l r.body c) (direct.becomes (view l d) r c)
    (becomes_at_once l d r a c (said_of r.cdb l.identity.trim c said) none mark) e

code_at_once : (l : Layer) (d : DriveState) (r : Request) (a : AtOnce) → (slice_index r.cdb 0 ≡ 0x03 → first_of l r ≡ None) → l.down ≡ d.down → code_answer l r ≡ Err a → code_arrival (view l d) r ≡ answered (reply_at_once l.identity l.modes r a)
code_at_once l d r a none mark e = cdb_at_once l d r a (says r.cdb l.identity.trim) none mark refl e

-- ---- the steps before the operation code

-- a condition that is told, and without one what follows
abbrev attended_arrival : Option Attention → Device → Request → Arrival
attended_arrival None s r = code_arrival s r
attended_arrival (Some what) s r =
    attended (cond (operation_code r == 0x03) (direct.good_with_data r (bytes 4 4 r.cdb) (sense_spelled (bit 1 0 r.cdb) (attention_sense what))) (check s r (attention_sense what)))

-- what the device does by these tests
abbrev arrival_by : Bool → Bool → Option Attention → Device → Request → Arrival
arrival_by unit over what s r = cond unit (cond over (direct.overlaps (check s r overlapped)) (attended_arrival what s r)) (other_arrival s r)

-- the layer by these tests
abbrev once_judged_by : Bool → Bool → Option Attention → Layer → Request → Layer
once_judged_by unit over what l r =
    cond (not unit) l (cond over (record l { tasks = left_by (is_of r.nexus) l.tasks }) (record l { attentions = attentions_left what r.nexus l.attentions }))

other_is : (l : Layer) (d : DriveState) (r : Request) → other_arrival (view l d) r ≡ answered (reply_at_once l.identity l.modes r (other_answer r))
other_is l d r =
    elim (asks_for 0x12 r && not (bit 1 0 r.cdb)) as (λ b. cond b (answered (direct.good_with_data r (bytes 3 4 r.cdb) (standard_data l.identity false))) (cond (asks_for 0x03 r) (answered (direct.good_with_data r (bytes 4 4 r.cdb) (sense_spelled (bit 1 0 r.cdb) unknown_unit))) (answered (check (view l d) r unknown_unit))) ≡ answered (reply_at_once l.identity l.modes r (cond b (at_once.Tell datas.NoUnit (bytes 3 4 r.cdb)) (cond (asks_for 0x03 r) (sense_data r.cdb unknown_unit) (at_once.Check unknown_unit))))) [
      | true ↦ refl
      | false ↦ (elim (asks_for 0x03 r) as (λ b. cond b (answered (direct.good_with_data r (bytes 4 4 r.cdb) (sense_spelled (bit 1 0 r.cdb) unknown_unit))) (answered (check (view l d) r unknown_unit)) ≡ answered (reply_at_once l.identity l.modes r (cond b (sense_data r.cdb unknown_unit) (at_once.Check unknown_unit)))) [
        | true ↦ refl
        | false ↦ refl
      ])
    ]

-- REQUEST SENSE tells the first condition
sense_arrival : (s : Device) (r : Request) (what : Attention) → slice_index r.cdb 0 ≡ 0x03 → slice_get (slice_index_or s.attentions r.nexus []) 0 ≡ Some what
    → code_arrival s r ≡ attended (direct.good_with_data r (bytes 4 4 r.cdb) (sense_spelled (bit 1 0 r.cdb) (attention_sense what)))
unfolding says
sense_arrival s r what code first =
    subst (λ code. cdb_arrival s r (found_says (format_of (table s.identity.trim) code) r.cdb) ≡ attended (direct.good_with_data r (bytes 4 4 r.cdb) (sense_spelled (bit 1 0 r.cdb) (attention_sense what)))) (sym code)
    (ap (λ b. cond b (answered (check s r out_of_range)) (cond (nat_lt r.data_len 0) (answered (check s r short_data)) (direct.sense_told (slice_get (slice_index_or s.attentions r.nexus []) 0) r (bit 1 0 r.cdb) (bytes 4 4 r.cdb)))) (le-ltb s.identity.capacity (0 + 0) (omega arith))
    ∙ (ap (λ b. cond b (answered (check s r short_data)) (direct.sense_told (slice_get (slice_index_or s.attentions r.nexus []) 0) r (bit 1 0 r.cdb) (bytes 4 4 r.cdb))) (le-ltb r.data_len 0 (omega arith))
    ∙ ap (λ o. direct.sense_told o r (bit 1 0 r.cdb) (bytes 4 4 r.cdb)) first))

-- whether a code is one of those that are carried out before a condition is told, by these tests
abbrev untold_by : Bool → Bool → Bool → Bool
untold_by inquiry luns sense = inquiry || (luns || (sense || false))

-- the condition of another command
attended_other : (inquiry luns : Bool) (first : Option Attention) (s : Device) (r : Request) → (operation_code r == 0x03) ≡ false
    → attention_arrival (cond (untold_by inquiry luns false) None first) s r ≡ attended_arrival (cond (untold_by inquiry luns false && true) None first) s r
attended_other true luns first s r is = refl
attended_other false true first s r is = refl
attended_other false false None s r is = refl
attended_other false false (Some what) s r is = rw is refl

attended_first : (first : Option Attention) (s : Device) (r : Request) → (operation_code r == 0x03) ≡ true → slice_get (slice_index_or s.attentions r.nexus []) 0 ≡ first → code_arrival s r ≡ attended_arrival first s r
attended_first None s r is first_is = refl
attended_first (Some what) s r is first_is = sense_arrival s r what (eqb-true (operation_code r) 0x03 is) first_is ∙ rw is refl

-- the condition of a REQUEST SENSE
attended_sense : (inquiry luns : Bool) (first : Option Attention) (s : Device) (r : Request) → (operation_code r == 0x03) ≡ true → slice_get (slice_index_or s.attentions r.nexus []) 0 ≡ first
    → attention_arrival (cond (untold_by inquiry luns true) None first) s r ≡ attended_arrival (cond (untold_by inquiry luns true && false) None first) s r
attended_sense true luns first s r is first_is = attended_first first s r is first_is
attended_sense false true first s r is first_is = attended_first first s r is first_is
attended_sense false false first s r is first_is = attended_first first s r is first_is

attended_is : (first : Option Attention) (s : Device) (r : Request) → slice_get (slice_index_or s.attentions r.nexus []) 0 ≡ first
    → attention_arrival (cond (is_in (operation_code r) codes_before_attentions) None first) s r ≡ attended_arrival (cond (is_in (operation_code r) codes_before_attentions && not (operation_code r == 0x03)) None first) s r
attended_is first s r first_is =
    (elim (operation_code r == 0x03) as (λ b. (operation_code r == 0x03) ≡ b → attention_arrival (cond (untold_by (operation_code r == 0x12) (operation_code r == 0xA0) b) None first) s r ≡ attended_arrival (cond (untold_by (operation_code r == 0x12) (operation_code r == 0xA0) b && not b) None first) s r) [
      | true ↦ λ is. attended_sense (operation_code r == 0x12) (operation_code r == 0xA0) first s r is first_is
      | false ↦ λ is. attended_other (operation_code r == 0x12) (operation_code r == 0xA0) first s r is
    ]) refl

unit_is : (l : Layer) (d : DriveState) (r : Request) → unit_arrival (view l d) r ≡ cond (overlaps l.tasks r) (direct.overlaps (check (view l d) r overlapped)) (attended_arrival (attention_of l.attentions r) (view l d) r)
unit_is l d r =
    ap (λ b. cond b (direct.overlaps (check (view l d) r overlapped)) (attention_arrival (direct.attention_for (view l d) r) (view l d) r)) (sym (found_is r.nexus r.tag l.tasks 0))
    ∙ ap (λ x. cond (overlaps l.tasks r) (direct.overlaps (check (view l d) r overlapped)) x) (attended_is (first_of l r) (view l d) r refl)

arrival_is : (l : Layer) (d : DriveState) (r : Request) → arrival (view l d) r ≡ arrival_by (is_for_unit r) (overlaps l.tasks r) (attention_of l.attentions r) (view l d) r
arrival_is l d r = ap (λ a. cond (is_for_unit r) a (other_arrival (view l d) r)) (unit_is l d r)

-- a request that is answered at once
abbrev Answers : Arrival → Layer → DriveState → Request → AtOnce → Layer → Type 0
Answers a l d r answer new = ArrivesAs a r (view l d) (reply_at_once l.identity l.modes r answer ∷ []) (view new d)

-- the reply by the sense data that were judged
sensed : (l : Layer) (d : DriveState) (r : Request) (x a : AtOnce) (reply : Reply) → reply ≡ reply_at_once l.identity l.modes r x → refused x ≡ refused a → reply_at_once l.identity l.modes r a ∷ [] ≡ reply ∷ []
sensed l d r x a reply is e = sym (ap (λ q. q ∷ []) is ∙ ap (λ y. reply_at_once l.identity l.modes r y ∷ []) (err_is x a e))

-- the reply that tells a condition
told_is : (l : Layer) (d : DriveState) (r : Request) (what : Attention) → cond (operation_code r == 0x03) (direct.good_with_data r (bytes 4 4 r.cdb) (sense_spelled (bit 1 0 r.cdb) (attention_sense what))) (check (view l d) r (attention_sense what)) ≡ reply_at_once l.identity l.modes r (tell_attention what r.cdb)
told_is l d r what = elim (operation_code r == 0x03) as (λ b. cond b (direct.good_with_data r (bytes 4 4 r.cdb) (sense_spelled (bit 1 0 r.cdb) (attention_sense what))) (check (view l d) r (attention_sense what)) ≡ reply_at_once l.identity l.modes r (cond b (sense_data r.cdb (attention_sense what)) (at_once.Check (attention_sense what)))) [ true ↦ refl | false ↦ refl ]

answers_by : (unit over : Bool) (what : Option Attention) (l : Layer) (d : DriveState) (r : Request) (a : AtOnce) → (slice_index r.cdb 0 ≡ 0x03 → first_of l r ≡ what) → l.down ≡ d.down → judged_by unit over what l r ≡ Err a → Answers (arrival_by unit over what (view l d) r) l d r a (once_judged_by unit over what l r)
answers_by false over what l d r a first mark e = subst (λ x. Answers x l d r a l) (sym (other_is l d r)) (sensed l d r (other_answer r) a _ refl e, refl)
answers_by true true what l d r a first mark e = (sensed l d r (at_once.Check overlapped) a _ refl e, ap (λ t. record (view l d) { tasks = t }) (left_tasks (is_of r.nexus) (is_of r.nexus) (λ t. refl) l.tasks))
answers_by true false (Some what) l d r a first mark e = (sensed l d r (tell_attention what r.cdb) a _ (told_is l d r what) e, refl)
answers_by true false None l d r a first mark e = subst (λ x. Answers x l d r a l) (sym (code_at_once l d r a first mark e)) (refl, refl)

-- REQUEST SENSE is answered with the first condition
sense_first : (l : Layer) (r : Request) → slice_index r.cdb 0 ≡ 0x03 → first_of l r ≡ attention_of l.attentions r
sense_first l r code = sym (ap (λ code. cond (is_in code codes_before_attentions && not (code == 0x03)) None (first_of l r)) code)

pub answers_at_once : (l : Layer) (s : Device) (d : DriveState) (r : Request) (a : AtOnce) (replies : List Reply) → l.down ≡ d.down → judged l r ≡ Err a → replies ≡ reply_at_once l.identity l.modes r a ∷ [] → s ≡ view (once_judged l r) d → Arrives r (view l d) replies s
answers_at_once l s d r a replies mark e is same =
    subst (λ s. Arrives r (view l d) replies s) (sym same)
    (subst (λ q. Arrives r (view l d) q (view (once_judged l r) d)) (sym is)
    (subst (λ x. Answers x l d r a (once_judged l r)) (sym (arrival_is l d r)) (answers_by (is_for_unit r) (overlaps l.tasks r) (attention_of l.attentions r) l d r a (sense_first l r) mark e)))

-- ---- a request that becomes a task, or meets a full task set

ok_is : (x y : Command) → kept x ≡ kept y → x ≡ y
ok_is x y e = cc

placed_is : (l : Layer) (d : DriveState) (r : Request) (c k : Command) (idle : Bool) → cond idle (Err (readiness l)) (Ok k) ≡ Ok c → direct.placed_unless idle (view l d) r k ≡ full_or_waits l d r c
placed_is l d r c k idle = cond_is idle _ _ _ _ _ _ (λ e. absurd cc) (λ e. ap (full_or_waits l d r) (ok_is k c e))

becomes_waits : (l : Layer) (d : DriveState) (r : Request) (c k : Command) → answer_to l r.body k ≡ Ok c → direct.becomes (view l d) r k ≡ full_or_waits l d r c
becomes_waits l d r c cdbs.TestUnitReady e = absurd cc
becomes_waits l d r c (cdbs.Inquiry x y) e = absurd cc
becomes_waits l d r c (cdbs.ModeSense x y z t u v) e = absurd cc
becomes_waits l d r c cdbs.ReadCapacity10 e = absurd cc
becomes_waits l d r c (cdbs.ReadCapacity16 x) e = absurd cc
becomes_waits l d r c (cdbs.ReportLuns x y) e = absurd cc
becomes_waits l d r c (cdbs.RequestSense x y) e = absurd cc
becomes_waits l d r c k e = placed_is l d r c k (is_idle k r.body) e

tests_wait : (l : Layer) (d : DriveState) (r : Request) (c : Command) (fields : Option Illegal) (outside : Bool) (header : Option Illegal) (short : Bool) (sound : Option Illegal) (next : Result Command AtOnce) (then : Arrival)
    → (next ≡ Ok c → then ≡ full_or_waits l d r c) → tested fields outside header short sound next ≡ Ok c → tested_arrival l d r fields outside header short sound then ≡ full_or_waits l d r c
tests_wait l d r c None false None false None next then go e = go e
tests_wait l d r c fields outside header short sound next then go e = absurd cc

cdb_waits : (l : Layer) (d : DriveState) (r : Request) (c : Command) (found : Result Command Illegal) → cdb_answer l r found ≡ Ok c → cdb_arrival (view l d) r found ≡ full_or_waits l d r c
cdb_waits l d r c (Err why) e = absurd cc
cdb_waits l d r c (Ok k) e =
    tests_wait l d r c (asks k).fields_fault (nat_lt l.identity.capacity ((range_of k).lba + (range_of k).count)) (asks k).length_fault (nat_lt r.data_len (needed k)) ((asks k).data_fault l.identity l.modes r.body) (answer_to l r.body k) (direct.becomes (view l d) r k)
    (becomes_waits l d r c k) e

pub code_waits : (l : Layer) (d : DriveState) (r : Request) (c : Command) → code_answer l r ≡ Ok c → code_arrival (view l d) r ≡ full_or_waits l d r c
code_waits l d r c e = cdb_waits l d r c (says r.cdb l.identity.trim) e

waits_arrival : (l : Layer) (d : DriveState) (r : Request) (c : Command) → judged l r ≡ Ok c → arrival (view l d) r ≡ full_or_waits l d r c
waits_arrival l d r c e =
    arrival_is l d r
    ∙ by_ok (λ unit over what. arrival_by unit over what (view l d) r ≡ full_or_waits l d r c) (is_for_unit r) (overlaps l.tasks r) (attention_of l.attentions r) l r c (code_waits l d r c) e

pub held_by_is : (tasks : List Held) → held_by (map task_of (entries_of tasks)) ≡ total_blocks tasks
held_by_is tasks = sum_by-map task_of (λ (e : Entry). e.blocks) (entries_of tasks) ∙ sum_by-map (λ (h : Held). h.entry) (λ (e : Entry). e.blocks) tasks

pub full_is : (tasks : List Held) (r : Request) (c : Command) (queued_trim : Bool) → is_full (map task_of (entries_of tasks)) c ≡ is_too_much tasks (task_without_pages queued_trim r c)
full_is tasks r c queued_trim = rw (tasks_seen tasks, held_by_is tasks) refl

pub becomes_arrives : (l new : Layer) (d : DriveState) (r : Request) (c : Command) (replies : List Reply) → judged l r ≡ Ok c → Becomes r c l replies new → Arrives r (view l d) replies (view new d)
becomes_arrives l new d r c replies e b =
    subst (λ x. ArrivesAs x r (view l d) replies (view new d)) (sym (waits_arrival l d r c e))
    ((elim (is_too_much l.tasks (task_without_pages l.identity.queued_trim r c)) as (λ t. is_full (map task_of (entries_of l.tasks)) c ≡ t → MatchBool t (FindsSetFull r l replies new) (IsAdded r c l replies new) → ArrivesAs (full_or_waits l d r c) r (view l d) replies (view new d)) [
      | true ↦ λ is a. rw is (a.reply, ap (λ x. view x d) a.stays)
      | false ↦ λ is a. rw is (a.none, ap (λ x. view x d) a.stays ∙ ap (λ t. record (view l d) { tasks = t }) a.last)
    ]) (full_is l.tasks r c l.identity.queued_trim) b)
