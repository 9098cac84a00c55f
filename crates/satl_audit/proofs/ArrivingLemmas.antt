-- What the device does with a request that arrives, by what the auditor found.
use Rattle.std.proofs.Common.{◌≡◌, refl, sym, ap, ◌∙◌, subst, ℕ, Bool, true, false, List, [], ◌∷◌, ◌++◌, map}
use Rattle.std.specs.Prelude.{◌≤◌, ◌||◌, if◌then◌else◌, Option, Some, None, Ok}
use Rattle.std.specs.List.{list_any}
use Rattle.std.proofs.lemmas.List.{append-nil, map-append}
use Rattle.satl_base.specs.declared.request.Request.{Request}
use Rattle.satl_base.specs.declared.reply.Reply.{Reply}
use Rattle.satl_base.specs.declared.reply.Scsi.TheVariants.{CheckCondition, TaskSetFull}
use Rattle.satl_sense.specs.declared.sense.Sense.{Sense}
use Rattle.satl_sense.specs.Fixed.{fixed_form}
use Rattle.satl_cdb.specs.declared.command.Command.{Command}
use Rattle.satl_identify.specs.declared.identity.Identity.{Identity}
use Rattle.satl_unit.specs.declared.attention.Attention.{Attention}
use Rattle.satl_frame.specs.Output.{all_answered, reply_bytes}
use Rattle.satl_frame.specs.Output.Answer.{replied}
use Rattle.satl_line.specs.declared.entry.Entry.{Entry}
use Rattle.satl_direct.specs.Device.{Device, is_called, attentions_left}
use Rattle.satl_direct.specs.Arrival.{Arrival, ArrivesAs, arrival, asks_for, attention_arrival, attention_for, attention_told, check, code_arrival, is_unit_0, other_arrival, placed, reply_to}
use Rattle.satl_direct.specs.Arrival.Arrival.{answered, attended, overlaps, waits}
use Rattle.satl_direct.specs.Senses.{attention_sense, overlapped}
use Rattle.satl_direct.specs.Tasks.{held_blocks, needed, task_for, task_without_pages}
use Rattle.satl_cover.specs.Known.{is_known}
use Rattle.satl_audit.specs.Arriving.{ArrivesOn, CannotArrive, IsServing, StandsAt, device_without_sectors}
use Rattle.satl_audit.specs.Waiting.{Placed, device_tasks, has_no_room, task_in}
use Rattle.satl_audit.proofs.ArrivingTask.{full_same, task_same}

one_said : (reply : Reply) (left : List ℕ) → reply_bytes reply ++ left ≡ (reply_bytes reply ++ []) ++ left
one_said reply left = ap (λ l. l ++ left) (sym (append-nil (reply_bytes reply)))

pub answered_goes : (r : Request) (s : Device) (reply : Reply) (output left : List ℕ) → arrival s r ≡ answered reply → output ≡ reply_bytes reply ++ left → ArrivesOn r s s output left
answered_goes r s reply output left is e = record {
  replies = reply ∷ [];
  arrives = subst (λ a. ArrivesAs a r s (reply ∷ []) s) (sym is) (refl, refl);
  said = e ∙ one_said reply left;
}

pub answered_sticks : (r : Request) (s : Device) (reply : Reply) (output : List ℕ) → arrival s r ≡ answered reply → ((rest : List ℕ) → output ≡ reply_bytes reply ++ rest → ⊥) → CannotArrive r s output
answered_sticks r s reply output is other replies new left arrives e =
    let a : ArrivesAs (answered reply) r s replies new = subst (λ (x : Arrival). ArrivesAs x r s replies new) is arrives in
    other left (e ∙ ap (λ (l : List Reply). said_of l ++ left) a.0 ∙ sym (one_said reply left))
  where
    said_of : List Reply → List ℕ
    said_of l = all_answered (map replied l)

pub attended_goes : (r : Request) (s new : Device) (reply : Reply) (output left : List ℕ) → arrival s r ≡ attended reply → ArrivesAs (attended reply) r s (reply ∷ []) new → output ≡ reply_bytes reply ++ left → ArrivesOn r s new output left
attended_goes r s new reply output left is a e = record {
  replies = reply ∷ [];
  arrives = subst (λ a. ArrivesAs a r s (reply ∷ []) new) (sym is) a;
  said = e ∙ one_said reply left;
}

pub attended_sticks : (r : Request) (s : Device) (reply : Reply) (output : List ℕ) → arrival s r ≡ attended reply → ((rest : List ℕ) → output ≡ reply_bytes reply ++ rest → ⊥) → CannotArrive r s output
attended_sticks r s reply output is other replies new left arrives e =
    let a : ArrivesAs (attended reply) r s replies new = subst (λ (x : Arrival). ArrivesAs x r s replies new) is arrives in
    other left (e ∙ ap (λ (l : List Reply). said_of l ++ left) a.0 ∙ sym (one_said reply left))
  where
    said_of : List Reply → List ℕ
    said_of l = all_answered (map replied l)

-- a command that makes a task
module _ (i : Identity) (input : List ℕ) (ps : List Placed) (attentions : List (List Attention)) (r : Request) (c : Command) where
  abbrev before : Device
  before = device_without_sectors i input ps attentions

  placed_as : (b : Bool) → has_no_room ps (held_blocks c) ≡ b → placed before r c ≡ (if b then answered (reply_to r TaskSetFull []) else waits (task_for i.queued_trim r c))
  placed_as b e = ap (λ (x : Bool). if x then answered (reply_to r TaskSetFull []) else waits (task_for i.queued_trim r c)) (full_same input ps c ∙ e)

  pub placed_goes : (at : ℕ) (output : List ℕ) → arrival before r ≡ placed before r c → has_no_room ps (held_blocks c) ≡ false → is_known (Ok c) ≡ true → needed c ≤ r.data_len → StandsAt input at r.data_len r.body →
      ArrivesOn r before (device_without_sectors i input (ps ++ record { entry = task_without_pages i.queued_trim r c; at = at } ∷ []) attentions) output output
  placed_goes at output is room k le st = record {
    replies = [];
    arrives = subst (λ a. ArrivesAs a r before [] after) (sym (is ∙ placed_as false room)) (refl, ap (λ (l : List Entry). record before { tasks = l }) tasks);
    said = refl;
  }
    where
      last : Placed
      last = record { entry = task_without_pages i.queued_trim r c; at = at }

      after : Device
      after = device_without_sectors i input (ps ++ last ∷ []) attentions

      tasks : device_tasks input (ps ++ last ∷ []) ≡ device_tasks input ps ++ task_for i.queued_trim r c ∷ []
      tasks = map-append (task_in input) ps (last ∷ []) ∙ ap (λ (t : Entry). device_tasks input ps ++ t ∷ []) (task_same input at i.queued_trim r c k le st)

  pub full_is : arrival before r ≡ placed before r c → has_no_room ps (held_blocks c) ≡ true → arrival before r ≡ answered (reply_to r TaskSetFull [])
  full_is is room = is ∙ placed_as true room

-- to logical unit 0, with a name that no task has
pub attention_first : (s : Device) (r : Request) → is_unit_0 r.lun ≡ true → list_any (is_called r.nexus (r.tag).0) s.tasks ≡ false → arrival s r ≡ attention_arrival (attention_for s r) s r
attention_first s r unit alone =
    ap (λ (b : Bool). if b || asks_for 0xA0 r then (if list_any (is_called r.nexus (r.tag).0) s.tasks then overlaps (check s r overlapped) else attention_arrival (attention_for s r) s r) else other_arrival s r) unit
    ∙ ap (λ (b : Bool). if b then overlaps (check s r overlapped) else attention_arrival (attention_for s r) s r) alone

-- a unit attention is told, or there is none
module _ (i : Identity) (input : List ℕ) (ps : List Placed) (attentions : List (List Attention)) (r : Request) (unit : is_unit_0 r.lun ≡ true) (alone : list_any (is_called r.nexus (r.tag).0) (device_tasks input ps) ≡ false) where
  abbrev begun : Device
  begun = device_without_sectors i input ps attentions

  attends : (what : Attention) (sense : Sense) → Some what ≡ attention_told attentions r → sense ≡ attention_sense what → arrival begun r ≡ attended (check begun r sense)
  attends what sense next is = attention_first begun r unit alone ∙ ap (λ (o : Option Attention). attention_arrival o begun r) (sym next) ∙ ap (λ (x : Sense). attended (check begun r x)) (sym is)

  pub attention_goes : (new : List (List Attention)) (what : Attention) (sense : Sense) (output left : List ℕ) → Some what ≡ attention_told attentions r → new ≡ attentions_left (Some what) r.nexus attentions → sense ≡ attention_sense what →
      output ≡ reply_bytes (reply_to r CheckCondition (fixed_form sense)) ++ left → ArrivesOn r begun (device_without_sectors i input ps new) output left
  attention_goes new what sense output left next told is e = attended_goes r begun (device_without_sectors i input ps new) (check begun r sense) output left (attends what sense next is) (refl, ap (device_without_sectors i input ps) told) e

  pub attention_sticks : (what : Attention) (sense : Sense) (output : List ℕ) → Some what ≡ attention_told attentions r → sense ≡ attention_sense what →
      ((rest : List ℕ) → output ≡ reply_bytes (reply_to r CheckCondition (fixed_form sense)) ++ rest → ⊥) → CannotArrive r begun output
  attention_sticks what sense output next is other = attended_sticks r begun (check begun r sense) output (attends what sense next is) other

  pub code_next : None ≡ attention_told attentions r → arrival begun r ≡ code_arrival begun r
  code_next next = attention_first begun r unit alone ∙ ap (λ (o : Option Attention). attention_arrival o begun r) (sym next)

pub serving : (i : Identity) (input : List ℕ) (ps : List Placed) (attentions : List (List Attention)) → IsServing i (device_without_sectors i input ps attentions)
serving i input ps attentions = record { same = refl; started = refl; up = refl }
