-- A request with a tag in place of another arrives as before.
use Rattle.std.proofs.Common.{◌≡◌, refl, sym, ap, ◌∙◌, subst, Bool, true, false, List, [], ◌∷◌, Option, Some, None}
use Rattle.std.proofs.lemmas.List.{map-append}
use Rattle.std.specs.Prelude.{if◌then◌else◌, not, ◌==◌, ◌||◌, ◌&&◌, nat_lt, ◌+◌, slice_get, length, Result, Ok, Err}
use Rattle.satl_base.specs.declared.request.Request.{Request}
use Rattle.satl_base.specs.declared.reply.Reply.{Reply}
use Rattle.satl_base.specs.Fields.{bit}
use Rattle.satl_base.specs.Limits.{leave_no_room}
use Rattle.satl_cdb.specs.declared.command.Command.{Command}
use Rattle.satl_cdb.specs.declared.command.Command.TheVariants as commands
use Rattle.satl_cdb.specs.declared.command.Illegal.{Illegal}
use Rattle.satl_cdb.specs.Table.{says}
use Rattle.satl_cdb.specs.Unmap.{ranges_of}
use Rattle.satl_unit.specs.declared.attention.Attention.{Attention}
use Rattle.satl_direct.specs.Device.{Device, attentions_of, is_of}
use Rattle.satl_direct.specs.Tasks.{asks, held_blocks, held_by, is_full, needed, range_of}
use Rattle.satl_direct.specs.Arrival.{Arrival, Arrives, ArrivesAs, arrival, asks_for, attention_arrival, attention_for, becomes, cdb_arrival, command_arrival, is_unit_0, other_arrival, placed, placed_unless, ready_reply, sense_told, unit_arrival, unless_refused}
use Rattle.satl_direct.specs.Arrival.Arrival.{answered, attended, overlaps, waits}
use Rattle.satl_renaming.proofs.Names.{AreApart, Names}
use Rattle.satl_renaming.proofs.Renaming.{any_called, arrival_by, device_by, entries_by, entry_by, filter_alike, held_alike, length_alike, replies_by, reply_by, request_by}

-- of two, the one that a test chooses
one_of : {X Y : Type 0} (f : X → Y) (b : Bool) {x y : X} {x' y' : Y} → x' ≡ f x → y' ≡ f y → (if b then x' else y') ≡ f (if b then x else y)
one_of f true p q = p
one_of f false p q = q

-- the same, where one test is the other
tested : {X Y : Type 0} (f : X → Y) {b b' : Bool} {x y : X} {x' y' : Y} → b' ≡ b → x' ≡ f x → y' ≡ f y → (if b' then x' else y') ≡ f (if b then x else y)
tested f {b = b} {x = x} {y = y} {x' = x'} {y' = y'} same p q = ap (λ c. if c then x' else y') same ∙ one_of f b p q

module _ (names : Names) (s : Device) (r : Request) where
  ready_alike : ready_reply (device_by names s) (request_by names r) ≡ reply_by names (ready_reply s r)
  ready_alike = one_of (reply_by names) s.down refl (one_of (reply_by names) (not s.started) refl refl)

  full_alike : (c : Command) → is_full (entries_by names s.tasks) c ≡ is_full s.tasks c
  full_alike c =
      ap (λ n. leave_no_room n (held_by (entries_by names s.tasks)) (held_blocks c)) (length_alike names s.tasks)
      ∙ ap (λ n. leave_no_room (length s.tasks) n (held_blocks c)) (held_alike names s.tasks)

  placed_alike : (c : Command) → placed (device_by names s) (request_by names r) c ≡ arrival_by names (placed s r c)
  placed_alike c = tested (arrival_by names) (full_alike c) refl refl

  unless_alike : (idle : Bool) (c : Command) → placed_unless idle (device_by names s) (request_by names r) c ≡ arrival_by names (placed_unless idle s r c)
  unless_alike idle c = one_of (arrival_by names) idle (ap answered ready_alike) (placed_alike c)

  sense_alike : (o : Option Attention) (descriptor : Bool) (alloc : _) → sense_told o (request_by names r) descriptor alloc ≡ arrival_by names (sense_told o r descriptor alloc)
  sense_alike None descriptor alloc = refl
  sense_alike (Some what) descriptor alloc = refl

  becomes_alike : (c : Command) → becomes (device_by names s) (request_by names r) c ≡ arrival_by names (becomes s r c)
  becomes_alike commands.TestUnitReady = ap answered ready_alike
  becomes_alike (commands.RequestSense descriptor alloc) = sense_alike (slice_get (attentions_of r.nexus s) 0) descriptor alloc
  becomes_alike (commands.ModeSelect ten size) = unless_alike (size == 0) (commands.ModeSelect ten size)
  becomes_alike (commands.StartStop start no_flush) = placed_alike (commands.StartStop start no_flush)
  becomes_alike (commands.Read form lba count fua) = unless_alike (count == 0) (commands.Read form lba count fua)
  becomes_alike (commands.Write form lba count fua) = unless_alike (count == 0) (commands.Write form lba count fua)
  becomes_alike (commands.Verify form lba count compare) = unless_alike (count == 0) (commands.Verify form lba count compare)
  becomes_alike (commands.Flush form lba count) = placed_alike (commands.Flush form lba count)
  becomes_alike (commands.WriteSame form lba count unmap) = placed_alike (commands.WriteSame form lba count unmap)
  becomes_alike (commands.Unmap size) = unless_alike ((size == 0) || (length (ranges_of r.body) == 0)) (commands.Unmap size)
  becomes_alike (commands.Pass cdb) = placed_alike (commands.Pass cdb)
  becomes_alike _ = refl

  refused_alike : (o : Option Illegal) (next' next : Arrival) → next' ≡ arrival_by names next → unless_refused o (device_by names s) (request_by names r) next' ≡ arrival_by names (unless_refused o s r next)
  refused_alike None next' next h = h
  refused_alike (Some why) next' next h = refl

  command_alike : (c : Command) → command_arrival (device_by names s) (request_by names r) c ≡ arrival_by names (command_arrival s r c)
  command_alike c =
      one_of (arrival_by names) (nat_lt s.identity.capacity ((range_of c).lba + (range_of c).count)) refl
      (refused_alike (asks c).length_fault _ _
      (one_of (arrival_by names) (nat_lt r.data_len (needed c)) refl
      (refused_alike ((asks c).data_fault s.identity s.modes r.body) _ _ (becomes_alike c))))

  cdb_alike : (said : Result Command Illegal) → cdb_arrival (device_by names s) (request_by names r) said ≡ arrival_by names (cdb_arrival s r said)
  cdb_alike (Err why) = refl
  cdb_alike (Ok c) = refused_alike (asks c).fields_fault _ _ (command_alike c)

  attention_alike : (o : Option Attention) → attention_arrival o (device_by names s) (request_by names r) ≡ arrival_by names (attention_arrival o s r)
  attention_alike (Some what) = refl
  attention_alike None = cdb_alike (says r.cdb s.identity.trim)

  other_alike : other_arrival (device_by names s) (request_by names r) ≡ arrival_by names (other_arrival s r)
  other_alike =
      one_of (arrival_by names) (asks_for 0x12 r && not (bit 1 0 r.cdb)) refl (one_of (arrival_by names) (asks_for 0x03 r) refl refl)

  module _ (apart : AreApart names) where
    unit_alike : unit_arrival (device_by names s) (request_by names r) ≡ arrival_by names (unit_arrival s r)
    unit_alike =
        tested (arrival_by names) (any_called names apart r.nexus (r.tag).0 s.tasks) refl (attention_alike (attention_for s r))

    -- what becomes of a request
    pub arrival_alike : arrival (device_by names s) (request_by names r) ≡ arrival_by names (arrival s r)
    arrival_alike = one_of (arrival_by names) (is_unit_0 r.lun || asks_for 0xA0 r) unit_alike other_alike

  arrives_as : (a : Arrival) (answers : List Reply) (new : Device) → ArrivesAs a r s answers new
      → ArrivesAs (arrival_by names a) (request_by names r) (device_by names s) (replies_by names answers) (device_by names new)
  arrives_as (answered reply) answers new h = (ap (replies_by names) h.0, ap (device_by names) h.1)
  arrives_as (attended reply) answers new h = (ap (replies_by names) h.0, ap (device_by names) h.1)
  arrives_as (overlaps reply) answers new h =
      (ap (replies_by names) h.0, ap (device_by names) h.1 ∙ ap (λ ts. record s { tasks = ts }) (sym (filter_alike names (λ t. not (is_of r.nexus t)) (λ t. not (is_of r.nexus t)) (λ t. refl) s.tasks)))
  arrives_as (waits task) answers new h =
      (ap (replies_by names) h.0, ap (device_by names) h.1 ∙ ap (λ ts. record s { tasks = ts }) (map-append (entry_by names) s.tasks (task ∷ [])))

  -- and what it does
  pub arrives_alike : AreApart names → (answers : List Reply) (new : Device) → Arrives r s answers new
      → Arrives (request_by names r) (device_by names s) (replies_by names answers) (device_by names new)
  arrives_alike apart answers new h =
      subst (λ a. ArrivesAs a (request_by names r) (device_by names s) (replies_by names answers) (device_by names new)) (sym (arrival_alike apart)) (arrives_as (arrival s r) answers new h)
