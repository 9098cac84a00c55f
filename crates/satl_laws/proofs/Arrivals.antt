-- Whom an arrival answers, and whose task it gives.
use Rattle.std.proofs.Common.{◌≡◌, refl, ℕ, ◌+◌, Bool, Option, Some, None}
use Rattle.std.specs.Prelude.{not, ◌==◌, ◌||◌, ◌&&◌, nat_lt, slice_get, length, Result, Ok, Err}
use Rattle.std.specs.List.{list_any}
use Rattle.satl_base.specs.declared.request.Request.{Request}
use Rattle.satl_base.specs.declared.reply.Reply.{Reply}
use Rattle.satl_base.specs.Fields.{bit}
use Rattle.satl_cdb.specs.declared.command.Command.{Command}
use Rattle.satl_cdb.specs.declared.command.Command.TheVariants as commands
use Rattle.satl_cdb.specs.declared.command.Illegal.{Illegal}
use Rattle.satl_cdb.specs.Table.{says}
use Rattle.satl_cdb.specs.Unmap.{ranges_of}
use Rattle.satl_unit.specs.declared.attention.Attention.{Attention}
use Rattle.satl_line.specs.declared.entry.Entry.{Entry}
use Rattle.satl_direct.specs.Device.{Device, attentions_of, is_called}
use Rattle.satl_direct.specs.Tasks.{asks, is_full, needed, range_of}
use Rattle.satl_direct.specs.Arrival.{Arrival, arrival, asks_for, attention_arrival, attention_for, becomes, cdb_arrival, code_arrival, command_arrival, is_unit_0, placed, placed_unless, ready_reply, sense_told, unless_refused}
use Rattle.satl_direct.specs.Arrival.Arrival.{answered, attended, overlaps, waits}
use Rattle.satl_laws.proofs.Cases.{chosen}
use Rattle.satl_laws.proofs.Coming.{WritesItsOwn, fields_own}

-- an answer to a request
pub record IsTo (r : Request) (reply : Reply) : Type 0 where
  pub nexus : reply.nexus ≡ r.nexus
  pub tag : reply.tag ≡ r.tag

-- a task of a request
pub record IsOf (r : Request) (task : Entry) : Type 0 where
  pub nexus : task.nexus ≡ r.nexus
  pub tag : task.tag ≡ r.tag
  pub own : WritesItsOwn task.command

-- an arrival that answers the request, or gives a task of it
abbrev pub IsFor : Request → Arrival → Type 0
IsFor r (answered reply) = IsTo r reply
IsFor r (attended reply) = IsTo r reply
IsFor r (overlaps reply) = IsTo r reply
IsFor r (waits task) = IsOf r task

module _ (s : Device) (r : Request) where
  -- the steps of an arrival, from the last to the first
  ready_to : IsTo r (ready_reply s r)
  ready_to = chosen (IsTo r) s.down (record { nexus = refl; tag = refl }) (chosen (IsTo r) (not s.started) (record { nexus = refl; tag = refl }) (record { nexus = refl; tag = refl }))

  placed_for : (c : Command) → WritesItsOwn c → IsFor r (placed s r c)
  placed_for c own = chosen (IsFor r) (is_full s.tasks c) (record { nexus = refl; tag = refl }) (record { nexus = refl; tag = refl; own = own })

  unless_for : (idle : Bool) (c : Command) → WritesItsOwn c → IsFor r (placed_unless idle s r c)
  unless_for idle c own = chosen (IsFor r) idle ready_to (placed_for c own)

  sense_for : (o : Option Attention) (descriptor : Bool) (alloc : ℕ) → IsFor r (sense_told o r descriptor alloc)
  sense_for None descriptor alloc = record { nexus = refl; tag = refl }
  sense_for (Some what) descriptor alloc = record { nexus = refl; tag = refl }

  becomes_for : (c : Command) → WritesItsOwn c → IsFor r (becomes s r c)
  becomes_for commands.TestUnitReady own = ready_to
  becomes_for (commands.RequestSense descriptor alloc) own = sense_for (slice_get (attentions_of r.nexus s) 0) descriptor alloc
  becomes_for (commands.ModeSelect ten size) own = unless_for (size == 0) (commands.ModeSelect ten size) own
  becomes_for (commands.StartStop start no_flush) own = placed_for (commands.StartStop start no_flush) own
  becomes_for (commands.Read form lba count fua) own = unless_for (count == 0) (commands.Read form lba count fua) own
  becomes_for (commands.Write form lba count fua) own = unless_for (count == 0) (commands.Write form lba count fua) own
  becomes_for (commands.Verify form lba count compare) own = unless_for (count == 0) (commands.Verify form lba count compare) own
  becomes_for (commands.Flush form lba count) own = placed_for (commands.Flush form lba count) own
  becomes_for (commands.WriteSame form lba count unmap) own = placed_for (commands.WriteSame form lba count unmap) own
  becomes_for (commands.Unmap size) own = unless_for ((size == 0) || (length (ranges_of r.body) == 0)) (commands.Unmap size) own
  becomes_for (commands.Pass cdb) own = placed_for (commands.Pass cdb) own
  becomes_for _ own = record { nexus = refl; tag = refl }

  refused_for : (o : Option Illegal) (next : Arrival) → (o ≡ None → IsFor r next) → IsFor r (unless_refused o s r next)
  refused_for None next n = n refl
  refused_for (Some why) next n = record { nexus = refl; tag = refl }

  command_for : (c : Command) → WritesItsOwn c → IsFor r (command_arrival s r c)
  command_for c own =
      chosen (IsFor r) (nat_lt s.identity.capacity ((range_of c).lba + (range_of c).count)) (record { nexus = refl; tag = refl })
      (refused_for (asks c).length_fault _
      (λ fine. chosen (IsFor r) (nat_lt r.data_len (needed c)) (record { nexus = refl; tag = refl })
      (refused_for ((asks c).data_fault s.identity s.modes r.body) _ (λ good. becomes_for c own))))

  cdb_for : (said : Result Command Illegal) → IsFor r (cdb_arrival s r said)
  cdb_for (Err why) = record { nexus = refl; tag = refl }
  cdb_for (Ok c) = refused_for (asks c).fields_fault _ (λ fine. command_for c (fields_own c fine))

  -- a task comes by its operation code and its fields
  pub code_for : IsFor r (code_arrival s r)
  code_for = cdb_for (says r.cdb s.identity.trim)

  attention_for_it : (o : Option Attention) → IsFor r (attention_arrival o s r)
  attention_for_it (Some what) = record { nexus = refl; tag = refl }
  attention_for_it None = code_for

  -- each arrival is for its request
  pub arrival_for : IsFor r (arrival s r)
  arrival_for =
      chosen (IsFor r) (is_unit_0 r.lun || asks_for 0xA0 r)
      (chosen (IsFor r) (list_any (is_called r.nexus (r.tag).0) s.tasks) (record { nexus = refl; tag = refl }) (attention_for_it (attention_for s r)))
      (chosen (IsFor r) (asks_for 0x12 r && not (bit 1 0 r.cdb)) (record { nexus = refl; tag = refl })
      (chosen (IsFor r) (asks_for 0x03 r) (record { nexus = refl; tag = refl }) (record { nexus = refl; tag = refl })))
