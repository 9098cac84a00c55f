-- A task of a device that there can be is that of its command: how it goes about the medium, and which sectors it goes over.
use Rattle.std.proofs.Common.{◌≡◌, refl, sym, subst, ap, Bool, true, false, ◌∙◌, ℕ, ◌+◌, Option, Some, None}
use Rattle.std.specs.Prelude.{not, ◌==◌, ◌||◌, nat_lt, slice_get, length, Result, Ok, Err}
use Rattle.std.specs.List.{list_any}
use Rattle.std.proofs.Math.Bool.{or-false, or-true}
use Rattle.satl_base.specs.declared.request.Request.{Request}
use Rattle.satl_cdb.specs.declared.command.Command.{Command}
use Rattle.satl_cdb.specs.declared.command.Command.TheVariants as commands
use Rattle.satl_cdb.specs.declared.command.Illegal.{Illegal}
use Rattle.satl_cdb.specs.Table.{says}
use Rattle.satl_cdb.specs.Unmap.{ranges_of}
use Rattle.satl_identify.specs.declared.identity.Identity.{Identity}
use Rattle.satl_unit.specs.declared.attention.Attention.{Attention}
use Rattle.satl_line.specs.declared.entry.Entry.{Entry}
use Rattle.satl_line.specs.Conflict.{is_alone, is_write}
use Rattle.satl_direct.specs.Arrival.{Arrival, becomes, cdb_arrival, code_arrival, command_arrival, placed, placed_unless, sense_told, unless_refused}
use Rattle.satl_direct.specs.Arrival.Arrival.{waits}
use Rattle.satl_direct.specs.Device.{Device, attentions_of}
use Rattle.satl_direct.specs.Tasks.{asks, is_full, is_ordered, needed, range_of, task_for}
use Rattle.satl_direct.specs.Valid.{HasCome}
use Rattle.satl_base.specs.Blocks.{lies_in}
use Rattle.satl_laws.specs.Passing.{alters, goes_over, goes_with_others}
use Rattle.satl_laws.proofs.Cases.{chosen}

-- a task by its command, on a drive that queues trims or does not
pub record IsAsked (queued_trim : Bool) (t : Entry) : Type 0 where
  pub alone : is_alone t.kind t.ordered ≡ (t.ordered || not (goes_with_others queued_trim t.command))
  pub writes : goes_with_others queued_trim t.command ≡ true → is_write t.kind ≡ alters t.command
  pub goes : goes_with_others queued_trim t.command ≡ true → (x : ℕ) → goes_over t.command t.ranges.items x ≡ list_any (λ range. lies_in range.lba range.count x) t.ranges.items

-- of a command that goes by itself
by_itself : (queued_trim : Bool) (r : Request) (c : Command) → is_alone (task_for queued_trim r c).kind (is_ordered r.attr) ≡ true → goes_with_others queued_trim c ≡ false → IsAsked queued_trim (task_for queued_trim r c)
by_itself queued_trim r c alone none = record {
  alone = alone ∙ sym (ap (λ b. is_ordered r.attr || not b) none ∙ or-true (is_ordered r.attr));
  writes = λ h. absurd (let no : true ≡ false = sym h ∙ none in cc);
  goes = λ h. absurd (let no : true ≡ false = sym h ∙ none in cc);
}

-- of an UNMAP
unmaps : (queued_trim : Bool) (r : Request) (size : ℕ) → IsAsked queued_trim (task_for queued_trim r (commands.Unmap size))
unmaps true r size = record { alone = sym (or-false (is_ordered r.attr)); writes = λ h. refl; goes = λ h x. refl }
unmaps false r size = by_itself false r (commands.Unmap size) refl refl

-- of each command
asked : (queued_trim : Bool) (r : Request) (c : Command) → IsAsked queued_trim (task_for queued_trim r c)
asked q r (commands.Read form lba count fua) = record { alone = sym (or-false (is_ordered r.attr)); writes = λ h. refl; goes = λ h x. sym (or-false (lies_in lba count x)) }
asked q r (commands.Write form lba count fua) = record { alone = sym (or-false (is_ordered r.attr)); writes = λ h. refl; goes = λ h x. sym (or-false (lies_in lba count x)) }
asked q r (commands.Unmap size) = unmaps q r size
asked q r other = by_itself q r other refl refl

-- ---- a task comes by a request

-- the task that waits after an arrival, if one does
abbrev IsAskedIn : Bool → Arrival → Type 0
IsAskedIn queued_trim (waits task) = IsAsked queued_trim task
IsAskedIn queued_trim _ = Unit {0}

module _ (s : Device) (r : Request) where
  abbrev queued_trim : Bool
  queued_trim = s.identity.queued_trim

  unless : (why : Option Illegal) (next : Arrival) → IsAskedIn queued_trim next → IsAskedIn queued_trim (unless_refused why s r next)
  unless None next h = h
  unless (Some why) next h = tt

  in_place : (c : Command) → IsAskedIn queued_trim (placed s r c)
  in_place c = chosen (IsAskedIn queued_trim) (is_full s.tasks c) tt (asked queued_trim r c)

  unless_idle : (idle : Bool) (c : Command) → IsAskedIn queued_trim (placed_unless idle s r c)
  unless_idle idle c = chosen (IsAskedIn queued_trim) idle tt (in_place c)

  tells_sense : (o : Option Attention) (descriptor : Bool) (alloc : ℕ) → IsAskedIn queued_trim (sense_told o r descriptor alloc)
  tells_sense None descriptor alloc = tt
  tells_sense (Some what) descriptor alloc = tt

  becomes_asked : (c : Command) → IsAskedIn queued_trim (becomes s r c)
  becomes_asked (commands.RequestSense descriptor alloc) = tells_sense (slice_get (attentions_of r.nexus s) 0) descriptor alloc
  becomes_asked (commands.ModeSelect ten size) = unless_idle (size == 0) (commands.ModeSelect ten size)
  becomes_asked (commands.StartStop start no_flush) = in_place (commands.StartStop start no_flush)
  becomes_asked (commands.Read form lba count fua) = unless_idle (count == 0) (commands.Read form lba count fua)
  becomes_asked (commands.Write form lba count fua) = unless_idle (count == 0) (commands.Write form lba count fua)
  becomes_asked (commands.Verify form lba count compare) = unless_idle (count == 0) (commands.Verify form lba count compare)
  becomes_asked (commands.Flush form lba count) = in_place (commands.Flush form lba count)
  becomes_asked (commands.WriteSame form lba count unmap) = in_place (commands.WriteSame form lba count unmap)
  becomes_asked (commands.Unmap size) = unless_idle ((size == 0) || (length (ranges_of r.body) == 0)) (commands.Unmap size)
  becomes_asked (commands.Pass cdb) = in_place (commands.Pass cdb)
  becomes_asked _ = tt

  said_asked : (said : Result Command Illegal) → IsAskedIn queued_trim (cdb_arrival s r said)
  said_asked (Err why) = tt
  said_asked (Ok c) =
      unless (asks c).fields_fault (command_arrival s r c)
      (chosen (IsAskedIn queued_trim) (nat_lt s.identity.capacity ((range_of c).lba + (range_of c).count)) tt
      (unless (asks c).length_fault _
      (chosen (IsAskedIn queued_trim) (nat_lt r.data_len (needed c)) tt
      (unless ((asks c).data_fault s.identity s.modes r.body) _ (becomes_asked c)))))

  code_asked : IsAskedIn queued_trim (code_arrival s r)
  code_asked = said_asked (says r.cdb s.identity.trim)

-- a task that has come is that of its command
pub come_asked : (identity : Identity) (t : Entry) → HasCome identity t → IsAsked identity.queued_trim t
come_asked identity t come =
    subst (λ i. IsAsked i.queued_trim t) come.same (subst (IsAskedIn (come.at).identity.queued_trim) come.became (code_asked come.at come.request))
