-- What quiet moves change has no part in an arrival, nor in a task management function.
use Rattle.std.proofs.Common.{◌≡◌, refl, ap, ℕ, ◌+◌, Bool, List, Option, Some, None}
use Rattle.std.specs.Prelude.{if◌then◌else◌, not, ◌||◌, ◌&&◌, nat_lt, Result, Ok, Err}
use Rattle.std.specs.List.{list_any}
use Rattle.satl_base.specs.declared.request.Manage.{Manage}
use Rattle.satl_base.specs.declared.request.Request.{Request}
use Rattle.satl_base.specs.declared.reply.Response.TheVariants.{IncorrectLun}
use Rattle.satl_base.specs.Cells.{Cell}
use Rattle.satl_cdb.specs.declared.command.Command.{Command}
use Rattle.satl_cdb.specs.declared.command.Command.TheVariants as commands
use Rattle.satl_cdb.specs.declared.command.Illegal.{Illegal}
use Rattle.satl_cdb.specs.Table.{says}
use Rattle.satl_unit.specs.declared.attention.Attention.{Attention}
use Rattle.satl_unit.specs.declared.function.Function.{Function}
use Rattle.satl_unit.specs.declared.function.Function.TheVariants as functions
use Rattle.satl_unit.specs.Functions.{function_of}
use Rattle.satl_direct.specs.Device.{Device, is_called}
use Rattle.satl_direct.specs.Tasks.{asks, needed, range_of}
use Rattle.satl_direct.specs.Arrival.{Arrival, arrival, asks_for, attention_arrival, attention_for, becomes, cdb_arrival, check, command_arrival, is_unit_0, other_arrival, unless_refused}
use Rattle.satl_direct.specs.Arrival.Arrival.{answered, overlaps}
use Rattle.satl_direct.specs.Management.{Effect, effect, effect_or_none, has_unit, nothing_but}
use Rattle.satl_direct.specs.Senses.{out_of_range, overlapped, short_data}

-- cells, and whether the drive is active, have no part in an arrival
module _ (s : Device) (r : Request) (cells : List Cell) (active : Bool) where
  -- another device, with other cells, active or not
  abbrev other : Device
  other = record s { cells = cells; active = active }

  -- the steps of an arrival, from the last to the first, at both devices
  refused_same : (o : Option Illegal) (x y : Arrival) → x ≡ y → unless_refused o other r x ≡ unless_refused o s r y
  refused_same None x y h = h
  refused_same (Some why) x y h = refl

  becomes_same : (c : Command) → becomes other r c ≡ becomes s r c
  becomes_same (commands.Inquiry none alloc) = inquiry none
    where
      inquiry : (page : Option ℕ) → becomes other r (commands.Inquiry page alloc) ≡ becomes s r (commands.Inquiry page alloc)
      inquiry None = refl
      inquiry (Some page) = refl
  becomes_same _ = refl

  command_same : (c : Command) → command_arrival other r c ≡ command_arrival s r c
  command_same c =
      ap (λ (x : Arrival). if nat_lt s.identity.capacity ((range_of c).lba + (range_of c).count) then answered (check s r out_of_range) else x)
      (refused_same (asks c).length_fault _ _
      (ap (λ (x : Arrival). if nat_lt r.data_len (needed c) then answered (check s r short_data) else x)
      (refused_same ((asks c).data_fault s.identity s.modes r.body) _ _ (becomes_same c))))

  cdb_same : (said : Result Command Illegal) → cdb_arrival other r said ≡ cdb_arrival s r said
  cdb_same (Err why) = refl
  cdb_same (Ok c) = refused_same (asks c).fields_fault _ _ (command_same c)

  attention_same : (o : Option Attention) → attention_arrival o other r ≡ attention_arrival o s r
  attention_same (Some what) = refl
  attention_same None = cdb_same (says r.cdb s.identity.trim)

  -- the arrival at both devices
  pub arrival_quiet : arrival other r ≡ arrival s r
  arrival_quiet =
      ap (λ (x : Arrival). if is_unit_0 r.lun || asks_for 0xA0 r then x else other_arrival s r)
      (ap (λ (x : Arrival). if list_any (is_called r.nexus (r.tag).0) s.tasks then overlaps (check s r overlapped) else x) (attention_same (attention_for s r)))

-- nor in a task management function
module _ (s : Device) (cells : List Cell) (active : Bool) where
  -- another device, with other cells, active or not
  abbrev same_but : Device
  same_but = record s { cells = cells; active = active }

  -- a function at both devices
  function_same : (o : Option Function) (m : Manage) → effect_or_none o m same_but ≡ effect_or_none o m s
  function_same None m = refl
  function_same (Some functions.AbortTask) m = refl
  function_same _ m = refl

  -- its effect at both devices
  pub effect_quiet : (m : Manage) → effect m same_but ≡ effect m s
  effect_quiet m =
      ap (λ (e : Effect). if has_unit (function_of m.function) && not (is_unit_0 m.lun) then nothing_but IncorrectLun s else e) (function_same (function_of m.function) m)
