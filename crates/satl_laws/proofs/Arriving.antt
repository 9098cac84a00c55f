-- The steps of an arrival, for a request that changes no block but as a WRITE does.
use Rattle.std.proofs.Common.{◌≡◌, refl, ℕ, ◌+◌, Bool, true, Option, Some, None, eqb-true}
use Rattle.std.specs.Prelude.{not, ◌||◌, ◌&&◌, nat_lt, Result, Ok, Err}
use Rattle.std.specs.List.{list_any}
use Rattle.std.proofs.lemmas.Bool.{ltb-false, and_parts}
use Rattle.satl_base.specs.declared.request.Request.{Request}
use Rattle.satl_base.specs.Fields.{bit}
use Rattle.satl_cdb.specs.declared.command.Command.{Command}
use Rattle.satl_cdb.specs.declared.command.Illegal.{Illegal}
use Rattle.satl_cdb.specs.Table.{says}
use Rattle.satl_unit.specs.declared.attention.Attention.{Attention}
use Rattle.satl_direct.specs.Device.{Device, is_called}
use Rattle.satl_direct.specs.Tasks.{asks, needed, range_of}
use Rattle.satl_direct.specs.Arrival.{Arrival, arrival, asks_for, attention_arrival, attention_for, cdb_arrival, code_arrival, command_arrival, is_unit_0, operation_code, other_arrival, unless_refused}
use Rattle.satl_laws.specs.ArrivalOrder.{writes_plainly}
use Rattle.satl_laws.proofs.Bringing.{Gets, inquiry_unknown, refused, sense_unknown}
use Rattle.satl_laws.proofs.Becoming.{becomes_gets, either_gets}

module _ (s : Device) (r : Request) where
  -- how many sectors there are
  abbrev n : ℕ
  n = s.identity.capacity

  -- whether a task has the nexus and tag
  abbrev has : Bool
  has = list_any (is_called r.nexus (r.tag).0) s.tasks

  -- the steps before that
  unless_gets : (said : Result Command Illegal) (o : Option Illegal) (next : Arrival) → Gets n has said r.body next → Gets n has said r.body (unless_refused o s r next)
  unless_gets said None next h = h
  unless_gets said (Some why) next h = refused said r.body _ refl

  command_gets : (c : Command) → writes_plainly (Ok c) ≡ true → Gets n has (Ok c) r.body (command_arrival s r c)
  command_gets c h =
      either_gets s r (Ok c) (nat_lt n ((range_of c).lba + (range_of c).count)) _ _
      (λ outside. refused (Ok c) r.body _ refl)
      (λ inside. unless_gets (Ok c) (asks c).length_fault _
      (either_gets s r (Ok c) (nat_lt r.data_len (needed c)) _ _
      (λ short. refused (Ok c) r.body _ refl)
      (λ enough. unless_gets (Ok c) ((asks c).data_fault s.identity s.modes r.body) _ (becomes_gets s r c h (ltb-false n ((range_of c).lba + (range_of c).count) inside)))))

  cdb_gets : (said : Result Command Illegal) → writes_plainly said ≡ true → Gets n has said r.body (cdb_arrival s r said)
  cdb_gets (Err why) h = refused (Err why) r.body _ refl
  cdb_gets (Ok c) h = unless_gets (Ok c) (asks c).fields_fault _ (command_gets c h)

  module _ (plain : writes_plainly (says r.cdb s.identity.trim) ≡ true) where
    -- what the CDB says
    abbrev it : Result Command Illegal
    it = says r.cdb s.identity.trim

    code_gets : Gets n has it r.body (code_arrival s r)
    code_gets = cdb_gets it plain

    told_gets : (o : Option Attention) → Gets n has it r.body (attention_arrival o s r)
    told_gets (Some what) = refused it r.body _ refl
    told_gets None = code_gets

    other_gets : Gets n has it r.body (other_arrival s r)
    other_gets =
        either_gets s r it (asks_for 0x12 r && not (bit 1 0 r.cdb)) _ _
        (λ h. inquiry_unknown r.cdb s.identity.trim (eqb-true (operation_code r) 0x12 (and_parts (asks_for 0x12 r) (not (bit 1 0 r.cdb)) h).0) r.body _)
        (λ h. either_gets s r it (asks_for 0x03 r) _ _
        (λ k. sense_unknown r.cdb s.identity.trim (eqb-true (operation_code r) 0x03 k) r.body _)
        (λ k. refused it r.body _ refl))

    -- what the request becomes
    pub arrival_gets : Gets n has it r.body (arrival s r)
    arrival_gets =
        either_gets s r it (is_unit_0 r.lun || asks_for 0xA0 r) _ _
        (λ here. either_gets s r it has _ _ (λ some. some) (λ none. told_gets (attention_for s r)))
        (λ there. other_gets)
