-- A SYNCHRONIZE CACHE is not answered with GOOD as it arrives, and its task conflicts with each other one.
use Rattle.std.proofs.Common.{◌≡◌, ⊎_elim, refl, sym, ap, ◌∙◌, cond, ℕ, ◌+◌, Bool, true, false, List, [], ◌∷◌, Option, Some, None, eqb-true}
use Rattle.std.specs.Prelude.{if◌then◌else◌, not, ◌||◌, ◌&&◌, nat_lt, slice_index, Result, Ok, Err}
use Rattle.std.specs.List.{list_any}
use Rattle.std.specs.Option.{option_map_or}
use Rattle.std.proofs.lemmas.Bool.{and_parts}
use Rattle.std.proofs.Math.Bool.{or-true}
use Rattle.satl_base.specs.declared.request.Request.{Request}
use Rattle.satl_base.specs.Fields.{bit}
use Rattle.satl_cdb.specs.declared.command.Command.{Command}
use Rattle.satl_cdb.specs.declared.command.Command.TheVariants as commands
use Rattle.satl_cdb.specs.declared.command.Illegal.{Illegal}
use Rattle.satl_cdb.specs.Rows.{Rule, broken_rule, format_of, found_says, unless_broken}
use Rattle.satl_cdb.specs.PrimaryCommands.{inquiry, request_sense}
use Rattle.satl_cdb.specs.Table.{says, table}
use Rattle.satl_unit.specs.declared.attention.Attention.{Attention}
use Rattle.satl_line.specs.declared.entry.Entry.{Entry}
use Rattle.satl_line.specs.declared.entry.Kind.TheVariants.{Barrier}
use Rattle.satl_line.specs.Conflict.{accesses_conflict, any_meet, conflicts, is_alone, is_write}
use Rattle.satl_line.specs.Eligible.{IsEligible}
use Rattle.satl_direct.specs.Arrival.{Arrival, arrival, asks_for, attention_arrival, attention_for, becomes, cdb_arrival, command_arrival, is_unit_0, operation_code, other_arrival, unless_refused}
use Rattle.satl_direct.specs.Arrival.Arrival.{answered, attended, overlaps, waits}
use Rattle.satl_direct.specs.Device.{Device, is_called}
use Rattle.satl_direct.specs.Tasks.{asks, is_full, needed, range_of}
use Rattle.satl_direct.specs.Turn.{IsFirst, MayEnd}
use Rattle.satl_laws.specs.ArrivalOrder.{is_good}
use Rattle.satl_laws.proofs.Cases.{by_bool, chosen}
use Rattle.satl_laws.proofs.Seen.{by_test}
use Rattle.satl_endurance.specs.Endurance.{flushes}

-- an answer at once is not GOOD
abbrev pub IsNotGood : Arrival → Type 0
IsNotGood (answered reply) = is_good reply.status ≡ false
IsNotGood (attended reply) = is_good reply.status ≡ false
IsNotGood (overlaps reply) = is_good reply.status ≡ false
IsNotGood (waits task) = Unit {0}

-- nor is one of two
either_not : (b : Bool) (x y : Arrival) → (b ≡ true → IsNotGood x) → (b ≡ false → IsNotGood y) → IsNotGood (if b then x else y)
either_not b x y p q = by_test (λ t. IsNotGood (if t then x else y)) b p q

-- a row of the table that is no SYNCHRONIZE CACHE
found_other : (rules : List Rule) (cdb : List ℕ) (c : Command) → flushes (Ok c) ≡ false → flushes (unless_broken rules cdb c) ≡ false
found_other [] cdb c other = other
found_other (rule ∷ rules) cdb c other =
    by_test (λ b. flushes (option_map_or (λ (r : Rule). Err r.refusal) (cond b (Some rule) (broken_rule rules cdb)) (Ok c)) ≡ false) (rule.breaks cdb)
    (λ broken. refl)
    (λ fine. found_other rules cdb c other)

-- INQUIRY is none, nor is REQUEST SENSE
inquiry_other : (cdb : List ℕ) (trim : Bool) → slice_index cdb 0 ≡ 0x12 → flushes (says cdb trim) ≡ false
unfolding says
inquiry_other cdb trim code =
    let is : says cdb trim ≡ found_says (Some inquiry) cdb = ap (λ c. found_says (format_of (table trim) c) cdb) code in
    ap flushes is ∙ found_other (inquiry.rules) cdb (inquiry.command cdb) refl

sense_other : (cdb : List ℕ) (trim : Bool) → slice_index cdb 0 ≡ 0x03 → flushes (says cdb trim) ≡ false
unfolding says
sense_other cdb trim code =
    let is : says cdb trim ≡ found_says (Some request_sense) cdb = ap (λ c. found_says (format_of (table trim) c) cdb) code in
    ap flushes is ∙ found_other (request_sense.rules) cdb (request_sense.command cdb) refl

module _ (s : Device) (r : Request) where
  not_unless : (why : Option Illegal) (next : Arrival) → IsNotGood next → IsNotGood (unless_refused why s r next)
  not_unless None next h = h
  not_unless (Some why) next h = refl

  becomes_not : (c : Command) → flushes (Ok c) ≡ true → IsNotGood (becomes s r c)
  becomes_not (commands.Flush form lba count) h = chosen IsNotGood (is_full s.tasks (commands.Flush form lba count)) refl tt
  becomes_not _ h = absurd cc

  command_not : (c : Command) → flushes (Ok c) ≡ true → IsNotGood (cdb_arrival s r (Ok c))
  command_not c h =
      not_unless (asks c).fields_fault (command_arrival s r c)
      (chosen IsNotGood (nat_lt s.identity.capacity ((range_of c).lba + (range_of c).count)) refl
      (not_unless (asks c).length_fault _
      (chosen IsNotGood (nat_lt r.data_len (needed c)) refl
      (not_unless ((asks c).data_fault s.identity s.modes r.body) _ (becomes_not c h)))))

  said_not : (said : Result Command Illegal) → flushes said ≡ true → IsNotGood (cdb_arrival s r said)
  said_not (Err why) h = refl
  said_not (Ok c) h = command_not c h

  told_not : (o : Option Attention) → flushes (says r.cdb s.identity.trim) ≡ true → IsNotGood (attention_arrival o s r)
  told_not (Some what) h = refl
  told_not None h = said_not (says r.cdb s.identity.trim) h

  other_not : flushes (says r.cdb s.identity.trim) ≡ true → IsNotGood (other_arrival s r)
  other_not h =
      either_not (asks_for 0x12 r && not (bit 1 0 r.cdb)) _ _
      (λ k. absurd (let no : true ≡ false = sym h ∙ inquiry_other r.cdb s.identity.trim (eqb-true (operation_code r) 0x12 (and_parts (asks_for 0x12 r) (not (bit 1 0 r.cdb)) k).0) in cc))
      (λ k. either_not (asks_for 0x03 r) _ _
      (λ l. absurd (let no : true ≡ false = sym h ∙ sense_other r.cdb s.identity.trim (eqb-true (operation_code r) 0x03 l) in cc))
      (λ l. refl))

  -- it is not answered with GOOD as it arrives
  pub not_at_once : flushes (says r.cdb s.identity.trim) ≡ true → IsNotGood (arrival s r)
  not_at_once h =
      chosen IsNotGood (is_unit_0 r.lun || asks_for 0xA0 r)
      (chosen IsNotGood (list_any (is_called r.nexus (r.tag).0) s.tasks) refl (told_not (attention_for s r) h))
      (other_not h)

-- ---- a barrier

barrier_conflicts : (u t : Entry) → t.kind ≡ Barrier → conflicts u t ≡ true
unfolding accesses_conflict
barrier_conflicts u t barrier =
    ap (λ k. is_alone u.kind u.ordered || is_alone k t.ordered || ((is_write u.kind || is_write k) && any_meet u.ranges.items t.ranges.items)) barrier
    ∙ ap (λ b. b || ((is_write u.kind || is_write Barrier) && any_meet u.ranges.items t.ranges.items)) (or-true (is_alone u.kind u.ordered))

-- a barrier that may be carried out is the first task
eligible_first : (tasks : List Entry) (t : Entry) → t.kind ≡ Barrier → IsEligible tasks t → IsFirst tasks t
eligible_first [] t barrier el = absurd el
eligible_first (u ∷ us) t barrier el = ⊎_elim (λ same. same) (λ rest. absurd (let no : true ≡ false = sym (barrier_conflicts u t barrier) ∙ rest.0 in cc)) el

pub ends_first : (s : Device) (t : Entry) → t.kind ≡ Barrier → MayEnd s t → IsFirst s.tasks t
ends_first s t barrier may = by_bool (s.down || not s.started) (λ first. first) (eligible_first s.tasks t barrier) may
