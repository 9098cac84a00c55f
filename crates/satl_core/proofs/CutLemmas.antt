-- A request whose pages were cut is judged as the whole request is.
use Rattle.std.proofs.Common.{inl, inr, ◌-◌, ◌≡◌, refl, sym, ap, subst, ◌∙◌, arith, cond, ℕ, ◌+◌, ◌<◌, ◌≤◌, Bool, true, false, List, length, ⊎_elim, take}
use Rattle.std.specs.Prelude.{Option, Some, None, Result, Ok, Err, not, ◌==◌, ◌||◌, nat_lt}
use Rattle.std.proofs.lemmas.Bool.{ltb-false}
use Rattle.satl_base.specs.declared.request.Request.{Request}
use Rattle.satl_base.specs.Fields.{bytes}
use Rattle.satl_cdb.specs.declared.command.Command.{Command}
use Rattle.satl_cdb.specs.declared.command.Command.TheVariants as cdbs
use Rattle.satl_cdb.specs.declared.command.Illegal.{Illegal}
use Rattle.satl_base.specs.Blocks.{no_block}
use Rattle.satl_cdb.specs.Unmap.{list_fault, ranges_of}
use Rattle.satl_cdb.specs.Table.{says}
use Rattle.satl_core.proofs.SelectLemmas.{Agree, select_same, taken_agrees}
use Rattle.satl_core.proofs.UnmapLemmas.{list_same, ranges_same}
use Rattle.std.proofs.lemmas.List.{get_or-take, length-take}
use Rattle.satl_unit.specs.declared.attention.Attention.{Attention}
use Rattle.satl_direct.specs.Senses.{out_of_range, overlapped, short_data}
use Rattle.satl_base.specs.declared.block.Block.{Block}
use Rattle.satl_direct.specs.Tasks.{asks, block_fault, fault_of_block, needed, range_of}
use Rattle.satl_core.specs.declared.submitting.AtOnce.{AtOnce}
use Rattle.satl_core.specs.declared.submitting.AtOnce.TheVariants as at_once
use Rattle.satl_core.specs.Layer.{Layer}
use Rattle.satl_asks.specs.Requests.{is_for_unit}
use Rattle.satl_core.specs.Submitting.{CanSubmit, answer_to, other_answer, attention_answer, attention_of, cdb_answer, code_answer, command_answer, judged, overlaps, readiness, HasLengths, HoldsList, is_idle, unless_illegal, unmap_list_fault}
use Rattle.satl_core.proofs.SayingLemmas.{IsSaid, said_of}
use Rattle.satl_core.proofs.JudgingLemmas.{has_header, list_held, of_command, of_told}

-- ---- a request whose pages were cut

abbrev judged_last : Bool → Bool → Option Attention → Request → Result Command AtOnce → Result Command AtOnce
judged_last unit over what r x = cond (not unit) (Err (other_answer r)) (cond over (Err (at_once.Check overlapped)) (attention_answer what r.cdb x))

abbrev judged_with : Layer → Request → Result Command AtOnce → Result Command AtOnce
judged_with l w x = judged_last (is_for_unit w) (overlaps l.tasks w) (attention_of l.attentions w) w x

module _ (l : Layer) (w : Request) (count : ℕ) (bytes : HasLengths w.cdb) (holds : HoldsList (record w { body = take count w.body })) where
  -- the bytes that a command needs of a list stand in the pages that are left
  agree : (n : ℕ) → n ≤ w.data_len → n < 65536 → Agree n (take count w.body) w.body
  agree n long short = taken_agrees n count w.body (let held = list_held (record w { body = take count w.body }) n holds long short in omega (arith, held, length-take count w.body))

  first_same : 512 ≤ w.data_len → block_fault (take count w.body) ≡ block_fault w.body
  first_same long =
      ap fault_of_block
      (get_or-take count w.body 0 no_block (let held = list_held (record w { body = take count w.body }) 512 holds long (omega arith) in omega (arith, held, length-take count w.body)))

  unmap_same : (size : ℕ) → (asks (cdbs.Unmap size)).length_fault ≡ None → size ≤ w.data_len → size < 65536 → unmap_list_fault (take count w.body) size l.identity.capacity ≡ unmap_list_fault w.body size l.identity.capacity
  unmap_same size header long short =
      (elim (size == 0) as (λ b. (size == 0) ≡ b → cond b None (list_fault (take count w.body) size l.identity.capacity) ≡ cond b None (list_fault w.body size l.identity.capacity)) [
        | true ↦ λ is. refl
        | false ↦ λ is. list_same (take count w.body) w.body size l.identity.capacity (agree size long short) (has_header size header is)
      ]) refl

  fault_same : (c : Command) → IsSaid w.cdb l.identity.trim c → (asks c).length_fault ≡ None → needed c ≤ w.data_len → (asks c).data_fault l.identity l.modes (take count w.body) ≡ (asks c).data_fault l.identity l.modes w.body
  fault_same c said =
      of_command (λ c. IsSaid w.cdb l.identity.trim c → (asks c).length_fault ≡ None → needed c ≤ w.data_len → (asks c).data_fault l.identity l.modes (take count w.body) ≡ (asks c).data_fault l.identity l.modes w.body) (λ c told. of_told (λ c. IsSaid w.cdb l.identity.trim c → (asks c).length_fault ≡ None → needed c ≤ w.data_len → (asks c).data_fault l.identity l.modes (take count w.body) ≡ (asks c).data_fault l.identity l.modes w.body) (λ said header long. refl) (λ descriptor alloc said header long. refl) (λ page alloc said header long. refl) (λ ten long_lba no_descriptor control page alloc said header long. refl) (λ said header long. refl) (λ alloc said header long. refl) (λ select alloc said header long. refl) c told)
      (λ form lba blocks fua said header long. refl) (λ form lba blocks fua said header long. refl) (λ form lba blocks said header long. refl) (λ start no_flush said header long. refl)
      (λ ten size said header long. select_same l.identity l.modes (take count w.body) w.body size ten (agree size long (said bytes)))
      (λ form lba blocks compare. elim compare as (λ b. IsSaid w.cdb l.identity.trim (cdbs.Verify form lba blocks b) → (asks (cdbs.Verify form lba blocks b)).length_fault ≡ None → needed (cdbs.Verify form lba blocks b) ≤ w.data_len → (asks (cdbs.Verify form lba blocks b)).data_fault l.identity l.modes (take count w.body) ≡ (asks (cdbs.Verify form lba blocks b)).data_fault l.identity l.modes w.body) [ true ↦ λ said header long. refl | false ↦ λ said header long. refl ])
      (λ form lba blocks unmap. elim unmap as (λ b. IsSaid w.cdb l.identity.trim (cdbs.WriteSame form lba blocks b) → (asks (cdbs.WriteSame form lba blocks b)).length_fault ≡ None → needed (cdbs.WriteSame form lba blocks b) ≤ w.data_len → (asks (cdbs.WriteSame form lba blocks b)).data_fault l.identity l.modes (take count w.body) ≡ (asks (cdbs.WriteSame form lba blocks b)).data_fault l.identity l.modes w.body) [ true ↦ λ said header long. first_same long | false ↦ λ said header long. refl ])
      (λ size said header long. unmap_same size header long (said.0 bytes)) (λ cdb said header long. refl) c said

  -- so it has nothing to do where the whole request has nothing to do
  answer_same : (c : Command) → IsSaid w.cdb l.identity.trim c → (asks c).length_fault ≡ None → needed c ≤ w.data_len → (asks c).data_fault l.identity l.modes w.body ≡ None → answer_to l (take count w.body) c ≡ answer_to l w.body c
  answer_same c said =
      of_command (λ c. IsSaid w.cdb l.identity.trim c → (asks c).length_fault ≡ None → needed c ≤ w.data_len → (asks c).data_fault l.identity l.modes w.body ≡ None → answer_to l (take count w.body) c ≡ answer_to l w.body c) (λ c told. of_told (λ c. IsSaid w.cdb l.identity.trim c → (asks c).length_fault ≡ None → needed c ≤ w.data_len → (asks c).data_fault l.identity l.modes w.body ≡ None → answer_to l (take count w.body) c ≡ answer_to l w.body c) (λ said header long sound. refl) (λ descriptor alloc said header long sound. refl) (λ page alloc said header long sound. refl) (λ ten long_lba no_descriptor control page alloc said header long sound. refl) (λ said header long sound. refl) (λ alloc said header long sound. refl) (λ select alloc said header long sound. refl) c told)
      (λ form lba blocks fua said header long sound. refl) (λ form lba blocks fua said header long sound. refl) (λ form lba blocks said header long sound. refl) (λ start no_flush said header long sound. refl) (λ ten size said header long sound. refl)
      (λ form lba blocks compare said header long sound. refl) (λ form lba blocks unmap said header long sound. refl)
      (λ size said header long sound. ap (λ b. cond b (Err (readiness l)) (Ok (cdbs.Unmap size))) (idle_same size header long (said.0 bytes) sound)) (λ cdb said header long sound. refl) c said
    where
      idle_same : (size : ℕ) → (asks (cdbs.Unmap size)).length_fault ≡ None → size ≤ w.data_len → size < 65536 → unmap_list_fault w.body size l.identity.capacity ≡ None → is_idle (cdbs.Unmap size) (take count w.body) ≡ is_idle (cdbs.Unmap size) w.body
      idle_same size header long short sound =
          (elim (size == 0) as (λ b. (size == 0) ≡ b → cond b None (list_fault w.body size l.identity.capacity) ≡ None → (b || (length (ranges_of (take count w.body)) == 0)) ≡ (b || (length (ranges_of w.body) == 0))) [
            | true ↦ λ is none. refl
            | false ↦ λ is none. ap (λ rs. length rs == 0) (ranges_same (take count w.body) w.body size l.identity.capacity (agree size long short) (has_header size header is) (list_same (take count w.body) w.body size l.identity.capacity (agree size long short) (has_header size header is) ∙ none))
          ]) refl sound

  command_same : (c : Command) → IsSaid w.cdb l.identity.trim c → command_answer l (record w { body = take count w.body }) c ≡ command_answer l w c
  command_same c said =
      ap (λ x. unless_illegal (asks c).fields_fault (cond (nat_lt l.identity.capacity ((range_of c).lba + (range_of c).count)) (Err (at_once.Check out_of_range)) x))
      (listed (asks c).length_fault refl)
    where
      -- what follows the tests of the data-out
      last : List Block → Result Command AtOnce
      last body = unless_illegal ((asks c).data_fault l.identity l.modes body) (answer_to l body c)

      refused_or : (o : Option Illegal) → (asks c).data_fault l.identity l.modes w.body ≡ o → (asks c).length_fault ≡ None → needed c ≤ w.data_len → unless_illegal o (answer_to l (take count w.body) c) ≡ unless_illegal o (answer_to l w.body c)
      refused_or None is header long = answer_same c said header long is
      refused_or (Some why) is header long = refl

      last_same : (asks c).length_fault ≡ None → needed c ≤ w.data_len → last (take count w.body) ≡ last w.body
      last_same header long =
          ap (λ o. unless_illegal o (answer_to l (take count w.body) c)) (fault_same c said header long)
          ∙ refused_or ((asks c).data_fault l.identity l.modes w.body) refl header long

      listed : (o : Option Illegal) → (asks c).length_fault ≡ o
          → unless_illegal o (cond (nat_lt w.data_len (needed c)) (Err (at_once.Check short_data)) (last (take count w.body))) ≡ unless_illegal o (cond (nat_lt w.data_len (needed c)) (Err (at_once.Check short_data)) (last w.body))
      listed (Some why) header = refl
      listed None header =
          (elim (nat_lt w.data_len (needed c)) as (λ b. nat_lt w.data_len (needed c) ≡ b → cond b (Err (at_once.Check short_data)) (last (take count w.body)) ≡ cond b (Err (at_once.Check short_data)) (last w.body)) [
            | true ↦ λ is. refl
            | false ↦ λ is. let long = ltb-false w.data_len (needed c) is in last_same header (omega (arith, long))
          ]) refl

  cdb_same : (found : Result Command Illegal) → says w.cdb l.identity.trim ≡ found → cdb_answer l (record w { body = take count w.body }) found ≡ cdb_answer l w found
  cdb_same (Err why) e = refl
  cdb_same (Ok c) e = command_same c (said_of w.cdb l.identity.trim c e)

  code_same : code_answer l (record w { body = take count w.body }) ≡ code_answer l w
  code_same = cdb_same (says w.cdb l.identity.trim) refl

  -- it is judged as the whole request is
  pub judged_same : judged l (record w { body = take count w.body }) ≡ judged l w
  judged_same = ap (judged_with l w) code_same

pub judged_whole : (l : Layer) (w r : Request) (count : ℕ) (found : Result Command AtOnce) → r ≡ record w { body = take count w.body } → HasLengths r.cdb → HoldsList r → judged l r ≡ found → judged l w ≡ found
judged_whole l w r count found is bytes holds e =
    sym (judged_same l w count (subst (λ (x : Request). HasLengths x.cdb) is bytes) (subst HoldsList is holds)) ∙ subst (λ (x : Request). judged l x ≡ found) is e

-- a request that may be submitted holds a list: where no page is free, more are out than a list takes
pub holds_by : (r : Request) (free out held in_pool out_of_pool blocks count : ℕ) → CanSubmit r free out → in_pool ≡ free → out_of_pool - held ≡ out → held ≤ out_of_pool → in_pool + out_of_pool ≡ 32960 → held ≤ blocks + count → blocks ≤ 32768 → count ≤ 64 → HoldsList r
holds_by r free out held in_pool out_of_pool blocks count can is_free is_out within all same few short = ⊎_elim inl (λ none. inr (omega (arith, none, can.pages, is_free, is_out, within, all, same, few, short))) can.all
