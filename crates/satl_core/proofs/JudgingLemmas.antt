-- What is known of a command that the layer lets become a task.
use Rattle.std.proofs.Common.{◌≡◌, refl, sym, ap, subst, arith, cond, ℕ, ◌+◌, ◌<◌, ◌≤◌, ◌^◌, Bool, true, false, List, length, ⊎_elim}
use Rattle.std.specs.Prelude.{Option, Some, None, Result, Ok, Err, IfOk, not, ◌==◌, ◌&&◌, nat_lt, IfSome, ◌*◌}
use Rattle.std.proofs.lemmas.Bool.{eqb-false, ltb-false, or_parts}
use Rattle.satl_base.specs.declared.request.Request.{Request}
use Rattle.satl_base.specs.Fields.{bytes}
use Rattle.satl_cdb.specs.declared.command.Command.{Command}
use Rattle.satl_cdb.specs.declared.command.Command.TheVariants as cdbs
use Rattle.satl_cdb.specs.declared.command.Illegal.{Illegal}
use Rattle.satl_cdb.specs.Refusals.{list_length_error}
use Rattle.satl_cdb.specs.Unmap.{list_fault, ranges_of}
use Rattle.satl_cdb.specs.BlockCommands.{read, unmap, write}
use Rattle.satl_cdb.specs.Table.{says}
use Rattle.satl_base.specs.declared.modes.Modes.{Modes}
use Rattle.satl_identify.specs.declared.identity.Identity.{Identity}
use Rattle.satl_identify.specs.Refusals.{IsIdentity}
use Rattle.satl_mode.specs.Changes.{AreModesOf, IsChangeOf, applied, change_in}
use Rattle.satl_mode.specs.SelectList.{select_fault, select_says, unless_fault}
use Rattle.satl_mode.proofs.Unchanged.{ok_change}
use Rattle.satl_identify.proofs.Judging.{capacity_bounds}
use Rattle.satl_cdb.specs.declared.command.Form.{Form}
use Rattle.satl_unit.specs.declared.attention.Attention.{Attention}
use Rattle.satl_direct.specs.Senses.{out_of_range, overlapped, short_data}
use Rattle.satl_direct.specs.Arrival.{check}
use Rattle.satl_base.specs.declared.block.Block.{Block}
use Rattle.satl_direct.specs.Tasks.{asks, held_blocks, needed, range_of}
use Rattle.satl_core.specs.declared.submitting.AtOnce.{AtOnce}
use Rattle.satl_core.specs.declared.submitting.AtOnce.TheVariants as at_once
use Rattle.satl_core.specs.Layer.{FitsCapacity, IsTask, IsWithin, Layer}
use Rattle.satl_asks.specs.Commands.{CanPass, HasList}
use Rattle.satl_asks.specs.Requests.{is_for_unit}
use Rattle.satl_core.specs.Submitting.{answer_to, other_answer, attention_answer, attention_of, cdb_answer, code_answer, command_answer, judged, overlaps, readiness, HasLengths, HoldsList, is_idle, trims, unless_idle, unless_illegal, unmap_list_fault}
use Rattle.satl_core.proofs.SayingLemmas.{IsSaid, said_of}

-- a command that is answered from what the device says of itself
abbrev pub IsTold : Command → Type 0
IsTold cdbs.TestUnitReady = Unit {0}
IsTold (cdbs.RequestSense a b) = Unit {0}
IsTold (cdbs.Inquiry a b) = Unit {0}
IsTold (cdbs.ModeSense a b e f g h) = Unit {0}
IsTold cdbs.ReadCapacity10 = Unit {0}
IsTold (cdbs.ReadCapacity16 a) = Unit {0}
IsTold (cdbs.ReportLuns a b) = Unit {0}
IsTold _ = ⊥

-- a command that is not answered at once has something to do
some_ok : (l : Layer) (body : List Block) (c d : Command) → unless_idle l body c ≡ Ok d → (c ≡ d) × (is_idle c body ≡ false)
some_ok l body c d e =
    (elim (is_idle c body) as (λ b. cond b (Err (readiness l)) (Ok c) ≡ Ok d → (c ≡ d) × (b ≡ false)) [
      | true ↦ λ f. absurd cc
      | false ↦ λ f. (cc, refl)
    ]) e

answer_ok : (l : Layer) (body : List Block) (c d : Command) → answer_to l body c ≡ Ok d → (c ≡ d) × (is_idle c body ≡ false) × (IsTold c → ⊥)
answer_ok l body cdbs.TestUnitReady d e = absurd cc
answer_ok l body (cdbs.Inquiry a b) d e = absurd cc
answer_ok l body (cdbs.ModeSense x y z t u v) d e = absurd cc
answer_ok l body cdbs.ReadCapacity10 d e = absurd cc
answer_ok l body (cdbs.ReadCapacity16 a) d e = absurd cc
answer_ok l body (cdbs.ReportLuns a b) d e = absurd cc
answer_ok l body (cdbs.RequestSense a b) d e = absurd cc
answer_ok l body c d e = let k = some_ok l body c d e in (k.0, k.1, λ told. told)

-- what is known of a command that is not answered at once
pub record IsGood (l : Layer) (r : Request) (c : Command) : Type 0 where
  pub fields : (asks c).fields_fault ≡ None
  pub within : nat_lt l.identity.capacity ((range_of c).lba + (range_of c).count) ≡ false
  pub header : (asks c).length_fault ≡ None
  pub long : nat_lt r.data_len (needed c) ≡ false
  pub sound : (asks c).data_fault l.identity l.modes r.body ≡ None
  pub some : is_idle c r.body ≡ false
  pub untold : IsTold c → ⊥

-- the tests of a command that is not answered at once: its fields, its range, the length of its list, the bytes of data-out,
-- and what is in them
abbrev pub tested : Option Illegal → Bool → Option Illegal → Bool → Option Illegal → Result Command AtOnce → Result Command AtOnce
tested fields outside header short sound next =
    unless_illegal fields (cond outside (Err (at_once.Check out_of_range)) (unless_illegal header (cond short (Err (at_once.Check short_data)) (unless_illegal sound next))))

tests_ok : (fields : Option Illegal) (outside : Bool) (header : Option Illegal) (short : Bool) (sound : Option Illegal) (next : Result Command AtOnce) (d : Command) → tested fields outside header short sound next ≡ Ok d
    → (fields ≡ None) × (outside ≡ false) × (header ≡ None) × (short ≡ false) × (sound ≡ None) × (next ≡ Ok d)
tests_ok None false None false None next d e = (refl, refl, refl, refl, refl, e)
tests_ok fields outside header short sound next d e = absurd cc

command_ok : (l : Layer) (r : Request) (c d : Command) → command_answer l r c ≡ Ok d → (c ≡ d) × IsGood l r c
command_ok l r c d e =
    let t = tests_ok (asks c).fields_fault (nat_lt l.identity.capacity ((range_of c).lba + (range_of c).count)) (asks c).length_fault (nat_lt r.data_len (needed c)) ((asks c).data_fault l.identity l.modes r.body) (answer_to l r.body c) d e in
    let k = answer_ok l r.body c d t.5 in
    (k.0, record { fields = t.0; within = t.1; header = t.2; long = t.3; sound = t.4; some = k.1; untold = k.2 })

-- what is known of a command that may become a task
pub record IsJudged (l : Layer) (r : Request) (c : Command) : Type 0 where
  pub said : says r.cdb l.identity.trim ≡ Ok c
  pub good : IsGood l r c

cdb_ok : (l : Layer) (r : Request) (c : Command) (found : Result Command Illegal) → says r.cdb l.identity.trim ≡ found → cdb_answer l r found ≡ Ok c → IsJudged l r c
cdb_ok l r c (Err why) said e = absurd cc
cdb_ok l r c (Ok d) said e =
    let k = command_ok l r d c e in
    subst (IsJudged l r) k.0 (record { said = said; good = k.1 })

code_ok : (l : Layer) (r : Request) (c : Command) → code_answer l r ≡ Ok c → IsJudged l r c
code_ok l r c e = cdb_ok l r c (says r.cdb l.identity.trim) refl e

-- what is judged of a request by these tests
abbrev pub judged_by : Bool → Bool → Option Attention → Layer → Request → Result Command AtOnce
judged_by unit over what l r = cond (not unit) (Err (other_answer r)) (cond over (Err (at_once.Check overlapped)) (attention_answer what r.cdb (code_answer l r)))

-- where a command may become a task, no test has stopped it
pub by_ok : (P : Bool → Bool → Option Attention → Type 0) (unit over : Bool) (what : Option Attention) (l : Layer) (r : Request) (c : Command) → (code_answer l r ≡ Ok c → P true false None) → judged_by unit over what l r ≡ Ok c → P unit over what
by_ok P true false None l r c p e = p e
by_ok P unit over what l r c p e = absurd cc

pub judged_ok : (l : Layer) (r : Request) (c : Command) → judged l r ≡ Ok c → IsJudged l r c
judged_ok l r c e = by_ok (λ unit over what. IsJudged l r c) (is_for_unit r) (overlaps l.tasks r) (attention_of l.attentions r) l r c (code_ok l r c) e

-- what holds of each command that is told, and of each that makes a task, holds of every command
pub of_command : (P : Command → Type 0) → ((c : Command) → IsTold c → P c)
    → ((form : Form) (lba count : ℕ) (fua : Bool) → P (cdbs.Read form lba count fua))
    → ((form : Form) (lba count : ℕ) (fua : Bool) → P (cdbs.Write form lba count fua))
    → ((form : Form) (lba count : ℕ) → P (cdbs.Flush form lba count))
    → ((start no_flush : Bool) → P (cdbs.StartStop start no_flush))
    → ((ten : Bool) (size : ℕ) → P (cdbs.ModeSelect ten size))
    → ((form : Form) (lba count : ℕ) (compare : Bool) → P (cdbs.Verify form lba count compare))
    → ((form : Form) (lba count : ℕ) (unmap : Bool) → P (cdbs.WriteSame form lba count unmap))
    → ((size : ℕ) → P (cdbs.Unmap size))
    → ((cdb : List ℕ) → P (cdbs.Pass cdb)) → (c : Command) → P c
of_command P told read write flush switch select check same trim through (cdbs.Read form lba count fua) = read form lba count fua
of_command P told read write flush switch select check same trim through (cdbs.Write form lba count fua) = write form lba count fua
of_command P told read write flush switch select check same trim through (cdbs.ModeSelect a b) = select a b
of_command P told read write flush switch select check same trim through (cdbs.StartStop a b) = switch a b
of_command P told read write flush switch select check same trim through (cdbs.Verify a b e f) = check a b e f
of_command P told read write flush switch select check same trim through (cdbs.Flush a b e) = flush a b e
of_command P told read write flush switch select check same trim through (cdbs.WriteSame a b e f) = same a b e f
of_command P told read write flush switch select check same trim through (cdbs.Unmap a) = trim a
of_command P told read write flush switch select check same trim through (cdbs.Pass a) = through a
of_command P told read write flush switch select check same trim through c = told c tt

-- what holds of each of them holds of a command that is told
pub of_told : (P : Command → Type 0) → P cdbs.TestUnitReady → ((descriptor : Bool) (alloc : ℕ) → P (cdbs.RequestSense descriptor alloc)) → ((page : Option ℕ) (alloc : ℕ) → P (cdbs.Inquiry page alloc)) → ((ten long_lba no_descriptor : Bool) (control page alloc : ℕ) → P (cdbs.ModeSense ten long_lba no_descriptor control page alloc)) → P cdbs.ReadCapacity10 → ((alloc : ℕ) → P (cdbs.ReadCapacity16 alloc)) → ((select alloc : ℕ) → P (cdbs.ReportLuns select alloc)) → (c : Command) → IsTold c → P c
of_told P ready sense told modes short long luns cdbs.TestUnitReady here = ready
of_told P ready sense told modes short long luns (cdbs.Inquiry a b) here = told a b
of_told P ready sense told modes short long luns (cdbs.ModeSense a b e f g h) here = modes a b e f g h
of_told P ready sense told modes short long luns cdbs.ReadCapacity10 here = short
of_told P ready sense told modes short long luns (cdbs.ReadCapacity16 a) here = long a
of_told P ready sense told modes short long luns (cdbs.ReportLuns a b) here = luns a b
of_told P ready sense told modes short long luns (cdbs.RequestSense a b) here = sense a b
of_told P ready sense told modes short long luns _ here = absurd here

makes_task : (capacity : ℕ) (cdb : List ℕ) (trim : Bool) (body : List Block) (c : Command) → HasLengths cdb → CanPass c → IsSaid cdb trim c → is_idle c body ≡ false → capacity < 2 ^ 48 → nat_lt capacity ((range_of c).lba + (range_of c).count) ≡ false → (IsTold c → ⊥) → IsTask capacity c (held_blocks c)
makes_task capacity cdb trim body c bytes can said some small within untold =
    of_command (λ c. CanPass c → IsSaid cdb trim c → is_idle c body ≡ false → nat_lt capacity ((range_of c).lba + (range_of c).count) ≡ false → (IsTold c → ⊥) → IsTask capacity c (held_blocks c))
    (λ c told can said some within untold. absurd (untold told))
    (λ form lba count fua can said some within untold. here lba count (said bytes.0) within some) (λ form lba count fua can said some within untold. here lba count (said bytes.0) within some)
    (λ form lba count can said some within untold. refl) (λ start no_flush can said some within untold. refl) (λ ten size can said some within untold. (refl, said bytes))
    (λ form lba count compare can. checked form lba count compare) (λ form lba count unmap can said some within untold. same form lba count unmap said within) (λ size can said some within untold. (refl, said.0 bytes))
    (λ bytes can said some within untold. (refl, can)) c can said some within untold
  where
    here : (lba count : ℕ) → count ≤ 4096 → nat_lt capacity (lba + count) ≡ false → (count == 0) ≡ false → IsWithin capacity lba count count
    here lba count few within some =
        let in_it = ltb-false capacity (lba + count) within in
        let one = eqb-false count 0 some in
        (refl, omega (arith, in_it, small, one), omega (arith, one), few, omega (arith, in_it))

    covered : (lba count : ℕ) → 1 ≤ count → count ≤ 65536 → nat_lt capacity (lba + count) ≡ false → FitsCapacity capacity lba count
    covered lba count some most within =
        let in_it = ltb-false capacity (lba + count) within in
        record { some = some; most = most; address = omega (arith, in_it, small); within = omega (arith, in_it) }

    checked : (form : Form) (lba count : ℕ) (compare : Bool) → IsSaid cdb trim (cdbs.Verify form lba count compare) → (count == 0) ≡ false → nat_lt capacity ((range_of (cdbs.Verify form lba count compare)).lba + (range_of (cdbs.Verify form lba count compare)).count) ≡ false → (⊥ → ⊥) → IsTask capacity (cdbs.Verify form lba count compare) (held_blocks (cdbs.Verify form lba count compare))
    checked form lba count true said some within untold = let one = eqb-false count 0 some in (refl, said, covered lba count (omega (arith, one)) (omega (arith, said)) within)
    checked form lba count false said some within untold = let one = eqb-false count 0 some in (refl, covered lba count (omega (arith, one)) said within)

    same : (form : Form) (lba count : ℕ) (unmap : Bool) → IsSaid cdb trim (cdbs.WriteSame form lba count unmap) → nat_lt capacity ((range_of (cdbs.WriteSame form lba count unmap)).lba + (range_of (cdbs.WriteSame form lba count unmap)).count) ≡ false → IsTask capacity (cdbs.WriteSame form lba count unmap) (held_blocks (cdbs.WriteSame form lba count unmap))
    same form lba count true said within = (refl, covered lba count said.0 said.1 within)
    same form lba count false said within = (refl, covered lba count said.0 said.1 within)

-- a command that may become a task makes one
pub code_task : (l : Layer) (r : Request) (found : Result Command AtOnce) → HasLengths r.cdb → IsIdentity l.identity → IfOk found CanPass → found ≡ code_answer l r → IfOk found (λ command. IsTask l.identity.capacity command (held_blocks command))
code_task l r (Ok c) bytes is can e =
    let j = code_ok l r c (sym e) in
    makes_task l.identity.capacity r.cdb l.identity.trim r.body c bytes can (said_of r.cdb l.identity.trim c j.said) j.good.some (capacity_bounds l.identity is).1 j.good.within j.good.untold
code_task l r (Err a) bytes is can e = tt

-- a list without a fault sets mode values that the drive can change
list_change : (i : Identity) (m : Modes) (list : List Block) (size : ℕ) (is_ten : Bool) → AreModesOf i m → select_fault i m list size is_ten ≡ None → IsChangeOf i (change_in list size is_ten)
unfolding select_says
list_change i m list size is_ten valid sound = ok_change i m list size is_ten (Ok (applied m (change_in list size is_ten))) (sym (ap (λ o. unless_fault o (applied m (change_in list size is_ten))) sound)) valid

-- so does each command
pub code_change : (l : Layer) (r : Request) (found : Result Command AtOnce) → AreModesOf l.identity l.modes → found ≡ code_answer l r → IfOk found (λ command. IfSome ((asks command).change r.body) (IsChangeOf l.identity))
code_change l r (Ok c) valid e =
    let j = code_ok l r c (sym e) in
    of_command (λ c. (asks c).data_fault l.identity l.modes r.body ≡ None → IfSome ((asks c).change r.body) (IsChangeOf l.identity)) (λ c told. of_told (λ c. (asks c).data_fault l.identity l.modes r.body ≡ None → IfSome ((asks c).change r.body) (IsChangeOf l.identity)) (λ sound. tt) (λ descriptor alloc sound. tt) (λ page alloc sound. tt) (λ ten long_lba no_descriptor control page alloc sound. tt) (λ sound. tt) (λ alloc sound. tt) (λ select alloc sound. tt) c told)
    (λ form lba count fua sound. tt) (λ form lba count fua sound. tt) (λ form lba count sound. tt) (λ start no_flush sound. tt) (λ ten size sound. list_change l.identity l.modes r.body size ten valid sound)
    (λ form lba count compare. elim compare as (λ b. (asks (cdbs.Verify form lba count b)).data_fault l.identity l.modes r.body ≡ None → IfSome ((asks (cdbs.Verify form lba count b)).change r.body) (IsChangeOf l.identity)) [ true ↦ λ sound. tt | false ↦ λ sound. tt ])
    (λ form lba count unmap. elim unmap as (λ b. (asks (cdbs.WriteSame form lba count b)).data_fault l.identity l.modes r.body ≡ None → IfSome ((asks (cdbs.WriteSame form lba count b)).change r.body) (IsChangeOf l.identity)) [ true ↦ λ sound. tt | false ↦ λ sound. tt ])
    (λ size sound. tt) (λ cdb sound. tt) c j.good.sound
code_change l r (Err a) valid e = tt

-- the bytes that a command needs of a list are there
pub list_held : (r : Request) (n : ℕ) → HoldsList r → n ≤ r.data_len → n < 65536 → n ≤ 512 * length r.body
list_held r n holds long short = ⊎_elim (λ all. omega (arith, all, long)) (λ all. omega (arith, all, short)) holds

-- a list of an UNMAP that is not empty has its header
pub has_header : (size : ℕ) → (asks (cdbs.Unmap size)).length_fault ≡ None → (size == 0) ≡ false → 8 ≤ size
has_header size none some =
    (elim (nat_lt size 8) as (λ b. nat_lt size 8 ≡ b → cond (not (size == 0) && b) (Some list_length_error) None ≡ None → 8 ≤ size) [
      | true ↦ λ is none. absurd (short (size == 0) some none)
      | false ↦ λ is none. let most = ltb-false size 8 is in omega (arith, most)
    ]) refl none
  where
    short : (b : Bool) → b ≡ false → cond (not b && true) (Some list_length_error) None ≡ None → ⊥
    short true is none = absurd cc
    short false is none = absurd cc

-- the list of an UNMAP that may become a task has no fault
pub code_list : (l : Layer) (r : Request) (found : Result Command AtOnce) → HasLengths r.cdb → HoldsList r → found ≡ code_answer l r → IfOk found (λ command. HasList command r.body l.identity.capacity)
code_list l r (Ok c) bytes holds e =
    let j = code_ok l r c (sym e) in
    by c (said_of r.cdb l.identity.trim c j.said) j.good
  where
    fault_no : (size : ℕ) → (size == 0) ≡ false → unmap_list_fault r.body size l.identity.capacity ≡ None → list_fault r.body size l.identity.capacity ≡ None
    fault_no size some none = (elim (size == 0) as (λ b. b ≡ false → cond b None (list_fault r.body size l.identity.capacity) ≡ None → list_fault r.body size l.identity.capacity ≡ None) [ true ↦ λ is none. absurd cc | false ↦ λ is none. none ]) some none

    by : (c : Command) → IsSaid r.cdb l.identity.trim c → IsGood l r c → HasList c r.body l.identity.capacity
    by (cdbs.Unmap size) said good =
        let some = (or_parts (size == 0) (length (ranges_of r.body) == 0) good.some).0 in
        let long = ltb-false r.data_len size good.long in
        record {
          header = has_header size good.header some;
          whole = list_held r size holds (omega (arith, long)) (said.0 bytes);
          sound = fault_no size some good.sound;
        }
    by _ said good = tt
code_list l r (Err a) bytes holds e = tt

-- a command that trims does so on a drive with trim
pub code_trims : (l : Layer) (r : Request) (found : Result Command AtOnce) → found ≡ code_answer l r → IfOk found (λ command. trims command ≡ true → l.identity.trim ≡ true)
code_trims l r (Ok c) e = let j = code_ok l r c (sym e) in by c (said_of r.cdb l.identity.trim c j.said)
  where
    by : (c : Command) → IsSaid r.cdb l.identity.trim c → trims c ≡ true → l.identity.trim ≡ true
    by (cdbs.Unmap size) said is = said.1
    by (cdbs.WriteSame form lba count unmap) said is = said.2 is
    by _ said is = absurd cc
code_trims l r (Err a) e = tt

-- a request has all the data-out that its command needs
pub long_enough : (l : Layer) (r : Request) (c : Command) → judged l r ≡ Ok c → needed c ≤ r.data_len
long_enough l r c e = let long = ltb-false r.data_len (needed c) (judged_ok l r c e).good.long in omega (arith, long)
