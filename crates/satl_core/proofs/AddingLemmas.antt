-- A request becomes the last task.
use Rattle.std.proofs.Common.{◌≡◌, refl, sym, ap, subst, ◌∙◌, arith, ℕ, zero, suc, ◌+◌, ◌*◌, ◌≤◌, Bool, true, false, List, [], ◌∷◌, ◌++◌, length, map, take, Some}
use Rattle.std.proofs.lemmas.Bool.{ltb-false, or_parts}
use Rattle.std.specs.Prelude.{IfSome, MatchBool, Option, ◌==◌, if◌then◌else◌, nat_lt, slice_get}
use Rattle.satl_base.specs.Blocks.{first_bytes}
use Rattle.satl_frame.specs.DataPages.{page_count, pages_of}
use Rattle.std.specs.List.{AllByRecursion}
use Rattle.satl_base.specs.declared.block.Block.{Block}
use Rattle.satl_base.specs.declared.block.Range.{Range}
use Rattle.satl_base.specs.declared.modes.ModeChange.{ModeChange}
use Rattle.satl_base.specs.declared.reply.Reply.{Reply}
use Rattle.satl_base.specs.declared.request.Request.{Request}
use Rattle.satl_cdb.specs.declared.command.Command.{Command}
use Rattle.satl_cdb.specs.declared.command.Command.TheVariants as cdbs
use Rattle.satl_identify.specs.declared.identity.Identity.{Identity}
use Rattle.satl_line.specs.declared.entry.Entry.{Entry}
use Rattle.satl_line.specs.Kinds.{kind_of}
use Rattle.satl_mode.specs.Changes.{IsChangeOf}
use Rattle.satl_line.specs.Tasks.{Adds, Held, entries_of, is_too_much, total_blocks, with_body}
use Rattle.satl_line.proofs.SlotsLemmas.{All-append}
use Rattle.satl_direct.specs.Tasks.{asks, data_out_kept, held_blocks, needed, pass_of, task_for, task_of, task_without_pages}
use Rattle.satl_core.specs.Layer.{CanTrim, FitsCapacity, IsKept, IsTask, Layer, entry_pages, held_pages}
use Rattle.satl_base.specs.Limits.{IsExpectable}
use Rattle.satl_base.specs.Lists.{change_at}
use Rattle.satl_core.specs.Refilling.{Comes}
use Rattle.satl_asks.specs.Commands.{HasList}
use Rattle.satl_core.specs.Submitting.{Becomes, FindsSetFull, HasEntries, IsAdded, trims}
use Rattle.satl_identify.specs.Refusals.{IsIdentity}
use Rattle.satl_core.proofs.AgreeingLemmas.{HasOwnEntries, fits_kept}
use Rattle.std.proofs.lemmas.List.{length-take, length_push}
use Rattle.satl_core.proofs.SelectLemmas.{change_same, taken_agrees}
use Rattle.satl_core.proofs.Transfers.{of_task}
use Rattle.satl_core.proofs.UnmapLemmas.{list_trims, range_trims, ranges_same}
use Rattle.satl_core.proofs.HeldLemmas.{held-append, last_at, last_changed}

pub count_with : (old new : List Held) (entry : Entry) → Adds old entry new → length new ≡ length old + 1
count_with old new entry a = ap length a.last ∙ length_push old (record { slot = a.slot; entry = entry })

-- the blocks of all tasks with one that is not too much
pub fits_in : (tasks : List Held) (e : Entry) → is_too_much tasks e ≡ false → total_blocks tasks + e.blocks ≤ 32768
fits_in tasks e fits = ltb-false 32768 (total_blocks tasks + e.blocks) (or_parts (length tasks == 64) (nat_lt 32768 (total_blocks tasks + e.blocks)) fits).1

-- the last task, as it came
pub last_is : (old new : List Held) (entry : Entry) (place : ℕ) → Adds old entry new → place ≡ length old → (h : Held) → slice_get new place ≡ Some h → h.entry ≡ entry
last_is old new entry place a is h at =
    let same : Some (record { slot = a.slot; entry = entry }) ≡ Some h = sym (ap (λ t. slice_get t place) a.last ∙ last_at old (record { slot = a.slot; entry = entry }) place is) ∙ at in
    let one : record { slot = a.slot; entry = entry } ≡ h = cc in
    ap (λ (x : Held). x.entry) (sym one)

-- the tasks once the last one has its pages
pub record HasPages (old : List Held) (entry : Entry) (body : List Block) (new : List Held) : Type 0 where
  pub slot : ℕ
  pub are : new ≡ old ++ record { slot = slot; entry = record entry { body = body } } ∷ []

pub given_pages : (old mid new : List Held) (entry : Entry) (body : List Block) (place : ℕ) → Adds old entry mid → place ≡ length old → new ≡ change_at mid place (with_body body) → HasPages old entry body new
given_pages old mid new entry body place a at is = record {
  slot = a.slot;
  are = is ∙ (ap (λ t. change_at t place (with_body body)) a.last ∙ last_changed (with_body body) old (record { slot = a.slot; entry = entry }) place at);
}

-- the task that came, with its pages, may be issued
pub comes_with : (identity : Identity) (old new : List Held) (entry : Entry) (body : List Block) → AllByRecursion (IsKept identity) new → HasOwnEntries entry.command identity.queued_trim entry.ranges.items body → HasPages old entry body new → Comes identity.capacity identity.queued_trim old new
comes_with identity old new entry body kept entries h = record {
  held = record { slot = h.slot; entry = record entry { body = body } };
  last = h.are;
  fits = fits_kept identity (record { slot = h.slot; entry = record entry { body = body } }) entries (last_kept old (record { slot = h.slot; entry = record entry { body = body } }) (subst (AllByRecursion (IsKept identity)) h.are kept));
}
  where
    last_kept : (ts : List Held) (k : Held) → AllByRecursion (IsKept identity) (ts ++ k ∷ []) → IsKept identity k
    last_kept [] k all = all.0
    last_kept (t ∷ ts) k all = last_kept ts k all.1

pub held_with : (old new : List Held) (entry : Entry) (body : List Block) → HasPages old entry body new → held_pages new ≡ held_pages old + length body
held_with old new entry body h =
    let both = held-append old (record { slot = h.slot; entry = record entry { body = body } } ∷ []) in
    let same = ap held_pages h.are in
    omega (arith, both, same)

pub kept_with : (identity : Identity) (old new : List Held) (entry : Entry) (body : List Block) → AllByRecursion (IsKept identity) old → length body ≡ entry.blocks + entry_pages entry.command identity.queued_trim → CanTrim identity entry.command entry.ranges.items → IsTask identity.capacity entry.command entry.blocks → entry.kind ≡ kind_of entry.command identity.queued_trim → IfSome entry.change (IsChangeOf identity) → IsExpectable entry.expected → HasPages old entry body new
    → AllByRecursion (IsKept identity) new
kept_with identity old new entry body all size trims task kind change expected h =
    subst (λ t. AllByRecursion (IsKept identity) t) (sym h.are) (All-append (IsKept identity) old (record { slot = h.slot; entry = record entry { body = body } } ∷ []) all (record { pages = size; trims = trims; task = task; kind = kind; change = change; expected = expected }, tt))

-- what the task of a request trims can be trimmed
pub can_trim : (identity : Identity) (r : Request) (c : Command) (n : ℕ) → IsIdentity identity → IsTask identity.capacity c n → HasList c r.body identity.capacity → (trims c ≡ true → identity.trim ≡ true) → CanTrim identity c ((asks c).ranges r.body)
can_trim identity r c n is t list has =
    of_task (λ c. HasList c r.body identity.capacity → (trims c ≡ true → identity.trim ≡ true) → CanTrim identity c ((asks c).ranges r.body)) identity.capacity n c
    (λ form lba count fua t list has. tt) (λ form lba count fua t list has. tt) (λ form lba count none list has. tt) (λ start no_flush none list has. tt) (λ ten size none list has. tt) (λ form lba count t list has. tt) (λ form lba count t list has. tt)
    (λ form lba count unmap. elim unmap as (λ b. (n ≡ 1) × FitsCapacity identity.capacity lba count → Unit {0} → (b ≡ true → identity.trim ≡ true) → CanTrim identity (cdbs.WriteSame form lba count b) ((asks (cdbs.WriteSame form lba count b)).ranges r.body)) [
      | true ↦ λ t list has. range_trims identity (record { lba = lba; count = count }) is (has refl) t.1.most t.1.some t.1.within
      | false ↦ λ t list has. tt
    ])
    (λ size t list has. list_trims identity r.body size is (has refl) list) (λ cdb t list has. tt) t list has

-- its page has its entries
pub own_entries : (r : Request) (c : Command) (queued_trim : Bool) (pages : List Block) → HasEntries c queued_trim r.body pages → HasOwnEntries c queued_trim ((asks c).ranges r.body) pages
own_entries r (cdbs.Unmap size) true pages has = λ queued. has
own_entries r (cdbs.Unmap size) false pages has = λ queued. absurd cc
own_entries r _ queued_trim pages has = tt

push_tasks : (old : List Held) (h : Held) → map task_of (entries_of (old ++ h ∷ [])) ≡ map task_of (entries_of old) ++ task_of h.entry ∷ []
push_tasks [] h = refl
push_tasks (x ∷ old) h = ap (λ l. task_of x.entry ∷ l) (push_tasks old h)

-- the task without its pages, and then with its data-out, is that of the device
task_is : (r : Request) (c : Command) (queued_trim : Bool) → record (task_without_pages queued_trim r c) { body = data_out_kept c (take (held_blocks c) r.body) } ≡ task_for queued_trim r c
task_is r c queued_trim = refl

pub tasks_with : (old new : List Held) (r : Request) (c : Command) (queued_trim : Bool) (body : List Block) → data_out_kept c body ≡ data_out_kept c (take (held_blocks c) r.body) → HasPages old (task_without_pages queued_trim r c) body new
    → map task_of (entries_of new) ≡ map task_of (entries_of old) ++ task_for queued_trim r c ∷ []
tasks_with old new r c queued_trim body same h =
    ap (λ t. map task_of (entries_of t)) h.are ∙ (push_tasks old (record { slot = h.slot; entry = record (task_without_pages queued_trim r c) { body = body } })
    ∙ (ap (λ b. map task_of (entries_of old) ++ record (task_without_pages queued_trim r c) { body = b } ∷ []) same
    ∙ ap (λ t. map task_of (entries_of old) ++ t ∷ []) (task_is r c queued_trim)))

pub becomes_added : (r : Request) (c : Command) (old : Layer) (replies : List Reply) (new : Layer) → is_too_much old.tasks (task_without_pages old.identity.queued_trim r c) ≡ false → IsAdded r c old replies new → Becomes r c old replies new
becomes_added r c old replies new fits added = rw fits added

take_take : {X : Type 0} (m n : ℕ) (xs : List X) → m ≤ length (take n xs) → take m (take n xs) ≡ take m xs
take_take zero n xs h = refl
take_take (suc m) zero xs h = absurd (omega (arith, h))
take_take (suc m) (suc n) [] h = refl
take_take (suc m) (suc n) (x ∷ xs) h = ap (λ l. x ∷ l) (take_take m n xs (omega (arith, h)))

-- the data-out of a task is that of the whole request
whole_data : (capacity n count : ℕ) (c : Command) (body : List Block) → IsTask capacity c n → needed c ≤ 512 * length (take count body) → data_out_kept c (take (held_blocks c) (take count body)) ≡ data_out_kept c (take (held_blocks c) body)
whole_data capacity n count c body t long =
    of_task (λ c. needed c ≤ 512 * length (take count body) → data_out_kept c (take (held_blocks c) (take count body)) ≡ data_out_kept c (take (held_blocks c) body)) capacity n c (λ form lba blocks fua t long. refl)
    (λ form lba blocks fua t long. take_take blocks count body (omega (arith, long))) (λ form lba blocks none long. refl) (λ start no_flush none long. refl) (λ ten size none long. refl)
    (λ form lba blocks t long. refl) (λ form lba blocks t long. take_take blocks count body (omega (arith, long)))
    (λ form lba blocks unmap. elim unmap as (λ b. (n ≡ 1) × FitsCapacity capacity lba blocks → needed (cdbs.WriteSame form lba blocks b) ≤ 512 * length (take count body) → data_out_kept (cdbs.WriteSame form lba blocks b) (take (held_blocks (cdbs.WriteSame form lba blocks b)) (take count body)) ≡ data_out_kept (cdbs.WriteSame form lba blocks b) (take (held_blocks (cdbs.WriteSame form lba blocks b)) body)) [ true ↦ λ t long. take_take 1 count body (omega (arith, long)) | false ↦ λ t long. take_take 1 count body (omega (arith, long)) ])
    (λ size t long. refl) (λ cdb t long. through (pass_of cdb).out (pass_of cdb).length long) t long
  where
    through : (out : Bool) (n : ℕ) → (if out then n else 0) ≤ 512 * length (take count body)
        → (if out then pages_of (first_bytes n (take (page_count n) (take count body))) else []) ≡ (if out then pages_of (first_bytes n (take (page_count n) body)) else [])
    through true n long = ap (λ bs. pages_of (first_bytes n bs)) (take_take (page_count n) count body (omega (arith, long)))
    through false n long = refl

-- a task with other data-out
abbrev made : Entry → List Block → List Range → Option ModeChange → Entry
made t body ranges change = record t { body = body; ranges = record { items = ranges }; change = change }

-- what a task keeps of the data-out beside its pages
same_kept : (capacity n : ℕ) (c : Command) (count : ℕ) (body : List Block) → needed c ≤ 512 * length (take count body) → HasList c (take count body) capacity → IsTask capacity c n → ((asks c).ranges (take count body) ≡ (asks c).ranges body) × ((asks c).change (take count body) ≡ (asks c).change body)
same_kept capacity n c count body long list t =
    of_task (λ c. needed c ≤ 512 * length (take count body) → HasList c (take count body) capacity → ((asks c).ranges (take count body) ≡ (asks c).ranges body) × ((asks c).change (take count body) ≡ (asks c).change body)) capacity n c
    (λ form lba blocks fua t long list. (refl, refl)) (λ form lba blocks fua t long list. (refl, refl)) (λ form lba blocks none long list. (refl, refl)) (λ start no_flush none long list. (refl, refl))
    (λ ten size none long list. (refl, ap Some (change_same (take count body) body size ten (taken_agrees size count body (omega (arith, long, length-take count body))))))
    (λ form lba blocks t long list. (refl, refl)) (λ form lba blocks t long list. (refl, refl))
    (λ form lba blocks unmap. elim unmap as (λ b. (n ≡ 1) × FitsCapacity capacity lba blocks → needed (cdbs.WriteSame form lba blocks b) ≤ 512 * length (take count body) → Unit {0} → ((asks (cdbs.WriteSame form lba blocks b)).ranges (take count body) ≡ (asks (cdbs.WriteSame form lba blocks b)).ranges body) × ((asks (cdbs.WriteSame form lba blocks b)).change (take count body) ≡ (asks (cdbs.WriteSame form lba blocks b)).change body)) [ true ↦ λ t long list. (refl, refl) | false ↦ λ t long list. (refl, refl) ])
    (λ size t long list. (ranges_same (take count body) body size capacity (taken_agrees size count body (omega (arith, long, length-take count body))) list.header list.sound, refl)) (λ cdb t long list. (refl, refl)) t long list

-- what becomes of a request is what becomes of the whole one
pub becomes_whole : (w r : Request) (count capacity : ℕ) (c : Command) (old : Layer) (replies : List Reply) (new : Layer) → r ≡ record w { body = take count w.body } → IsTask capacity c (held_blocks c) → HasList c r.body capacity → (replies ≡ [] → needed c ≤ 512 * length r.body)
    → Becomes r c old replies new → Becomes w c old replies new
becomes_whole w r count capacity c old replies new is t list long b =
    (elim (is_too_much old.tasks (task_without_pages old.identity.queued_trim w c)) as (λ f. MatchBool f (FindsSetFull cut old replies new) (IsAdded cut c old replies new) → MatchBool f (FindsSetFull w old replies new) (IsAdded w c old replies new)) [
      | true ↦ λ a. record { reply = a.reply; stays = a.stays }
      | false ↦ λ a. record {
        none = a.none;
        last = a.last ∙ ap (λ t. map task_of (entries_of old.tasks) ++ t ∷ []) (same_task (subst (λ (x : Request). needed c ≤ 512 * length x.body) is (long a.none)));
        stays = a.stays;
      }
    ]) (subst (λ x. Becomes x c old replies new) is b)
  where
    cut : Request
    cut = record w { body = take count w.body }

    same_task : needed c ≤ 512 * length cut.body → task_for old.identity.queued_trim cut c ≡ task_for old.identity.queued_trim w c
    same_task room =
        let same = whole_data capacity (held_blocks c) count c w.body t room in
        let kept = same_kept capacity (held_blocks c) c count w.body room (subst (λ (x : Request). HasList c x.body capacity) is list) t in
        ap (λ b. made (task_for old.identity.queued_trim w c) b ((asks c).ranges cut.body) ((asks c).change cut.body)) same
        ∙ (ap (λ r. made (task_for old.identity.queued_trim w c) (data_out_kept c (take (held_blocks c) w.body)) r ((asks c).change cut.body)) kept.0 ∙ ap (made (task_for old.identity.queued_trim w c) (data_out_kept c (take (held_blocks c) w.body)) ((asks c).ranges w.body)) kept.1)
