-- Each request has one answer before its nexus and tag are used again.
use Rattle.std.proofs.Common.{◌≡◌, refl, sym, ap, ◌∙◌, subst, ℕ, suc, ◌+◌, ◌<◌, ◌≤◌, Bool, true, false, List, [], ◌∷◌, ◌++◌, Option, Some, None, arith, length, append_assoc}
use Rattle.std.specs.Prelude.{if◌then◌else◌, ◌==◌, ◌&&◌, ◌||◌, not, nat_lt, take, drop, Result, Ok, Err, slice_get}
use Rattle.std.specs.List.{AllByRecursion, list_any}
use Rattle.std.proofs.Math.Bool.{or-false}
use Rattle.std.proofs.lemmas.List.{length-append, take-append-drop, take-append-le}
use Rattle.std.proofs.Math.Seq.{take-append_seam}
use Rattle.std.proofs.lemmas.Grind.{flat_map-append}
use Rattle.satl_base.specs.declared.bench.BenchEvent.TheVariants as bench
use Rattle.satl_base.specs.declared.request.Request.{Request}
use Rattle.satl_base.specs.Fields.{bit}
use Rattle.satl_base.specs.Lists.{how_many}
use Rattle.satl_base.proofs.ListsLemmas.{All-push_end, none_counted}
use Rattle.satl_cdb.specs.declared.command.Command.{Command}
use Rattle.satl_cdb.specs.declared.command.Command.TheVariants as commands
use Rattle.satl_cdb.specs.declared.command.Illegal.{Illegal}
use Rattle.satl_cdb.specs.Table.{says}
use Rattle.satl_cdb.specs.Unmap.{ranges_of}
use Rattle.satl_unit.specs.declared.attention.Attention.{Attention}
use Rattle.satl_frame.specs.declared.frames.Frame.{Frame}
use Rattle.satl_frame.specs.declared.frames.Frame.TheVariants as frames
use Rattle.satl_frame.specs.Output.{Answer}
use Rattle.satl_frame.specs.Output.Answer.{replied, managed, closed}
use Rattle.satl_direct.specs.Device.{Device, attentions_of, is_called}
use Rattle.satl_direct.specs.Tasks.{asks, is_full, needed, range_of}
use Rattle.satl_direct.specs.Arrival.{Arrival, arrival, asks_for, attention_arrival, attention_for, becomes, cdb_arrival, check, command_arrival, is_unit_0, placed, placed_unless, sense_told, unless_refused}
use Rattle.satl_direct.specs.Arrival.Arrival.{overlaps}
use Rattle.satl_direct.specs.Senses.{overlapped}
use Rattle.satl_direct.specs.Run.{RunDeep, joined}
use Rattle.satl_direct.specs.Run.RunDeep.{start, next_event}
use Rattle.satl_laws.specs.ArrivalOrder.{AskOnce, is_done, is_good, was_done}
use Rattle.satl_laws.specs.OnceEach.{answers_to, asks_by, cleared_by, removed, taken_off}
use Rattle.satl_laws.proofs.Cases.{chosen, how_many-append}
use Rattle.satl_laws.proofs.Counts.{run_counts}
use Rattle.satl_laws.proofs.InOrderTurns.{fewer}
use Rattle.satl_laws.proofs.Names.{asks_self, none_done, one}
use Rattle.satl_laws.proofs.Seen.{by_test}
use Rattle.satl_laws.proofs.Rows.{all_at, all_front}
use Rattle.satl_laws.proofs.Runs.{split}
use Rattle.satl_renaming.specs.UsedAgain.{AnsweredIsFree, EachAnsweredFirst, FirstReplyTells, NoSecondReply, OneReplyUsedAgain, OnceIsFree, answers_for, finds_its_name, first_is_good, how_many_before, leaves_tasks, names_are_free}
use Rattle.satl_renaming.proofs.AnswersBack.{counted_back}
use Rattle.satl_renaming.proofs.LawsBack.{answers, back_at}
use Rattle.satl_renaming.proofs.Names.{at_first, names_after, own_tag}
use Rattle.satl_renaming.proofs.RenamedInputs.{all_renamed, asked_once, frames_by, renamed_at, request_at}
use Rattle.satl_renaming.proofs.RenamedRuns.{RenamedRun, run_size, renamed_run}
use Rattle.satl_renaming.proofs.Renaming.{entries_by, frame_by}

-- ---- where no task has its name, a request takes none off

abbrev TakesNone : Device → Request → Arrival → Type 0
TakesNone s r a = cleared_by a r s ≡ []

module _ (s : Device) (r : Request) where
  placed_none : (c : Command) → TakesNone s r (placed s r c)
  placed_none c = chosen (TakesNone s r) (is_full s.tasks c) refl refl

  unless_none : (idle : Bool) (c : Command) → TakesNone s r (placed_unless idle s r c)
  unless_none idle c = chosen (TakesNone s r) idle refl (placed_none c)

  sense_none : (o : Option Attention) (descriptor : Bool) (alloc : ℕ) → TakesNone s r (sense_told o r descriptor alloc)
  sense_none None descriptor alloc = refl
  sense_none (Some what) descriptor alloc = refl

  becomes_none : (c : Command) → TakesNone s r (becomes s r c)
  becomes_none (commands.RequestSense descriptor alloc) = sense_none (slice_get (attentions_of r.nexus s) 0) descriptor alloc
  becomes_none (commands.ModeSelect ten size) = unless_none (size == 0) (commands.ModeSelect ten size)
  becomes_none (commands.StartStop starts no_flush) = placed_none (commands.StartStop starts no_flush)
  becomes_none (commands.Read form lba count fua) = unless_none (count == 0) (commands.Read form lba count fua)
  becomes_none (commands.Write form lba count fua) = unless_none (count == 0) (commands.Write form lba count fua)
  becomes_none (commands.Verify form lba count compare) = unless_none (count == 0) (commands.Verify form lba count compare)
  becomes_none (commands.Flush form lba count) = placed_none (commands.Flush form lba count)
  becomes_none (commands.WriteSame form lba count unmap) = placed_none (commands.WriteSame form lba count unmap)
  becomes_none (commands.Unmap size) = unless_none ((size == 0) || (length (ranges_of r.body) == 0)) (commands.Unmap size)
  becomes_none (commands.Pass cdb) = placed_none (commands.Pass cdb)
  becomes_none _ = refl

  refused_none : (o : Option Illegal) (next : Arrival) → TakesNone s r next → TakesNone s r (unless_refused o s r next)
  refused_none None next h = h
  refused_none (Some why) next h = refl

  command_none : (c : Command) → TakesNone s r (command_arrival s r c)
  command_none c =
      chosen (TakesNone s r) (nat_lt s.identity.capacity ((range_of c).lba + (range_of c).count)) refl
      (refused_none (asks c).length_fault _
      (chosen (TakesNone s r) (nat_lt r.data_len (needed c)) refl
      (refused_none ((asks c).data_fault s.identity s.modes r.body) _ (becomes_none c))))

  cdb_none : (said : Result Command Illegal) → TakesNone s r (cdb_arrival s r said)
  cdb_none (Err why) = refl
  cdb_none (Ok c) = refused_none (asks c).fields_fault _ (command_none c)

  attention_none : (o : Option Attention) → TakesNone s r (attention_arrival o s r)
  attention_none (Some what) = refl
  attention_none None = cdb_none (says r.cdb s.identity.trim)

  free_takes_none : list_any (is_called r.nexus (r.tag).0) s.tasks ≡ false → TakesNone s r (arrival s r)
  free_takes_none free =
      chosen (TakesNone s r) (is_unit_0 r.lun || asks_for 0xA0 r)
      (subst (λ b. TakesNone s r (if b then overlaps (check s r overlapped) else attention_arrival (attention_for s r) s r)) (sym free) (attention_none (attention_for s r)))
      (chosen (TakesNone s r) (asks_for 0x12 r && not (bit 1 0 r.cdb)) refl (chosen (TakesNone s r) (asks_for 0x03 r) refl refl))

-- nor does another event that leaves the tasks
none_taken : (event : Frame) (s : Device) → leaves_tasks event ≡ true → finds_its_name event s ≡ false → taken_off event s ≡ []
none_taken (frames.Request r) s leaves free = free_takes_none s r free
none_taken (frames.Manage m) s leaves free = absurd cc
none_taken (frames.Turn count) s leaves free = refl
none_taken (frames.Bench bench.Power) s leaves free = absurd cc
none_taken (frames.Bench event) s leaves free = refl
none_taken frames.End s leaves free = refl

-- ---- where the name of a request is free

-- where all earlier ones of its name are answered
answered_finds_none : {first s : Device} {events : List Frame} {groups : List (List Answer)} {losses deep : ℕ} (event : Frame) (so_far : RunDeep first events groups losses s deep) → first.tasks ≡ []
    → ((r : Request) → event ≡ frames.Request r → how_many (asks_by r.nexus (r.tag).0) events ≤ how_many (answers_to r.nexus (r.tag).0) (joined groups)) → finds_its_name event s ≡ false
answered_finds_none {s = s} (frames.Request r) so_far empty told =
    none_counted (is_called r.nexus (r.tag).0) s.tasks (omega (arith, run_counts r.nexus (r.tag).0 so_far, told r refl, ap (how_many (is_called r.nexus (r.tag).0)) empty))
answered_finds_none (frames.Manage m) so_far empty told = refl
answered_finds_none (frames.Turn count) so_far empty told = refl
answered_finds_none (frames.Bench event) so_far empty told = refl
answered_finds_none frames.End so_far empty told = refl

pub answered_is_free : AnsweredIsFree
answered_is_free first last all groups losses deep run empty told = go run told
  where
    earlier : (events : List Frame) (event : Frame) (groups : List (List Answer)) (now : List Answer) → length groups ≡ length events → EachAnsweredFirst (events ++ event ∷ []) (groups ++ now ∷ []) → EachAnsweredFirst events groups
    earlier events event groups now size told before after r place =
        let within : length before ≤ length groups = omega (arith, size, ap length place, length-append before (frames.Request r ∷ after)) in
        subst (λ l. how_many (asks_by r.nexus (r.tag).0) before ≤ how_many (answers_to r.nexus (r.tag).0) (joined l)) (take-append-le (length before) groups (now ∷ []) within)
        (told before (after ++ event ∷ []) r (ap (λ l. l ++ event ∷ []) place ∙ append_assoc before (frames.Request r ∷ after) (event ∷ [])))

    go : {last : Device} {events : List Frame} {groups : List (List Answer)} {losses deep : ℕ} (run : RunDeep first events groups losses last deep) → EachAnsweredFirst events groups → names_are_free run ≡ true
    go (start quiet) told = refl
    go (next_event {events = events} {groups = groups} {s = s} event now d so_far does) told =
        ap (λ b. b && not (finds_its_name event s)) (go so_far (earlier events event groups now (run_size so_far) told))
        ∙ ap not (answered_finds_none event so_far empty
        (λ r is. subst (λ l. how_many (asks_by r.nexus (r.tag).0) events ≤ how_many (answers_to r.nexus (r.tag).0) (joined l)) (ap (λ n. take n (groups ++ now ∷ [])) (sym (run_size so_far)) ∙ take-append_seam groups (now ∷ []))
        (told events [] r (ap (λ e. events ++ e ∷ []) is))))

-- where each name asks once at most, none was asked by before
none_before : (events before after : List Frame) (r : Request) → AskOnce events → events ≡ before ++ frames.Request r ∷ after → how_many (asks_by r.nexus (r.tag).0) before ≡ 0
none_before events before after r few place =
    let self : one (asks_by r.nexus (r.tag).0 (frames.Request r)) ≡ 1 = ap one (asks_self r) in
    omega (arith, few r.nexus (r.tag).0, ap (how_many (asks_by r.nexus (r.tag).0)) place, how_many-append (asks_by r.nexus (r.tag).0) before (frames.Request r ∷ after), self)

pub once_is_free : OnceIsFree
once_is_free first last all groups losses deep run empty few =
    answered_is_free first last all groups losses deep run empty (λ before after r place. omega (arith, none_before all before after r few place))

once_finds_none : {first s : Device} {events : List Frame} {groups : List (List Answer)} {losses deep : ℕ} (event : Frame) (so_far : RunDeep first events groups losses s deep) → first.tasks ≡ [] → AskOnce (events ++ event ∷ []) → finds_its_name event s ≡ false
once_finds_none {events = events} event so_far empty few =
    answered_finds_none event so_far empty (λ r is. omega (arith, none_before (events ++ event ∷ []) events [] r few (ap (λ e. events ++ e ∷ []) is)))

-- no task is taken off
removed_none : {first last : Device} {events : List Frame} {groups : List (List Answer)} {losses deep : ℕ} (nexus tag : ℕ) (run : RunDeep first events groups losses last deep) → first.tasks ≡ [] → AllByRecursion (λ f. leaves_tasks f ≡ true) events → AskOnce events
    → removed nexus tag run ≡ 0
removed_none nexus tag (start quiet) empty leaves few = refl
removed_none nexus tag (next_event {events = events} {s = s} event now d so_far does) empty leaves few =
    let earlier = removed_none nexus tag so_far empty (all_front (λ f. leaves_tasks f ≡ true) events [] event leaves) (fewer events event few) in
    let none = none_taken event s (all_at (λ f. leaves_tasks f ≡ true) events [] event leaves) (once_finds_none event so_far empty few) in
    omega (arith, earlier, ap (how_many (is_called nexus tag)) none)

-- ---- the laws

-- what is counted of the answers to a request, as it is renamed
module _ (first last : Device) (all : List Frame) (groups : List (List Answer)) (losses deep : ℕ) (run : RunDeep first all groups losses last deep) (empty : first.tasks ≡ []) (r : RenamedRun first last all groups losses deep run)
    (before after : List Frame) (q : Request) (place : all ≡ before ++ frames.Request q ∷ after) where
  -- its tag
  abbrev own : ℕ
  own = own_tag (length before)

  -- how often it is asked by
  asked_one : how_many (asks_by q.nexus own) r.inputs ≡ 1
  asked_one =
      let k = renamed_at all before after q place in
      let split = r.inputs_are ∙ k.split in
      let self : one (asks_by q.nexus own (frames.Request (request_at (length before) q))) ≡ 1 = ap one (asks_self (request_at (length before) q)) in
      let few : how_many (asks_by q.nexus own) r.inputs < 2 = subst (λ l. how_many (asks_by q.nexus own) l < 2) (sym r.inputs_are) (asked_once all q.nexus own) in
      omega (arith, few, self, ap (how_many (asks_by q.nexus own)) split, how_many-append (asks_by q.nexus own) (frames_by 0 at_first before) (frames.Request (request_at (length before) q) ∷ k.later))

  -- answers to the request, tasks that wait of its tag, and those that were taken off
  counted_one : how_many (answers_to q.nexus (q.tag).0) (answers_for all groups (length before) q) + how_many (is_called q.nexus own) (r.end).tasks + removed q.nexus own r.renamed ≡ 1
  counted_one =
      let counts = run_counts q.nexus own r.renamed in
      let back = counted_back q own (answers all groups) (answers_for all groups (length before) q) (back_at all groups before after q place) in
      omega (arith, counts, asked_one, back, ap (λ l. how_many (answers_to q.nexus own) (joined l)) r.answers_are, ap (how_many (is_called q.nexus own)) empty)

pub no_second_reply : NoSecondReply
no_second_reply first last all groups losses deep run before after q empty free place =
    let r = renamed_run run empty free in omega (arith, counted_one first last all groups losses deep run empty r before after q place)

leaves_alike : (event : Frame) → leaves_tasks event ≡ true → (names : _) → leaves_tasks (frame_by names event) ≡ true
leaves_alike (frames.Request r) h names = h
leaves_alike (frames.Manage m) h names = h
leaves_alike (frames.Turn count) h names = h
leaves_alike (frames.Bench event) h names = h
leaves_alike frames.End h names = h

pub one_reply_used_again : OneReplyUsedAgain
one_reply_used_again first last all groups losses deep run before after q empty free leaves place =
    let r : RenamedRun first last (all ++ frames.End ∷ []) groups losses deep run = renamed_run run empty free in
    let none_left : last.tasks ≡ [] = ((split run all frames.End refl).does.2).empty in
    let end : (r.end).tasks ≡ [] = ap (λ d. d.tasks) r.end_is ∙ ap (entries_by (names_after 0 at_first (all ++ frames.End ∷ []))) none_left in
    let none_removed : removed q.nexus (own_tag (length before)) r.renamed ≡ 0 =
    removed_none q.nexus (own_tag (length before)) r.renamed empty
    (subst (AllByRecursion (λ f. leaves_tasks f ≡ true)) (sym r.inputs_are) (all_renamed (λ f. leaves_tasks f ≡ true) (λ names f h. leaves_alike f h names) 0 at_first (all ++ frames.End ∷ []) (All-push_end (λ f. leaves_tasks f ≡ true) all frames.End leaves refl)))
    (subst AskOnce (sym r.inputs_are) (asked_once (all ++ frames.End ∷ []))) in
    omega (arith, counted_one first last (all ++ frames.End ∷ []) groups losses deep run empty r before after q place, none_removed, ap (how_many (is_called q.nexus (own_tag (length before)))) end)

-- the first of some answers among which a request has one
first_of : (r : Request) (told rest : List Answer) → how_many (answers_to r.nexus (r.tag).0) told ≡ 1 → was_done told r ≡ first_is_good r (told ++ rest)
first_of r [] rest h = absurd (omega (arith, h))
first_of r (a ∷ told) rest h =
    by_test (λ b. (if b then 1 else 0) + how_many (answers_to r.nexus (r.tag).0) told ≡ 1 → (is_done r a || was_done told r) ≡ (if b then is_done r a else first_is_good r (told ++ rest))) (answers_to r.nexus (r.tag).0 a)
    (λ its_own k. ap (λ b. is_done r a || b) (none_done r told (omega (arith, k))) ∙ or-false (is_done r a))
    (λ other k. ap (λ b. b || was_done told r) (not_its_own a other) ∙ first_of r told rest (omega (arith, k))) h
  where
    not_its_own : (x : Answer) → answers_to r.nexus (r.tag).0 x ≡ false → is_done r x ≡ false
    not_its_own (replied reply) other = ap (λ b. b && is_good reply.status) other
    not_its_own (managed nexus function response named) other = refl
    not_its_own closed other = refl

pub first_reply_tells : FirstReplyTells
first_reply_tells first last all groups losses deep run before after q empty free leaves place =
    let events : List Frame = all ++ frames.End ∷ [] in
    let behind : List (List Answer) = drop (length before) groups in
    let n : ℕ = suc (how_many_before q.nexus (q.tag).0 (drop (suc (length before)) events)) in
    first_of q (joined (take n behind)) (joined (drop n behind)) (one_reply_used_again first last all groups losses deep run before after q empty free leaves place)
    ∙ ap (first_is_good q) (sym (flat_map-append (λ group. group) (take n behind) (drop n behind)) ∙ ap joined (take-append-drop n behind))
