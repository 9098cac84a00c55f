-- The laws of runs, of what was served.
use Rattle.std.proofs.Common.{◌≡◌, ◌⊎◌, ◌∙◌, inl, inr, refl, ap, subst, arith, ℕ, zero, suc, false, true, List, [], ◌∷◌, ◌++◌}
use Rattle.std.specs.List.{AllByRecursion}
use Rattle.satl_base.specs.Cells.{Cell}
use Rattle.satl_base.specs.declared.block.Block.{Block}
use Rattle.satl_base.specs.declared.request.Request.{Request}
use Rattle.satl_base.specs.Losses.{Loses}
use Rattle.satl_base.specs.Lists.{IsIn, how_many}
use Rattle.satl_base.proofs.ListsLemmas.{how_many-push, in_either, in_left, leaves_in}
use Rattle.satl_base.proofs.LossesLemmas.{loses-nows}
use Rattle.satl_io.specs.Causes.{Rose, RoseBy}
use Rattle.satl_frame.specs.declared.frames.Frame.{Frame}
use Rattle.satl_frame.specs.declared.frames.Frame.TheVariants as frames
use Rattle.satl_frame.specs.Output.{Answer}
use Rattle.satl_direct.specs.Device.{Device, is_called}
use Rattle.satl_direct.specs.Run.{CutTurns, RunDeep}
use Rattle.satl_direct.specs.Valid.{IsValid}
use Rattle.satl_laws.specs.ArrivalOrder.{IsFresh, is_plain}
use Rattle.satl_laws.specs.CutShort.{WereDone}
use Rattle.satl_laws.specs.CutShort.WereDone.{all_done, last_cut}
use Rattle.satl_laws.specs.OnceEach.{asks_by}
use Rattle.satl_laws.proofs.Counts.{run_counts}
use Rattle.satl_laws.proofs.CutShort.{cut_short_is_a_run}
use Rattle.satl_laws.proofs.Runs.{split}
use Rattle.satl_renaming.specs.UsedAgain.{IsInOrderByPlace, names_are_free, was_done_at}
use Rattle.satl_renaming.proofs.LawsBack.{arrival_order_used_again, order_under_errors_used_again}
use Rattle.satl_renaming.proofs.OneReplyBack.{answered_is_free, one_reply_used_again}
use Rattle.satl_origins.specs.Origins.{ComesWith, IsRequestedIn, MayHold}
use Rattle.satl_origins.proofs.Requested.{only_requested, only_requested_is_read}
use Rattle.satl_serve.specs.declared.telling.Form.{Form}
use Rattle.satl_serve.specs.Headline.{IsServedToEnd}
use Rattle.satl_serve.specs.Moments.{Moment}
use Rattle.satl_promise.specs.Served.{IsOnTheDrive, IsServedInto, ServedAtMostOnce, ServedInOrder, ServedNothingInvented, ServedNothingInventedBefore, ServedNothingInventedInto, ServedNothingInventedIsRead, ServedOnce, ServedOnceBefore, ServedOneEach, ServedUnderErrors, frames_read, frames_taken}

-- a run to END leaves no task
none_left : {first last : Device} {all : List Frame} {groups : List (List Answer)} {losses deep : ℕ} → RunDeep first all groups losses last deep → (before : List Frame) → all ≡ before ++ frames.End ∷ [] → last.tasks ≡ []
none_left run before is = let s = split run before frames.End is in (s.does.2).empty

pub served_once : ServedOnce
served_once form limit before after served nexus tag =
    let run = served.run.run.run in
    omega (arith, run_counts nexus tag run, ap (how_many (is_called nexus tag)) served.begins.tasks, ap (how_many (is_called nexus tag)) (none_left run served.run.events refl))

pub served_once_before : ServedOnceBefore
served_once_before form limit why before after served nexus tag =
    omega (arith, run_counts nexus tag served.run.run.run, ap (how_many (is_called nexus tag)) served.begins.tasks)

pub served_one_each : ServedOneEach
served_one_each form limit before after served earlier later r leaves answered place =
    let s = served.run.run in
    one_reply_used_again served.first served.last served.run.events served.run.groups s.losses s.deep s.run earlier later r served.begins.tasks
    (answered_is_free served.first served.last (frames_read served) served.run.groups s.losses s.deep s.run served.begins.tasks answered) leaves place

-- a drive and a device that has its sectors, some of them written back
on_the_drive : (form : Form) (limit : ℕ) (before after : Moment) (served : IsServedToEnd form limit before after) → IsOnTheDrive served
on_the_drive form limit before after served = record { begins = loses-nows before.drive.cells served.first.cells served.begins.cells; ends = served.ends.cells }

-- flaws are where they were
clean_cells : (old new : List Cell) → Loses old new → AllByRecursion (λ (c : Cell). (c.read_flaw ≡ false) × (c.write_flaw ≡ false)) old → AllByRecursion (λ (c : Cell). (c.read_flaw ≡ false) × (c.write_flaw ≡ false)) new
clean_cells [] [] l all = tt
clean_cells [] (y ∷ new) l all = absurd l
clean_cells (x ∷ old) [] l all = absurd l
clean_cells (x ∷ old) (y ∷ new) l all = ((l.0.read_flaw ∙ all.0.0, l.0.write_flaw ∙ all.0.1), clean_cells old new l.1 all.1)

no_losses : (losses before now : ℕ) → RoseBy losses before now → (Rose before now → ⊥) → losses ≡ 0
no_losses zero before now rose none = refl
no_losses (suc n) before now rose none = absurd (none (omega (arith, rose)))

-- the law of runs, where the number of losses is known to be 0
in_order : (losses : ℕ) → losses ≡ 0 → (first last : Device) (all : List Frame) (groups : List (List Answer)) (deep : ℕ) (run : RunDeep first (all ++ frames.End ∷ []) groups losses last deep) →
    IsValid first → IsFresh first → AllByRecursion (λ f. is_plain first.identity.trim f ≡ true) all → names_are_free run ≡ true → IsInOrderByPlace (λ x. was_done_at (all ++ frames.End ∷ []) groups) first (all ++ frames.End ∷ []) groups last
in_order zero none first last all groups deep run valid fresh plain free = arrival_order_used_again first last all groups deep run valid fresh plain free
in_order (suc n) none first last all groups deep run valid fresh plain free = absurd (omega (arith, none))

pub served_in_order : ServedInOrder
served_in_order form limit before after served clean unlost plain answered =
    let s = served.run.run in
    let none = no_losses s.losses before.drive.faults after.drive.faults s.counted.faults unlost in
    let fresh : IsFresh served.first = record {
      up = served.begins.up;
      started = served.begins.started;
      no_tasks = served.begins.tasks;
      no_flaws = clean_cells before.drive.cells served.first.cells served.begins.cells clean.no_flaws;
      no_glitches = served.begins.glitches ∙ clean.no_glitches;
    } in
    let free = answered_is_free served.first served.last (frames_read served) served.run.groups s.losses s.deep s.run served.begins.tasks answered in
    record {
      order = in_order s.losses none served.first served.last served.run.events served.run.groups s.deep s.run served.begins.valid fresh plain free;
      drive = on_the_drive form limit before after served;
    }

pub served_under_errors : ServedUnderErrors
served_under_errors form limit before after served mild answered =
    let s = served.run.run in
    let free = answered_is_free served.first served.last (frames_read served) served.run.groups s.losses s.deep s.run served.begins.tasks answered in
    record {
      outcomes = order_under_errors_used_again served.first served.last (frames_read served) served.run.groups s.losses s.deep s.run served.begins.valid served.begins.tasks mild free;
      drive = on_the_drive form limit before after served;
    }

-- ---- where blocks come from

-- what a sector may hold once a cache has written back, it might hold before
held_before : (old new : List Cell) → Loses old new → (x : ℕ) (block : Block) → MayHold new x block → MayHold old x block
held_before [] [] l x block holds = absurd holds
held_before [] (b ∷ new) l x block holds = absurd l
held_before (a ∷ old) [] l x block holds = absurd l
held_before (a ∷ old) (b ∷ new) l zero block (inl now) = inl (now ∙ l.0.now)
held_before (a ∷ old) (b ∷ new) l zero block (inr may) = inr (leaves_in block a.may b.may l.0.fewer may)
held_before (a ∷ old) (b ∷ new) l (suc x) block holds = held_before old new l.1 x block holds

-- what comes with a device that has no task is in its sectors
comes_with_cells : (s : Device) (x : ℕ) (block : Block) {Other : Type 0} (cells : List Cell) → s.tasks ≡ [] → Loses cells s.cells → ComesWith s x block ⊎ Other → MayHold cells x block ⊎ Other
comes_with_cells s x block cells none lost (inl (inl holds)) = inl (held_before cells s.cells lost x block holds)
comes_with_cells s x block cells none lost (inl (inr task)) = absurd (subst (IsIn task.0) none task.1)
comes_with_cells s x block cells none lost (inr other) = inr other

pub served_nothing_invented : ServedNothingInvented
served_nothing_invented form limit before after served x block holds =
    let s = served.run.run in
    comes_with_cells served.first x block before.drive.cells served.begins.tasks served.begins.cells
    (only_requested served.first served.last (frames_read served) served.run.groups s.losses s.deep s.run x block served.begins.valid (subst (λ cells. MayHold cells x block) served.ends.cells holds))

pub served_nothing_invented_is_read : ServedNothingInventedIsRead
served_nothing_invented_is_read form limit before after served x block answered was =
    let s = served.run.run in
    comes_with_cells served.first x block before.drive.cells served.begins.tasks served.begins.cells
    (only_requested_is_read served.first served.last (frames_read served) served.run.groups s.losses s.deep s.run x block served.begins.valid
    (answered_is_free served.first served.last (frames_read served) served.run.groups s.losses s.deep s.run served.begins.tasks answered) was)

pub served_nothing_invented_before : ServedNothingInventedBefore
served_nothing_invented_before form limit why before after served x block holds =
    let s = served.run.run in
    comes_with_cells served.first x block before.drive.cells served.begins.tasks served.begins.cells
    (only_requested served.first served.last served.run.events served.run.groups s.losses s.deep s.run x block served.begins.valid (subst (λ cells. MayHold cells x block) served.ends.cells holds))

-- ---- where a write failed in the answers to a frame

-- an event that can be cut short asks for nothing, as the TURN that stands in its place
cut_asks : (nexus tag : ℕ) (event : Frame) (count : ℕ) → CutTurns event count → how_many (asks_by nexus tag) (event ∷ []) ≡ 0
cut_asks nexus tag (frames.Turn n) count asked = refl
cut_asks nexus tag frames.End count asked = refl
cut_asks nexus tag _ count asked = absurd asked

done_asks : (nexus tag : ℕ) (all done : List Frame) → WereDone all done → how_many (asks_by nexus tag) done ≡ how_many (asks_by nexus tag) all
done_asks nexus tag _ _ (all_done all) = refl
done_asks nexus tag _ _ (last_cut before event count some asked) =
    omega (arith, how_many-push (asks_by nexus tag) before event, how_many-push (asks_by nexus tag) before (frames.Turn count), cut_asks nexus tag event count asked)

done_requests : (r : Request) (all done : List Frame) → WereDone all done → IsIn (frames.Request r) done → IsIn (frames.Request r) all
done_requests r _ _ (all_done all) among = among
done_requests r _ _ (last_cut before event count some asked) among = at (in_either (frames.Request r) before (frames.Turn count ∷ []) among)
  where
    at : IsIn (frames.Request r) before ⊎ IsIn (frames.Request r) (frames.Turn count ∷ []) → IsIn (frames.Request r) (before ++ event ∷ [])
    at (inl earlier) = in_left (frames.Request r) before (event ∷ []) earlier
    at (inr (inl is)) = absurd cc
    at (inr (inr none)) = absurd none

-- what was done of the frames, as a run
what_was_done : (form : Form) (limit : ℕ) (before after : Moment) (served : IsServedInto form limit before after) →
    (done : List Frame) × (deep : ℕ) × WereDone (frames_taken served) done × RunDeep served.first done (served.run.groups ++ (served.run.earlier ++ served.run.last) ∷ []) served.run.run.losses served.last deep
what_was_done form limit before after served =
    cut_short_is_a_run served.first served.last (frames_taken served) served.run.groups served.run.earlier served.run.last served.run.run.losses served.run.run.run

pub served_at_most_once : ServedAtMostOnce
served_at_most_once form limit before after served nexus tag =
    let d = what_was_done form limit before after served in
    omega (arith, run_counts nexus tag d.3, ap (how_many (is_called nexus tag)) served.begins.tasks, done_asks nexus tag (frames_taken served) d.0 d.2)

pub served_nothing_invented_into : ServedNothingInventedInto
served_nothing_invented_into form limit before after served x block holds =
    let d = what_was_done form limit before after served in
    of_all d.0 d.2 (comes_with_cells served.first x block before.drive.cells served.begins.tasks served.begins.cells
    (only_requested served.first served.last d.0 (served.run.groups ++ (served.run.earlier ++ served.run.last) ∷ []) served.run.run.losses d.1 d.3 x block served.begins.valid (subst (λ cells. MayHold cells x block) served.ends.cells holds)))
  where
    of_all : (done : List Frame) → WereDone (frames_taken served) done → MayHold before.drive.cells x block ⊎ IsRequestedIn served.first done x block → MayHold before.drive.cells x block ⊎ IsRequestedIn served.first (frames_taken served) x block
    of_all done were (inl holds) = inl holds
    of_all done were (inr (r, among, by)) = inr (r, done_requests r (frames_taken served) done were among, by)
