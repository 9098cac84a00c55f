-- What issuing, resetting and a lost link do to the tie.
use Rattle.std.proofs.Common.{◌≡◌, ◌⊎◌, ⊎_elim, refl, sym, ◌∙◌, ap, subst, inl, inr, ℕ, ◌+◌, ◌<◌, Bool, true, false, List, [], ◌∷◌, ◌++◌, Option, Some, None, arith, length, length-append, append_assoc}
use Rattle.std.specs.Prelude.{◌==◌, max, MatchOption}
use Rattle.std.specs.List.{AllByRecursion, AllZip, find, list_any}
use Rattle.std.proofs.Math.Nat.{le-max_left, le-max_right}
use Rattle.satl_base.specs.declared.block.Block.{Block}
use Rattle.satl_base.specs.Cells.{Pair, Part}
use Rattle.satl_base.specs.Losses.{Loses}
use Rattle.satl_base.specs.Moves.{Moves, stay}
use Rattle.satl_base.proofs.LossesLemmas.{loses_on}
use Rattle.satl_base.proofs.ListsLemmas.{All-find, All-push_end}
use Rattle.satl_base.proofs.MovesLemmas.{moves_on, moves_of_part, lose_once}
use Rattle.satl_io.specs.Causes.{Rose}
use Rattle.satl_regs.specs.declared.values.Registers.{Registers}
use Rattle.satl_regs.specs.declared.values.Queued.{Queued}
use Rattle.satl_regs.specs.QueuedCommands.{QueuedFits, queued_registers}
use Rattle.satl_regs.specs.Commands.{command_in}
use Rattle.satl_regs.specs.declared.values.AtaCommand.TheVariants.{ReadLog}
use Rattle.satl_base.specs.declared.block.Range.{Range}
use Rattle.satl_base.specs.Identify.{has_cache, has_look, has_queued_trim}
use Rattle.satl_cdb.specs.declared.command.Command.{Command}
use Rattle.satl_cdb.specs.declared.command.Command.TheVariants as commands
use Rattle.satl_errlog.specs.declared.entry.NcqError.{NcqError}
use Rattle.satl_regs.specs.Effects.{IsTelling, pairs_of}
use Rattle.satl_line.specs.declared.entry.Entry.{Entry}
use Rattle.satl_line.specs.declared.entry.Kind.{Kind}
use Rattle.satl_line.specs.declared.entry.Kind.TheVariants.{Ranged, Barrier}
use Rattle.satl_line.specs.Eligible.{IsEligibleBy}
use Rattle.satl_line.specs.Ranged.{MayPut, RangedTask, ranged_by, ranged_of}
use Rattle.satl_line.specs.Ranged.RangedTask.{ranged_read, ranged_write, ranged_trim}
use Rattle.satl_line.specs.Tasks.{Held, entries_of}
use Rattle.satl_drive.specs.State.{DriveState, Outstanding, medium_of}
use Rattle.satl_drive.specs.Queue.{CanIssue, FailsAtFlaw, FailsByCrc, HasCommand, IsFailed, IsIssueCutOff, IsIssued, IsPollCutOff, IsReset, IsResetCutOff, LiesWithin, Slots, all_pairs, is_tagged, issued, queued_flaw, queued_pairs}
use Rattle.satl_drive.specs.Rules.{IsCutOff, IsRunCutOff}
use Rattle.satl_pages.specs.Slots.{pages_at}
use Rattle.satl_flight.specs.declared.flight.Flying.{Flying}
use Rattle.satl_flight.specs.Flown.{IsFlown, IsInFlight, RangedFits, clash, is_outstanding, is_in_slot, outstanding_for, queued_for}
use Rattle.satl_flight.specs.Lending.{Waiting, waiting}
use Rattle.satl_flight.specs.Settled.{Deepens, IsCut, IsLaunched, IsLostInFlight, IsLostQuietly, OnDrive, on_drive}
use Rattle.satl_line.proofs.SlotsLemmas.{All-append}
use Rattle.satl_flight.proofs.ZipLemmas.{zip-any, zip-push}
use Rattle.satl_flight.proofs.FlownLemmas.{FitsOn, all_may_put, apart_push, fits_on, flown_puts, moves_of_each, none_flown}
use Rattle.satl_flight.proofs.SettledLemmas.{deepens_shorter, tag_is, tags_agree}

-- ---- the deepest queue

pub deepens_same : (d : DriveState) → Deepens d d
deepens_same d = record { rises = omega arith; covers = λ h. h }

pub deepens_on : (a b c : DriveState) → Deepens a b → Deepens b c → Deepens a c
deepens_on a b c d e = record { rises = omega (arith, d.rises, e.rises); covers = λ h. e.covers (d.covers h) }

deepens_issued : (old new : DriveState) → length new.outstanding ≡ length old.outstanding + 1 → new.deepest ≡ max old.deepest (length old.outstanding + 1) → Deepens old new
deepens_issued old new longer is = record {
  rises = omega (arith, is, le-max_left old.deepest (length old.outstanding + 1));
  covers = λ h. omega (arith, is, longer, le-max_right old.deepest (length old.outstanding + 1));
}

deepens_emptied : (old new : DriveState) → new.deepest ≡ old.deepest → new.outstanding ≡ [] → Deepens old new
deepens_emptied old new is none = deepens_shorter old new is (omega (arith, ap length none))

-- ---- issuing

-- a write's blocks are its pages
abbrev pub Follows : List Block → RangedTask → Type 0
Follows body (ranged_write fua range blocks) = body ≡ blocks
Follows body _ = Unit {0}

-- the kind's pages: as many as sectors, with the blocks that it is issued with
issued_is : (tag capacity : ℕ) (trims : Bool) (body : List Block) (task : RangedTask) → RangedFits capacity trims body task → Follows body task → issued (queued_for tag task) body ≡ outstanding_for tag task
issued_is tag capacity trims body (ranged_read fua range) fits of = refl
issued_is tag capacity trims body (ranged_write fua range blocks) fits of = ap (λ b. record { command = queued_for tag (ranged_write fua range blocks); blocks = b }) of
issued_is tag capacity trims body (ranged_trim ranges) fits of = ap (λ b. record { command = queued_for tag (ranged_trim ranges); blocks = b }) fits.1

pub size_is : (tag capacity : ℕ) (trims : Bool) (body : List Block) (task : RangedTask) → RangedFits capacity trims body task → length body ≡ (queued_for tag task).sectors
size_is tag capacity trims body (ranged_trim ranges) fits = ap length fits.1
size_is tag capacity trims body _ fits = fits.0

lies_within : (tag capacity : ℕ) (trims : Bool) (body : List Block) (task : RangedTask) → RangedFits capacity trims body task → LiesWithin (queued_for tag task).kind capacity (queued_for tag task) body
lies_within tag capacity trims body (ranged_trim ranges) fits = fits.3
lies_within tag capacity trims body _ fits = fits.1.within

has_command : (tag capacity : ℕ) (identify : List ℕ) (body : List Block) (task : RangedTask) → RangedFits capacity (has_queued_trim identify) body task → HasCommand (queued_for tag task).kind identify
has_command tag capacity identify body (ranged_trim ranges) fits = fits.0
has_command tag capacity identify body _ fits = tt

pub queued_fits : (tag capacity : ℕ) (trims : Bool) (body : List Block) (task : RangedTask) → tag < 32 → RangedFits capacity trims body task → QueuedFits (queued_for tag task)
queued_fits tag capacity trims body (ranged_trim ranges) small fits = record { lba = omega arith; some = omega arith; sectors = omega arith; tag = small; kind = (refl, refl, refl) }
queued_fits tag capacity trims body _ small fits = record { lba = fits.1.lba; some = fits.1.some; sectors = omega (arith, fits.1.few); tag = small; kind = tt }

module _ (flying : List Flying) (tasks : List Held) (old : DriveState) (tie : IsInFlight flying tasks old) where
  pub tag_free : (tag : ℕ) → list_any (λ (f : Flying). f.tag == tag) flying ≡ false → list_any (is_tagged tag) old.outstanding ≡ false
  tag_free tag free = sym (zip-any (IsFlown tasks) (λ (f : Flying). f.tag == tag) (is_tagged tag) (tags_agree tasks tag) flying old.outstanding tie.each) ∙ free

  pub can_issue : (tag : ℕ) (held : Held) (task : RangedTask) (slots : Slots) → tag < 32 → list_any (λ (f : Flying). f.tag == tag) flying ≡ false → ranged_of held.entry ≡ Some task → FitsOn old held → pages_at slots tag ≡ Some held.entry.body
      → CanIssue old (queued_registers (queued_for tag task)) slots (queued_for tag task) held.entry.body
  can_issue tag held task slots small free is fits filled = record {
    spelled = refl;
    fits = queued_fits tag old.capacity (has_queued_trim old.identify) held.entry.body task small (fits task is);
    had = has_command tag old.capacity old.identify held.entry.body task (fits task is);
    free = subst (λ n. list_any (is_tagged n) old.outstanding ≡ false) (sym (tag_is tag task)) (tag_free tag free);
    filled = subst (λ n. pages_at slots n ≡ Some held.entry.body) (sym (tag_is tag task)) filled;
    size = size_is tag old.capacity (has_queued_trim old.identify) held.entry.body task (fits task is);
    within = lies_within tag old.capacity (has_queued_trim old.identify) held.entry.body task (fits task is);
    no_error = tie.no_error;
  }

-- ---- what a task's pages are to its command

follows_by : (command : Command) (ranges : List Range) (body : List Block) (task : RangedTask) → ranged_by command ranges body ≡ Some task → Follows body task
follows_by (commands.Read form lba count fua) ranges body task h = let is : ranged_read fua (record { lba = lba; count = count }) ≡ task = cc in subst (Follows body) is tt
follows_by (commands.Write form lba count fua) ranges body task h = let is : ranged_write fua (record { lba = lba; count = count }) body ≡ task = cc in subst (Follows body) is refl
follows_by (commands.Unmap size) ranges body task h = let is : ranged_trim ranges ≡ task = cc in subst (Follows body) is tt
follows_by _ ranges body task h = absurd cc

pub follows_of : (e : Entry) (task : RangedTask) → ranged_of e ≡ Some task → Follows e.body task
follows_of e task h = go e.kind refl
  where
    go : (k : Kind) → e.kind ≡ k → Follows e.body task
    go (Ranged write) is = follows_by e.command e.ranges.items e.body task (subst (λ k. ranged_of (record e { kind = k }) ≡ Some task) is h)
    go Barrier is = let none : ranged_of (record e { kind = Barrier }) ≡ Some task = subst (λ k. ranged_of (record e { kind = k }) ≡ Some task) is h in absurd cc

module _ (flying : List Flying) (tasks : List Held) (old : DriveState) (tie : IsInFlight flying tasks old) where
  pub launched_one : (slots : Slots) (tag slot : ℕ) (held : Held) (task : RangedTask) (flown : Waiting) (new : DriveState) → flown.flying ≡ flying ++ record { tag = tag; slot = slot } ∷ [] → tag < 32 → find (is_in_slot slot) tasks ≡ Some held → IsEligibleBy clash tasks held → ranged_of held.entry ≡ Some task
      → is_outstanding flying slot ≡ false → list_any (λ (f : Flying). f.tag == tag) flying ≡ false → length flying < 32 → IsIssued old (queued_for tag task) held.entry.body new
      → IsLaunched (on_drive (waiting flying slots tasks) old) (on_drive flown new)
  launched_one slots tag slot held task flown new more small found eligible is fresh free room done = record {
    tie = subst (λ fs. IsInFlight fs tasks new) (sym more) (record {
      each = subst (λ qs. AllZip (IsFlown tasks) (flying ++ record { tag = tag; slot = slot } ∷ []) qs) (sym outstanding)
          (zip-push (IsFlown tasks) flying old.outstanding (record { tag = tag; slot = slot }) (outstanding_for tag task) tie.each
          (record { held = held; found = found; eligible = eligible; ranged = task; ranged_is = is; small = small; command = refl }));
      apart = apart_push flying (record { tag = tag; slot = slot }) tie.apart fresh free;
      few = omega (arith, length-append flying (record { tag = tag; slot = slot } ∷ []));
      fits = fits_on tasks old new capacity (ap has_queued_trim identify) tie.fits;
      small = omega (arith, tie.small, capacity);
      no_error = ap (λ (d : DriveState). d.error) done.stays ∙ tie.no_error;
    });
    rest = record { tag = tag; slot = slot } ∷ [];
    more = more;
    lost = inr done.lost;
    stays = done.stays ∙ ap (λ x. record old { cells = new.cells; outstanding = x; deepest = max old.deepest (length old.outstanding + 1) }) (sym raw)
        ∙ ap (λ n. record old { cells = new.cells; outstanding = new.outstanding; deepest = n }) (sym deepest);
    deep = deepens_issued old new (omega (arith, ap length raw, length-append old.outstanding (issued (queued_for tag task) held.entry.body ∷ []))) deepest;
  }
    where
      each : RangedFits old.capacity (has_queued_trim old.identify) held.entry.body task
      each = All-find (FitsOn old) (is_in_slot slot) tasks held tie.fits found task is

      capacity : new.capacity ≡ old.capacity
      capacity = ap (λ (d : DriveState). d.capacity) done.stays

      identify : new.identify ≡ old.identify
      identify = ap (λ (d : DriveState). d.identify) done.stays

      deepest : new.deepest ≡ max old.deepest (length old.outstanding + 1)
      deepest = ap (λ (d : DriveState). d.deepest) done.stays

      raw : new.outstanding ≡ old.outstanding ++ issued (queued_for tag task) held.entry.body ∷ []
      raw = ap (λ (d : DriveState). d.outstanding) done.stays

      outstanding : new.outstanding ≡ old.outstanding ++ outstanding_for tag task ∷ []
      outstanding = raw ∙ ap (λ o. old.outstanding ++ o ∷ []) (issued_is tag old.capacity (has_queued_trim old.identify) held.entry.body task each (follows_of held.entry task is))

  -- the link is lost while these were under way
  cut_moves : (pairs : List Pair) (new : DriveState) → AllByRecursion (MayPut old.cache (entries_of tasks)) pairs → IsCutOff old pairs new → Moves (MayPut old.cache (entries_of tasks)) old.cells new.cells
  cut_moves pairs new all cut = moves_on (moves_of_part (MayPut old.cache (entries_of tasks)) pairs old.cells cut.mid all cut.part) (lose_once cut.lost)

  abbrev all_of : List Outstanding → Type 0
  all_of qs = AllByRecursion (λ q. AllByRecursion (MayPut old.cache (entries_of tasks)) (queued_pairs old.cache q)) qs

  flat : (qs : List Outstanding) → all_of qs → AllByRecursion (MayPut old.cache (entries_of tasks)) (all_pairs old.cache qs)
  flat [] all = tt
  flat (q ∷ qs) all = All-append (MayPut old.cache (entries_of tasks)) (queued_pairs old.cache q) (all_pairs old.cache qs) all.0 (flat qs all.1)

  quiet_cut : (pairs : List Pair) (new : DriveState) → AllByRecursion (MayPut old.cache (entries_of tasks)) pairs → IsCutOff old pairs new → new.active ≡ old.active → IsLostQuietly tasks old new
  quiet_cut pairs new all cut active = record {
    moves = cut_moves pairs new all cut;
    rose = cut.rose;
    stays = cut.stays ∙ ap (λ a. record old { cells = new.cells; outstanding = []; error = None; active = a; down = true; faults = new.faults }) active
        ∙ ap (λ n. record old { cells = new.cells; outstanding = []; error = None; down = true; faults = new.faults; deepest = n }) (sym (ap (λ (d : DriveState). d.deepest) cut.stays));
    deep = deepens_emptied old new (ap (λ (d : DriveState). d.deepest) cut.stays) (ap (λ (d : DriveState). d.outstanding) cut.stays);
  }

  pub lost_issue : (tag slot : ℕ) (held : Held) (task : RangedTask) (new : DriveState) → tag < 32 → find (is_in_slot slot) tasks ≡ Some held → IsEligibleBy clash tasks held → ranged_of held.entry ≡ Some task
      → IsIssueCutOff old (queued_for tag task) held.entry.body new → IsLostQuietly tasks old new
  lost_issue tag slot held task new small found eligible is cut =
      let fits = All-find (FitsOn old) (is_in_slot slot) tasks held tie.fits found task is in
      let one = flown_puts old.cache old tasks (record { tag = tag; slot = slot }) (outstanding_for tag task) tie.fits (record { held = held; found = found; eligible = eligible; ranged = task; ranged_is = is; small = small; command = refl }) in
      let this = subst (λ o. AllByRecursion (MayPut old.cache (entries_of tasks)) (queued_pairs old.cache o)) (sym (issued_is tag old.capacity (has_queued_trim old.identify) held.entry.body task fits (follows_of held.entry task is))) one in
      quiet_cut (all_pairs old.cache (old.outstanding ++ issued (queued_for tag task) held.entry.body ∷ [])) new
      (flat (old.outstanding ++ issued (queued_for tag task) held.entry.body ∷ []) (All-push_end (λ q. AllByRecursion (MayPut old.cache (entries_of tasks)) (queued_pairs old.cache q)) old.outstanding (issued (queued_for tag task) held.entry.body) (all_may_put old.cache flying tasks old tie) this))
      cut.0 cut.1

  pub lost_reset : (new : DriveState) → IsResetCutOff old new → IsLostQuietly tasks old new
  lost_reset new cut = quiet_cut (all_pairs old.cache old.outstanding) new (flat old.outstanding (all_may_put old.cache flying tasks old tie)) cut.0 cut.1

  pub lost_poll : (slots taken : Slots) (new : DriveState) → IsPollCutOff old slots taken new → IsLostInFlight tasks old new
  lost_poll slots taken new lost = record {
    moves = cut_moves (all_pairs old.cache old.outstanding) new (flat old.outstanding (all_may_put old.cache flying tasks old tie)) lost.cut;
    glitches = inl glitches;
    rose = lost.cut.rose;
    settings = inr (cache, look, identify);
    stays = lost.cut.stays
        ∙ ap (λ c. record old { cells = new.cells; outstanding = []; error = None; cache = c; active = new.active; down = true; faults = new.faults }) (sym cache)
        ∙ ap (λ l. record old { cells = new.cells; outstanding = []; error = None; cache = new.cache; look = l; active = new.active; down = true; faults = new.faults }) (sym look)
        ∙ ap (λ n. record old { cells = new.cells; outstanding = []; error = None; cache = new.cache; look = new.look; active = new.active; glitches = n; down = true; faults = new.faults }) (sym glitches)
        ∙ ap (λ i. record old { cells = new.cells; outstanding = []; error = None; cache = new.cache; look = new.look; active = new.active; glitches = new.glitches; down = true; identify = i; faults = new.faults }) (sym identify);
    deep = deepens_emptied old new (ap (λ (d : DriveState). d.deepest) lost.cut.stays) (ap (λ (d : DriveState). d.outstanding) lost.cut.stays);
  }
    where
      glitches : new.glitches ≡ old.glitches
      glitches = ap (λ (d : DriveState). d.glitches) lost.cut.stays

      cache : new.cache ≡ old.cache
      cache = ap (λ (d : DriveState). d.cache) lost.cut.stays

      look : new.look ≡ old.look
      look = ap (λ (d : DriveState). d.look) lost.cut.stays

      identify : new.identify ≡ old.identify
      identify = ap (λ (d : DriveState). d.identify) lost.cut.stays

  -- the drive was reset
  pub cut_all : (new : DriveState) → IsReset old new → IsCut tasks old new
  cut_all new reset = record {
    tie = none_flown tasks old new tie.fits tie.small outstanding (ap (λ (d : DriveState). d.capacity) reset.stays) (ap (λ (d : DriveState). d.identify) reset.stays) (ap (λ (d : DriveState). d.error) reset.stays);
    moves = moves_on (moves_of_each (MayPut old.cache (entries_of tasks)) old.cache old.outstanding old.cells reset.mid (all_may_put old.cache flying tasks old tie) reset.part) (lose_once reset.lost);
    stays = reset.stays;
    deep = deepens_emptied old new (ap (λ (d : DriveState). d.deepest) reset.stays) outstanding;
  }
    where
      outstanding : new.outstanding ≡ []
      outstanding = ap (λ (d : DriveState). d.outstanding) reset.stays

  -- the link is lost while the error log is read
  pub lost_log : (slots taken : Slots) (mid new : DriveState) (r : Registers) (given : List Block) → IsFailed old slots taken mid → command_in r ≡ ReadLog 0x10 0 1 → IsRunCutOff mid r given new → IsLostInFlight tasks old new
  lost_log slots taken mid new r given failed reads cut = record {
    moves = moves_on (moves_of_each (MayPut old.cache (entries_of tasks)) old.cache old.outstanding old.cells failed.mid (all_may_put old.cache flying tasks old tie) failed.part)
        (moves_on (lose_once failed.lost) (subst (λ c. Moves (MayPut old.cache (entries_of tasks)) c new.cells) nothing (lose_once cut.cut.lost)));
    glitches = subst (λ n. (n ≡ old.glitches) ⊎ (n + 1 ≡ old.glitches)) (sym glitches) (by_cause (queued_flaw old.cells failed.failed.command) failed.failed.command failed.entry failed.cause);
    rose = subst (λ n. Rose n new.faults) (ap (λ (d : DriveState). d.faults) failed.stays) cut.cut.rose;
    settings = inl (record {
      cache = λ on. ap has_cache (sym identify) ∙ cut.settings.cache on;
      look = λ on. ap has_look (sym identify) ∙ cut.settings.look on;
      tells = subst (λ i. IsTelling new.cache new.look i new.identify) identify cut.settings.tells;
    });
    stays = after ∙ ap (λ (d : DriveState). record d { cells = new.cells; outstanding = []; error = None; cache = new.cache; look = new.look; active = new.active; down = true; identify = new.identify; faults = new.faults }) failed.stays
        ∙ ap (λ n. record old { cells = new.cells; outstanding = []; error = None; cache = new.cache; look = new.look; active = new.active; glitches = n; down = true; identify = new.identify; faults = new.faults }) (sym glitches);
    deep = deepens_emptied old new (ap (λ (d : DriveState). d.deepest) after ∙ ap (λ (d : DriveState). d.deepest) failed.stays) (ap (λ (d : DriveState). d.outstanding) after);
  }
    where
      -- the new drive, with what the command may have set
      after : new ≡ record mid { cells = new.cells; outstanding = []; error = None; cache = new.cache; look = new.look; active = new.active; down = true; identify = new.identify; faults = new.faults }
      after = ap (λ (d : DriveState). record d { cache = new.cache; look = new.look; identify = new.identify }) cut.cut.stays

      glitches : new.glitches ≡ mid.glitches
      glitches = ap (λ (d : DriveState). d.glitches) after

      identify : mid.identify ≡ old.identify
      identify = ap (λ (d : DriveState). d.identify) failed.stays

      nothing : cut.cut.mid ≡ mid.cells
      nothing = subst (λ c. Part mid.cells (pairs_of c (medium_of mid) given) cut.cut.mid) reads cut.cut.part

      by_cause : (o : Option ℕ) (q : Queued) (e : NcqError) → MatchOption o (FailsByCrc q old.glitches mid.glitches e) (λ lba. FailsAtFlaw q lba old.glitches mid.glitches e) → (mid.glitches ≡ old.glitches) ⊎ (mid.glitches + 1 ≡ old.glitches)
      by_cause None q e c = inr c.one_glitch
      by_cause (Some lba) q e c = inl c.glitches_stay

-- ---- one launch after another

-- what is lost meanwhile are moves of the queue
pub launched_moves : (old new : OnDrive) → IsLaunched old new → Moves (MayPut old.drive.cache (entries_of old.queue.tasks)) old.drive.cells new.drive.cells
launched_moves old new step = ⊎_elim (λ same. subst (Moves (MayPut old.drive.cache (entries_of old.queue.tasks)) old.drive.cells) (sym same) stay) lose_once step.lost

module _ (first mid : OnDrive) (so_far : IsLaunched first mid) (same_tasks : mid.queue.tasks ≡ first.queue.tasks) where
  same_cache : mid.drive.cache ≡ first.drive.cache
  same_cache = ap (λ (d : DriveState). d.cache) so_far.stays

  pub launched_on : (new : OnDrive) → IsLaunched mid new → IsLaunched first new
  launched_on new step = record {
    tie = subst (λ ts. IsInFlight new.queue.flying ts new.drive) same_tasks step.tie;
    rest = so_far.rest ++ step.rest;
    more = step.more ∙ ap (λ fs. fs ++ step.rest) so_far.more ∙ append_assoc first.queue.flying so_far.rest step.rest;
    lost = ⊎_elim (λ same. subst (λ cs. (cs ≡ first.drive.cells) ⊎ Loses first.drive.cells cs) (sym same) so_far.lost)
        (λ more. inr (⊎_elim (λ same. subst (λ cs. Loses cs new.drive.cells) same more) (λ lost. loses_on first.drive.cells mid.drive.cells new.drive.cells lost more) so_far.lost)) step.lost;
    stays = step.stays ∙ ap (λ (d : DriveState). record d { cells = new.drive.cells; outstanding = new.drive.outstanding; deepest = new.drive.deepest }) so_far.stays;
    deep = deepens_on first.drive mid.drive new.drive so_far.deep step.deep;
  }

  pub lost_on : (new : DriveState) → IsLostQuietly mid.queue.tasks mid.drive new → IsLostQuietly first.queue.tasks first.drive new
  lost_on new lost = record {
    moves = moves_on (launched_moves first mid so_far)
        (subst (λ ts. Moves (MayPut first.drive.cache (entries_of ts)) mid.drive.cells new.cells) same_tasks (subst (λ c. Moves (MayPut c (entries_of mid.queue.tasks)) mid.drive.cells new.cells) same_cache lost.moves));
    rose = subst (λ n. Rose n new.faults) (ap (λ (d : DriveState). d.faults) so_far.stays) lost.rose;
    stays = lost.stays ∙ ap (λ (d : DriveState). record d { cells = new.cells; outstanding = []; error = None; down = true; faults = new.faults; deepest = new.deepest }) so_far.stays;
    deep = deepens_on first.drive mid.drive new so_far.deep lost.deep;
  }
