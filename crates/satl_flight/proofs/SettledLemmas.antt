-- What an ended command does to the tie.
use Rattle.std.proofs.Common.{◌≡◌, refl, sym, ◌∙◌, ap, subst, inl, inr, ℕ, zero, suc, ◌+◌, ◌≤◌, ◌<◌, ◌^◌, Bool, true, false, cond, List, [], ◌∷◌, Option, Some, None, arith, length}
use Rattle.std.specs.Prelude.{◌==◌, map, if◌then◌else◌, slice_set, slice_index_or, MatchOption}
use Rattle.std.specs.List.{AllByRecursion, AllZip, find, remove}
use Rattle.satl_base.specs.declared.block.Block.{Block}
use Rattle.satl_base.specs.declared.bench.Which.TheVariants as flaws
use Rattle.satl_base.specs.Identify.{has_queued_trim}
use Rattle.satl_base.specs.Lists.{remove_first}
use Rattle.satl_base.specs.Cells.{Cell, Pair, Part, first_set, has_flaw, whole}
use Rattle.satl_base.specs.Losses.{Loses}
use Rattle.satl_base.specs.Moves.{Moves}
use Rattle.satl_base.specs.Moves.{stay}
use Rattle.satl_base.proofs.ListsLemmas.{All-find, All-remove_first, find_passes, length-remove_first}
use Rattle.satl_base.proofs.CellsLemmas.{part_split, part-write_flaws}
use Rattle.satl_base.proofs.MovesLemmas.{moves_on, moves_of_part, lose_once}
use Rattle.satl_regs.specs.Effects.{Traffic, unc}
use Rattle.satl_errlog.specs.declared.entry.NcqError.{NcqError}
use Rattle.satl_errlog.specs.Log.{log_of, log_says}
use Rattle.satl_errlog.proofs.Logs.{log_back}
use Rattle.satl_line.specs.Ending.{EndsAs, Surface, flaw_met, blocks_read, active_after, surface}
use Rattle.satl_line.specs.Ending.Outcome.{ends_flawed, ends_glitched}
use Rattle.satl_line.specs.Eligible.{IsEligibleBy}
use Rattle.satl_line.specs.Ranged.{MayPut, RangedTask, ranged_of, written_pairs}
use Rattle.satl_line.specs.Ranged.RangedTask.{ranged_read, ranged_write, ranged_trim}
use Rattle.satl_line.specs.Tasks.{Held, entries_of}
use Rattle.satl_drive.specs.State.{DriveState, Outstanding}
use Rattle.satl_drive.specs.Queue.{FailsAtFlaw, FailsByCrc, IsQueuedDone, IsFailed, Slots, all_pairs, is_tagged, queued_flaw, queued_pairs, slots_after}
use Rattle.satl_drive.specs.Rules.{IsLogRead}
use Rattle.satl_pages.specs.Slots.{pages_at}
use Rattle.satl_flight.specs.declared.flight.Flying.{Flying}
use Rattle.satl_flight.specs.Flown.{IsFlown, IsInFlight, RangedFits, clash, is_in_slot, queued_for}
use Rattle.satl_flight.specs.Lending.{IsAt, Waiting, has_tag, waiting}
use Rattle.satl_flight.specs.Settled.{Deepens, HasEndedAt, IsFlawOrCrc, on_drive, outcome_of, read_into}
use Rattle.satl_flight.proofs.ZipLemmas.{All-remove, zip-find, zip-remove_first, zip-with}
use Rattle.satl_flight.proofs.FlownLemmas.{FitsOn, all_may_put, fits_on, flown_still, moves_of_each, none_flown, others_differ, apart_removed, pairs_of_task}

-- ---- the deepest queue

pub deepens_shorter : (old new : DriveState) → new.deepest ≡ old.deepest → length new.outstanding ≤ length old.outstanding → Deepens old new
deepens_shorter old new is shorter = record { rises = omega (arith, is); covers = λ h. omega (arith, h, is, shorter) }

-- ---- tags

pub tag_is : (tag : ℕ) (ranged : RangedTask) → (queued_for tag ranged).tag ≡ tag
tag_is tag (ranged_read fua range) = refl
tag_is tag _ = refl

pub tags_agree : (tasks : List Held) (tag : ℕ) (f : Flying) (q : Outstanding) → IsFlown tasks f q → has_tag tag f ≡ is_tagged tag q
tags_agree tasks tag f q flown = ap (λ n. n == tag) (sym (tag_is f.tag flown.ranged)) ∙ ap (λ (o : Outstanding). o.command.tag == tag) (sym flown.command)

-- where a command with a tag is found, so is a task
pub found_task : (flying : List Flying) (tasks : List Held) (d : DriveState) (tag : ℕ) (q : Outstanding) → IsInFlight flying tasks d → find (is_tagged tag) d.outstanding ≡ Some q
    → (f : Flying) × ((find (has_tag tag) flying ≡ Some f) × IsFlown tasks f q)
found_task flying tasks d tag q tie found = zip-find (IsFlown tasks) (has_tag tag) (is_tagged tag) (tags_agree tasks tag) flying d.outstanding q tie.each found

-- the same, where the task was found by the code
pub flown_found : (flying : List Flying) (tasks : List Held) (d : DriveState) (tag : ℕ) (f : Flying) (q : Outstanding) → IsInFlight flying tasks d → find (has_tag tag) flying ≡ Some f → find (is_tagged tag) d.outstanding ≡ Some q → IsFlown tasks f q
flown_found flying tasks d tag f q tie is found =
    let t = found_task flying tasks d tag q tie found in
    let same : Some t.0 ≡ Some f = sym t.1.0 ∙ is in
    let one : t.0 ≡ f = cc in
    subst (λ (g : Flying). IsFlown tasks g q) one t.1.1

flaw_is : (cells : List Cell) (tag : ℕ) (ranged : RangedTask) → queued_flaw cells (queued_for tag ranged) ≡ flaw_met cells ranged
flaw_is cells tag (ranged_read fua range) = refl
flaw_is cells tag _ = refl

pub pages_at-set : (slots : Slots) (tag : ℕ) (pages v : List Block) → pages_at slots tag ≡ Some pages → pages_at (slice_set slots tag (Some v)) tag ≡ Some v
pages_at-set [] tag pages v h = absurd cc
pages_at-set (s ∷ slots) zero pages v h = refl
pages_at-set (s ∷ slots) (suc tag) pages v h = pages_at-set slots tag pages v h

module _ (flying : List Flying) (tasks : List Held) (old : DriveState) (tie : IsInFlight flying tasks old) where
  others_still : (tag place : ℕ) (f : Flying) (held : Held) → find (has_tag tag) flying ≡ Some f → IsAt tasks place f.slot held
      → AllZip (IsFlown (remove tasks place)) (remove_first (has_tag tag) flying) (remove_first (is_tagged tag) old.outstanding)
  others_still tag place f held found at =
      zip-with (IsFlown tasks) (IsFlown (remove tasks place)) (λ (g : Flying). ((g.slot == f.slot) ≡ false) × ((g.tag == f.tag) ≡ false)) (remove_first (has_tag tag) flying) (remove_first (is_tagged tag) old.outstanding)
      (λ g q other flown. flown_still tasks place f.slot held g q at.stands at.slot_is at.removes other.0 flown)
      (others_differ (has_tag tag) flying f found tie.apart)
      (zip-remove_first (IsFlown tasks) (has_tag tag) (is_tagged tag) (tags_agree tasks tag) flying old.outstanding tie.each)

  pub tie_removed : (tag place : ℕ) (f : Flying) (held : Held) (new : DriveState) → find (has_tag tag) flying ≡ Some f → IsAt tasks place f.slot held
      → new.outstanding ≡ remove_first (is_tagged tag) old.outstanding → new.capacity ≡ old.capacity → new.identify ≡ old.identify → new.error ≡ None
      → IsInFlight (remove_first (has_tag tag) flying) (remove tasks place) new
  tie_removed tag place f held new found at outstanding capacity identify error = record {
    each = subst (λ qs. AllZip (IsFlown (remove tasks place)) (remove_first (has_tag tag) flying) qs) (sym outstanding) (others_still tag place f held found at);
    apart = apart_removed (has_tag tag) flying tie.apart;
    few = omega (arith, tie.few, length-remove_first (has_tag tag) flying f found);
    fits = fits_on (remove tasks place) old new capacity (ap has_queued_trim identify) (All-remove (FitsOn old) tasks place tie.fits);
    small = omega (arith, tie.small, capacity);
    no_error = error;
  }

  held_is : (f : Flying) (q : Outstanding) (place : ℕ) (held : Held) (flown : IsFlown tasks f q) → IsAt tasks place f.slot held → flown.held ≡ held
  held_is f q place held flown at = let same : Some flown.held ≡ Some held = sym flown.found ∙ at.found in cc

  pub settled_done : (tag place : ℕ) (f : Flying) (held : Held) (slots taken : Slots) (pages body : List Block) (left : Waiting) (new : DriveState) → left.flying ≡ remove_first (has_tag tag) flying → find (has_tag tag) flying ≡ Some f → IsAt tasks place f.slot held
      → pages_at slots tag ≡ Some pages → pages_at taken tag ≡ Some body → IsQueuedDone tag old slots taken new
      → (ranged : RangedTask) × ((ranged_of held.entry ≡ Some ranged) × HasEndedAt place (outcome_of None ranged body) (on_drive (waiting flying slots tasks) old) (on_drive left new))
  settled_done tag place f held slots taken pages body left new left_is found at filled gave done =
      let flown = flown_found flying tasks old tag f done.done tie found done.found in
      let same = held_is f done.done place held flown at in
      let of_held : ranged_of held.entry ≡ Some flown.ranged = subst (λ (h : Held). ranged_of h.entry ≡ Some flown.ranged) same flown.ranged_is in
      let fits = All-find (FitsOn old) (is_in_slot f.slot) tasks held tie.fits at.found in
      let outstanding : new.outstanding ≡ remove_first (is_tagged tag) old.outstanding = ap (λ (d : DriveState). d.outstanding) done.stays in
      let glitches : new.glitches ≡ old.glitches = ap (λ (d : DriveState). d.glitches) done.stays in (
        flown.ranged,
        (
          of_held,
          record {
            held = held;
            stands = at.stands;
            eligible = subst (λ h. IsEligibleBy clash tasks h) same flown.eligible;
            ranged = flown.ranged;
            ranged_is = of_held;
            before = old.cells;
            after = whole old.cells (written_pairs old.cache flown.ranged);
            moves_before = stay;
            ends = record {
              no_flaw = sym (flaw_is old.cells f.tag flown.ranged) ∙ subst (λ (o : Outstanding). queued_flaw old.cells o.command ≡ None) flown.command done.no_flaw;
              read = gives flown.ranged (subst (λ (o : Outstanding). taken ≡ slots_after o.command.kind old.cells o.command slots) flown.command done.data_in) (find_tag found);
              written = refl;
              glitches_stay = glitches;
            };
            moves_after = lose_once (subst (λ ps. Loses (whole old.cells ps) new.cells) (ap (queued_pairs old.cache) flown.command ∙ pairs_of_task old.cache f.tag old.capacity (has_queued_trim old.identify) held.entry.body flown.ranged (fits flown.ranged of_held)) done.lost);
            tie = subst (λ fs. IsInFlight fs (remove tasks place) new) (sym left_is)
                (tie_removed tag place f held new found at outstanding (ap (λ (d : DriveState). d.capacity) done.stays) (ap (λ (d : DriveState). d.identify) done.stays) (ap (λ (d : DriveState). d.error) done.stays ∙ tie.no_error));
            stays = done.stays ∙ ap (λ x. record old { cells = new.cells; outstanding = x; active = true }) (sym outstanding) ∙ ap (λ n. record old { cells = new.cells; outstanding = new.outstanding; active = true; glitches = n }) (sym glitches);
            deep = deepens_shorter old new (ap (λ (d : DriveState). d.deepest) done.stays) (omega (arith, ap length outstanding, length-remove_first (is_tagged tag) old.outstanding done.done done.found));
          },
        ),
      )
    where
      find_tag : find (has_tag tag) flying ≡ Some f → f.tag ≡ tag
      find_tag h = Rattle.std.proofs.Common.eqb-true f.tag tag (find_passes (has_tag tag) flying f h)

      gives : (ranged : RangedTask) → taken ≡ slots_after (queued_for f.tag ranged).kind old.cells (queued_for f.tag ranged) slots → f.tag ≡ tag → read_into ranged body ≡ blocks_read old.cells ranged
      gives (ranged_read fua range) moved tag_of =
          let is : Some body ≡ Some (Rattle.satl_base.specs.Cells.nows old.cells range.lba range.count) = sym gave ∙ ap (λ s. pages_at s tag) moved ∙ ap (λ n. pages_at (slice_set slots n (Some (Rattle.satl_base.specs.Cells.nows old.cells range.lba range.count))) tag) tag_of ∙ pages_at-set slots tag pages _ filled in cc
      gives _ moved tag_of = refl

-- ---- an error

-- what the others did before and after the part of one
record Split (cache : Bool) (P Q : Pair → Type 0) (old : List Cell) (q : Outstanding) (new : List Cell) : Type 0 where
  before : List Cell
  after : List Cell
  moves_before : Moves P old before
  same_flaws : map (has_flaw flaws.Write) before ≡ map (has_flaw flaws.Write) old
  part : Part before (queued_pairs cache q) after
  moves_after : Moves Q after new

abbrev AllPut : Bool → (Pair → Type 0) → List Outstanding → Type 0
AllPut cache P qs = AllByRecursion (λ q. AllByRecursion P (queued_pairs cache q)) qs

split_at : (cache : Bool) (P Q : Pair → Type 0) (p : Outstanding → Bool) (qs : List Outstanding) (q : Outstanding) (old new : List Cell) → find p qs ≡ Some q
    → AllPut cache P (remove_first p qs) → AllPut cache Q (remove_first p qs) → Part old (all_pairs cache qs) new → Split cache P Q old q new
split_at cache P Q p [] q old new h ps qs part = absurd cc
split_at cache P Q p (x ∷ xs) q old new h ps qs part =
    let s = part_split old new (queued_pairs cache x) (all_pairs cache xs) part in
    (elim (p x) as (λ b. cond b (Some x) (find p xs) ≡ Some q → AllPut cache P (if b then xs else x ∷ remove_first p xs) → AllPut cache Q (if b then xs else x ∷ remove_first p xs) → Split cache P Q old q new) [
      | true ↦ λ e ps qs. let same : x ≡ q = cc in record {
        before = old;
        after = s.0;
        moves_before = stay;
        same_flaws = refl;
        part = subst (λ o. Part old (queued_pairs cache o) s.0) same s.1.0;
        moves_after = moves_of_each Q cache xs s.0 new qs s.1.1;
      }
      | false ↦ λ e ps qs. let r = split_at cache P Q p xs q s.0 new e ps.1 qs.1 s.1.1 in record {
        before = r.before;
        after = r.after;
        moves_before = moves_on (moves_of_part P (queued_pairs cache x) old s.0 ps.0 s.1.0) r.moves_before;
        same_flaws = r.same_flaws ∙ part-write_flaws old s.0 (queued_pairs cache x) s.1.0;
        part = r.part;
        moves_after = r.moves_after;
      }
    ]) h ps qs

-- why a task failed, in words of the task
abbrev Why : Option ℕ → ℕ → ℕ → NcqError → Type 0
Why o glitches left e = MatchOption o ((e.error ≡ 0x84) × (left + 1 ≡ glitches)) (λ lba. (e.error ≡ unc) × (e.lba ≡ lba) × (left ≡ glitches))

why_of : (tag glitches left : ℕ) (ranged : RangedTask) (e : NcqError) (o : Option ℕ)
    → MatchOption o (FailsByCrc (queued_for tag ranged) glitches left e) (λ lba. FailsAtFlaw (queued_for tag ranged) lba glitches left e) → Why o glitches left e
why_of tag glitches left ranged e None c = (c.entry.error_is, c.one_glitch)
why_of tag glitches left ranged e (Some lba) c = (c.entry.error_is, c.entry.lba_is, c.glitches_stay)

ends_failed : (cache : Bool) (ranged : RangedTask) (body : List Block) (before after : Surface) (e : NcqError) (o : Option ℕ)
    → flaw_met before.cells ranged ≡ o → Part before.cells (written_pairs cache ranged) after.cells → Why o before.glitches after.glitches e → EndsAs cache ranged (outcome_of (Some e) ranged body) before after
ends_failed cache ranged body before after e None flaw part why =
    subst (λ n. EndsAs cache ranged (if n == unc then ends_flawed e.lba else ends_glitched) before after) (sym why.0)
    (record { no_flaw = flaw; written = part; one_glitch = why.1 })
ends_failed cache ranged body before after e (Some lba) flaw part why =
    subst (λ n. EndsAs cache ranged (if n == unc then ends_flawed e.lba else ends_glitched) before after) (sym why.0)
    (record { flaw = flaw ∙ ap Some (sym why.1); written = part; glitches_stay = why.2 })

-- an entry is neither done
active_failed : (e : NcqError) (ranged : RangedTask) (body : List Block) (active : Bool) → active_after (outcome_of (Some e) ranged body) active ≡ active
active_failed e ranged body active = elim (e.error == unc) as (λ b. active_after (if b then ends_flawed e.lba else ends_glitched) active ≡ active) [ true ↦ refl | false ↦ refl ]

first_set-within : (flags : List Bool) (lba count at : ℕ) → first_set flags lba count ≡ Some at → at < lba + count
first_set-within flags lba zero at h = absurd cc
first_set-within flags lba (suc count) at h =
    (elim (slice_index_or flags lba false) as (λ b. (if b then Some lba else first_set flags (lba + 1) count) ≡ Some at → at < lba + suc count) [
      | true ↦ λ e. let same : lba ≡ at = cc in omega (arith, same)
      | false ↦ λ e. let r = first_set-within flags (lba + 1) count at e in omega (arith, r)
    ]) h

flaw_within : (cells : List Cell) (capacity at : ℕ) (trims : Bool) (body : List Block) (ranged : RangedTask) → RangedFits capacity trims body ranged → flaw_met cells ranged ≡ Some at → at < capacity
flaw_within cells capacity at trims body (ranged_read fua range) fits h = let r = first_set-within (map (has_flaw flaws.Read) cells) range.lba range.count at h in omega (arith, r, fits.1.within)
flaw_within cells capacity at trims body (ranged_write fua range blocks) fits h = let r = first_set-within (map (has_flaw flaws.Write) cells) range.lba range.count at h in omega (arith, r, fits.1.within)
flaw_within cells capacity at trims body (ranged_trim ranges) fits h = absurd cc

-- the log's entry fits the log
pub record EntryFits (e : NcqError) : Type 0 where
  pub tag : e.tag < 32
  pub lba : e.lba < 2 ^ 48
  pub count : e.count < 2 ^ 16

low_lba : (tag capacity : ℕ) (trims : Bool) (body : List Block) (ranged : RangedTask) → RangedFits capacity trims body ranged → (queued_for tag ranged).lba < 2 ^ 48
low_lba tag capacity trims body (ranged_trim ranges) fits = omega arith
low_lba tag capacity trims body _ fits = fits.1.lba

entry_fits : (tag glitches left capacity : ℕ) (trims : Bool) (cells : List Cell) (body : List Block) (ranged : RangedTask) (e : NcqError) (o : Option ℕ) → tag < 32 → capacity ≤ 2 ^ 48 → RangedFits capacity trims body ranged → flaw_met cells ranged ≡ o
    → MatchOption o (FailsByCrc (queued_for tag ranged) glitches left e) (λ lba. FailsAtFlaw (queued_for tag ranged) lba glitches left e) → EntryFits e
entry_fits tag glitches left capacity trims cells body ranged e None small low fits flaw c = record {
  tag = omega (arith, c.entry.tag, tag_is tag ranged, small);
  lba = omega (arith, c.entry.lba_is, low_lba tag capacity trims body ranged fits);
  count = omega (arith, c.entry.count);
}
entry_fits tag glitches left capacity trims cells body ranged e (Some lba) small low fits flaw c = record {
  tag = omega (arith, c.entry.tag, tag_is tag ranged, small);
  lba = omega (arith, c.entry.lba_is, flaw_within cells capacity lba trims body ranged fits flaw, low);
  count = omega (arith, c.entry.count);
}

-- a command fails by a flaw or by a CRC error
pub flaw_or_crc : (old : DriveState) (slots taken : Slots) (mid : DriveState) (failed : IsFailed old slots taken mid) → IsFlawOrCrc (Some failed.entry)
flaw_or_crc old slots taken mid failed = by (queued_flaw old.cells failed.failed.command) failed.cause
  where
    by : (o : Option ℕ) → MatchOption o (FailsByCrc failed.failed.command old.glitches mid.glitches failed.entry) (λ lba. FailsAtFlaw failed.failed.command lba old.glitches mid.glitches failed.entry) → IsFlawOrCrc (Some failed.entry)
    by None c = inr c.entry.error_is
    by (Some lba) c = inl c.entry.error_is

abbrev IsNoRead : RangedTask → Type 0
IsNoRead (ranged_read fua range) = ⊥
IsNoRead _ = Unit {0}

-- a write meets the flaws from before, whatever the others did
same_flaw : (a b : List Cell) (ranged : RangedTask) → map (has_flaw flaws.Write) a ≡ map (has_flaw flaws.Write) b → IsNoRead ranged → flaw_met a ranged ≡ flaw_met b ranged
same_flaw a b (ranged_read fua range) same writes = absurd writes
same_flaw a b (ranged_write fua range blocks) same writes = ap (λ fs. first_set fs range.lba range.count) same
same_flaw a b (ranged_trim ranges) same writes = refl

module _ (flying : List Flying) (tasks : List Held) (old : DriveState) (tie : IsInFlight flying tasks old) where
  -- the entry of the log is that of a task, and is read back
  pub failed_task : (slots taken : Slots) (mid : DriveState) (failed : IsFailed old slots taken mid) → (f : Flying) × ((find (has_tag failed.entry.tag) flying ≡ Some f) × ((f.tag < 32) × (log_says (log_of failed.entry) ≡ Rattle.std.specs.Prelude.Ok failed.entry)))
  failed_task slots taken mid failed =
      let t = found_task flying tasks old failed.entry.tag failed.failed tie failed.found in
      let flown = t.1.1 in
      let each = All-find (FitsOn old) (is_in_slot t.0.slot) tasks flown.held tie.fits flown.found in
      let cause = subst (λ (o : Outstanding). MatchOption (queued_flaw old.cells o.command) (FailsByCrc o.command old.glitches mid.glitches failed.entry) (λ lba. FailsAtFlaw o.command lba old.glitches mid.glitches failed.entry)) flown.command failed.cause in
      let fits = entry_fits t.0.tag old.glitches mid.glitches old.capacity (has_queued_trim old.identify) old.cells flown.held.entry.body flown.ranged failed.entry (queued_flaw old.cells (queued_for t.0.tag flown.ranged)) flown.small tie.small (each flown.ranged flown.ranged_is) (sym (flaw_is old.cells t.0.tag flown.ranged)) cause in
      (t.0, (t.1.0, (flown.small, log_back failed.entry fits.tag fits.lba fits.count)))

  -- all that the error took away, but for the one that failed
  pub settled_failed : (place : ℕ) (f : Flying) (held : Held) (slots taken : Slots) (body : List Block) (left : Waiting) (mid new : DriveState) → left.flying ≡ [] → (failed : IsFailed old slots taken mid) (x : Traffic) → IsLogRead failed.entry x mid new
      → find (has_tag failed.entry.tag) flying ≡ Some f → IsAt tasks place f.slot held → (ranged : RangedTask) × ((ranged_of held.entry ≡ Some ranged) × HasEndedAt place (outcome_of (Some failed.entry) ranged body) (on_drive (waiting flying slots tasks) old) (on_drive left new))
  settled_failed place f held slots taken body left mid new none failed x read found at = (flown.ranged, (of_held, go flown.ranged refl))
    where
      e : NcqError
      e = failed.entry

      flown : IsFlown tasks f failed.failed
      flown = flown_found flying tasks old e.tag f failed.failed tie found failed.found

      same : flown.held ≡ held
      same = let s : Some flown.held ≡ Some held = sym flown.found ∙ at.found in cc

      of_held : ranged_of held.entry ≡ Some flown.ranged
      of_held = subst (λ (h : Held). ranged_of h.entry ≡ Some flown.ranged) same flown.ranged_is

      fits : RangedFits old.capacity (has_queued_trim old.identify) held.entry.body flown.ranged
      fits = All-find (FitsOn old) (is_in_slot f.slot) tasks held tie.fits at.found flown.ranged of_held

      pairs : queued_pairs old.cache failed.failed ≡ written_pairs old.cache flown.ranged
      pairs = ap (queued_pairs old.cache) flown.command ∙ pairs_of_task old.cache f.tag old.capacity (has_queued_trim old.identify) held.entry.body flown.ranged fits

      glitches : new.glitches ≡ mid.glitches
      glitches = ap (λ (d : DriveState). d.glitches) read.stays

      cause : Why (flaw_met old.cells flown.ranged) old.glitches new.glitches e
      cause = subst (λ n. Why (flaw_met old.cells flown.ranged) old.glitches n e) (sym glitches)
          (subst (λ o. Why o old.glitches mid.glitches e) (flaw_is old.cells f.tag flown.ranged)
          (why_of f.tag old.glitches mid.glitches flown.ranged e (queued_flaw old.cells (queued_for f.tag flown.ranged))
          (subst (λ (o : Outstanding). MatchOption (queued_flaw old.cells o.command) (FailsByCrc o.command old.glitches mid.glitches e) (λ lba. FailsAtFlaw o.command lba old.glitches mid.glitches e)) flown.command failed.cause)))

      all : AllPut old.cache (MayPut old.cache (entries_of tasks)) (remove_first (is_tagged e.tag) old.outstanding)
      all = All-remove_first _ (is_tagged e.tag) old.outstanding (all_may_put old.cache flying tasks old tie)

      -- the others, once this one has left
      rest : DriveState
      rest = record old { outstanding = remove_first (is_tagged e.tag) old.outstanding }

      still : AllPut old.cache (MayPut old.cache (entries_of (remove tasks place))) (remove_first (is_tagged e.tag) old.outstanding)
      still = all_may_put old.cache (remove_first (has_tag e.tag) flying) (remove tasks place) rest (tie_removed flying tasks old tie e.tag place f held rest found at refl refl refl tie.no_error)

      outstanding : new.outstanding ≡ []
      outstanding = ap (λ (d : DriveState). d.outstanding) read.stays ∙ ap (λ (d : DriveState). d.outstanding) failed.stays

      lost : Moves (MayPut old.cache (entries_of (remove tasks place))) failed.mid new.cells
      lost = moves_on (lose_once failed.lost) (lose_once read.lost)

      empty : IsInFlight left.flying (remove tasks place) new
      empty = subst (λ fs. IsInFlight fs (remove tasks place) new) (sym none)
          (none_flown (remove tasks place) old new (All-remove (FitsOn old) tasks place tie.fits) tie.small outstanding
          (ap (λ (d : DriveState). d.capacity) read.stays ∙ ap (λ (d : DriveState). d.capacity) failed.stays)
          (ap (λ (d : DriveState). d.identify) read.stays ∙ ap (λ (d : DriveState). d.identify) failed.stays)
          (ap (λ (d : DriveState). d.error) read.stays))

      -- mid is the old drive but for these, and so is new
      stays : new ≡ record old { cells = new.cells; outstanding = new.outstanding; active = active_after (outcome_of (Some e) flown.ranged body) old.active; glitches = new.glitches }
      stays =
          read.stays
          ∙ ap (λ (d : DriveState). record d { cells = new.cells; error = None }) failed.stays
          ∙ ap (λ x. record old { cells = new.cells; outstanding = []; error = x; glitches = mid.glitches }) (sym tie.no_error)
          ∙ ap (λ x. record old { cells = new.cells; outstanding = x; glitches = mid.glitches }) (sym outstanding)
          ∙ ap (λ n. record old { cells = new.cells; outstanding = new.outstanding; glitches = n }) (sym glitches)
          ∙ ap (λ a. record old { cells = new.cells; outstanding = new.outstanding; glitches = new.glitches; active = a }) (sym (active_failed e flown.ranged body old.active))

      deep : Deepens old new
      deep = deepens_shorter old new (ap (λ (d : DriveState). d.deepest) read.stays ∙ ap (λ (d : DriveState). d.deepest) failed.stays) (omega (arith, ap length outstanding))

      with : (before after : List Cell) → Moves (MayPut old.cache (entries_of tasks)) old.cells before → EndsAs old.cache flown.ranged (outcome_of (Some e) flown.ranged body) (surface before old.glitches) (surface after new.glitches)
          → Moves (MayPut old.cache (entries_of (remove tasks place))) after failed.mid → HasEndedAt place (outcome_of (Some e) flown.ranged body) (on_drive (waiting flying slots tasks) old) (on_drive left new)
      with before after first ends later = record {
        held = held;
        stands = at.stands;
        eligible = subst (λ h. IsEligibleBy clash tasks h) same flown.eligible;
        ranged = flown.ranged;
        ranged_is = of_held;
        before = before;
        after = after;
        moves_before = first;
        ends = ends;
        moves_after = moves_on later lost;
        tie = empty;
        stays = stays;
        deep = deep;
      }

      -- a write or a trim ends amid the others
      amid : (ranged : RangedTask) → flown.ranged ≡ ranged → IsNoRead ranged → HasEndedAt place (outcome_of (Some e) flown.ranged body) (on_drive (waiting flying slots tasks) old) (on_drive left new)
      amid ranged is writes =
          let s = split_at old.cache (MayPut old.cache (entries_of tasks)) (MayPut old.cache (entries_of (remove tasks place))) (is_tagged e.tag) old.outstanding failed.failed old.cells failed.mid failed.found all still failed.part in
          with s.before s.after s.moves_before
          (ends_failed old.cache flown.ranged body (surface s.before old.glitches) (surface s.after new.glitches) e (flaw_met old.cells flown.ranged) (same_flaw s.before old.cells flown.ranged s.same_flaws (subst IsNoRead (sym is) writes)) (subst (λ ps. Part s.before ps s.after) pairs s.part) cause)
          s.moves_after

      go : (ranged : RangedTask) → flown.ranged ≡ ranged → HasEndedAt place (outcome_of (Some e) flown.ranged body) (on_drive (waiting flying slots tasks) old) (on_drive left new)
      -- a read ends before the others do anything
      go (ranged_read fua range) is =
          let nothing : queued_pairs old.cache failed.failed ≡ [] = pairs ∙ ap (written_pairs old.cache) is in
          let s = split_at old.cache (MayPut old.cache (entries_of (remove tasks place))) (MayPut old.cache (entries_of (remove tasks place))) (is_tagged e.tag) old.outstanding failed.failed old.cells failed.mid failed.found still still failed.part in
          let stood : s.after ≡ s.before = subst (λ ps. Part s.before ps s.after) nothing s.part in
          with old.cells old.cells stay
          (ends_failed old.cache flown.ranged body (surface old.cells old.glitches) (surface old.cells new.glitches) e (flaw_met old.cells flown.ranged) refl (subst (λ r. Part old.cells (written_pairs old.cache r) old.cells) (sym is) refl) cause)
          (moves_on s.moves_before (subst (λ c. Moves (MayPut old.cache (entries_of (remove tasks place))) c failed.mid) stood s.moves_after))
      go other is = amid other is tt
