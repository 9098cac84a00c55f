-- A command that goes over the medium alone ends as the device says.
use Rattle.std.proofs.Common.{◌≡◌, ⊎_elim, inl, inr, refl, sym, ap, subst, ◌∙◌, arith, ℕ, ◌+◌, ◌≤◌, Bool, true, false, List, [], ◌∷◌, length, Some, None}
use Rattle.std.specs.List.{AllByRecursion}
use Rattle.satl_base.specs.Identify.{has_trim}
use Rattle.satl_base.specs.Lists.{IsIn}
use Rattle.std.specs.Prelude.{IfSome, IsSomeAnd, ◌⊎◌, MatchOption, Option, if◌then◌else◌, not, ◌&&◌, ◌||◌, get_or, min, replicate}
use Rattle.satl_base.specs.declared.block.Block.{Block}
use Rattle.satl_base.specs.declared.block.Range.{Range}
use Rattle.satl_base.specs.declared.bench.Which.TheVariants as flaws
use Rattle.satl_base.specs.declared.modes.Modes.{Modes}
use Rattle.satl_base.specs.declared.reply.Reply.{Reply}
use Rattle.satl_base.specs.declared.reply.Scsi.TheVariants.{Good}
use Rattle.satl_base.specs.Blocks.{no_block, over}
use Rattle.satl_base.specs.Cells.{Cell, Pair, Part, first_flaw, pairs_from, whole}
use Rattle.satl_base.specs.Moves.{stay}
use Rattle.satl_base.proofs.MovesLemmas.{lose_once}
use Rattle.satl_cdb.specs.declared.command.Command.{Command}
use Rattle.satl_cdb.specs.declared.command.Command.TheVariants as cdbs
use Rattle.satl_cdb.specs.declared.command.Form.{Form}
use Rattle.satl_identify.specs.declared.identity.Identity.{Identity}
use Rattle.satl_sense.specs.declared.sense.Sense.{Sense}
use Rattle.satl_pass.specs.Status.{error_sense_at}
use Rattle.satl_regs.specs.Effects.{Transfer, unc}
use Rattle.satl_line.specs.declared.entry.Entry.{Entry}
use Rattle.satl_line.specs.Ending.Outcome.{ends_done, ends_glitched}
use Rattle.satl_line.specs.Ranged.{zeros_over}
use Rattle.satl_line.specs.Ranged.RangedTask.{ranged_trim}
use Rattle.satl_unit.specs.declared.attention.Attention.{Attention}
use Rattle.satl_drive.specs.State.{DriveState}
use Rattle.satl_barrier.specs.declared.finishing.Finish.{Finish}
use Rattle.satl_barrier.specs.declared.finishing.Finish.TheVariants as finishes
use Rattle.satl_barrier.specs.declared.comparing.Comparison.{Comparison}
use Rattle.satl_barrier.specs.declared.comparing.Comparison.TheVariants as comparisons
use Rattle.satl_barrier.specs.Finishing as barrier
use Rattle.satl_barrier.specs.Finishing.{ComparesAs, FinishesAs, IsVerified, IsTorn, trimming_ranges, verifying_range, writing_same}
use Rattle.satl_direct.specs.Device.{Device, without}
use Rattle.satl_direct.specs.Tasks.{asks, task_of}
use Rattle.satl_direct.specs.Ending.{EndsBy, EndsCompared, EndsWithCrcError, EndsInPieces, EndsOnSurface, EndsVerified, IsChecked, IsCompared, IsTaskDone, IsPartlyWritten, same_pairs, task_check, task_reply}
use Rattle.satl_direct.specs.Quiet.{MayShow, MayWake, Quiet, is_pass, wakes, writes}
use Rattle.satl_direct.specs.Senses.{crc_error, miscompare, read_error, write_error}
use Rattle.satl_direct.proofs.Quieting.{quiet_none}
use Rattle.satl_core.specs.declared.turning.Ending.{Ending}
use Rattle.satl_core.specs.declared.turning.Ending.TheVariants as endings
use Rattle.satl_core.specs.Alone.{alone_of}
use Rattle.satl_core.specs.Medium as medium
use Rattle.satl_core.specs.Layer.{AreTrimmed, CanTrim, FitsCapacity, entry_pages}
use Rattle.satl_barrier.specs.Leaving.{TellsOf}
use Rattle.satl_barrier.specs.Settings.{IsSetBy}
use Rattle.satl_core.specs.Medium.{CanCarry, HasCompared, HasFinished, HasVerified, HasWhole, TakesTrim, written_alone}
use Rattle.satl_core.specs.Refilling.{EndsOne}
use Rattle.satl_core.specs.Turning.{ended_reply, read_pages}
use Rattle.satl_core.proofs.DeviceLemmas.{ends_around, ends_by, first_gone, seen}
use Rattle.satl_core.proofs.HeldLemmas.{IsKeptEntry}
use Rattle.satl_core.proofs.PassingLemmas.{pass_pairs}
use Rattle.satl_core.proofs.QueuedLemmas.{read_flaw, write_flaw}
use Rattle.satl_core.proofs.Transfers.{of_task}
use Rattle.satl_flight.proofs.FlownLemmas.{zeros_of_ranges}

-- the sense data of a flaw
pub flaw_sense : (writes : Bool) (at : ℕ) → error_sense_at writes unc at ≡ (if writes then write_error at else read_error at)
flaw_sense true at = write_flaw at
flaw_sense false at = read_flaw at

-- the block of a WRITE SAME at each address
pub same_is : (lba count : ℕ) (body : List Block) (cached : Bool) → 1 ≤ length body → pairs_from lba (replicate count (get_or body 0 no_block)) cached ≡ same_pairs lba count body cached
same_is lba count [] cached some = absurd (omega (arith, some))
same_is lba count (b ∷ body) cached some = refl

-- ---- the first task ends, and the drive has done this

module _ (identity : Identity) (modes : Modes) (started : Bool) (attentions : List (List Attention)) (entry : Entry) (others : List Entry) (d d' : DriveState)
    (ready : (not started && (asks entry.command).needs_started) ≡ false) (wakes_it : wakes entry.command ≡ true) where
  abbrev before : Device
  before = seen identity modes started attentions (task_of entry ∷ others) d

  -- the same, where a piece may have made the drive active
  abbrev awake : Device
  awake = record before { active = d'.active }

  abbrev after : Device
  after = seen identity modes started attentions others d'

  may_wake : d.down ≡ false → MayWake before
  may_wake up = record { task = task_of entry; under_way = record { up = up; eligible = inl refl }; wakes_it = wakes_it }

  quiet_awake : d.down ≡ false → (d'.active ≡ d.active) ⊎ (d'.active ≡ true) → Quiet before awake
  quiet_awake up active = record { cells = stay; active = ⊎_elim (λ same. inl same) (λ on. inr (on, may_wake up)) active; stays = refl }

  -- it is done
  pub done_turn : (t : Transfer) → barrier.IsDone t d d' → read_pages entry.command entry.body ≡ []
      → ((reply : Reply) (new : Device) → IsTaskDone (record before { cells = whole d.cells t.writes; active = true }) (task_of entry) reply new → EndsBy entry.command before (task_of entry) reply new)
      → EndsOne before (ended_reply entry endings.Good modes.d_sense) after
  done_turn t x none how =
      let mid : Device = seen identity modes started attentions others (record d { cells = whole d.cells t.writes; active = true }) in
      let reply : Reply = ended_reply entry endings.Good modes.d_sense in
      ends_around before before mid after (task_of entry) others reply (quiet_none before) refl
      (ends_by before (task_of entry) reply mid x.was_up ready (how reply mid (record {
        answer = ap (task_reply (task_of entry) Good []) none;
        stays = first_gone identity modes started attentions (task_of entry) others (record d { cells = whole d.cells t.writes; active = true });
      })))
      (record { cells = lose_once x.lost; active = inl (ap (λ (y : DriveState). y.active) x.stays); stays = by x.stays })
    where
      by : d' ≡ record d { cells = d'.cells; active = true } → after ≡ record (seen identity modes started attentions others (record d { cells = whole d.cells t.writes; active = true })) { cells = d'.cells; active = d'.active }
      by same = ap (λ (y : DriveState). record after { down = y.down; glitches = y.glitches }) same

  -- it ends with sense data, with part of what it writes
  pub torn_turn : (t : Transfer) (sense : Sense) (x : IsTorn t d d') → d'.down ≡ d.down
      → ((reply : Reply) (new : Device) → reply ≡ task_check awake (task_of entry) sense → new ≡ record awake { cells = x.torn; tasks = without (task_of entry) awake.tasks; glitches = d'.glitches } → EndsBy entry.command awake (task_of entry) reply new)
      → EndsOne before (ended_reply entry (endings.Check sense) modes.d_sense) after
  torn_turn t sense x link how =
      let mid : Device = seen identity modes started attentions others (record d' { cells = x.torn; down = d.down }) in
      let reply : Reply = ended_reply entry (endings.Check sense) modes.d_sense in
      ends_around before awake mid after (task_of entry) others reply (quiet_awake x.was_up x.active) refl
      (ends_by awake (task_of entry) reply mid x.was_up ready (how reply mid refl (first_gone identity modes started attentions (task_of entry) others (record d' { cells = x.torn; down = d.down }))))
      (record { cells = lose_once x.lost; active = inl refl; stays = ap (λ b. record after { down = b }) link })

-- ---- the cases of the device

verified_by : (s : Device) (t : Entry) (reply : Reply) (new : Device) (range : Range) (o : Option ℕ) → first_flaw flaws.Read s.cells range.lba range.count ≡ o
    → MatchOption o (IsTaskDone (record s { active = true }) t reply new) (λ at. IsChecked (read_error at) s t reply new) → EndsVerified range s t reply new
verified_by s t reply new range o is x = subst (λ o. MatchOption o (IsTaskDone (record s { active = true }) t reply new) (λ at. IsChecked (read_error at) s t reply new)) (sym is) x

compared_by : (s : Device) (t : Entry) (reply : Reply) (new : Device) (range : Range) (o : Option ℕ) → first_flaw flaws.Read s.cells range.lba range.count ≡ o
    → MatchOption o (EndsWithCrcError [] s t reply new ⊎ IsCompared range s t reply new) (λ at. IsChecked (read_error at) s t reply new) → EndsCompared range s t reply new
compared_by s t reply new range o is x = subst (λ o. MatchOption o (EndsWithCrcError [] s t reply new ⊎ IsCompared range s t reply new) (λ at. IsChecked (read_error at) s t reply new)) (sym is) x

-- what a WRITE SAME writes
abbrev same_writes : Range → Device → Entry → List Pair
same_writes range s t = same_pairs range.lba range.count t.body s.modes.wce

pieces_by : (s : Device) (t : Entry) (reply : Reply) (new : Device) (range : Range) (o : Option ℕ) → first_flaw flaws.Write s.cells range.lba range.count ≡ o
    → MatchOption o (IsTaskDone (record s { cells = whole s.cells (same_writes range s t); active = true }) t reply new) (λ at. (reply ≡ task_check s t (write_error at)) × IsPartlyWritten (same_writes range s t) s t new) → EndsInPieces range s t reply new
pieces_by s t reply new range o is x = inr (subst (λ o. MatchOption o (IsTaskDone (record s { cells = whole s.cells (same_writes range s t); active = true }) t reply new) (λ at. (reply ≡ task_check s t (write_error at)) × IsPartlyWritten (same_writes range s t) s t new)) (sym is) x)

-- the device with the sectors that it had
stays_so : (s new : Device) (cells : List Cell) (tasks : List Entry) (glitches : ℕ) → new ≡ record s { cells = cells; tasks = tasks; glitches = glitches } → cells ≡ s.cells → glitches ≡ s.glitches → new ≡ record s { tasks = tasks }
stays_so s new cells tasks glitches same is left = same ∙ (ap (λ c. record s { cells = c; tasks = tasks; glitches = glitches }) is ∙ ap (λ n. record s { tasks = tasks; glitches = n }) left)

-- a CRC error, with part of what is written
garbled : (s : Device) (t : Entry) (reply : Reply) (new : Device) (torn : List Cell) (writes : List Pair) (left : ℕ) → reply ≡ task_check s t crc_error → new ≡ record s { cells = torn; tasks = without t s.tasks; glitches = left } → Part s.cells writes torn → left + 1 ≡ s.glitches → EndsWithCrcError writes s t reply new
garbled s t reply new torn writes left answer same part one = record {
  answer = answer;
  part = subst (Part s.cells writes) (sym (ap (λ (x : Device). x.cells) same)) part;
  one_glitch = ap (λ (x : Device). x.glitches + 1) same ∙ one;
  stays = same ∙ sym (ap (λ (x : Device). record s { cells = x.cells; tasks = without t s.tasks; glitches = x.glitches }) same);
}

-- a flaw, with part of what is written
torn_by : (s : Device) (t : Entry) (new : Device) (torn : List Cell) (writes : List Pair) (left : ℕ) → new ≡ record s { cells = torn; tasks = without t s.tasks; glitches = left } → Part s.cells writes torn → left ≡ s.glitches → IsPartlyWritten writes s t new
torn_by s t new torn writes left same part unspent = record {
  part = subst (Part s.cells writes) (sym (ap (λ (x : Device). x.cells) same)) part;
  stays = same ∙ (ap (λ n. record s { cells = torn; tasks = without t s.tasks; glitches = n }) unspent ∙ sym (ap (λ (x : Device). record s { cells = x.cells; tasks = without t s.tasks }) same));
}

trim_done : (s : Device) (t : Entry) (reply : Reply) (new : Device) (ranges : List Range) (writes : List Pair) → writes ≡ zeros_over ranges s.modes.wce → IsTaskDone (record s { cells = whole s.cells writes; active = true }) t reply new → EndsOnSurface (ranged_trim ranges) s t reply new
trim_done s t reply new ranges writes pairs e = record {
  outcome = ends_done [];
  ends = record { no_flaw = refl; read = refl; written = ap (λ (x : Device). x.cells) e.stays ∙ ap (whole s.cells) pairs; glitches_stay = ap (λ (x : Device). x.glitches) e.stays };
  answer = e.answer;
  stays = e.stays ∙ sym (ap (λ (x : Device). record s { cells = x.cells; tasks = without t s.tasks; glitches = x.glitches; active = true }) e.stays);
}

trim_garbled : (s : Device) (t : Entry) (reply : Reply) (new : Device) (torn : List Cell) (ranges : List Range) (left : ℕ) → reply ≡ task_check s t crc_error → new ≡ record s { cells = torn; tasks = without t s.tasks; glitches = left } → Part s.cells (zeros_over ranges s.modes.wce) torn → left + 1 ≡ s.glitches → EndsOnSurface (ranged_trim ranges) s t reply new
trim_garbled s t reply new torn ranges left answer same part one = record {
  outcome = ends_glitched;
  ends = record { no_flaw = refl; written = subst (Part s.cells (zeros_over ranges s.modes.wce)) (sym (ap (λ (x : Device). x.cells) same)) part; one_glitch = ap (λ (x : Device). x.glitches + 1) same ∙ one };
  answer = answer;
  stays = same ∙ sym (ap (λ (x : Device). record s { cells = x.cells; tasks = without t s.tasks; glitches = x.glitches; active = s.active }) same);
}

-- ---- by command

module _ (identity : Identity) (modes : Modes) (started : Bool) (attentions : List (List Attention)) (entry : Entry) (others : List Entry) (d d' : DriveState) where
  -- a task with another command, and the device with it as its first task
  abbrev asking : Command → Entry
  asking c = record entry { command = c }

  abbrev with_it : Command → Device
  with_it c = seen identity modes started attentions (task_of (asking c) ∷ others) d

  abbrev roused : Command → Device
  roused c = record (with_it c) { active = d'.active }

  abbrev EndsSo : Command → Ending → Type 0
  EndsSo c ending = EndsOne (with_it c) (ended_reply (asking c) ending modes.d_sense) (seen identity modes started attentions others d')

  -- a flaw is met, where nothing is written
  flawed_turn : (c : Command) (t : Transfer) (at : ℕ) → (not started && (asks c).needs_started) ≡ false → wakes c ≡ true → t.writes ≡ [] → barrier.StopsAtFlaw t at d d'
      → ((reply : Reply) (new : Device) → IsChecked (read_error at) (roused c) (task_of (asking c)) reply new → EndsBy c (roused c) (task_of (asking c)) reply new) → EndsSo c (endings.Check (read_error at))
  flawed_turn c t at ready wake none x how =
      torn_turn identity modes started attentions (asking c) others d d' ready wake t (read_error at) x.torn (ap (λ (y : DriveState). y.down) x.stays)
      (λ reply new answer same. how reply new (record { answer = answer; stays = stays_so (roused c) new x.torn.torn (without (task_of (asking c)) (task_of (asking c) ∷ others)) d'.glitches same (subst (λ ps. Part d.cells ps x.torn.torn) none x.torn.part) (ap (λ (y : DriveState). y.glitches) x.stays) }))

  pub check_turn : (form : Form) (lba count : ℕ) (ending : Ending) → (not started && true) ≡ false → HasVerified (over lba count) d ending d' → EndsSo (cdbs.Verify form lba count false) ending
  check_turn form lba count ending ready h = subst (EndsSo (cdbs.Verify form lba count false)) (sym h.told) (by h.flaw h.is)
    where
      by : (flaw : Option ℕ) → IsVerified (over lba count) flaw d d' → EndsSo (cdbs.Verify form lba count false) (medium.ending_of_verify flaw)
      by None x =
          done_turn identity modes started attentions (asking (cdbs.Verify form lba count false)) others d d' ready refl (verifying_range (over lba count)) x refl
          (λ reply new e. verified_by (with_it (cdbs.Verify form lba count false)) (task_of (asking (cdbs.Verify form lba count false))) reply new (over lba count) None x.no_flaw e)
      by (Some at) x =
          flawed_turn (cdbs.Verify form lba count false) (verifying_range (over lba count)) at ready refl refl x
          (λ reply new e. verified_by (roused (cdbs.Verify form lba count false)) (task_of (asking (cdbs.Verify form lba count false))) reply new (over lba count) (Some at) x.flaw e)

  pub compare_turn : (form : Form) (lba count : ℕ) (ending : Ending) → (not started && true) ≡ false → HasCompared (over lba count) entry.body d ending d' → EndsSo (cdbs.Verify form lba count true) ending
  compare_turn form lba count ending ready h = subst (EndsSo (cdbs.Verify form lba count true)) (sym h.told) (by h.comparison h.is)
    where
      by : (it : Comparison) → ComparesAs (over lba count) entry.body it d d' → EndsSo (cdbs.Verify form lba count true) (medium.ending_of_comparison it)
      by comparisons.Same x =
          done_turn identity modes started attentions (asking (cdbs.Verify form lba count true)) others d d' ready refl (verifying_range (over lba count)) x.1 refl
          (λ reply new e. compared_by (with_it (cdbs.Verify form lba count true)) (task_of (asking (cdbs.Verify form lba count true))) reply new (over lba count) None x.1.no_flaw (inr (inl (sym x.0, e))))
      by comparisons.Differs x =
          torn_turn identity modes started attentions (asking (cdbs.Verify form lba count true)) others d d' ready refl (verifying_range (over lba count)) miscompare
          (record { was_up = x.1.was_up; torn = d.cells; part = refl; lost = x.1.lost; active = inr (ap (λ (y : DriveState). y.active) x.1.stays) }) (ap (λ (y : DriveState). y.down) x.1.stays)
          (λ reply new answer same. compared_by (roused (cdbs.Verify form lba count true)) (task_of (asking (cdbs.Verify form lba count true))) reply new (over lba count) None x.1.no_flaw (inr (inr (
            (λ is. x.0 (sym is)),
            record {
              answer = answer;
              stays = stays_so (roused (cdbs.Verify form lba count true)) new d.cells (without (task_of (asking (cdbs.Verify form lba count true))) (task_of (asking (cdbs.Verify form lba count true)) ∷ others)) d'.glitches same refl (ap (λ (y : DriveState). y.glitches) x.1.stays);
            },
          ))))
      by (comparisons.Flawed at) x =
          flawed_turn (cdbs.Verify form lba count true) (verifying_range (over lba count)) at ready refl refl x
          (λ reply new e. compared_by (roused (cdbs.Verify form lba count true)) (task_of (asking (cdbs.Verify form lba count true))) reply new (over lba count) (Some at) x.flaw e)
      by comparisons.Garbled x =
          torn_turn identity modes started attentions (asking (cdbs.Verify form lba count true)) others d d' ready refl (verifying_range (over lba count)) crc_error x.torn (ap (λ (y : DriveState). y.down) x.stays)
          (λ reply new answer same. compared_by (roused (cdbs.Verify form lba count true)) (task_of (asking (cdbs.Verify form lba count true))) reply new (over lba count) None x.no_flaw (inl (garbled (roused (cdbs.Verify form lba count true)) (task_of (asking (cdbs.Verify form lba count true))) reply new x.torn.torn [] d'.glitches answer same x.torn.part x.one)))

  module _ (cache : d.cache ≡ modes.wce) where
    pub same_turn : (form : Form) (lba count : ℕ) (ending : Ending) → (not started && true) ≡ false → 1 ≤ length entry.body → HasFinished (writing_same (over lba count) (get_or entry.body 0 no_block) d) (min 64 count) d ending d' → EndsSo (cdbs.WriteSame form lba count false) ending
    same_turn form lba count ending ready some h = subst (EndsSo (cdbs.WriteSame form lba count false)) (sym h.told) (by h.finish h.is)
      where
        pairs : (writing_same (over lba count) (get_or entry.body 0 no_block) d).writes ≡ same_pairs lba count entry.body modes.wce
        pairs = same_is lba count entry.body d.cache some ∙ ap (same_pairs lba count entry.body) cache

        by : (it : Finish) → FinishesAs (writing_same (over lba count) (get_or entry.body 0 no_block) d) (min 64 count) it d d' → EndsSo (cdbs.WriteSame form lba count false) (medium.ending_of_finish it)
        by finishes.Done x =
            done_turn identity modes started attentions (asking (cdbs.WriteSame form lba count false)) others d d' ready refl (writing_same (over lba count) (get_or entry.body 0 no_block) d) x refl
            (λ reply new e. pieces_by (with_it (cdbs.WriteSame form lba count false)) (task_of (asking (cdbs.WriteSame form lba count false))) reply new (over lba count) None x.no_flaw
            (subst (λ ps. IsTaskDone (record (with_it (cdbs.WriteSame form lba count false)) { cells = whole d.cells ps; active = true }) (task_of (asking (cdbs.WriteSame form lba count false))) reply new) pairs e))
        by (finishes.Flawed at) x =
            torn_turn identity modes started attentions (asking (cdbs.WriteSame form lba count false)) others d d' ready refl (writing_same (over lba count) (get_or entry.body 0 no_block) d) (write_error at) x.torn (ap (λ (y : DriveState). y.down) x.stays)
            (λ reply new answer same. pieces_by (roused (cdbs.WriteSame form lba count false)) (task_of (asking (cdbs.WriteSame form lba count false))) reply new (over lba count) (Some at) x.flaw
            (answer, torn_by (roused (cdbs.WriteSame form lba count false)) (task_of (asking (cdbs.WriteSame form lba count false))) new x.torn.torn (same_pairs lba count entry.body modes.wce) d'.glitches same (subst (λ ps. Part d.cells ps x.torn.torn) pairs x.torn.part) (ap (λ (y : DriveState). y.glitches) x.stays)))
        by finishes.Garbled x =
            torn_turn identity modes started attentions (asking (cdbs.WriteSame form lba count false)) others d d' ready refl (writing_same (over lba count) (get_or entry.body 0 no_block) d) crc_error x.torn (ap (λ (y : DriveState). y.down) x.stays)
            (λ reply new answer same. inl (x.no_flaw, garbled (roused (cdbs.WriteSame form lba count false)) (task_of (asking (cdbs.WriteSame form lba count false))) reply new x.torn.torn (same_pairs lba count entry.body modes.wce) d'.glitches answer same (subst (λ ps. Part d.cells ps x.torn.torn) pairs x.torn.part) x.one))

    -- a trim of these ranges, by whichever command
    trimmed_turn : (c : Command) (ranges : List Range) (ending : Ending) → (not started && (asks c).needs_started) ≡ false → wakes c ≡ true → read_pages c entry.body ≡ []
        → ((s : Device) (reply : Reply) (new : Device) → EndsOnSurface (ranged_trim ranges) s (task_of (asking c)) reply new → EndsBy c s (task_of (asking c)) reply new) → HasFinished (trimming_ranges ranges d) 0 d ending d' → EndsSo c ending
    trimmed_turn c ranges ending ready wake none how h = subst (EndsSo c) (sym h.told) (by h.finish h.is)
      where
        pairs : (trimming_ranges ranges d).writes ≡ zeros_over ranges modes.wce
        pairs = zeros_of_ranges d.cache ranges ∙ ap (zeros_over ranges) cache

        by : (it : Finish) → FinishesAs (trimming_ranges ranges d) 0 it d d' → EndsSo c (medium.ending_of_finish it)
        by finishes.Done x =
            done_turn identity modes started attentions (asking c) others d d' ready wake (trimming_ranges ranges d) x none
            (λ reply new e. how (with_it c) reply new (trim_done (with_it c) (task_of (asking c)) reply new ranges (trimming_ranges ranges d).writes pairs e))
        by (finishes.Flawed at) x = absurd (no_flaw x.flaw)
          where
            no_flaw : first_flaw flaws.Write d.cells 0 0 ≡ Some at → ⊥
            no_flaw e = absurd cc
        by finishes.Garbled x =
            torn_turn identity modes started attentions (asking c) others d d' ready wake (trimming_ranges ranges d) crc_error x.torn (ap (λ (y : DriveState). y.down) x.stays)
            (λ reply new answer same. how (roused c) reply new (trim_garbled (roused c) (task_of (asking c)) reply new x.torn.torn ranges d'.glitches answer same (subst (λ ps. Part d.cells ps x.torn.torn) pairs x.torn.part) x.one))

    pub zero_turn : (form : Form) (lba count : ℕ) (ending : Ending) → (not started && true) ≡ false → HasFinished (trimming_ranges (over lba count ∷ []) d) 0 d ending d' → EndsSo (cdbs.WriteSame form lba count true) ending
    zero_turn form lba count ending ready h = trimmed_turn (cdbs.WriteSame form lba count true) (over lba count ∷ []) ending ready refl refl (λ s reply new e. e) h

    pub unmap_turn : (size : ℕ) (ending : Ending) → (not started && true) ≡ false → HasFinished (trimming_ranges entry.ranges.items d) 0 d ending d' → EndsSo (cdbs.Unmap size) ending
    unmap_turn size ending ready h = trimmed_turn (cdbs.Unmap size) entry.ranges.items ending ready refl refl (λ s reply new e. e) h

-- ---- a task that is kept

-- it has what the drive needs to carry it out
pub can_carry : (identity : Identity) (entry : Entry) (d : DriveState) → IsKeptEntry identity entry → identity.capacity ≡ d.capacity → identity.capacity ≡ length d.cells → has_trim d.identify ≡ identity.trim → IfSome (alone_of entry.command) (λ alone. CanCarry alone entry d)
can_carry identity entry d kept capacity size has =
    of_task (λ c. length entry.body ≡ entry.blocks + entry_pages c identity.queued_trim → CanTrim identity c entry.ranges.items → IfSome (alone_of c) (λ alone. CanCarry alone entry d)) identity.capacity entry.blocks entry.command
    (λ form lba count fua t pages can. tt) (λ form lba count fua t pages can. tt) (λ form lba count none pages can. tt) (λ start no_flush none pages can. tt) (λ ten size none pages can. tt)
    (λ form lba count t pages can. reached lba count t.1) (λ form lba count t pages can. (omega (arith, t.0, pages), t.1, reached lba count t.2))
    (λ form lba count unmap. elim unmap as (λ b. (entry.blocks ≡ 1) × FitsCapacity identity.capacity lba count → length entry.body ≡ entry.blocks + 0 → CanTrim identity (cdbs.WriteSame form lba count b) entry.ranges.items → IfSome (alone_of (cdbs.WriteSame form lba count b)) (λ alone. CanCarry alone entry d)) [
      | true ↦ λ t pages can. takes (over lba count ∷ []) can
      | false ↦ λ t pages can. (omega (arith, t.0, pages), reached lba count t.1)
    ])
    (λ size t pages can. takes entry.ranges.items can) (λ cdb t pages can. (omega (arith, t.0, pages), t.1)) kept.task kept.pages kept.trims
  where
    reached : (lba count : ℕ) → FitsCapacity identity.capacity lba count → FitsCapacity d.capacity lba count
    reached lba count = subst (λ n. FitsCapacity n lba count) capacity

    takes : (ranges : List Range) → AreTrimmed identity ranges → TakesTrim ranges d
    takes ranges can = record { has = has ∙ can.has; list = can.list; within = subst (λ n. AllByRecursion (λ (r : Range). r.lba + r.count ≤ n) ranges) size can.within }

-- a command writes these pairs, where it is the one of a task that runs alone on the drive
abbrev pub WritesAlone : Entry → DriveState → List Pair → Command → Type 0
WritesAlone entry d pairs command = IsSomeAnd (alone_of command) (λ alone. HasWhole alone entry × (pairs ≡ written_alone alone entry d))

-- what it writes is what the device says that it writes
written_is : (identity : Identity) (modes : Modes) (started : Bool) (attentions : List (List Attention)) (entry : Entry) (others : List Entry) (d : DriveState) (pairs : List Pair) (pair : Pair) → IsSetBy modes d → TellsOf identity.bytes d
    → WritesAlone entry d pairs entry.command → IsKeptEntry identity entry → IsIn pair pairs → IsIn pair (writes (seen identity modes started attentions (task_of entry ∷ others) d) (task_of entry))
written_is identity modes started attentions entry others d pairs pair set told written kept =
    of_task (λ c. WritesAlone entry d pairs c → length entry.body ≡ entry.blocks + entry_pages c identity.queued_trim → IsIn pair pairs → Shown c) identity.capacity entry.blocks entry.command
    (λ form lba count fua t is size i. absurd is) (λ form lba count fua t is size i. absurd is) (λ form lba count none is size i. absurd (subst (IsIn pair) is.1 i)) (λ start no_flush none is size i. absurd (subst (IsIn pair) is.1 i))
    (λ ten size none is pages i. absurd (subst (IsIn pair) is.1 i)) (λ form lba count t is size i. absurd (subst (IsIn pair) is.1 i)) (λ form lba count t is size i. absurd (subst (IsIn pair) is.1 i))
    (λ form lba count unmap. elim unmap as (λ b. (entry.blocks ≡ 1) × FitsCapacity identity.capacity lba count → WritesAlone entry d pairs (cdbs.WriteSame form lba count b) → length entry.body ≡ entry.blocks + 0 → IsIn pair pairs → Shown (cdbs.WriteSame form lba count b)) [
      | true ↦ λ t is size i. subst (IsIn pair) (is.1 ∙ (zeros_of_ranges d.cache (over lba count ∷ []) ∙ ap (zeros_over (over lba count ∷ [])) set.cache)) i
      | false ↦ λ t is size i. subst (IsIn pair) (is.1 ∙ (same_is lba count entry.body d.cache (omega (arith, t.0, size)) ∙ ap (same_pairs lba count entry.body) set.cache)) i
    ])
    (λ size t is pages i. subst (IsIn pair) (is.1 ∙ (zeros_of_ranges d.cache entry.ranges.items ∙ ap (zeros_over entry.ranges.items) set.cache)) i)
    (λ cdb t is size i. pass_pairs identity modes started attentions entry others d cdb pair set told t.1 (omega (arith, t.0, size)) is.0 (subst (IsIn pair) is.1 i)) kept.task written kept.pages
  where
    Shown : Command → Type 0
    Shown c = IsIn pair (writes (seen identity modes started attentions (task_of (record entry { command = c }) ∷ others) d) (task_of (record entry { command = c })))

-- so it may show, as the first task, where the unit is started if the command needs it
pub shows : (identity : Identity) (modes : Modes) (started : Bool) (attentions : List (List Attention)) (entry : Entry) (others : List Entry) (d : DriveState) (pairs : List Pair) → IsSetBy modes d → TellsOf identity.bytes d
    → WritesAlone entry d pairs entry.command → (not started && (asks entry.command).needs_started) ≡ false → IsKeptEntry identity entry → (pair : Pair) → IsIn pair pairs
    → MayShow (seen identity modes started attentions (task_of entry ∷ others) d) pair
shows identity modes started attentions entry others d pairs set told written ready kept pair i = record {
  task = task_of entry;
  under_way = record { up = set.up; eligible = inl refl };
  started = on started (asks entry.command).needs_started (is_pass entry.command) ready starts_it;
  among = written_is identity modes started attentions entry others d pairs pair set told written kept i;
}
  where
    on : (b s p : Bool) → (not b && s) ≡ false → s || p ≡ true → b || p ≡ true
    on true s p e h = refl
    on false true p e h = absurd cc
    on false false p e h = h

    starts_it : (asks entry.command).needs_started || is_pass entry.command ≡ true
    starts_it =
        of_task (λ c. WritesAlone entry d pairs c → (asks c).needs_started || is_pass c ≡ true) identity.capacity entry.blocks entry.command
        (λ form lba count fua t is. absurd is) (λ form lba count fua t is. absurd is) (λ form lba count none is. refl) (λ start no_flush none is. absurd (subst (IsIn pair) is.1 i)) (λ ten size none is. absurd (subst (IsIn pair) is.1 i))
        (λ form lba count t is. refl) (λ form lba count t is. refl)
        (λ form lba count unmap t is. elim unmap as (λ b. (asks (cdbs.WriteSame form lba count b)).needs_started || false ≡ true) [ true ↦ refl | false ↦ refl ]) (λ size t is. refl) (λ cdb t is. refl) kept.task written
