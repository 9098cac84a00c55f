-- What the queue does is what the device does.
use Rattle.std.proofs.Common.{◌≡◌, refl, sym, ◌∙◌, ap, subst, inl, ⊎_elim, ℕ, zero, suc, Bool, true, false, List, [], ◌∷◌, Option, Some, None, arith}
use Rattle.std.specs.Prelude.{◌==◌, ◌&&◌, ◌||◌, not, map, MatchBool, slice_get, if◌then◌else◌}
use Rattle.std.specs.List.{AllByRecursion, remove}
use Rattle.satl_base.specs.declared.block.Block.{Block}
use Rattle.satl_base.specs.declared.block.Range.{Range}
use Rattle.satl_base.specs.declared.reply.Reply.{Reply}
use Rattle.satl_base.specs.declared.reply.Scsi.TheVariants.{Good}
use Rattle.satl_base.specs.Lists.{IsIn, remove_first}
use Rattle.satl_base.specs.Cells.{Cell, Pair}
use Rattle.satl_base.specs.Moves.{Moves}
use Rattle.satl_base.proofs.MovesLemmas.{moves_weaker}
use Rattle.satl_base.proofs.Booleans.{eqb-sym}
use Rattle.satl_base.proofs.ListsLemmas.{get-map, remove-map}
use Rattle.satl_cdb.specs.declared.command.Command.{Command}
use Rattle.satl_cdb.specs.declared.command.Command.TheVariants as commands
use Rattle.satl_errlog.specs.declared.entry.NcqError.{NcqError}
use Rattle.satl_regs.specs.Effects.{icrc_abrt, unc}
use Rattle.satl_pass.specs.Status.{error_sense_at}
use Rattle.satl_line.specs.declared.entry.Entry.{Entry}
use Rattle.satl_line.specs.declared.entry.Kind.{Kind}
use Rattle.satl_line.specs.declared.entry.Kind.TheVariants.{Ranged, Barrier}
use Rattle.satl_line.specs.Conflict.{conflicts}
use Rattle.satl_line.specs.Eligible.{IsEligible, IsEligibleBy}
use Rattle.satl_line.specs.Ending.{EndsAs, Outcome, active_after, surface}
use Rattle.satl_line.specs.Ending.Outcome.{ends_flawed, ends_glitched}
use Rattle.satl_line.specs.Ranged.{MayPut, RangedTask, ranged_by, ranged_of, written_pairs}
use Rattle.satl_line.specs.Ranged.RangedTask.{ranged_read, ranged_write, ranged_trim}
use Rattle.satl_line.specs.Tasks.{Held, entries_of}
use Rattle.satl_line.proofs.EligibleLemmas.{eligible_formed}
use Rattle.satl_drive.specs.State.{DriveState}
use Rattle.satl_direct.specs.Device.{Device, is_called, without}
use Rattle.satl_direct.specs.Ending.{EndsBy, EndsOnSurface, medium_error, outcome_reply, task_check, task_reply}
use Rattle.satl_direct.specs.Quiet.{MayShow, Quiet, is_pass, writes, written_by}
use Rattle.satl_direct.specs.Senses.{crc_error, read_error, write_error}
use Rattle.satl_direct.specs.Tasks.{task_of}
use Rattle.satl_direct.specs.Turn as turns
use Rattle.satl_direct.specs.Turn.{Loss}
use Rattle.satl_direct.specs.Turn.Turn.{loses}
use Rattle.satl_direct.specs.Quiet.{Around}
use Rattle.satl_direct.specs.Valid.{AreOwn}
use Rattle.satl_direct.proofs.Quieting.{quiet_none}
use Rattle.satl_direct.proofs.Naming.{called_same, own_first, own_rest}
use Rattle.satl_flight.specs.Flown.{clash}
use Rattle.satl_flight.specs.Lending.{waiting}
use Rattle.satl_flight.specs.Settled.{HasEndedAt, IsFilled, IsFlawOrCrc, IsLostInFlight, IsLostQuietly, OnDrive, on_drive, outcome_of, read_into}
use Rattle.satl_core.specs.Layer.{Agrees, Layer, view, works}
use Rattle.satl_core.specs.Refilling.{EndsOne}
use Rattle.satl_core.specs.Turning as core
use Rattle.satl_core.specs.Turning.{ended_reply, ending_by, is_read, read_pages}
use Rattle.satl_core.proofs.DeviceLemmas.{ends_by, rest_lost}

-- ---- a task as the device sees it

-- what a ranged task writes
writes_by : (command : Command) (s : Device) (e : Entry) (ranges : List Range) (ranged : RangedTask) → e.ranges.items ≡ ranges → ranged_by command ranges e.body ≡ Some ranged → written_by command s (task_of (record e { command = command })) ≡ written_pairs s.modes.wce ranged
writes_by (commands.Read form lba count fua) s e ranges ranged same h = let is : ranged_read fua (record { lba = lba; count = count }) ≡ ranged = cc in ap (written_pairs s.modes.wce) is
writes_by (commands.Write form lba count fua) s e ranges ranged same h = let is : ranged_write fua (record { lba = lba; count = count }) e.body ≡ ranged = cc in ap (written_pairs s.modes.wce) is
writes_by (commands.Unmap a) s e ranges ranged same h = let is : ranged_trim ranges ≡ ranged = cc in ap (λ rs. written_pairs s.modes.wce (ranged_trim rs)) same ∙ ap (written_pairs s.modes.wce) is
writes_by _ s e ranges ranged same h = absurd cc

-- a ranged task is told so by its command
pub by_command : (e : Entry) (ranged : RangedTask) → ranged_of e ≡ Some ranged → ranged_by e.command e.ranges.items e.body ≡ Some ranged
by_command e ranged h = go e.kind refl
  where
    go : (k : Kind) → e.kind ≡ k → ranged_by e.command e.ranges.items e.body ≡ Some ranged
    go (Ranged write) is = subst (λ k. ranged_of (record e { kind = k }) ≡ Some ranged) is h
    go Barrier is = let none : ranged_of (record e { kind = Barrier }) ≡ Some ranged = subst (λ k. ranged_of (record e { kind = k }) ≡ Some ranged) is h in absurd cc

writes_of : (s : Device) (e : Entry) (ranged : RangedTask) → ranged_of e ≡ Some ranged → writes s (task_of e) ≡ written_pairs s.modes.wce ranged
writes_of s e ranged h = writes_by e.command s e e.ranges.items ranged refl (by_command e ranged h)

-- how it ends
ends_ranged : (command : Command) (s : Device) (e : Entry) (ranges : List Range) (ranged : RangedTask) (reply : Reply) (new : Device) → e.ranges.items ≡ ranges → ranged_by command ranges e.body ≡ Some ranged
    → EndsOnSurface ranged s (task_of (record e { command = command })) reply new → EndsBy command s (task_of (record e { command = command })) reply new
ends_ranged (commands.Read form lba count fua) s e ranges ranged reply new same h m =
    let is : ranged_read fua (record { lba = lba; count = count }) ≡ ranged = cc in subst (λ r. EndsOnSurface r s (task_of (record e { command = commands.Read form lba count fua })) reply new) (sym is) m
ends_ranged (commands.Write form lba count fua) s e ranges ranged reply new same h m =
    let is : ranged_write fua (record { lba = lba; count = count }) e.body ≡ ranged = cc in subst (λ r. EndsOnSurface r s (task_of (record e { command = commands.Write form lba count fua })) reply new) (sym is) m
ends_ranged (commands.Unmap a) s e ranges ranged reply new same h m =
    let is : ranged_trim ranges ≡ ranged = cc in subst (λ r. EndsOnSurface r s (task_of (record e { command = commands.Unmap a })) reply new) (sym (ap ranged_trim same ∙ is)) m
ends_ranged _ s e ranges ranged reply new same h m = absurd cc

-- ---- the answer to a task that has ended

-- the rows of the table of errors
pub read_flaw : (at : ℕ) → error_sense_at false unc at ≡ read_error at
unfolding error_sense_at
read_flaw at = refl

pub write_flaw : (at : ℕ) → error_sense_at true unc at ≡ write_error at
unfolding error_sense_at
write_flaw at = refl

pub crc_sense : (writes : Bool) (at : ℕ) → error_sense_at writes icrc_abrt at ≡ crc_error
unfolding error_sense_at
crc_sense writes at = refl

-- what the layer tells of a ranged task is what the device tells
record TellsSame (command : Command) (ranged : RangedTask) : Type 0 where
  data_in : (body : List Block) → read_pages command body ≡ read_into ranged body
  flaw : (at : ℕ) → error_sense_at (not (is_read command)) unc at ≡ medium_error ranged at

tells : (command : Command) (ranges : List Range) (body : List Block) (ranged : RangedTask) → ranged_by command ranges body ≡ Some ranged → TellsSame command ranged
tells (commands.Read form lba count fua) ranges body ranged h = let is : ranged_read fua (record { lba = lba; count = count }) ≡ ranged = cc in subst (TellsSame (commands.Read form lba count fua)) is (record { data_in = λ b. refl; flaw = read_flaw })
tells (commands.Write form lba count fua) ranges body ranged h = let is : ranged_write fua (record { lba = lba; count = count }) body ≡ ranged = cc in subst (TellsSame (commands.Write form lba count fua)) is (record { data_in = λ b. refl; flaw = write_flaw })
tells (commands.Unmap a) ranges body ranged h = let is : ranged_trim ranges ≡ ranged = cc in subst (TellsSame (commands.Unmap a)) is (record { data_in = λ b. refl; flaw = write_flaw })
tells _ ranges body ranged h = absurd cc

pub settled_reply : (s : Device) (e : Entry) (ranged : RangedTask) (body : List Block) (error : Option NcqError) → ranged_of e ≡ Some ranged → IsFlawOrCrc error
    → ended_reply (record e { body = body }) (ending_by (not (is_read e.command)) error) s.modes.d_sense ≡ outcome_reply s (task_of e) ranged (outcome_of error ranged body)
settled_reply s e ranged body None is kind = ap (task_reply (task_of e) Good []) ((tells e.command e.ranges.items e.body ranged (by_command e ranged is)).data_in body)
settled_reply s e ranged body (Some x) is kind =
    ⊎_elim
    (λ flawed.
    ap (λ n. task_check s (task_of e) (error_sense_at (not (is_read e.command)) n x.lba)) flawed
    ∙ (ap (task_check s (task_of e)) ((tells e.command e.ranges.items e.body ranged (by_command e ranged is)).flaw x.lba)
    ∙ ap (λ b. outcome_reply s (task_of e) ranged (if b then ends_flawed x.lba else ends_glitched)) (sym (ap (λ n. n == unc) flawed))))
    (λ garbled.
    ap (λ n. task_check s (task_of e) (error_sense_at (not (is_read e.command)) n x.lba)) garbled
    ∙ (ap (task_check s (task_of e)) (crc_sense (not (is_read e.command)) x.lba)
    ∙ ap (λ b. outcome_reply s (task_of e) ranged (if b then ends_flawed x.lba else ends_glitched)) (sym (ap (λ n. n == unc) garbled))))
    kind

-- ---- moves of the queue are quiet moves

pub eligible_seen : (tasks : List Held) (h : Held) → IsEligibleBy clash tasks h → IsEligible (map task_of (entries_of tasks)) (task_of h.entry)
eligible_seen tasks h e = eligible_formed conflicts conflicts task_of (λ a b. refl) (entries_of tasks) h.entry (eligible_formed clash conflicts (λ (k : Held). k.entry) (λ a b. refl) tasks h e)

-- a pair that the queue may put may show
pub may_show : (s : Device) (cache : Bool) (entries : List Entry) (pair : Pair) → s.tasks ≡ map task_of entries → s.modes.wce ≡ cache → s.down ≡ false → s.started ≡ true → MayPut cache entries pair → MayShow s pair
may_show s cache entries pair tasks_are wce up started m = record {
  task = task_of m.task;
  under_way = record { up = up; eligible = subst (λ ts. IsEligible ts (task_of m.task)) (sym tasks_are) (eligible_formed conflicts conflicts task_of (λ a b. refl) entries m.task m.eligible) };
  started = ap (λ b. b || Rattle.satl_direct.specs.Quiet.is_pass m.task.command) started;
  among = subst (IsIn pair) (ap (λ c. written_pairs c m.ranged) (sym wce) ∙ sym (writes_of s m.task m.ranged m.of_task)) m.among;
}

-- ---- the place of a task

-- the task at a place is the one of its name
without_place : (tasks : List Entry) (place : ℕ) (t : Entry) → AreOwn tasks → slice_get tasks place ≡ Some t → without t tasks ≡ remove tasks place
without_place [] place t own at = absurd cc
without_place (u ∷ us) zero t own at = let one : u ≡ t = cc in ap (λ b. if b then us else u ∷ remove_first (is_called t.nexus (t.tag).0) us) (called_same u t one)
without_place (u ∷ us) (suc place) t own at = ap (λ b. if b then us else u ∷ remove_first (is_called t.nexus (t.tag).0) us) (other us place (own_first u us own) at) ∙ ap (λ xs. u ∷ xs) (without_place us place t (own_rest u us own) at)
  where
    other : (ts : List Entry) (k : ℕ) → AllByRecursion (λ v. is_called u.nexus (u.tag).0 v ≡ false) ts → slice_get ts k ≡ Some t → is_called t.nexus (t.tag).0 u ≡ false
    other [] k none is = absurd cc
    other (x ∷ xs) zero none is = let one : x ≡ t = cc in ap (λ b. b && ((u.tag).0 == (t.tag).0)) (eqb-sym u.nexus t.nexus) ∙ ap (λ b. (t.nexus == u.nexus) && b) (eqb-sym (u.tag).0 (t.tag).0) ∙ ap (is_called u.nexus (u.tag).0) (sym one) ∙ none.0
    other (x ∷ xs) (suc k) none is = other xs k none.1 is

-- ---- a unit that works

-- the queue of the layer, and the drive that it is on
abbrev pub queue_on : Layer → DriveState → OnDrive
queue_on l d = on_drive (waiting l.flying l.slots l.tasks) d

pub works_so : (l : Layer) → works l ≡ true → (l.down ≡ false) × (l.started ≡ true)
works_so l w = by l.down l.started w
  where
    by : (a b : Bool) → (not a && b) ≡ true → (a ≡ false) × (b ≡ true)
    by false true e = (refl, refl)
    by false false e = absurd cc
    by true b e = absurd cc

module _ (l : Layer) (d : DriveState) (agrees : Agrees l d) (w : works l ≡ true) where
  pub is_up : d.down ≡ false
  is_up = sym agrees.mark ∙ (works_so l w).0

  pub cached : l.modes.wce ≡ d.cache
  cached = sym (agrees.cache (works_so l w).0)

  pub moves_shown : (cells : List Cell) → Moves (MayPut d.cache (entries_of l.tasks)) d.cells cells → Moves (MayShow (view l d)) d.cells cells
  moves_shown cells moves = moves_weaker (λ p m. may_show (view l d) d.cache (entries_of l.tasks) p refl cached is_up (works_so l w).1 m) moves

  -- what the queue moves are quiet moves
  pub moves_quietly : (l' : Layer) (d' : DriveState) → l' ≡ record l { flying = l'.flying; slots = l'.slots } → Moves (MayPut d.cache (entries_of l.tasks)) d.cells d'.cells
      → d'.active ≡ d.active → d'.glitches ≡ d.glitches → d'.down ≡ d.down → Quiet (view l d) (view l' d')
  moves_quietly l' d' same moves active glitches down = record {
    cells = moves_shown d'.cells moves;
    active = inl active;
    stays = ap (λ x. view x d') same ∙ (ap (λ b. record (view l d') { down = b }) down ∙ ap (λ n. record (view l d') { down = d.down; glitches = n }) glitches);
  }

  -- the link is lost as something is issued, or as the drive is reset: quiet moves, and then a loss
  pub loses_quietly : (new : Layer) (d' : DriveState) → new ≡ record l { down = true; tasks = []; flying = []; slots = new.slots; free = new.free; out = new.out } → IsLostQuietly l.tasks d d'
      → (mid : Device) × Quiet (view l d) mid × Loss mid (core.lost_replies l.modes.d_sense l.tasks) (view new d')
  loses_quietly new d' is lost = (
    record (view l d) { cells = d'.cells },
    record { cells = moves_shown d'.cells lost.moves; active = inl refl; stays = refl },
    record {
      was_up = is_up;
      answer = rest_lost (record (view l d) { cells = d'.cells }) l.tasks;
      stays = ap (λ x. view x d') is
          ∙ (ap (λ (x : DriveState). record (view l d) { cells = d'.cells; tasks = []; down = x.down; active = x.active; glitches = x.glitches }) lost.stays);
    },
  )

  -- the link is lost as a task is settled: the turn is a loss
  pub loses_in_flight : (new : Layer) (d' : DriveState) → (l.tasks ≡ [] → ⊥) → new ≡ record l { down = true; tasks = []; flying = []; slots = new.slots; free = new.free; out = new.out } → IsLostInFlight l.tasks d d'
      → Around turns.Turn (view l d) (core.lost_replies l.modes.d_sense l.tasks) (view new d')
  loses_in_flight new d' some is lost = record {
    before = record (view l d) { cells = d'.cells };
    after = view new d';
    quiet_before = record { cells = moves_shown d'.cells lost.moves; active = inl refl; stays = refl };
    step = loses (λ none. some (no_tasks l.tasks none)) (record {
      was_up = is_up;
      answer = rest_lost (record (view l d) { cells = d'.cells }) l.tasks;
      glitches = lost.glitches;
      stays = ap (λ x. view x d') is ∙ ap (λ b. record (view l d) { cells = d'.cells; tasks = []; down = b; active = d'.active; glitches = d'.glitches }) (ap (λ (x : DriveState). x.down) lost.stays);
    });
    quiet_after = quiet_none (view new d');
  }
    where
      no_tasks : (ts : List Held) → map task_of (entries_of ts) ≡ [] → ts ≡ []
      no_tasks [] e = refl
      no_tasks (t ∷ ts) e = absurd cc

  -- ---- one ends

  module _ (l' : Layer) (d' : DriveState) (place : ℕ) (outcome : Outcome) (own : AreOwn (map task_of (entries_of l.tasks))) (s : HasEndedAt place outcome (queue_on l d) (queue_on l' d'))
      (same : l' ≡ record l { tasks = remove l.tasks place; flying = l'.flying; slots = l'.slots; free = l'.free; out = l'.out }) where
    abbrev task : Entry
    task = task_of s.held.entry

    abbrev others : List Entry
    others = map task_of (entries_of (remove l.tasks place))

    -- the device before the end and after it, without what the others put
    abbrev mid_before : Device
    mid_before = record (view l d) { cells = s.before }

    abbrev mid_after : Device
    mid_after = record mid_before { cells = s.after; tasks = without task (view l d).tasks; glitches = d'.glitches; active = active_after outcome d.active }

    pub left_over : without task (view l d).tasks ≡ others
    left_over =
        without_place (map task_of (entries_of l.tasks)) place task own (get-map task_of (entries_of l.tasks) place s.held.entry (get-map (λ (h : Held). h.entry) l.tasks place s.held s.stands))
        ∙ (sym (remove-map task_of (entries_of l.tasks) place) ∙ ap (map task_of) (sym (remove-map (λ (h : Held). h.entry) l.tasks place)))

    active_is : d'.active ≡ active_after outcome d.active
    active_is = ap (λ (x : DriveState). x.active) s.stays

    down_is : d'.down ≡ d.down
    down_is = ap (λ (x : DriveState). x.down) s.stays

    ends_so : turns.OneEnds mid_before (outcome_reply mid_before task s.ranged outcome) mid_after
    ends_so = record {
      task = task;
      may = subst (λ b. MatchBool (b || not l.started) (turns.IsFirst (view l d).tasks task) (IsEligible (view l d).tasks task)) (sym is_up)
          (subst (λ b. MatchBool (not b) (turns.IsFirst (view l d).tasks task) (IsEligible (view l d).tasks task)) (sym (works_so l w).1) (eligible_seen l.tasks s.held s.eligible));
      ends = ends_by mid_before task (outcome_reply mid_before task s.ranged outcome) mid_after is_up (ap (λ b. not b && (Rattle.satl_direct.specs.Tasks.asks task.command).needs_started) (works_so l w).1)
          (ends_ranged s.held.entry.command mid_before s.held.entry s.held.entry.ranges.items s.ranged (outcome_reply mid_before task s.ranged outcome) mid_after refl (by_command s.held.entry s.ranged s.ranged_is)
          (record {
            outcome = outcome;
            ends = subst (λ c. EndsAs c s.ranged outcome (surface s.before d.glitches) (surface s.after d'.glitches)) (sym cached) s.ends;
            answer = refl;
            stays = refl;
          }));
    }

    -- the end of a queued task, with the moves of its neighbours around it
    pub settles_one : EndsOne (view l d) (outcome_reply (view l d) task s.ranged outcome) (view l' d')
    settles_one = record {
      before = mid_before;
      after = mid_after;
      quiet_before = record { cells = moves_shown s.before s.moves_before; active = inl refl; stays = refl };
      ends = ends_so;
      quiet_after = record {
        cells = moves_weaker (λ p m. may_show mid_after d.cache (entries_of (remove l.tasks place)) p left_over cached is_up (works_so l w).1 m) s.moves_after;
        active = inl active_is;
        stays = ap (λ x. view x d') same
            ∙ (ap (λ ts. record mid_after { cells = d'.cells; tasks = ts; down = d'.down; active = d'.active; glitches = d'.glitches }) (sym left_over)
            ∙ ap (λ b. record mid_after { cells = d'.cells; down = b; active = d'.active; glitches = d'.glitches }) down_is);
      };
    }

-- ---- a barrier

-- where nothing is outstanding and the queue is used, the first task is no ranged one
pub first_is_barrier : (h : Held) (tasks : List Held) → IsFilled [] (h ∷ tasks) → ranged_of h.entry ≡ None
first_is_barrier h tasks filled = go (ranged_of h.entry) refl
  where
    go : (o : Option RangedTask) → ranged_of h.entry ≡ o → ranged_of h.entry ≡ None
    go None is = is
    go (Some task) is = ⊎_elim (λ full. absurd (omega (arith, full))) (λ each. let no : false ≡ true = each h task (inl refl) is in absurd cc) filled
