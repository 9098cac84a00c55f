-- The first task ends as the device says, where nothing is outstanding.
use Rattle.std.proofs.Common.{◌≡◌, inl, refl, sym, ap, subst, ◌∙◌, ℕ, true, false, Bool, List, [], ◌∷◌, ◌++◌, map, Some, None}
use Rattle.std.specs.Prelude.{IfSome, MatchBool, Option, if◌then◌else◌, not, ◌==◌, ◌&&◌}
use Rattle.std.specs.List.{AllByRecursion}
use Rattle.std.proofs.lemmas.Bool.{and_right}
use Rattle.satl_base.specs.declared.block.Block.{Block}
use Rattle.satl_base.specs.declared.modes.Modes.{Modes}
use Rattle.satl_base.specs.declared.reply.Reply.{Reply}
use Rattle.satl_base.specs.declared.reply.Scsi.TheVariants.{Good}
use Rattle.satl_base.specs.Cells.{Cell, Pair, settle}
use Rattle.satl_base.specs.Losses.{Loses}
use Rattle.satl_base.proofs.MovesLemmas.{lose_once, moves_weaker}
use Rattle.satl_cdb.specs.declared.command.Command.{Command}
use Rattle.satl_cdb.specs.declared.command.Command.TheVariants as cdbs
use Rattle.satl_identify.specs.declared.identity.Identity.{Identity}
use Rattle.satl_sense.specs.declared.sense.Sense.{Sense}
use Rattle.satl_line.specs.declared.entry.Entry.{Entry}
use Rattle.satl_unit.specs.declared.attention.Attention.{Attention}
use Rattle.satl_unit.specs.declared.attention.Attention.TheVariants.{ModeChanged}
use Rattle.satl_line.specs.Tasks.{Held, entries_of}
use Rattle.satl_drive.specs.State.{DriveState}
use Rattle.satl_barrier.specs.Leaving.{IsLostIn, TellsOf}
use Rattle.satl_barrier.specs.Settings.{IsSetBy, IsTuned}
use Rattle.satl_barrier.specs.Flushing.{IsLeftWith, IsSwitched, settled_if}
use Rattle.satl_direct.specs.Device.{Device}
use Rattle.satl_direct.specs.Tasks.{asks, task_of}
use Rattle.satl_direct.specs.Ending as direct
use Rattle.satl_direct.specs.Ending.{Ends, EndsBy, IsChecked, IsTaskDone, task_reply}
use Rattle.satl_direct.specs.Quiet.{Around}
use Rattle.satl_direct.specs.Senses.{link_lost, not_ready}
use Rattle.satl_direct.specs.Attentions.{are_same, are_same_modes, post, with_modes_changed}
use Rattle.satl_direct.specs.Turn as turns
use Rattle.satl_direct.specs.Turn.{Turn}
use Rattle.satl_direct.specs.Turn.Turn.{loses}
use Rattle.satl_direct.proofs.Quieting.{quiet_none}
use Rattle.satl_core.specs.declared.managing.Posting.{Posting}
use Rattle.satl_core.specs.declared.managing.Posting.TheVariants.{ModesChanged}
use Rattle.satl_core.specs.declared.turning.Ending.{Ending}
use Rattle.satl_core.specs.declared.turning.Ending.TheVariants as endings
use Rattle.satl_core.specs.Alone.{alone_of}
use Rattle.satl_core.specs.Managing.{once_posted}
use Rattle.satl_core.specs.Layer.{Agrees, FitsCapacity, IsKept, IsTask, Layer}
use Rattle.satl_core.specs.Refilling.{EndsOne}
use Rattle.satl_core.specs.Turning as core
use Rattle.satl_core.specs.Turning.{DoneAlone, IsLostInTask, IsUnasked, TaskEnds, TaskOnDrive, change_posting, ended_reply, modes_after, read_pages, started_after, task_on, where_done}
use Rattle.satl_core.proofs.DeviceLemmas.{all_lost, ends_around, ends_by, ends_down, ends_stopped, first_checked, first_gone, first_tasks, quiet_same, seen}
use Rattle.satl_core.proofs.HeldLemmas.{IsFirst, IsKeptEntry, first_kept}
use Rattle.satl_core.specs.Medium.{CanCarry}
use Rattle.satl_core.proofs.PassingLemmas.{pass_turn}
use Rattle.satl_core.proofs.MediumLemmas.{WritesAlone, check_turn, compare_turn, same_turn, shows, unmap_turn, zero_turn}
use Rattle.satl_core.proofs.Transfers.{of_task}
use Rattle.satl_mode.specs.Changes.{wanted_by}

-- a task that moves no has is done, and leaves these sectors
left_turn : (identity : Identity) (modes modes' : Modes) (started started' : Bool) (attentions attentions' : List (List Attention)) (entry : Entry) (others : List Entry) (d d' : DriveState) (cells : List Cell) (active : Bool) (ending : Ending) → (not started && (asks entry.command).needs_started) ≡ false
    → ((reply : Reply) (new : Device) → IsTaskDone (record (seen identity modes started attentions (task_of entry ∷ others) d) { cells = cells; active = active; started = started'; modes = modes'; attentions = attentions' }) (task_of entry) reply new → EndsBy entry.command (seen identity modes started attentions (task_of entry ∷ others) d) (task_of entry) reply new)
    → d.down ≡ false → Loses cells d'.cells → d'.active ≡ active → d'.down ≡ d.down → d'.glitches ≡ d.glitches → ending ≡ endings.Good → read_pages entry.command entry.body ≡ []
    → EndsOne (seen identity modes started attentions (task_of entry ∷ others) d) (ended_reply entry ending modes.d_sense) (seen identity modes' started' attentions' others d')
left_turn identity modes modes' started started' attentions attentions' entry others d d' cells active ending ready how up lost still link glitches good none =
    let s : Device = seen identity modes started attentions (task_of entry ∷ others) d in
    let mid : Device = seen identity modes' started' attentions' others (record d { cells = cells; active = active }) in
    let new : Device = seen identity modes' started' attentions' others d' in
    let reply : Reply = ended_reply entry endings.Good modes.d_sense in
    subst (λ e. EndsOne s (ended_reply entry e modes.d_sense) new) (sym good)
    (ends_around s s mid new (task_of entry) others reply (quiet_none s) refl
    (ends_by s (task_of entry) reply mid up ready (how reply mid (record {
      answer = ap (task_reply (task_of entry) Good []) none;
      stays = first_gone identity modes' started' attentions' (task_of entry) others (record d { cells = cells; active = active });
    })))
    (record {
      cells = lose_once lost;
      active = inl still;
      stays = ap (λ b. record new { down = b }) link ∙ ap (λ n. record new { down = d.down; glitches = n }) glitches;
    }))

-- the same where the mode values stay
bare_turn : (identity : Identity) (modes : Modes) (started started' : Bool) (attentions : List (List Attention)) (entry : Entry) (others : List Entry) (d d' : DriveState) (cells : List Cell) (active : Bool) (ending : Ending) → (not started && (asks entry.command).needs_started) ≡ false
    → ((reply : Reply) (new : Device) → IsTaskDone (record (seen identity modes started attentions (task_of entry ∷ others) d) { cells = cells; active = active; started = started' }) (task_of entry) reply new → EndsBy entry.command (seen identity modes started attentions (task_of entry ∷ others) d) (task_of entry) reply new)
    → IsLeftWith cells active d d' → ending ≡ endings.Good → read_pages entry.command entry.body ≡ []
    → EndsOne (seen identity modes started attentions (task_of entry ∷ others) d) (ended_reply entry ending modes.d_sense) (seen identity modes started' attentions others d')
bare_turn identity modes started started' attentions entry others d d' cells active ending ready how x good none =
    left_turn identity modes modes started started' attentions attentions entry others d d' cells active ending ready how x.was_up x.lost (ap (λ (y : DriveState). y.active) x.stays) (ap (λ (y : DriveState). y.down) x.stays) (ap (λ (y : DriveState). y.glitches) x.stays) good none

switched_turn : (identity : Identity) (modes : Modes) (started start no_flush : Bool) (attentions : List (List Attention)) (entry : Entry) (others : List Entry) (d d' : DriveState) (ending : Ending)
    → IsSwitched start no_flush d d' → ending ≡ endings.Good
    → EndsOne (seen identity modes started attentions (task_of (record entry { command = cdbs.StartStop start no_flush }) ∷ others) d) (ended_reply (record entry { command = cdbs.StartStop start no_flush }) ending modes.d_sense) (seen identity modes start attentions others d')
switched_turn identity modes started true no_flush attentions entry others d d' ending x good = bare_turn identity modes started true attentions (record entry { command = cdbs.StartStop true no_flush }) others d d' d.cells true ending (and_right (not started) false refl) (λ reply new e. e) x good refl
switched_turn identity modes started false true attentions entry others d d' ending x good = bare_turn identity modes started false attentions (record entry { command = cdbs.StartStop false true }) others d d' d.cells false ending (and_right (not started) false refl) (λ reply new e. e) x good refl
switched_turn identity modes started false false attentions entry others d d' ending x good = bare_turn identity modes started false attentions (record entry { command = cdbs.StartStop false false }) others d d' (map settle d.cells) false ending (and_right (not started) false refl) (λ reply new e. e) x good refl

-- the device after a MODE SELECT, whether all was written back or not
selected_so : (settles : Bool) (modes wanted : Modes) (attentions : List (List Attention)) (identity : Identity) (started : Bool) (tasks : List Entry) (d : DriveState) (t : Entry) (reply : Reply) (new : Device)
    → IsTaskDone (record (seen identity modes started attentions tasks d) { cells = settled_if settles d.cells; modes = wanted; attentions = with_modes_changed modes wanted t.nexus attentions }) t reply new
    → IsTaskDone (record (direct.device_settled_if settles (seen identity modes started attentions tasks d)) { modes = wanted; attentions = with_modes_changed modes wanted t.nexus attentions }) t reply new
selected_so true modes wanted attentions identity started tasks d t reply new e = e
selected_so false modes wanted attentions identity started tasks d t reply new e = e

selected_turn : (identity : Identity) (modes : Modes) (started ten : Bool) (size : ℕ) (attentions : List (List Attention)) (entry : Entry) (others : List Entry) (d d' : DriveState) (ending : Ending) → d.cache ≡ modes.wce
    → IsTuned (wanted_by modes entry.change).wce (not (wanted_by modes entry.change).dra) d d' → ending ≡ endings.Good
    → EndsOne (seen identity modes started attentions (task_of (record entry { command = cdbs.ModeSelect ten size }) ∷ others) d) (ended_reply (record entry { command = cdbs.ModeSelect ten size }) ending modes.d_sense) (seen identity (wanted_by modes entry.change) started (with_modes_changed modes (wanted_by modes entry.change) entry.nexus attentions) others d')
selected_turn identity modes started ten size attentions entry others d d' ending cache x good =
    let wanted : Modes = wanted_by modes entry.change in
    left_turn identity modes wanted started started attentions (with_modes_changed modes wanted entry.nexus attentions) (record entry { command = cdbs.ModeSelect ten size }) others d d' (settled_if (modes.wce && not wanted.wce) d.cells) d.active ending (and_right (not started) false refl)
    (λ reply new e. selected_so (modes.wce && not wanted.wce) modes wanted attentions identity started (task_of (record entry { command = cdbs.ModeSelect ten size }) ∷ others) d (task_of (record entry { command = cdbs.ModeSelect ten size })) reply new e)
    x.was_up (subst (λ b. Loses (settled_if (b && not wanted.wce) d.cells) d'.cells) cache x.lost) (ap (λ (y : DriveState). y.active) x.stays) (ap (λ (y : DriveState). y.down) x.stays) (ap (λ (y : DriveState). y.glitches) x.stays) good refl

-- nobody is told where nothing has changed
unchanged : (modes : Modes) (nexus : ℕ) (attentions : List (List Attention)) → with_modes_changed modes modes nexus attentions ≡ attentions
unchanged modes nexus attentions = by modes.wce modes.dra modes.d_sense
  where
    by : (a b c : Bool) → (if are_same a a && are_same b b && are_same c c then attentions else post (λ other. not (other == nexus)) ModeChanged attentions) ≡ attentions
    by true true true = refl
    by true true false = refl
    by true false true = refl
    by true false false = refl
    by false true true = refl
    by false true false = refl
    by false false true = refl
    by false false false = refl

-- what the other nexuses are told where a task has ended: after a MODE SELECT that a value has changed
abbrev pub told_after : Command → Modes → Modes → ℕ → List (List Attention) → List (List Attention)
told_after (cdbs.ModeSelect ten size) old new nexus attentions = with_modes_changed old new nexus attentions
told_after _ old new nexus attentions = attentions

-- nobody is told where nothing has changed
untold : (command : Command) (modes : Modes) (nexus : ℕ) (attentions : List (List Attention)) → told_after command modes modes nexus attentions ≡ attentions
untold (cdbs.ModeSelect ten size) modes nexus attentions = unchanged modes nexus attentions
untold _ modes nexus attentions = refl

-- the answer to a task that gives no data-in does not depend on its pages
same_reply : (t : Entry) (taken : List Block) (ending : Ending) (descriptor : Bool) → read_pages t.command t.body ≡ [] → read_pages t.command taken ≡ [] → ended_reply t ending descriptor ≡ ended_reply (record t { body = taken }) ending descriptor
same_reply t taken endings.Good descriptor none nothing = rw (none, nothing) refl
same_reply t taken (endings.Informed sense) descriptor none nothing = rw (none, nothing) refl
same_reply t taken (endings.Check sense) descriptor none nothing = refl

-- nor does that of one that ends with sense data alone
pub checked_reply : (t : Entry) (taken : List Block) (ending : Ending) (sense : Sense) (descriptor : Bool) → ending ≡ endings.Check sense → ended_reply (record t { body = taken }) ending descriptor ≡ ended_reply t ending descriptor
checked_reply t taken ending sense descriptor is = ap (λ e. ended_reply (record t { body = taken }) e descriptor) is ∙ sym (ap (λ e. ended_reply t e descriptor) is)

-- the device once a task has ended
abbrev pub ended_seen : Identity → Modes → Modes → Bool → List (List Attention) → Entry → Ending → List Entry → DriveState → Device
ended_seen identity modes wanted started attentions entry ending others d =
    seen identity (modes_after entry.command ending modes wanted) (started_after entry.command ending started) (told_after entry.command modes (modes_after entry.command ending modes wanted) entry.nexus attentions) others d

-- what the drive did for a task ends it
task_turn : (identity : Identity) (modes : Modes) (started : Bool) (attentions : List (List Attention)) (entry : Entry) (left : Entry) (others : List Entry) (d d' : DriveState) (ending : Ending) → IsKeptEntry identity entry → IsSetBy modes d → TellsOf identity.bytes d
    → (not started && (asks entry.command).needs_started) ≡ false → IfSome (alone_of entry.command) (λ alone. CanCarry alone entry d) → DoneAlone (wanted_by modes entry.change) ending (task_on entry d) (task_on left d')
    → EndsOne (seen identity modes started attentions (task_of entry ∷ others) d) (ended_reply (record entry { body = left.body }) ending modes.d_sense) (ended_seen identity modes (wanted_by modes entry.change) started attentions entry ending others d')
task_turn identity modes started attentions entry left others d d' ending kept set told ready has x =
    of_task (λ c. (not started && (asks c).needs_started) ≡ false → IfSome (alone_of c) (λ alone. CanCarry alone entry d) → DoneAlone (wanted_by modes entry.change) ending (task_on (record entry { command = c }) d) (task_on left d') → Ends c) identity.capacity entry.blocks entry.command
    (λ form lba count fua t ready has x. absurd x)
    (λ form lba count fua t ready has x. absurd x)
    (λ form lba count none ready has x. bare (cdbs.Flush form lba count) refl refl (bare_turn identity modes started started attentions (record entry { command = cdbs.Flush form lba count }) others d d' (map settle d.cells) d.active ending ready (λ reply new e. e) x.1 x.0 refl))
    (λ start no_flush none ready has x. bare (cdbs.StartStop start no_flush) refl refl
    (subst (λ e. EndsOne (first (cdbs.StartStop start no_flush)) (ended_reply (record entry { command = cdbs.StartStop start no_flush }) ending modes.d_sense) (seen identity modes (where_done e start started) attentions others d')) (sym x.0)
    (switched_turn identity modes started start no_flush attentions entry others d d' ending x.1 x.0)))
    (λ ten size none ready has x. bare (cdbs.ModeSelect ten size) refl refl
    (subst (λ e. EndsOne (first (cdbs.ModeSelect ten size)) (ended_reply (record entry { command = cdbs.ModeSelect ten size }) ending modes.d_sense)
    (seen identity (where_done e (wanted_by modes entry.change) modes) started (with_modes_changed modes (where_done e (wanted_by modes entry.change) modes) entry.nexus attentions) others d')) (sym x.0)
    (selected_turn identity modes started ten size attentions entry others d d' ending set.cache x.1 x.0)))
    (λ form lba count t ready has x. bare (cdbs.Verify form lba count false) refl refl (check_turn identity modes started attentions entry others d d' form lba count ending ready x))
    (λ form lba count t ready has x. bare (cdbs.Verify form lba count true) refl refl (compare_turn identity modes started attentions entry others d d' form lba count ending ready x))
    (λ form lba count unmap. elim unmap as (λ b. (entry.blocks ≡ 1) × FitsCapacity identity.capacity lba count → (not started && (asks (cdbs.WriteSame form lba count b)).needs_started) ≡ false → IfSome (alone_of (cdbs.WriteSame form lba count b)) (λ alone. CanCarry alone entry d) → DoneAlone (wanted_by modes entry.change) ending (task_on (record entry { command = cdbs.WriteSame form lba count b }) d) (task_on left d') → Ends (cdbs.WriteSame form lba count b)) [
      | true ↦ λ t ready has x. bare (cdbs.WriteSame form lba count true) refl refl (zero_turn identity modes started attentions entry others d d' set.cache form lba count ending ready x)
      | false ↦ λ t ready has x. bare (cdbs.WriteSame form lba count false) refl refl (same_turn identity modes started attentions entry others d d' set.cache form lba count ending ready has.0 x)
    ])
    (λ size t ready has x. bare (cdbs.Unmap size) refl refl (unmap_turn identity modes started attentions entry others d d' set.cache size ending ready x))
    (λ cdb t ready has x. pass_turn identity modes started attentions entry others d cdb d' ending left.body set told t.1 has.0 x)
    kept.task ready has x
  where
    -- the device with the task as its first one, with another command
    first : Command → Device
    first c = seen identity modes started attentions (task_of (record entry { command = c }) ∷ others) d

    after : Command → Device
    after c = ended_seen identity modes (wanted_by modes entry.change) started attentions (record entry { command = c }) ending others d'

    Ends : Command → Type 0
    Ends c = EndsOne (first c) (ended_reply (record entry { command = c; body = left.body }) ending modes.d_sense) (after c)

    -- a command that gives no data-in
    bare : (c : Command) → read_pages c entry.body ≡ [] → read_pages c left.body ≡ [] → EndsOne (first c) (ended_reply (record entry { command = c }) ending modes.d_sense) (after c) → Ends c
    bare c none nothing turn = subst (λ r. EndsOne (first c) r (after c)) (same_reply (record entry { command = c }) left.body ending modes.d_sense none nothing) turn

-- the pairs of the first task may show
lost_turn : (identity : Identity) (modes : Modes) (started : Bool) (attentions : List (List Attention)) (entry : Entry) (others : List Entry) (d d' : DriveState) (pairs : List Pair) (answers : List Reply) → IsSetBy modes d → TellsOf identity.bytes d
    → WritesAlone entry d pairs entry.command → (not started && (asks entry.command).needs_started) ≡ false → IsKeptEntry identity entry
    → IsLostIn pairs d d' → answers ≡ turns.device_lost_replies (seen identity modes started attentions (task_of entry ∷ others) d) → Around Turn (seen identity modes started attentions (task_of entry ∷ others) d) answers (seen identity modes started attentions [] d')
lost_turn identity modes started attentions entry others d d' pairs answers set told written ready kept x is =
    let s : Device = seen identity modes started attentions (task_of entry ∷ others) d in
    let new : Device = seen identity modes started attentions [] d' in
    record {
      before = record s { cells = d'.cells };
      after = new;
      quiet_before = record { cells = moves_weaker (λ pair among. shows identity modes started attentions entry others d pairs set told written ready kept pair among) x.cells; active = inl refl; stays = refl };
      step = loses some (record {
        was_up = set.up;
        answer = is;
        glitches = x.glitches;
        stays = ap (λ b. record new { down = b }) x.down;
      });
      quiet_after = quiet_none new;
    }
  where
    some : (task_of entry ∷ others) ≡ [] → ⊥
    some empty = absurd cc

-- a task that ends with sense has sets nothing
pub still : (capacity n : ℕ) (modes wanted : Modes) (started : Bool) (sense : Sense) (command : Command) → IsTask capacity command n → (modes_after command (endings.Check sense) modes wanted ≡ modes) × (started_after command (endings.Check sense) started ≡ started)
still capacity n modes wanted started sense command t =
    of_task (λ c. (modes_after c (endings.Check sense) modes wanted ≡ modes) × (started_after c (endings.Check sense) started ≡ started)) capacity n command (λ form lba count fua t. (refl, refl)) (λ form lba count fua t. (refl, refl)) (λ form lba count none. (refl, refl)) (λ start no_flush none. (refl, refl)) (λ ten size none. (refl, refl)) (λ form lba count t. (refl, refl)) (λ form lba count t. (refl, refl)) (λ form lba count unmap t. elim unmap as (λ b. (modes_after (cdbs.WriteSame form lba count b) (endings.Check sense) modes wanted ≡ modes) × (started_after (cdbs.WriteSame form lba count b) (endings.Check sense) started ≡ started)) [ true ↦ (refl, refl) | false ↦ (refl, refl) ]) (λ size t. (refl, refl)) (λ cdb t. (refl, refl)) t

checked_seen : (identity : Identity) (modes wanted : Modes) (started : Bool) (attentions : List (List Attention)) (entry : Entry) (others : List Entry) (d' : DriveState) (sense : Sense) (ending : Ending) → IsKeptEntry identity entry → ending ≡ endings.Check sense
    → ended_seen identity modes wanted started attentions entry ending others d' ≡ seen identity modes started attentions others d'
checked_seen identity modes wanted started attentions entry others d' sense ending kept is =
    let same = still identity.capacity entry.blocks modes wanted started sense entry.command kept.task in
    ap (λ e. ended_seen identity modes wanted started attentions entry e others d') is
    ∙ (ap (λ m. seen identity m (started_after entry.command (endings.Check sense) started) (told_after entry.command modes m entry.nexus attentions) others d') same.0
    ∙ (ap (λ b. seen identity modes b (told_after entry.command modes modes entry.nexus attentions) others d') same.1
    ∙ ap (λ a. seen identity modes started a others d') (untold entry.command modes entry.nexus attentions)))

-- a task is answered with this sense without the drive
unasked_turn : (identity : Identity) (modes wanted : Modes) (started : Bool) (attentions : List (List Attention)) (entry : Entry) (taken : List Block) (others : List Entry) (d d' : DriveState) (sense : Sense) (ending : Ending)
    → ((reply : Reply) (mid : Device) → IsChecked sense (seen identity modes started attentions (task_of entry ∷ others) d) (task_of entry) reply mid → Ends (seen identity modes started attentions (task_of entry ∷ others) d) (task_of entry) reply mid)
    → IsUnasked sense d ending d' → IsKeptEntry identity entry
    → EndsOne (seen identity modes started attentions (task_of entry ∷ others) d) (ended_reply (record entry { body = taken }) ending modes.d_sense) (ended_seen identity modes wanted started attentions entry ending others d')
unasked_turn identity modes wanted started attentions entry taken others d d' sense ending how x kept =
    let s : Device = seen identity modes started attentions (task_of entry ∷ others) d in
    let mid : Device = seen identity modes started attentions others d in
    let reply : Reply = ended_reply (record entry { body = taken }) (endings.Check sense) modes.d_sense in
    subst (EndsOne s (ended_reply (record entry { body = taken }) ending modes.d_sense)) (sym (checked_seen identity modes wanted started attentions entry others d' sense ending kept x.sensed))
    (subst (λ e. EndsOne s (ended_reply (record entry { body = taken }) e modes.d_sense) (seen identity modes started attentions others d')) (sym x.sensed)
    (ends_around s s mid (seen identity modes started attentions others d') (task_of entry) others reply (quiet_none s) refl
    (how reply mid (first_checked identity modes started attentions entry others d sense))
    (quiet_same _ _ (ap (seen identity modes started attentions others) x.stays))))

-- a unit that is stopped, or the drive
up_turn : (stopped : Bool) (identity : Identity) (modes : Modes) (started : Bool) (attentions : List (List Attention)) (entry : Entry) (left : Entry) (others : List Entry) (d d' : DriveState) (ending : Ending)
    → IsKeptEntry identity entry → IsSetBy modes d → TellsOf identity.bytes d → IfSome (alone_of entry.command) (λ alone. CanCarry alone entry d) → (not started && (asks entry.command).needs_started) ≡ stopped
    → MatchBool stopped (IsUnasked not_ready d ending d') (DoneAlone (wanted_by modes entry.change) ending (task_on entry d) (task_on left d'))
    → EndsOne (seen identity modes started attentions (task_of entry ∷ others) d) (ended_reply (record entry { body = left.body }) ending modes.d_sense) (ended_seen identity modes (wanted_by modes entry.change) started attentions entry ending others d')
up_turn true identity modes started attentions entry left others d d' ending kept set told has stopped x =
    unasked_turn identity modes (wanted_by modes entry.change) started attentions entry left.body others d d' not_ready ending (λ reply mid e. ends_stopped _ _ _ _ set.up stopped e) x kept
up_turn false identity modes started attentions entry left others d d' ending kept set told has ready x = task_turn identity modes started attentions entry left others d d' ending kept set told ready has x

-- whichever decides, a lost link, a unit that is stopped, or the drive
ended_turn : (identity : Identity) (modes : Modes) (down started : Bool) (attentions : List (List Attention)) (entry : Entry) (left : Entry) (others : List Entry) (d d' : DriveState) (ending : Ending) → down ≡ d.down
    → IsKeptEntry identity entry → (down ≡ false → IsSetBy modes d) → TellsOf identity.bytes d
    → IfSome (alone_of entry.command) (λ alone. CanCarry alone entry d) → TaskEnds (record { down = down; started = started; wanted = wanted_by modes entry.change }) ending (task_on entry d) (task_on left d')
    → EndsOne (seen identity modes started attentions (task_of entry ∷ others) d) (ended_reply (record entry { body = left.body }) ending modes.d_sense) (ended_seen identity modes (wanted_by modes entry.change) started attentions entry ending others d')
ended_turn identity modes true started attentions entry left others d d' ending mark kept set told has x =
    unasked_turn identity modes (wanted_by modes entry.change) started attentions entry left.body others d d' link_lost ending (λ reply mid e. ends_down _ _ _ _ (sym mark) e) x kept
ended_turn identity modes false started attentions entry left others d d' ending mark kept set told has x =
    up_turn (not started && (asks entry.command).needs_started) identity modes started attentions entry left others d d' ending kept (set refl) told has refl x

-- where the link is lost it ends with sense data, and the drive is not asked
pub task_unasked : (down started : Bool) (wanted : Modes) (old new : TaskOnDrive) (ending : Ending) → TaskEnds (record { down = down; started = started; wanted = wanted }) ending old new → down ≡ true → (sense : Sense) × (ending ≡ endings.Check sense)
task_unasked true started wanted old new ending x lost = (link_lost, x.sensed)
task_unasked false started wanted old new ending x lost = absurd cc

-- what is posted is what the device posts
posted_changes : (command : Command) (old new : Modes) (nexus : ℕ) (tasks : List Held) (attentions : List (List Attention)) → once_posted (change_posting command old new nexus) tasks attentions ≡ told_after command old new nexus attentions
posted_changes (cdbs.ModeSelect ten size) old new nexus tasks attentions = elim (are_same_modes old new) as (λ b. once_posted (if b then None else Some (ModesChanged nexus)) tasks attentions ≡ (if b then attentions else post (λ other. not (other == nexus)) ModeChanged attentions)) [ true ↦ refl | false ↦ refl ]
posted_changes _ old new nexus tasks attentions = refl

-- ---- turns of the layer

module _ (l : Layer) (rest : List Held) (entry : Entry) (d d' : DriveState) (kept : AllByRecursion (IsKept l.identity) l.tasks) (first : IsFirst l.tasks entry rest) (agrees : Agrees l d) where
  all : map task_of (entries_of l.tasks) ≡ task_of entry ∷ map task_of (entries_of rest)
  all = first_tasks l.tasks rest entry first

  here : IsKeptEntry l.identity entry
  here = (first_kept l.identity l.tasks rest entry kept first).0

  -- the drive is set as the mode values say
  set_by_modes : l.down ≡ false → IsSetBy l.modes d
  set_by_modes up = record { up = sym agrees.mark ∙ up; cache = agrees.cache up; look = agrees.look up }

  pub first_ends : IfSome (alone_of entry.command) (λ alone. CanCarry alone entry d) → (ending : Ending) (left : Entry) (started' : Bool) (wanted modes' : Modes) (posting : Option Posting) (attentions' : List (List Attention)) → wanted ≡ wanted_by l.modes entry.change → TaskEnds (record { down = l.down; started = l.started; wanted = wanted }) ending (task_on entry d) (task_on left d')
      → started' ≡ started_after entry.command ending l.started → modes' ≡ modes_after entry.command ending l.modes wanted → posting ≡ change_posting entry.command l.modes modes' entry.nexus → attentions' ≡ once_posted posting rest l.attentions
      → EndsOne (seen l.identity l.modes l.started l.attentions (map task_of (entries_of l.tasks)) d) (ended_reply (record entry { body = left.body }) ending l.modes.d_sense) (seen l.identity modes' started' attentions' (map task_of (entries_of rest)) d')
  first_ends carry ending left started' wanted modes' posting attentions' wants ends after changed posts told =
      subst (EndsOne (seen l.identity l.modes l.started l.attentions (map task_of (entries_of l.tasks)) d) (ended_reply (record entry { body = left.body }) ending l.modes.d_sense)) (sym same)
      (subst (λ ts. EndsOne (seen l.identity l.modes l.started l.attentions ts d) (ended_reply (record entry { body = left.body }) ending l.modes.d_sense) (ended_seen l.identity l.modes (wanted_by l.modes entry.change) l.started l.attentions entry ending (map task_of (entries_of rest)) d')) (sym all)
      (ended_turn l.identity l.modes l.down l.started l.attentions entry left (map task_of (entries_of rest)) d d' ending agrees.mark here set_by_modes agrees.told carry (subst (λ w. TaskEnds (record { down = l.down; started = l.started; wanted = w }) ending (task_on entry d) (task_on left d')) wants ends)))
    where
      set : modes' ≡ modes_after entry.command ending l.modes (wanted_by l.modes entry.change)
      set = changed ∙ ap (modes_after entry.command ending l.modes) wants

      listed : attentions' ≡ told_after entry.command l.modes (modes_after entry.command ending l.modes (wanted_by l.modes entry.change)) entry.nexus l.attentions
      listed = told ∙ (ap (λ p. once_posted p rest l.attentions) posts ∙ (posted_changes entry.command l.modes modes' entry.nexus rest l.attentions ∙ ap (λ m. told_after entry.command l.modes m entry.nexus l.attentions) set))

      same : seen l.identity modes' started' attentions' (map task_of (entries_of rest)) d' ≡ ended_seen l.identity l.modes (wanted_by l.modes entry.change) l.started l.attentions entry ending (map task_of (entries_of rest)) d'
      same = ap (λ m. seen l.identity m started' attentions' (map task_of (entries_of rest)) d') set ∙ (ap (λ b. seen l.identity (modes_after entry.command ending l.modes (wanted_by l.modes entry.change)) b attentions' (map task_of (entries_of rest)) d') after ∙ ap (λ a. seen l.identity (modes_after entry.command ending l.modes (wanted_by l.modes entry.change)) (started_after entry.command ending l.started) a (map task_of (entries_of rest)) d') listed)

  pub first_loses : (ending : Ending) (given pushed answers : List Reply) (reply : Reply) (left : List Held) → left ≡ [] → IsLostInTask l.down l.started entry d d' → given ≡ [] → pushed ≡ given ++ reply ∷ []
      → answers ≡ pushed ++ core.lost_replies l.modes.d_sense rest → reply ≡ ended_reply entry ending l.modes.d_sense → ending ≡ endings.Check link_lost
      → Around Turn (seen l.identity l.modes l.started l.attentions (map task_of (entries_of l.tasks)) d) answers (seen l.identity l.modes l.started l.attentions (map task_of (entries_of left)) d')
  first_loses ending given pushed answers reply left nothing lost none push more is by =
      subst (λ (ts : List Held). Around Turn (seen l.identity l.modes l.started l.attentions (map task_of (entries_of l.tasks)) d) answers (seen l.identity l.modes l.started l.attentions (map task_of (entries_of ts)) d')) (sym nothing)
      (subst (λ ts. Around Turn (seen l.identity l.modes l.started l.attentions ts d) answers (seen l.identity l.modes l.started l.attentions [] d')) (sym all)
      (lost_turn l.identity l.modes l.started l.attentions entry (map task_of (entries_of rest)) d d' lost.pairs answers (set_by_modes lost.was_up) agrees.told lost.written lost.ready here lost.lost
      (all_lost (seen l.identity l.modes l.started l.attentions (task_of entry ∷ map task_of (entries_of rest)) d) entry rest given pushed answers reply ending refl none push more is by)))
