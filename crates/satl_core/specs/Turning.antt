-- How the layer ends a task.
use Rattle.std.specs.Prelude.{◌≡◌, ℕ, ◌*◌, ◌+◌, not, Bool, true, false, if◌then◌else◌, List, [], ◌∷◌, length, map, min, get_or, MatchBool, IsSomeAnd, Option, Some, None, unwrap_or}
use Rattle.std.specs.Option.{option_map}
use Rattle.satl_base.specs.declared.block.Block.{Block}
use Rattle.satl_base.specs.declared.modes.Modes.{Modes}
use Rattle.satl_base.specs.declared.reply.Reply.{Reply}
use Rattle.satl_base.specs.declared.reply.Scsi.{Scsi}
use Rattle.satl_base.specs.declared.reply.Scsi.TheVariants as statuses
use Rattle.satl_cdb.specs.declared.command.Command.{Command}
use Rattle.satl_base.specs.Blocks.{no_block}
use Rattle.satl_base.specs.Limits.{piece}
use Rattle.satl_base.specs.Cells.{Pair, settle}
use Rattle.satl_cdb.specs.declared.command.Command.TheVariants.{ModeSelect, Pass, Read, StartStop}
use Rattle.satl_sense.specs.declared.sense.Sense.{Sense}
use Rattle.satl_regs.specs.declared.values.AtaCommand.{AtaCommand}
use Rattle.satl_regs.specs.declared.values.AtaCommand.TheVariants as ata
use Rattle.satl_regs.specs.Commands.{command_in}
use Rattle.satl_regs.specs.declared.setting.Setting.{Setting}
use Rattle.satl_regs.specs.Effects.{setting_of}
use Rattle.satl_regs.specs.declared.setting.Setting.TheVariants.{WriteCache, LookAhead}
use Rattle.satl_errlog.specs.declared.entry.NcqError.{NcqError}
use Rattle.satl_line.specs.declared.entry.Entry.{Entry}
use Rattle.satl_line.specs.Tasks.{Held}
use Rattle.satl_direct.specs.Attentions.{are_same_modes}
use Rattle.satl_direct.specs.Tasks.{pass_of}
use Rattle.satl_pass.specs.Status.{error_sense_at}
use Rattle.satl_direct.specs.Senses.{link_lost, not_ready, sense_spelled}
use Rattle.satl_drive.specs.State.{DriveState}
use Rattle.satl_barrier.specs.Finishing.{most_pieces, trimming_ranges, writing_same}
use Rattle.satl_barrier.specs.Leaving.{IsLostIn}
use Rattle.satl_barrier.specs.Settings.{IsTuned}
use Rattle.satl_barrier.specs.Flushing.{IsLeftWith, IsSwitched}
use Rattle.satl_core.specs.Medium.{HasCompared, HasFinished, HasVerified, HasWhole, PassesThrough, pages_on, written_alone}
use Rattle.satl_core.specs.Alone.{alone_of}
use Rattle.satl_core.specs.Calling.{is_unready}
use Rattle.satl_core.specs.declared.alone.Alone.{Alone}
use Rattle.satl_core.specs.declared.alone.Alone.TheVariants as alones
use Rattle.satl_core.specs.declared.managing.Posting.{Posting}
use Rattle.satl_core.specs.declared.managing.Posting.TheVariants.{ModesChanged}
use Rattle.satl_core.specs.declared.turning.Circumstances.{Circumstances}
use Rattle.satl_core.specs.declared.turning.Ending.{Ending}
use Rattle.satl_core.specs.declared.turning.Ending.TheVariants as endings

-- the status of an end (SAM-5 5.3.1)
abbrev pub ending_status : Ending → Scsi
ending_status endings.Good = statuses.Good
ending_status (endings.Informed sense) = statuses.CheckCondition
ending_status (endings.Check sense) = statuses.CheckCondition

-- its sense data (SPC-4 4.5)
abbrev pub ending_sense : Ending → Bool → List ℕ
ending_sense endings.Good descriptor = []
ending_sense (endings.Informed sense) descriptor = sense_spelled descriptor sense
ending_sense (endings.Check sense) descriptor = sense_spelled descriptor sense

-- the pages of a READ, and of an ATA PASS-THROUGH whose data come from the drive, are its data-in (SAT-3 12.2; profile)
abbrev pub read_pages : Command → List Block → List Block
read_pages (Read form lba count fua) body = body
read_pages (Pass cdb) body = if (pass_of cdb).out then [] else body
read_pages _ body = []

-- the data-in of a task that ends: that of a command that is done (profile)
abbrev pub data_in : Ending → Command → List Block → List Block
data_in endings.Good command body = read_pages command body
data_in (endings.Informed sense) command body = read_pages command body
data_in (endings.Check sense) command body = []

-- the answer to a task (profile)
abbrev pub ended_reply : Entry → Ending → Bool → Reply
ended_reply t ending descriptor = record {
  nexus = t.nexus;
  tag = t.tag;
  status = ending_status ending;
  sense = record { items = ending_sense ending descriptor };
  body = data_in ending t.command t.body;
  data_len = 512 * length (data_in ending t.command t.body);
  expected = t.expected;
}

-- each task in order of arrival is answered that the link is lost (profile)
abbrev pub lost_replies : Bool → List Held → List Reply
lost_replies descriptor tasks = map (λ h. ended_reply h.entry (endings.Check link_lost) descriptor) tasks

-- the most calls of a drive that a command takes which runs alone: 1,024 pieces of a WRITE SAME (profile)
abbrev pub barrier_calls : ℕ
barrier_calls = most_pieces

-- the most calls of a drive that issuing takes: one for each of its tags (ACS-3, native command queuing)
abbrev pub issue_calls : ℕ
issue_calls = 32

-- the most calls of a drive in which one queued command ends: a poll, and the read of the error log (ACS-3, native command
-- queuing)
abbrev pub poll_calls : ℕ
poll_calls = 2

-- the most calls of a drive that one turn takes: those of a command, and what is issued behind it (profile)
abbrev pub turn_calls : ℕ
turn_calls = barrier_calls + issue_calls

-- the most calls of a drive that taking tasks off takes: a reset, and what is issued behind it (profile)
abbrev pub off_calls : ℕ
off_calls = 1 + issue_calls

-- whether a command is a READ; each other command that is queued writes, or trims (SBC-3 5)
abbrev pub is_read : Command → Bool
is_read (Read form lba count fua) = true
is_read _ = false

-- how a queued command, which writes or reads, ends a task: with GOOD, or by the error log with the sense data of the table of
-- errors (SAT-3 11)
abbrev pub ending_by : Bool → Option NcqError → Ending
ending_by writes None = endings.Good
ending_by writes (Some e) = endings.Check (error_sense_at writes e.error e.lba)

-- a task, and the drive that carries it out, at a moment (profile)
pub record TaskOnDrive : Type 0 where
  pub task : Entry
  pub drive : DriveState

-- the task on the drive (profile)
abbrev pub task_on : Entry → DriveState → TaskOnDrive
task_on task drive = record { task = task; drive = drive }

-- a task ends with this sense, and the drive is not asked (profile)
pub record IsUnasked (sense : Sense) (old : DriveState) (ending : Ending) (new : DriveState) : Type 0 where
  pub sensed : ending ≡ endings.Check sense
  pub stays : new ≡ old

-- what the drive did for a task that wants these mode values and runs alone; its pages hold afterwards what was left in them
-- (SAT-3 8)
abbrev pub CarriedOut : Modes → Alone → Ending → TaskOnDrive → TaskOnDrive → Type 0
CarriedOut wanted alones.Flush ending old new =
    (ending ≡ endings.Good) × IsLeftWith (map settle old.drive.cells) old.drive.active old.drive new.drive
CarriedOut wanted alones.Select ending old new =
    (ending ≡ endings.Good) × IsTuned wanted.wce (not wanted.dra) old.drive new.drive
CarriedOut wanted (alones.Switch start no_flush) ending old new =
    (ending ≡ endings.Good) × IsSwitched start no_flush old.drive new.drive
CarriedOut wanted (alones.Verify range) ending old new = HasVerified range old.drive ending new.drive
CarriedOut wanted (alones.Compare range) ending old new = HasCompared range old.task.body old.drive ending new.drive
CarriedOut wanted (alones.WriteSame range) ending old new =
    HasFinished (writing_same range (get_or old.task.body 0 no_block) old.drive) (min piece range.count) old.drive ending
    new.drive
CarriedOut wanted (alones.TrimRange range) ending old new =
    HasFinished (trimming_ranges (range ∷ []) old.drive) 0 old.drive ending new.drive
CarriedOut wanted alones.TrimList ending old new =
    HasFinished (trimming_ranges old.task.ranges.items old.drive) 0 old.drive ending new.drive
CarriedOut wanted (alones.Through cdb) ending old new =
    PassesThrough (pass_of cdb) (pages_on old.task.body old.drive) ending (pages_on new.task.body new.drive)

-- what the drive did for a task whose command runs alone (SAT-3 8)
abbrev pub DoneAlone : Modes → Ending → TaskOnDrive → TaskOnDrive → Type 0
DoneAlone wanted ending old new = IsSomeAnd (alone_of old.task.command) (λ alone. CarriedOut wanted alone ending old new)

-- how the task ends whose turn it is: the first that holds decides, a lost link, a unit that is stopped where the command needs
-- it started, and the drive (SAT-3 11; profile)
abbrev pub TaskEnds : Circumstances → Ending → TaskOnDrive → TaskOnDrive → Type 0
TaskEnds found ending old new =
    MatchBool found.down (IsUnasked link_lost old.drive ending new.drive)
    (MatchBool (is_unready found.started old.task.command) (IsUnasked not_ready old.drive ending new.drive)
    (DoneAlone found.wanted ending old new))

-- the link was lost while a task was carried out that writes these pairs, at a unit that is started where the command needs it
-- (profile)
pub record IsLostInTask (down started : Bool) (t : Entry) (old new : DriveState) : Type 0 where
  pub was_up : down ≡ false
  pub ready : is_unready started t.command ≡ false
  pub pairs : List Pair
  pub written : IsSomeAnd (alone_of t.command) (λ alone. HasWhole alone t × (pairs ≡ written_alone alone t old))
  pub lost : IsLostIn pairs old new

-- one of two by how a task ended: the first where it is done (profile)
abbrev pub where_done : {A : Type 0} → Ending → A → A → A
where_done endings.Good done kept = done
where_done (endings.Informed sense) done kept = done
where_done (endings.Check sense) done kept = kept

-- whether a unit is started once a task has ended: a START STOP UNIT that is done decides (SBC-3, START STOP UNIT)
abbrev pub started_after : Command → Ending → Bool → Bool
started_after (StartStop start no_flush) ending started = where_done ending start started
started_after _ ending started = started

-- the mode values with what a SET FEATURES sets (ACS-3, SET FEATURES; SAT-3)
abbrev pub modes_with_setting : Option Setting → Modes → Modes
modes_with_setting None modes = modes
modes_with_setting (Some (WriteCache on)) modes = record modes { wce = on }
modes_with_setting (Some (LookAhead on)) modes = record modes { dra = not on }

-- the mode values that an ATA command of a host sets: a SET FEATURES that is done sets the drive (SAT-3 12.2)
abbrev pub set_by : AtaCommand → Modes → Modes
set_by (ata.SetFeatures what) modes = modes_with_setting (setting_of what) modes
set_by _ modes = modes

-- the mode values once a command has ended that runs alone (SPC-4, MODE SELECT commands; SAT-3 12.2)
abbrev pub modes_left : Alone → Ending → Modes → Modes → Modes
modes_left alones.Select ending modes wanted = where_done ending wanted modes
modes_left (alones.Through cdb) ending modes wanted = where_done ending (set_by (command_in (pass_of cdb).regs) modes) modes
modes_left _ ending modes wanted = modes

-- the mode values once a task has ended: those that a MODE SELECT that is done wants, and those that the command of an ATA
-- PASS-THROUGH that is done sets (SPC-4, MODE SELECT commands; SAT-3 12.2)
abbrev pub modes_after : Command → Ending → Modes → Modes → Modes
modes_after command ending modes wanted =
    unwrap_or (option_map (λ alone. modes_left alone ending modes wanted) (alone_of command)) modes

-- what is posted where a task of a nexus has ended: after a MODE SELECT the others are told where a value has changed (SPC-4,
-- MODE SELECT commands)
abbrev pub change_posting : Command → Modes → Modes → ℕ → Option Posting
change_posting (ModeSelect ten size) old new nexus = if are_same_modes old new then None else Some (ModesChanged nexus)
change_posting _ old new nexus = None
