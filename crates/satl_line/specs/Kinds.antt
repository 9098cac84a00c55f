-- Which commands have ranged tasks, and which tasks are ranged.
use Rattle.std.specs.Prelude.{Bool, true, false, if◌then◌else◌}
use Rattle.satl_cdb.specs.declared.command.Command.{Command}
use Rattle.satl_cdb.specs.declared.command.Command.TheVariants.{Read, Write, Unmap}
use Rattle.satl_line.specs.declared.entry.Entry.{Entry}
use Rattle.satl_line.specs.declared.entry.Kind.{Kind}
use Rattle.satl_line.specs.declared.entry.Kind.TheVariants.{Ranged, Barrier}

-- READ and WRITE are ranged, and so is UNMAP where the drive queues trims; every other command is a barrier (profile)
abbrev pub kind_of : Command → Bool → Kind
kind_of (Read form lba count fua) queued_trim = Ranged false
kind_of (Write form lba count fua) queued_trim = Ranged true
kind_of (Unmap length) queued_trim = if queued_trim then Ranged true else Barrier
kind_of _ queued_trim = Barrier

-- whether a task is ranged, and not a barrier (profile)
abbrev pub is_ranged : Entry → Bool
is_ranged t = by_kind t.kind
  where
    by_kind : Kind → Bool
    by_kind (Ranged write) = true
    by_kind Barrier = false
