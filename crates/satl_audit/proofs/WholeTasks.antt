-- What known tasks with whole blocks bring is whole.
use Rattle.std.proofs.Common.{sym, subst, ℕ, ◌+◌, Bool, List, [], ◌∷◌}
use Rattle.std.specs.Prelude.{◌&&◌, not}
use Rattle.std.specs.List.{AllByRecursion}
use Rattle.satl_base.specs.declared.block.Block.{Block}
use Rattle.satl_base.specs.Cells.{pairs_from}
use Rattle.satl_cdb.specs.declared.command.Command.{Command}
use Rattle.satl_cdb.specs.declared.command.Command.TheVariants as commands
use Rattle.satl_line.specs.declared.entry.Entry.{Entry}
use Rattle.satl_direct.specs.Device.{Device}
use Rattle.satl_direct.specs.Quiet.{written_by}
use Rattle.satl_audit.specs.Deeds.{Deed}
use Rattle.satl_audit.specs.Skeleton.{DoneAs}
use Rattle.satl_audit.proofs.Forming.{FormedBy}
use Rattle.satl_base.specs.Blocks.{AreWhole}
use Rattle.satl_audit.proofs.WholeCells.{IsWholePair, BringsWhole}

abbrev pub HasWhole : Entry → Type 0
HasWhole t = AreWhole t.body

from_whole : (lba : ℕ) (vs : List Block) (cached : Bool) → AreWhole vs → AllByRecursion IsWholePair (pairs_from lba vs cached)
from_whole lba [] cached h = tt
from_whole lba (v ∷ vs) cached h = (h.0, from_whole (lba + 1) vs cached h.1)

pub writes_whole : (c : Command) (s : Device) (t : Entry) → FormedBy c t → HasWhole t → AllByRecursion IsWholePair (written_by c s t)
writes_whole (commands.Read form lba count fua) s t f h = tt
writes_whole (commands.Write form lba count fua) s t f h = from_whole lba t.body (s.modes.wce && not fua) h
writes_whole (commands.Flush form lba count) s t f h = tt
writes_whole _ s t f h = absurd f

pub done_brings : (c : Command) (s : Device) (t : Entry) (blocks : List Block) (d : Deed) → FormedBy c t → HasWhole t → DoneAs c s t blocks d → BringsWhole d
done_brings (commands.Read form lba count fua) s t blocks d f h e = subst BringsWhole (sym e.1) tt
done_brings (commands.Write form lba count fua) s t blocks d f h e = subst BringsWhole (sym e.1) (from_whole lba t.body (s.modes.wce && not fua) h)
done_brings (commands.Flush form lba count) s t blocks d f h e = subst BringsWhole (sym e.1) tt
done_brings _ s t blocks d f h e = absurd f
