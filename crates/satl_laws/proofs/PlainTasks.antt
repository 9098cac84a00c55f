-- What the tasks of commands that write as a WRITE alone does write.
use Rattle.std.proofs.Common.{◌≡◌, refl, sym, ap, ◌∙◌, ℕ, suc, true, false, List, [], ◌∷◌, Option, Some, None}
use Rattle.std.specs.Prelude.{Ok}
use Rattle.satl_base.specs.declared.block.Block.{Block}
use Rattle.satl_base.specs.Blocks.{no_block}
use Rattle.satl_base.specs.Cells.{Cell}
use Rattle.satl_cdb.specs.declared.command.Command.{Command}
use Rattle.satl_cdb.specs.declared.command.Command.TheVariants as commands
use Rattle.satl_line.specs.declared.entry.Entry.{Entry}
use Rattle.satl_direct.specs.Device.{Device}
use Rattle.satl_laws.specs.ArrivalOrder.{read_at, writes_plainly}
use Rattle.satl_laws.specs.Untouched.{now_at}
use Rattle.satl_direct.specs.Quiet.{written_by}
use Rattle.satl_laws.proofs.Coming.{WritesItsOwn}
use Rattle.satl_laws.proofs.Transferring.{brings}

-- such a command writes what its WRITE has, and nothing else
pub none_written : (c : Command) (s : Device) (t : Entry) → writes_plainly (Ok c) ≡ true → brings c ≡ false → written_by c s t ≡ []
none_written (commands.Write form lba count fua) s t plain none = absurd cc
none_written (commands.WriteSame form lba count unmap) s t plain none = absurd cc
none_written (commands.Unmap size) s t plain none = absurd cc
none_written (commands.Pass cdb) s t plain none = absurd cc
none_written c s t plain none = refl

pub own_alone : (c : Command) → writes_plainly (Ok c) ≡ true → WritesItsOwn c
own_alone (commands.Pass cdb) plain = absurd cc
own_alone c plain = tt

-- what is read is the same where the sectors' blocks are
pub same_block : (old new : List Cell) (x : ℕ) → now_at new x ≡ now_at old x → read_at new x ≡ read_at old x
same_block old new x h = is_block_in new x ∙ ap block_in h ∙ sym (is_block_in old x)
  where
    block_in : Option Block → Block
    block_in None = no_block
    block_in (Some v) = v

    is_block_in : (cells : List Cell) (x : ℕ) → read_at cells x ≡ block_in (now_at cells x)
    is_block_in (c ∷ cs) (suc x) = is_block_in cs x
    is_block_in _ _ = refl
