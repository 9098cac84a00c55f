-- Commands that stand as they are: a list without a fault, fields without one.
use Rattle.std.specs.Prelude.{◌≡◌, ℕ, ◌*◌, ◌≤◌, None, List, length}
use Rattle.satl_base.specs.declared.block.Block.{Block}
use Rattle.satl_cdb.specs.declared.command.Command.{Command}
use Rattle.satl_cdb.specs.declared.command.Command.TheVariants as commands
use Rattle.satl_cdb.specs.Unmap as unmap
use Rattle.satl_pass.specs.Reading.{CanGoToDrive}
use Rattle.satl_direct.specs.Tasks.{pass_of}

-- a list of an UNMAP that has no fault: its header, its bytes in the pages, and its descriptors (SBC-3 5.28)
pub record IsList (body : List Block) (size capacity : ℕ) : Type 0 where
  pub header : 8 ≤ size
  pub whole : size ≤ 512 * length body
  pub sound : unmap.list_fault body size capacity ≡ None

-- the list of an UNMAP has no fault (SBC-3 5.28)
abbrev pub HasList : Command → List Block → ℕ → Type 0
HasList (commands.Unmap size) body capacity = IsList body size capacity
HasList _ body capacity = Unit {0}

-- an ATA PASS-THROUGH can be run as it stands (SAT-3 12.2)
abbrev pub CanPass : Command → Type 0
CanPass (commands.Pass cdb) = CanGoToDrive (pass_of cdb)
CanPass _ = Unit {0}
