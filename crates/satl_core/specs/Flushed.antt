-- What a SYNCHRONIZE CACHE leaves.
use Rattle.std.specs.Prelude.{◌≡◌, ◌∷◌, List, []}
use Rattle.satl_base.specs.declared.reply.Reply.{Reply}
use Rattle.satl_base.specs.declared.reply.Scsi.TheVariants.{Good}
use Rattle.satl_base.specs.Cells.{Cell}
use Rattle.satl_base.specs.Lists.{IsIn}
use Rattle.satl_cdb.specs.declared.command.Command.{Command}
use Rattle.satl_cdb.specs.declared.command.Command.TheVariants as commands
use Rattle.satl_line.specs.Tasks.{Held}
use Rattle.satl_direct.specs.Ending.{task_reply}

-- a loss of power leaves what a read gives (SBC-3 4.15)
abbrev pub IsSettled : Cell → Type 0
IsSettled c = c.may ≡ c.now ∷ []

-- a SYNCHRONIZE CACHE (SBC-3, SYNCHRONIZE CACHE)
abbrev pub IsFlush : Command → Type 0
IsFlush (commands.Flush form lba count) = Unit {0}
IsFlush _ = ⊥

-- one of these tasks is a SYNCHRONIZE CACHE and was answered with GOOD (SBC-3, SYNCHRONIZE CACHE)
pub record IsFlushed (tasks : List Held) (replies : List Reply) : Type 0 where
  pub task : Held
  pub among : IsIn task tasks
  pub flush : IsFlush task.entry.command
  pub answer : IsIn (task_reply task.entry Good [] []) replies
