use Rattle.satl_base.specs.Blocks.{over}
use Rattle.satl_direct.proofs.Steps.{flaw_first}
use Rattle.satl_direct.proofs.laws.a_flaw_in_the_first_piece_comes_before_a_glitch.Goals as goal

pub returns : goal.returns
returns c = λ s new t reply form lba count at e flaw. flaw_first (over lba count) at s t reply new e flaw
