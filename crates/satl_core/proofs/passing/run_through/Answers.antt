use Rattle.std.proofs.Common.{◌≤◌, length, sym, subst}
use Rattle.satl_pass.specs.declared.pass.Pass.{Pass}
use Rattle.satl_regs.specs.Commands.{command_in}
use Rattle.satl_regs.specs.Effects.{own_blocks}
use Rattle.satl_direct.specs.Tasks.{pass_of}
use Rattle.satl_core.proofs.PassingLemmas.{own_room}
use Rattle.satl_core.proofs.passing.run_through.Goals as goal

pub pass_through-requires-clause-room : goal.pass_through-requires-clause-room
pass_through-requires-clause-room g c = subst (λ (p : Pass). own_blocks (command_in p.regs) ≤ length c.args.body.now) (sym c.pass_of-pass.ensures.value) (own_room (pass_of c.args.cdb.now) (length c.args.body.now) c.requires.can c.requires.room)
