use Rattle.satl_disk.proofs.CommandsLemmas.{by_tag_pushed, commands_pushed}
use Rattle.satl_disk.proofs.commands.Commands.push.Goals as goal

pub invariant_of-self : goal.invariant_of-self
invariant_of-self c =
    by_tag_pushed c.self.inside.by_tag c.self.inside.order c.args.command c.command-tag.result c.args.self.now c.self.invariant c.self.view_is c.command-tag.ensures c.requires.free c.requires.small c.requires.room c.push.new.self c.push.ensures

pub returns : goal.returns
returns c =
    commands_pushed c.self.inside.by_tag c.self.inside.order c.args.command c.command-tag.result c.args.self.now c.self.invariant c.self.view_is c.command-tag.ensures c.requires.free c.requires.small c.push.new.self c.push.ensures
