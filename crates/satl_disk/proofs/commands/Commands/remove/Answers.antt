use Rattle.std.proofs.Common.{ap, ◌∙◌}
use Rattle.std.specs.List.{remove}
use Rattle.satl_base.proofs.ListsLemmas.{remove-map}
use Rattle.satl_disk.specs.Queue.{command_at, in_order}
use Rattle.satl_disk.proofs.commands.Commands.remove.Goals as goal

pub returns : goal.returns
returns c =
    ap (in_order c.self.inside.by_tag) c.remove.ensures.others
    ∙ remove-map (command_at c.self.inside.by_tag) c.self.inside.order c.args.place
    ∙ ap (λ qs. remove qs c.args.place) c.self.view_is
