use Rattle.std.proofs.Common.{ap}
use Rattle.satl_line.proofs.PassedLemmas.{passes_before}
use Rattle.satl_line.proofs.passed.Passed.before.Goals as goal

pub returns : goal.returns
returns c =
    passes_before c.args.order.now c.args.slots c.args.found (record { slots = c.args.slots; places = c.unwrap_or.result }) c.requires (ap (λ n. record { slots = c.args.slots; places = n }) c.unwrap_or.ensures)
