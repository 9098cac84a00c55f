use Rattle.std.proofs.Common.{ap, ◌∙◌, List, length}
use Rattle.std.proofs.lemmas.List.{length-map}
use Rattle.std.proofs.lemmas.Result.{on_ok_weaker}
use Rattle.satl_audit.specs.Kept.{Keeping, kept_power}
use Rattle.satl_audit.proofs.PendingLemmas.{power_follows}
use Rattle.satl_audit.proofs.powering.power_sectors.Goals as goal

pub returns-clause-length : goal.returns-clause-length
returns-clause-length c =
    on_ok_weaker c.power.result
    (λ powered. ap (λ (l : List Keeping). length l) powered ∙ length-map c.pend_tasks.new.sectors kept_power ∙ c.in_ok-pend_tasks.ensures.length)
    c.power.ensures.lost

pub returns-clause-follows : goal.returns-clause-follows
returns-clause-follows c = λ identity input.
    on_ok_weaker c.power.result
    (power_follows identity input c.args.waiting.now c.args.sectors.now c.pend_tasks.new.sectors c.power.new.self c.in_ok-pend_tasks.ensures.length (c.in_ok-pend_tasks.ensures.pends identity input))
    c.power.ensures.lost
