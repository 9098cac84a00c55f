use Rattle.std.proofs.Common.{refl}
use Rattle.satl_audit.proofs.PowerGoes.{power_goes}
use Rattle.satl_audit.proofs.powering.power.Goals as goal

pub returns-clause-goes : goal.returns-clause-goes
returns-clause-goes c = λ identity input.
    power_goes identity input c.args.followed.now _ c.args.sectors.now c.power_sectors.new.sectors c.clear.ensures c.tell_all.ensures refl (c.in_ok-power_sectors.ensures.follows identity input)
