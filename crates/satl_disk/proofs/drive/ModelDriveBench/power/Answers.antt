use Rattle.satl_disk.proofs.BenchLemmas.{power_keeps, power_keeps_fit}
use Rattle.satl_disk.proofs.drive.ModelDriveBench.power.Goals as goal

pub returns-clause-powered : goal.returns-clause-powered
returns-clause-powered g c = power_keeps c.args.self.now c.cycle_power.new.self c.cycle_power.ensures.told c.cycle_power.ensures.value

pub returns-clause-fit : goal.returns-clause-fit
returns-clause-fit g c = power_keeps_fit c.args.self.now c.cycle_power.new.self c.cycle_power.ensures.told c.cycle_power.ensures.value
