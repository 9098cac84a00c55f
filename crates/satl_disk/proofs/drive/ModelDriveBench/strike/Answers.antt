use Rattle.satl_disk.proofs.BenchLemmas.{strike_keeps, strike_keeps_fit}
use Rattle.satl_disk.proofs.drive.ModelDriveBench.strike.Goals as goal

pub returns-clause-struck : goal.returns-clause-struck
returns-clause-struck g c = strike_keeps c.args.which c.args.lba c.args.self.now c.set_flaw.new.self c.set_flaw.ensures

pub returns-clause-fit : goal.returns-clause-fit
returns-clause-fit g c = strike_keeps_fit c.args.which c.args.lba c.args.self.now c.set_flaw.new.self c.set_flaw.ensures
