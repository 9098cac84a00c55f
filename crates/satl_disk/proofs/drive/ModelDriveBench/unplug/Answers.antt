use Rattle.satl_disk.proofs.BenchLemmas.{unplug_keeps}
use Rattle.satl_disk.proofs.drive.ModelDriveBench.unplug.Goals as goal

pub returns-clause-unplugged : goal.returns-clause-unplugged
returns-clause-unplugged g c = unplug_keeps c.args.self.now c.pull_plug.new.self c.pull_plug.ensures
