use Rattle.satl_disk.proofs.BenchLemmas.{mend_keeps, mend_keeps_fit}
use Rattle.satl_disk.proofs.drive.ModelDriveBench.mend.Goals as goal

pub returns-clause-mended : goal.returns-clause-mended
returns-clause-mended g c = mend_keeps c.args.lba c.args.self.now c.clear_flaws.new.self c.clear_flaws.ensures

pub returns-clause-fit : goal.returns-clause-fit
returns-clause-fit g c = mend_keeps_fit c.args.lba c.args.self.now c.clear_flaws.new.self c.clear_flaws.ensures
