use Rattle.satl_top.specs.Load.{load_of}
use Rattle.satl_top.proofs.LoadLemmas.{is_loaded, load_stops}
use Rattle.satl_top.proofs.loading.serve_generated.Goals as goal

pub returns-clause-stopped : goal.returns-clause-stopped
returns-clause-stopped g c = load_stops (load_of c.args.seed c.args.requests) c.new-source.result _ c.args.steps.now c.serve.new.steps (g.D.Drive.state c.args.drive.now) (g.D.Drive.state c.serve.new.drive) c.new-source.ensures c.requires.few c.serve.result c.serve.ensures.says.stopped c.serve.ensures.says.causes c.serve.ensures.says.complete

pub returns-clause-loaded : goal.returns-clause-loaded
returns-clause-loaded g c = is_loaded (load_of c.args.seed c.args.requests) c.new-source.result _ c.args.steps.now c.serve.new.steps (g.D.Drive.state c.args.drive.now) (g.D.Drive.state c.serve.new.drive) c.new-source.ensures c.requires.few c.serve.result c.serve.ensures.served

pub returns-clause-refused : goal.returns-clause-refused
returns-clause-refused g c = c.serve.ensures.says.refused
