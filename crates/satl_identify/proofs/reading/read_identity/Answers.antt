use Rattle.satl_identify.proofs.Judging.{given_bounds, given_is_one}
use Rattle.satl_identify.proofs.reading.read_identity.Goals as goal

pub returns-clause-found : goal.returns-clause-found
returns-clause-found c = given_is_one c.args.bytes.now c.judge.result c.judge.ensures

pub returns-clause-capacity : goal.returns-clause-capacity
returns-clause-capacity c = given_bounds c.args.bytes.now c.judge.result c.judge.ensures
