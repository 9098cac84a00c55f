use Rattle.satl_scenarios.proofs.PassArrivals.{identified_from_its_arrival}
use Rattle.satl_scenarios.proofs.passes.a_drive_identified_on_request.Goals as goal

pub returns : goal.returns
returns c = identified_from_its_arrival
