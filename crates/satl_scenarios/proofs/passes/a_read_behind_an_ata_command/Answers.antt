use Rattle.satl_scenarios.proofs.PassArrivals.{read_from_its_arrival}
use Rattle.satl_scenarios.proofs.passes.a_read_behind_an_ata_command.Goals as goal

pub returns : goal.returns
returns c = read_from_its_arrival
