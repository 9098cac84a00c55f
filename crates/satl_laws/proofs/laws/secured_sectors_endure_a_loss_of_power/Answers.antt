use Rattle.satl_laws.proofs.Durable.{durable}
use Rattle.satl_laws.proofs.laws.secured_sectors_endure_a_loss_of_power.Goals as goal

pub returns : goal.returns
returns c = durable
