use Rattle.satl_frame.proofs.OneReading.{one_way}
use Rattle.satl_frame.proofs.laws.read_in_one_way.Goals as goal

pub returns : goal.returns
returns c = one_way
