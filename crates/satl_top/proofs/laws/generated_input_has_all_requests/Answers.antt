use Rattle.satl_top.proofs.RequestLemmas.{all_requests}
use Rattle.satl_top.proofs.laws.generated_input_has_all_requests.Goals as goal

pub returns : goal.returns
returns c = all_requests
