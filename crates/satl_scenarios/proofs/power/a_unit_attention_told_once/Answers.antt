use Rattle.satl_scenarios.proofs.PowerRuns.{attention_once}
use Rattle.satl_scenarios.proofs.power.a_unit_attention_told_once.Goals as goal

pub returns : goal.returns
returns c = attention_once
