use Rattle.satl_gen.proofs.WholeInput.{reads_whole}
use Rattle.satl_gen.proofs.laws.generated_input_is_read_to_the_end.Goals as goal

pub returns : goal.returns
returns c = reads_whole
