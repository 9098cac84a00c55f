use Rattle.satl_record.proofs.ContainerLemmas.{rest_more, rest_taken}
use Rattle.satl_record.proofs.container.read_bytes.Goals as goal

pub returns-in_err-read-clause-rest : goal.returns-in_err-read-clause-rest
returns-in_err-read-clause-rest g c = rest_more (rest_taken c.loop-piece.invariant.took) c.in_err-read.ensures.rest

pub returns-in_err-add-clause-rest : goal.returns-in_err-add-clause-rest
returns-in_err-add-clause-rest g c = rest_more (rest_taken c.loop-piece.invariant.took) c.read_piece.ensures.rest
