use Rattle.std.proofs.Common.{arith, ◌≡◌, length}
use Rattle.satl_record.proofs.ContainerLemmas.{no_output, rest_more}
use Rattle.satl_record.proofs.container.read_record.Goals as goal

pub returns-then-len-gt-LONGEST_PART-clause-none : goal.returns-then-len-gt-LONGEST_PART-clause-none
returns-then-len-gt-LONGEST_PART-clause-none g c = λ _.
    let size : length c.in_ok-input.input.items ≡ c.in_ok-length.length = omega (arith, c.in_ok-input.ensures.few, c.if-len-length.false, c.len.ensures) in
    no_output c.in_ok-length.length c.in_ok-length.ensures.short c.in_ok-input.input.items c.in_ok-output.output.items c.in_ok-length.ensures.took c.in_ok-input.ensures.took c.in_ok-output.ensures.took size (omega (arith, c.if-len-gt-LONGEST_PART.true, c.len-2.ensures))

pub returns-in_err-input-clause-rest : goal.returns-in_err-input-clause-rest
returns-in_err-input-clause-rest g c = rest_more c.read_head.ensures.rest c.read_bytes.ensures.rest

pub returns-then-len-length-clause-rest : goal.returns-then-len-length-clause-rest
returns-then-len-length-clause-rest g c = rest_more c.read_head.ensures.rest c.read_bytes.ensures.rest

pub returns-in_err-output-clause-rest : goal.returns-in_err-output-clause-rest
returns-in_err-output-clause-rest g c = rest_more (rest_more c.read_head.ensures.rest c.read_bytes.ensures.rest) c.read_bytes-2.ensures.rest

pub returns-then-len-gt-LONGEST_PART-clause-rest : goal.returns-then-len-gt-LONGEST_PART-clause-rest
returns-then-len-gt-LONGEST_PART-clause-rest g c = rest_more (rest_more c.read_head.ensures.rest c.read_bytes.ensures.rest) c.read_bytes-2.ensures.rest

pub returns-clause-rest : goal.returns-clause-rest
returns-clause-rest g c = rest_more (rest_more c.read_head.ensures.rest c.read_bytes.ensures.rest) c.read_bytes-2.ensures.rest
