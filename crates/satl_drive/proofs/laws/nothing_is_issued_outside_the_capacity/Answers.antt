use Rattle.std.proofs.Common.{subst, arith}
use Rattle.satl_drive.specs.Queue.{LiesWithin}
use Rattle.satl_drive.proofs.laws.nothing_is_issued_outside_the_capacity.Goals as goal

pub returns-clause-reads : goal.returns-clause-reads
returns-clause-reads c = λ d r slots command pages read beyond can.
    absurd (omega (arith, beyond, subst (λ kind. LiesWithin kind d.capacity command pages) read can.within))

pub returns-clause-writes : goal.returns-clause-writes
returns-clause-writes c = λ d r slots command pages write beyond can.
    absurd (omega (arith, beyond, subst (λ kind. LiesWithin kind d.capacity command pages) write can.within))
