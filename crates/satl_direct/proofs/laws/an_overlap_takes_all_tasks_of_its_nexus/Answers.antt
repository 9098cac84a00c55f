use Rattle.std.proofs.Common.{◌≡◌, refl, ap, subst}
use Rattle.satl_direct.specs.Arrival.{ArrivesAs, arrival, check}
use Rattle.satl_direct.specs.Arrival.Arrival.{overlaps}
use Rattle.satl_direct.specs.Senses.{overlapped}
use Rattle.satl_direct.proofs.laws.an_overlap_takes_all_tasks_of_its_nexus.Goals as goal

pub returns : goal.returns
returns c = λ s new r answers unit called arrives.
    let is : arrival s r ≡ overlaps (check s r overlapped) = rw (unit, called) refl in
    let does = subst (λ a. ArrivesAs a r s answers new) is arrives in
    (does.0, ap (λ d. d.tasks) does.1)
