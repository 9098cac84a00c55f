use Rattle.satl_flight.proofs.TagsLemmas.{FreeUpTo}
use Rattle.satl_flight.proofs.flight.Flight.new.Given as goal

abbrev pub invariant-loop-tag : goal.invariant-loop-tag
invariant-loop-tag l = FreeUpTo l.tag l.free.items
