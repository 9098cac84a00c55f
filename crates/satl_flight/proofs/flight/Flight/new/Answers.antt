use Rattle.satl_flight.proofs.TagsLemmas.{free_more}
use Rattle.satl_flight.proofs.flight.Flight.new.Goals as goal

pub loop-tag-preserved : goal.loop-tag-preserved
loop-tag-preserved c = free_more c.loop-tag.tag c.loop-tag.free.items c.push.new.self.items c.loop-tag-test.true c.push.ensures.items c.loop-tag.invariant
