-- Who counts answers, behind one answer more (profile).
use Rattle.satl_frame.specs.Output.{Answer}
use Rattle.satl_frame.specs.Output.Answer.{replied, managed, closed}
use Rattle.satl_text.specs.Totals.{with_answer}
use Rattle.satl_text.specs.declared.summary.Summary.{Summary}
use Rattle.satl_serve.specs.declared.printer.Counter.{Counter}

-- the totals behind one answer more, of which replies alone are counted (profile)
abbrev pub totals_behind : Summary → Answer → Summary
totals_behind u (replied r) = with_answer u (replied r)
totals_behind u (managed nexus function response tag) = u
totals_behind u closed = u

-- the counter behind one answer more (profile)
abbrev pub counter_behind : Counter → Answer → Counter
counter_behind counter answer = record counter { totals = totals_behind counter.totals answer }
