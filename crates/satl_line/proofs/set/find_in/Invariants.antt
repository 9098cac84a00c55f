use Rattle.std.proofs.Common.{◌≡◌, drop}
use Rattle.std.specs.List.{position_from}
use Rattle.satl_line.specs.Outlines.{is_of_name, outlines_in}
use Rattle.satl_line.proofs.set.find_in.Given as goal

abbrev pub invariant-loop-place : goal.invariant-loop-place
invariant-loop-place l = position_from (is_of_name l.nexus l.tag) 0 (outlines_in l.outlines l.order) ≡ position_from (is_of_name l.nexus l.tag) l.place (outlines_in l.outlines (drop l.place l.order))
