use Rattle.std.proofs.Common.{◌≡◌, ◌≤◌, ◌+◌, map, vec_len}
use Rattle.satl_fleet.specs.Opening.{OpensTo}
use Rattle.satl_fleet.proofs.opening.open_units.Given as goal

abbrev pub invariant-loop-k : goal.invariant-loop-k
invariant-loop-k g l = record {
  units : vec_len l.units ≡ l.k;
  drives : vec_len l.drives ≡ vec_len l.initial.drives;
  opened : OpensTo (map g.D.Drive.state l.initial.drives.items) l.units.items (map g.D.Drive.state l.drives.items);
  calls : l.steps ≤ l.initial.steps + l.k;
}
