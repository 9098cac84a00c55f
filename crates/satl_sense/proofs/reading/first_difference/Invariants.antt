use Rattle.std.proofs.Common.{◌≡◌, ◌≤◌, length, take}
use Rattle.satl_sense.proofs.reading.first_difference.Given as goal

abbrev pub invariant-loop-place : goal.invariant-loop-place
invariant-loop-place l = record {
  same : take l.place l.text ≡ take l.place l.form;
  within : l.place ≤ length l.text;
}
