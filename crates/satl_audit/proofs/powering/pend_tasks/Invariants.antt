use Rattle.std.proofs.Common.{◌≡◌, ℕ, List, length}
use Rattle.satl_identify.specs.declared.identity.Identity.{Identity}
use Rattle.satl_audit.specs.Powering.{PendsUpTo, shown_from}
use Rattle.satl_audit.proofs.powering.pend_tasks.Given as goal

abbrev pub invariant-loop-place : goal.invariant-loop-place
invariant-loop-place l = record {
  size : length l.sectors ≡ length l.fn.sectors;
  pends : (identity : Identity) (input : List ℕ) → PendsUpTo input (shown_from identity input l.waiting 0) (shown_from identity input l.waiting l.place) l.fn.sectors l.sectors;
}
