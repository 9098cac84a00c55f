use Rattle.std.proofs.Common.{◌≡◌, ◌≤◌, ◌+◌, ◌-◌, ◌*◌, length, drop}
use Rattle.satl_frame.specs.DataPages.{page_count, pages_from}
use Rattle.satl_telling.proofs.telling.in_pages.Given as goal

abbrev pub invariant-loop-left : goal.invariant-loop-left
invariant-loop-left l = record {
  within : l.left ≤ page_count (length l.bytes);
  placed : l.done ≡ pages_from (page_count (length l.bytes) - l.left) (drop (512 * l.left) l.bytes);
  fresh : length l.fresh ≡ l.left;
  count : length l.done + l.left ≡ page_count (length l.bytes);
  same : l.bytes ≡ l.initial.bytes;
  free : l.pool.free ≡ l.initial.pool.free;
  out : l.pool.out ≡ l.initial.pool.out;
}

abbrev pub decreases-loop-left : goal.decreases-loop-left
decreases-loop-left l = l.left
