use Rattle.std.proofs.Common.{◌≡◌, ◌-◌, ◌≤◌, drop, length, take}
use Rattle.satl_barrier.proofs.comparing.takes_same.Given as goal

abbrev pub invariant-loop : goal.invariant-loop
invariant-loop l =
    let left = l.count - l.counter in
    record {
      all : take left l.read ≡ take left l.wanted → take l.count l.pages ≡ take l.count l.fn.wanted;
      each : take l.count l.pages ≡ take l.count l.fn.wanted → take left l.read ≡ take left l.wanted;
      rest : drop left l.wanted ≡ drop l.count l.fn.wanted;
      more : left ≤ length l.wanted;
      room : left ≤ length l.read;
    }
