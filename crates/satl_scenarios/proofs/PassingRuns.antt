-- Transfers that pass where they may.
use Rattle.std.proofs.Common.{◌≡◌, inl, inr, refl, arith, ℕ, ◌+◌, ◌≤◌, Bool, true, false, List, [], ◌∷◌}
use Rattle.std.specs.Prelude.{◌&&◌}
use Rattle.satl_cdb.specs.Table.{says}
use Rattle.satl_line.specs.Conflict.{accesses_conflict}
use Rattle.satl_line.specs.Ranged.RangedTask.{ranged_read, ranged_write}
use Rattle.satl_line.specs.declared.entry.Entry.{Entry}
use Rattle.satl_base.specs.Cells.{Cell, lasts, cached_over}
use Rattle.satl_base.specs.Blocks.{lies_in, over}
use Rattle.satl_direct.specs.Device.{Device}
use Rattle.satl_direct.specs.Run.TurnsOf.{none}
use Rattle.satl_direct.specs.Valid.{IsValid}
use Rattle.satl_direct.proofs.Naming.{own_more, own_none}
use Rattle.satl_laws.proofs.Seen.{by_test, within_from}
use Rattle.satl_scenarios.specs.Orders.{IsOfPassing, four_waiting, passed_where_apart, reads_second, reads_two, writes_second, writes_third}
use Rattle.satl_scenarios.specs.Scenario.{CanHappen}
use Rattle.satl_scenarios.specs.Devices.{aa, bb, never_written, device, zeros}
use Rattle.satl_scenarios.specs.Requests.{cdb_10, request}
use Rattle.satl_scenarios.proofs.Building.{it_can_happen, turn_more, turns}
use Rattle.satl_scenarios.proofs.Building.Follows.{next, ends_here}
use Rattle.satl_scenarios.proofs.Endings.{done, ended}
use Rattle.satl_scenarios.proofs.Validity.{all_sound, blank_real}

-- the device with these sectors and tasks
abbrev left : List Cell → List Entry → Device
left cells tasks = record (device cells) { tasks = tasks }

abbrev third_written : List Cell
third_written = lasts zeros ∷ lasts zeros ∷ cached_over zeros aa ∷ []

pub transfers_pass : CanHappen passed_where_apart
unfolding accesses_conflict
transfers_pass =
    it_can_happen passed_where_apart
    (next (turns
    (turn_more passed_where_apart.last
    (turn_more (left third_written (writes_second ∷ []))
    (turn_more (left third_written (reads_two ∷ writes_second ∷ []))
    (turn_more (left third_written (reads_two ∷ reads_second ∷ writes_second ∷ [])) none
    (ended writes_third (inr (refl, inr (refl, inr (refl, inl refl)))) (done (ranged_write false (over 2 1) (aa ∷ [])) _ writes_third refl)))
    (ended reads_second (inr (refl, inl refl)) (done (ranged_read false (over 1 1)) _ reads_second refl)))
    (ended reads_two (inl refl) (done (ranged_read false (over 0 2)) _ reads_two refl)))
    (ended writes_second (inl refl) (done (ranged_write false (over 1 1) (bb ∷ [])) _ writes_second refl))))
    ends_here)

-- ---- the law speaks of it

-- each has come by the request of its tag
four_valid : IsValid four_waiting
unfolding says
four_valid = record {
  identity = blank_real 3 (omega arith) (omega arith);
  cells = refl;
  sound = all_sound 3;
  few = omega arith;
  blocks = omega arith;
  own = own_more _ _ (refl, (refl, (refl, tt))) (own_more _ _ (refl, (refl, tt)) (own_more _ _ (refl, tt) (own_more _ _ tt own_none)));
  come = (
    record { request = request 1 (cdb_10 0x28 0 2) []; pages = omega arith; expected = tt; at = never_written 3; same = refl; modes = record { cache = λ off. absurd cc; look = λ off. absurd cc }; became = refl },
    (
      record { request = request 2 (cdb_10 0x28 1 1) []; pages = omega arith; expected = tt; at = never_written 3; same = refl; modes = record { cache = λ off. absurd cc; look = λ off. absurd cc }; became = refl },
      (
        record { request = request 3 (cdb_10 0x2A 1 1) (bb ∷ []); pages = omega arith; expected = tt; at = never_written 3; same = refl; modes = record { cache = λ off. absurd cc; look = λ off. absurd cc }; became = refl },
        (record { request = request 4 (cdb_10 0x2A 2 1) (aa ∷ []); pages = omega arith; expected = tt; at = never_written 3; same = refl; modes = record { cache = λ off. absurd cc; look = λ off. absurd cc }; became = refl }, tt),
      ),
    ),
  );
  modes = record { cache = λ off. absurd cc; look = λ off. absurd cc };
  nexuses = refl;
  attentions = (tt, (tt, (tt, (tt, tt))));
}

-- no sector lies in two ranges of which one begins behind the other
in_one : (lba count from number x : ℕ) (alter : Bool) → lba + count ≤ from → (lies_in lba count x && lies_in from number x && alter) ≡ false
in_one lba count from number x alter behind =
    by_test (λ p. (p && lies_in from number x && alter) ≡ false) (lies_in lba count x)
    (λ here. by_test (λ q. (q && alter) ≡ false) (lies_in from number x)
    (λ there. let p = within_from lba count x here in let q = within_from from number x there in absurd (omega (arith, p.1, q.0, behind)))
    (λ no. refl))
    (λ no. refl)

-- two READs clash nowhere
reads_only : (p q : Bool) → (p && q && false) ≡ false
reads_only true true = refl
reads_only true false = refl
reads_only false q = refl

pub of_passing_write : IsOfPassing four_waiting (reads_two ∷ reads_second ∷ writes_second ∷ []) writes_third
of_passing_write = record {
  after = record { valid = four_valid; later = []; place = refl };
  up = refl;
  started = refl;
  with_others = refl;
  all_with_others = (refl, (refl, (refl, tt)));
  clear = (λ x. in_one 0 2 2 1 x true (omega arith), (λ x. in_one 1 1 2 1 x true (omega arith), (λ x. in_one 1 1 2 1 x true (omega arith), tt)));
}

pub of_passing_read : IsOfPassing four_waiting (reads_two ∷ []) reads_second
of_passing_read = record {
  after = record { valid = four_valid; later = writes_second ∷ writes_third ∷ []; place = refl };
  up = refl;
  started = refl;
  with_others = refl;
  all_with_others = (refl, tt);
  clear = (λ x. reads_only (lies_in 0 2 x) (lies_in 1 1 x), tt);
}
