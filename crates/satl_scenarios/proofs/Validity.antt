-- The devices that the scenarios start from.
use Rattle.std.proofs.Common.{◌≡◌, ◌<◌, inl, refl, ap, arith, ℕ, zero, suc, [], ◌∷◌}
use Rattle.std.specs.Prelude.{replicate, slice_index}
use Rattle.satl_base.specs.declared.block.Block.{Block}
use Rattle.satl_identify.specs.Refusals.{IsIdentity, identity_of}
use Rattle.std.proofs.lemmas.List.{length-replicate}
use Rattle.std.proofs.lemmas.Bool.{le-ltb, ne_eqb}
use Rattle.satl_base.specs.Identify.{capacity}
use Rattle.satl_base.specs.Cells.{AreSound, lasts}
use Rattle.satl_direct.specs.Valid.{IsValid}
use Rattle.satl_direct.proofs.Naming.{own_more, own_none}
use Rattle.satl_cdb.specs.Table.{says}
use Rattle.satl_scenarios.specs.Waiting.{two_waiting}
use Rattle.satl_scenarios.specs.Devices.{aa, never_written, full_of, identify_data, identity, zeros}
use Rattle.satl_scenarios.specs.Requests.{cdb_10, request}

pub all_sound : (count : ℕ) → AreSound (replicate count (lasts zeros))
all_sound zero = tt
all_sound (suc count) = (inl refl, all_sound count)

-- what stands in words 100 to 103 is the number of sectors
capacity_told : (count : ℕ) → capacity (identify_data count) ≡ count
unfolding identify_data
capacity_told count = omega arith

identity_real : (count : ℕ) → 0 < count → count < 256 → IsIdentity (identity count)
unfolding identity_of identify_data
identity_real count some few = rw (capacity_told count, ne_eqb count 0 (λ none. omega arith), le-ltb 281474976710655 count (omega arith)) refl

pub blank_real : (count : ℕ) → 0 < count → count < 256 → IsIdentity (never_written count).identity
blank_real count some few = rw (length-replicate count (lasts zeros)) (identity_real count some few)

pub blank_valid : (count : ℕ) → 0 < count → count < 256 → IsValid (never_written count)
blank_valid count some small = record {
  identity = blank_real count some small;
  cells = refl;
  sound = all_sound count;
  few = omega arith;
  blocks = omega arith;
  own = own_none;
  come = tt;
  modes = record { cache = λ off. absurd cc; look = λ off. absurd cc };
  nexuses = refl;
  attentions = (tt, (tt, (tt, (tt, tt))));
}

-- each has come by the request of its tag
pub waiting_valid : IsValid two_waiting
unfolding says
waiting_valid = record {
  identity = blank_real 3 (omega arith) (omega arith);
  cells = refl;
  sound = all_sound 3;
  few = omega arith;
  blocks = omega arith;
  own = own_more _ _ (refl, tt) (own_more _ _ tt own_none);
  come = (
    record { request = request 1 (cdb_10 0x2A 0 1) (aa ∷ []); pages = omega arith; expected = tt; at = never_written 3; same = refl; modes = record { cache = λ off. absurd cc; look = λ off. absurd cc }; became = refl },
    (record { request = request 2 (cdb_10 0x28 1 1) []; pages = omega arith; expected = tt; at = never_written 3; same = refl; modes = record { cache = λ off. absurd cc; look = λ off. absurd cc }; became = refl }, tt),
  );
  modes = record { cache = λ off. absurd cc; look = λ off. absurd cc };
  nexuses = refl;
  attentions = (tt, (tt, (tt, (tt, tt))));
}

pub filled_differ : (a b : ℕ) → full_of a ≡ full_of b → a ≡ b
unfolding full_of
filled_differ a b same = ap (λ (x : Block). slice_index x.bytes 0) same
