-- What a target answers itself: REPORT LUNS (SPC-4 6.33; that no unit sees it: profile).
use Rattle.std.specs.Prelude.{ℕ, zero, suc, ◌*◌, ◌==◌, nat_lt, min, if◌then◌else◌}
use Rattle.std.specs.Prelude.{List, [], ◌∷◌, ◌++◌, length, replicate, slice_index}
use Rattle.satl_base.specs.declared.reply.Reply.{Reply}
use Rattle.satl_base.specs.declared.reply.Scsi.TheVariants.{CheckCondition, Good}
use Rattle.satl_base.specs.declared.request.Request.{Request}
use Rattle.satl_cdb.specs.Refusals.{invalid_field}
use Rattle.satl_cdb.specs.PrimaryCommands.{luns_length}
use Rattle.satl_sense.specs.Fixed.{fixed_form}
use Rattle.satl_direct.specs.Arrival.{reply_to}
use Rattle.satl_direct.specs.Senses.{refusal_sense}
use Rattle.satl_frame.specs.DataPages.{padded_block}

-- the LUN of a unit (SAM-5 4.6)
abbrev pub lun_of : ℕ → List ℕ
lun_of k = 0 ∷ k ∷ 0 ∷ 0 ∷ 0 ∷ 0 ∷ 0 ∷ 0 ∷ []

-- the LUNs of so many units from this one on, in order
abbrev pub luns_from : ℕ → ℕ → List ℕ
luns_from k zero = []
luns_from k (suc more) = lun_of k ++ luns_from (suc k) more

-- the list of LUNs of at most four units, for SELECT REPORT 00h and 02h: the number of bytes of the LUNs, four bytes of zero,
-- and the LUNs; and none for 01h, well known logical units (SPC-4 6.33)
abbrev pub target_luns : ℕ → ℕ → List ℕ
target_luns units select =
    if select == 1 then replicate 8 0 else (0 ∷ 0 ∷ 0 ∷ 8 * units ∷ 0 ∷ 0 ∷ 0 ∷ 0 ∷ []) ++ luns_from 0 units

-- GOOD with the list of LUNs in one page, cut to the allocation length (SPC-4 6.33)
abbrev pub luns_told : ℕ → Request → Reply
luns_told units r =
    let luns = target_luns units (slice_index r.cdb 2) in
    record {
      nexus = r.nexus;
      tag = r.tag;
      status = Good;
      sense = record { items = [] };
      body = padded_block luns ∷ [];
      data_len = min (luns_length r.cdb) (length luns);
      expected = r.expected;
    }

-- the answer to REPORT LUNS: a SELECT REPORT above 02h is an invalid field in the CDB, and told in the fixed form (SPC-4 6.33;
-- profile)
abbrev pub target_reply : ℕ → Request → Reply
target_reply units r =
    if nat_lt 2 (slice_index r.cdb 2) then reply_to r CheckCondition (fixed_form (refusal_sense (invalid_field 2)))
    else luns_told units r
