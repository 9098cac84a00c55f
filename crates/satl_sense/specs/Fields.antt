-- The fields of a text in the descriptor form (SPC-4 4.5.2); a byte that the text does not have counts as 0.
use Rattle.std.specs.Prelude.{ℕ, ◌==◌, List, [], ◌∷◌, slice_index, if◌then◌else◌}
use Rattle.byteorder.specs.Endian.{big_number}
use Rattle.satl_base.specs.Fields.{bytes, bits, bit}
use Rattle.satl_sense.specs.declared.sense.Sense.{Sense}
use Rattle.satl_sense.specs.declared.sense.Extra.{Extra}
use Rattle.satl_sense.specs.declared.sense.Extra.TheVariants as extras
use Rattle.satl_sense.specs.declared.sense.AtaReturn.{AtaReturn}

-- the ATA Status Return descriptor (SAT-3 12.2.2.6)
abbrev pub ata_return_in : List ℕ → AtaReturn
ata_return_in b = record {
  extend = bit 10 0 b;
  error = slice_index b 11;
  count = bytes 12 13 b;
  lba = big_number 6 (slice_index b 18 ∷ slice_index b 16 ∷ slice_index b 14 ∷ slice_index b 19 ∷ slice_index b 17
      ∷ slice_index b 15 ∷ []);
  device = slice_index b 20;
  status = slice_index b 21;
}

-- the extra, by the length in byte 7
abbrev pub extra_in : ℕ → List ℕ → Extra
extra_in length b =
    if length == 0x0C then extras.Information (bytes 12 19 b)
    else if length == 0x08 then extras.Pointer (bit 12 6 b) (bytes 13 14 b)
    else if length == 0x0E then extras.Ata (ata_return_in b)
    else extras.None

abbrev pub sense_in : List ℕ → Sense
sense_in b = record { key = bits 1 3 0 b; asc = slice_index b 2; ascq = slice_index b 3; extra = extra_in (slice_index b 7) b }
