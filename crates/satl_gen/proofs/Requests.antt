-- The requests of a generated input.
use Rattle.std.proofs.Common.{◌≡◌, ◌≤◌, ◌<◌, ◌^◌, ℕ, ◌+◌, ◌*◌, ◌%◌, Bool, true, false, List, ◌∷◌, ◌++◌, length, refl, ◌∙◌, ap, sym, arith, append_assoc}
use Rattle.std.specs.Prelude.{if◌then◌else◌}
use Rattle.std.proofs.lemmas.List.{length-append}
use Rattle.byteorder.specs.Endian.{big_bytes}
use Rattle.satl_base.specs.Blocks.{bytes_of}
use Rattle.satl_cdb.specs.Spelling as cdbs
use Rattle.satl_cdb.specs.declared.command.Command.{Command}
use Rattle.satl_frame.specs.Frames.{spelled, request_fields, data_out, HasFields, HasData, IsRequest}
use Rattle.satl_frame.specs.declared.frames.Frame.TheVariants as frames
use Rattle.satl_frame.specs.declared.frames.Version.TheVariants.{One}
use Rattle.satl_frame.proofs.FieldSizes.{length-request_fields}
use Rattle.satl_gen.specs.Coming.{request_head}
use Rattle.satl_gen.specs.Generated.{draws_write, sent_blocks, drawn_command, request_drawn, rising_blocks}
use Rattle.satl_gen.specs.declared.draw.Draw.{Draw}
use Rattle.satl_gen.proofs.Blocks.{length-blocks, first_blocks, blocks_are_pages}

length-cdb : (command : Command) → length (cdbs.cdb_bytes command) ≡ 16
unfolding cdbs.cdb_bytes
length-cdb command = refl

pub sent_blocks-le : (d : Draw) → sent_blocks d ≤ 32
sent_blocks-le d = by_case (draws_write d)
  where
    by_case : (write : Bool) → (if write then 1 + d.c % 32 else 0) ≤ 32
    by_case true = omega arith
    by_case false = omega arith

pub fields_fit : (i : ℕ) (d : Draw) → i < 2 ^ 32 → HasFields One (request_drawn i d)
fields_fit i d small = record { nexus = omega arith; lun = refl; tag = small; cdb = length-cdb (drawn_command d); expected = refl }

has_data : (i : ℕ) (d : Draw) → HasData (request_drawn i d)
has_data i d =
    let sent : data_out (request_drawn i d) ≡ bytes_of (rising_blocks (sent_blocks d) i) = first_blocks (sent_blocks d) i in
    record {
      size = ap length sent ∙ length-blocks (sent_blocks d) i;
      short = omega (arith, sent_blocks-le d);
      pages = rw sent (blocks_are_pages (sent_blocks d) i);
    }

pub is_request : (i : ℕ) (d : Draw) → i < 2 ^ 32 → IsRequest One (request_drawn i d)
is_request i d small = record { fields = fields_fit i d small; sent = has_data i d }

pub length-payload : (i : ℕ) (d : Draw) → i < 2 ^ 32 → length (request_fields (request_drawn i d) ++ data_out (request_drawn i d)) ≡ 30 + 512 * sent_blocks d
length-payload i d small =
    length-append (request_fields (request_drawn i d)) (data_out (request_drawn i d))
    ∙ omega (arith, length-request_fields One (request_drawn i d) (fields_fit i d small), (has_data i d).size)

-- the head, and then the data-out
pub request_spelled : (i : ℕ) (d : Draw) → i < 2 ^ 32 → spelled (frames.Request (request_drawn i d)) ≡ request_head i d ++ bytes_of (rising_blocks (sent_blocks d) i)
request_spelled i d small =
    ap (λ (n : ℕ). (0x01 ∷ big_bytes 4 n) ++ (request_fields (request_drawn i d) ++ data_out (request_drawn i d))) (length-payload i d small)
    ∙ ap (λ (xs : List ℕ). (0x01 ∷ big_bytes 4 (30 + 512 * sent_blocks d)) ++ (request_fields (request_drawn i d) ++ xs)) (first_blocks (sent_blocks d) i)
    ∙ sym (append_assoc (0x01 ∷ big_bytes 4 (30 + 512 * sent_blocks d)) (request_fields (request_drawn i d)) (bytes_of (rising_blocks (sent_blocks d) i)))
