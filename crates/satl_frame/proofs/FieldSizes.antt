-- What the fields of a frame take, and that they are good ones.
use Rattle.std.proofs.Common.{◌≡◌, ℕ, suc, ◌+◌, ◌<◌, ◌≤◌, ◌^◌, true, false, ◌&&◌, nat_le, nat_lt, List, ◌∷◌, ◌++◌, length, Option, Some, None, refl, ◌∙◌, ap, sym, arith, append_assoc, lit<}
use Rattle.std.proofs.lemmas.List.{length-append, drop_at}
use Rattle.std.proofs.lemmas.Bool.{le-ltb, le-leb, and_from}
use Rattle.byteorder.specs.Endian.{big_from, big_bytes}
use Rattle.byteorder.specs.Numbers.{big_number-reads_back}
use Rattle.satl_base.specs.Fields.{bytes}
use Rattle.satl_base.specs.declared.request.Request.{Request}
use Rattle.satl_base.specs.declared.request.Attr.{Attr}
use Rattle.satl_base.specs.declared.request.Attr.TheVariants.{Simple, Ordered}
use Rattle.satl_base.specs.declared.bench.Which.TheVariants.{Read, Write}
use Rattle.satl_base.specs.declared.bench.BenchEvent.{BenchEvent}
use Rattle.satl_base.specs.declared.bench.BenchEvent.TheVariants.{Strike, Mend, Glitch, Order, Power, Unplug}
use Rattle.satl_frame.specs.Frames.{head_size, frame_rows, has_code, allows, attr_code, expected_field, request_fields, data_out, manage_fields, event_fields, kind, payload_bytes, HasExpected, HasFields, IsFrame, IsEvent}
use Rattle.satl_frame.specs.Faults.{has_bad_field, has_bad_request, has_bad_event}
use Rattle.satl_frame.specs.declared.frames.Version.{Version}
use Rattle.satl_frame.specs.declared.frames.Version.TheVariants.{One, Two}
use Rattle.satl_frame.specs.declared.frames.Frame.{Frame}
use Rattle.satl_frame.specs.declared.frames.Frame.TheVariants as frames
use Rattle.satl_frame.proofs.FieldBytes.{big_from-drop}
use Rattle.satl_frame.proofs.Requested.{at_most_34}

expected_size : (version : Version) (expected : Option ℕ) → HasExpected version expected → 30 + length (expected_field expected) ≡ head_size version
expected_size One expected has = ap (λ (e : Option ℕ). 30 + length (expected_field e)) has
expected_size Two None has = absurd has
expected_size Two (Some count) has = refl

-- the fields of a request are as long as its head
pub length-request_fields : (version : Version) (r : Request) → HasFields version r → length (request_fields r) ≡ head_size version
length-request_fields version r fields =
    let tail = r.cdb ++ expected_field r.expected in
    length-append (r.nexus ∷ attr_code r.attr ∷ r.lun) (big_bytes 4 (r.tag).0 ++ tail)
    ∙ omega (arith, fields.lun, fields.cdb, length-append r.cdb (expected_field r.expected), expected_size version r.expected fields.expected)

-- the attribute of a request is a good one
attr_good : (a : Attr) → nat_lt 1 (attr_code a) ≡ false
attr_good Simple = refl
attr_good Ordered = refl

-- what is expected stands behind the CDB
pub expected_stands : (r : Request) (version : Version) (count : ℕ) (rest : List ℕ) → HasFields version r → r.expected ≡ Some count → count < 2 ^ 32 →
    bytes 30 33 (request_fields r ++ rest) ≡ count
expected_stands r version count rest fields is small =
    let front = (r.nexus ∷ attr_code r.attr ∷ r.lun) ++ (big_bytes 4 (r.tag).0 ++ r.cdb) in
    let size : length front ≡ 30 = length-append (r.nexus ∷ attr_code r.attr ∷ r.lun) (big_bytes 4 (r.tag).0 ++ r.cdb) ∙ omega (arith, fields.lun, fields.cdb) in
    let parts : request_fields r ++ rest ≡ front ++ (big_bytes 4 count ++ rest) = regrouped (r.nexus ∷ attr_code r.attr ∷ r.lun) (big_bytes 4 (r.tag).0) r.cdb (expected_field r.expected) (big_bytes 4 count) rest (ap expected_field is) in
    ap (λ (b : List ℕ). big_from 30 4 b) parts ∙ big_from-drop 30 0 4 (front ++ (big_bytes 4 count ++ rest))
    ∙ ap (λ (b : List ℕ). big_from 0 4 b) (drop_at front (big_bytes 4 count ++ rest) 30 size) ∙ big_number-reads_back 4 count rest small
  where
    regrouped : (a b c d e rest : List ℕ) → d ≡ e → (a ++ (b ++ (c ++ d))) ++ rest ≡ (a ++ (b ++ c)) ++ (e ++ rest)
    regrouped a b c d e rest same =
        ap (λ (x : List ℕ). (a ++ (b ++ (c ++ x))) ++ rest) same ∙ ap (λ (x : List ℕ). (a ++ x) ++ rest) (sym (append_assoc b c e)) ∙ ap (λ (x : List ℕ). x ++ rest) (sym (append_assoc a (b ++ c) e))
        ∙ append_assoc (a ++ (b ++ c)) e rest

-- a request has no bad field
pub request_good : (version : Version) (r : Request) (rest : List ℕ) → HasFields version r → has_bad_request version (request_fields r ++ rest) ≡ false
request_good One r rest fields = rw (le-ltb 3 r.nexus fields.nexus, attr_good r.attr) refl
request_good Two r rest fields = by_expected r.expected refl fields.expected
  where
    by_expected : (e : Option ℕ) → r.expected ≡ e → HasExpected Two e → has_bad_request Two (request_fields r ++ rest) ≡ false
    by_expected None is has = absurd has
    by_expected (Some count) is has =
        let told : bytes 30 33 (request_fields r ++ rest) ≡ count = expected_stands r Two count rest fields is (omega arith) in
        rw (le-ltb 3 r.nexus fields.nexus, attr_good r.attr) (ap (λ (n : ℕ). nat_lt 2097152 n) told ∙ le-ltb 2097152 count has)

-- an event has its length and no bad field
event_good : (e : BenchEvent) → IsEvent e → has_bad_event (event_fields e) ≡ false
event_good (Strike Read lba) is = refl
event_good (Strike Write lba) is = refl
event_good (Mend lba) is = refl
event_good (Glitch count) is = refl
event_good (Order order) is = let low : nat_le 2 (suc (length order)) ≡ true = le-leb 2 (suc (length order)) (omega arith) in
    let high : nat_le (suc (length order)) 257 ≡ true = le-leb (suc (length order)) 257 (omega arith) in rw (low, high) refl
event_good Power is = refl
event_good Unplug is = refl

event_length : (e : BenchEvent) → IsEvent e → (1 ≤ length (event_fields e)) × (length (event_fields e) ≤ 257)
event_length (Strike which lba) is = (omega arith, omega arith)
event_length (Mend lba) is = (omega arith, omega arith)
event_length (Glitch count) is = (omega arith, omega arith)
event_length (Order order) is = (omega arith, omega arith)
event_length Power is = (omega arith, omega arith)
event_length Unplug is = (omega arith, omega arith)

-- what the table and the rules say of a frame
pub record GoodFrame (version : Version) (f : Frame) : Type 0 where
  pub known : has_code (frame_rows version) (kind f) ≡ true
  pub allowed : allows (frame_rows version) (kind f) (length (payload_bytes f)) ≡ true
  pub good : has_bad_field version (kind f) (payload_bytes f) ≡ false
  pub small : length (payload_bytes f) < 2 ^ 32

pub good_frame : (version : Version) (f : Frame) → IsFrame version f → GoodFrame version f
good_frame version (frames.Request r) is =
    let size : length (request_fields r ++ data_out r) ≡ head_size version + r.data_len =
    length-append (request_fields r) (data_out r) ∙ omega (arith, length-request_fields version r is.fields, is.sent.size) in
    let low : nat_le (head_size version) (length (request_fields r ++ data_out r)) ≡ true = le-leb (head_size version) (length (request_fields r ++ data_out r)) (omega arith) in
    let high : nat_le (length (request_fields r ++ data_out r)) (head_size version + 2097152) ≡ true =
    le-leb (length (request_fields r ++ data_out r)) (head_size version + 2097152) (omega (arith, is.sent.short)) in
    record {
      known = refl;
      allowed = and_from (nat_le (head_size version) (length (request_fields r ++ data_out r))) (nat_le (length (request_fields r ++ data_out r)) (head_size version + 2097152)) low high;
      good = request_good version r (data_out r) is.fields;
      small = omega (arith, size, is.sent.short, at_most_34 version);
    }
good_frame version (frames.Manage m) is =
    let size : length (manage_fields m) ≡ 14 = length-append (m.nexus ∷ m.function ∷ m.lun) (big_bytes 4 (m.tag).0) ∙ omega (arith, is.lun) in
    record {
      known = refl;
      allowed = ap (λ (n : ℕ). nat_le 14 n && nat_le n 14) size;
      good = le-ltb 3 m.nexus is.nexus;
      small = omega (arith, size);
    }
good_frame version (frames.Turn count) is = record { known = refl; allowed = refl; good = refl; small = lit< tt }
good_frame version (frames.Bench event) is =
    let sizes = event_length event is in
    record {
      known = refl;
      allowed = and_from (nat_le 1 (length (event_fields event))) (nat_le (length (event_fields event)) 257) (le-leb 1 (length (event_fields event)) sizes.0) (le-leb (length (event_fields event)) 257 sizes.1);
      good = event_good event is;
      small = omega (arith, sizes.1);
    }
good_frame version frames.End is = record { known = refl; allowed = refl; good = refl; small = lit< tt }
