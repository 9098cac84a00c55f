-- Requests from their head and their data-out.
use Rattle.std.proofs.Common.{◌≡◌, ℕ, ◌+◌, ◌-◌, ◌≤◌, ◌<◌, true, List, ◌++◌, length, IfNone, IfSome, Option, Some, None, refl, ◌∙◌, ap, sym, subst, arith}
use Rattle.std.proofs.lemmas.List.{length-append}
use Rattle.std.proofs.lemmas.Bool.Decides.{nat_tests}
use Rattle.satl_base.specs.declared.request.Request.{Request}
use Rattle.satl_base.specs.Blocks.{first_bytes}
use Rattle.satl_io.specs.Known.{Took}
use Rattle.satl_io.proofs.Joined.{Took-more}
use Rattle.satl_frame.specs.DataPages.{pages_of}
use Rattle.satl_frame.specs.Frames.{head_size, frame_rows, allows, payload_bytes, request_fields, HasFields}
use Rattle.satl_frame.specs.Faults.{has_bad_field}
use Rattle.satl_frame.specs.Pulls.{found_pages, SpellsFrame, TookPayload, TookRest, TookCount, TookBadField, head_of_request}
use Rattle.satl_frame.specs.declared.frames.Version.{Version}
use Rattle.satl_frame.specs.declared.frames.Version.TheVariants.{One, Two}
use Rattle.satl_frame.specs.declared.frames.Frame.{Frame}
use Rattle.satl_frame.specs.declared.frames.Frame.TheVariants as frames
use Rattle.satl_frame.proofs.Paging.{first_bytes-pages_of}

-- the lengths that a request may have
pub request_lengths : (version : Version) (len : ℕ) → allows (frame_rows version) 1 len ≡ true → (head_size version ≤ len) × (len ≤ head_size version + 2097152)
request_lengths version len allowed = (grind (arith, nat_tests), grind (arith, nat_tests))

pub at_most_34 : (version : Version) → head_size version ≤ 34
at_most_34 One = omega arith
at_most_34 Two = omega arith

-- head and data-out make the request
pub request_taken : {a b c : Option (List ℕ)} {version : Version} {len room size : ℕ} {head : List ℕ} {r filled : Request} → allows (frame_rows version) 1 len ≡ true →
    size ≡ head_size version → Took a b head → length head ≡ size → (request_fields r ≡ head) × HasFields version r → TookRest b c r (len - size) room filled →
    TookPayload a c (head_of_request version len) room (frames.Request filled)
request_taken {a} {b} {c} {version} {len} {room} {size} {head} {r} {filled} allowed is took counted (spelled_is, fields) rest =
    let sizes = request_lengths version len allowed in
    let whole = record r { body = pages_of rest.taken; data_len = len - size } in
    let out : first_bytes (len - size) (pages_of rest.taken) ≡ rest.taken = first_bytes-pages_of (len - size) rest.taken rest.size in
    let payload_is : payload_bytes (frames.Request whole) ≡ head ++ rest.taken =
    ap (λ (h : List ℕ). h ++ first_bytes (len - size) (pages_of rest.taken)) spelled_is ∙ ap (λ (o : List ℕ). head ++ o) out in
    record {
      whole = frames.Request whole;
      is_frame = record {
        fields = record { nexus = fields.nexus; lun = fields.lun; tag = fields.tag; cdb = fields.cdb; expected = fields.expected };
        sent = record { size = ap length out ∙ rest.size; short = omega (arith, sizes.1); pages = ap pages_of (sym out) };
      };
      cut = ap (λ (x : Request). frames.Request x) rest.filled_is;
      took = subst (λ (xs : List ℕ). Took a c xs) (sym payload_is) (Took-more took rest.took);
      kind_is = refl;
      length_is = ap length payload_is ∙ length-append head rest.taken ∙ omega (arith, rest.size, sizes.0);
    }

-- a head with a bad field makes none
pub request_bad : {a b c : Option (List ℕ)} {version : Version} {len size : ℕ} {head : List ℕ} → allows (frame_rows version) 1 len ≡ true →
    size ≡ head_size version → Took a b head → length head ≡ size → ((rest : List ℕ) → has_bad_field version 1 (head ++ rest) ≡ true) → TookCount b c (len - size) →
    TookBadField a c (head_of_request version len)
request_bad {a} {b} {c} {version} {len} {size} {head} allowed is took counted bad rest =
    let sizes = request_lengths version len allowed in
    record {
      taken = head ++ rest.taken;
      took = Took-more took rest.took;
      length_is = length-append head rest.taken ∙ omega (arith, rest.size, sizes.0);
      bad = bad rest.taken;
    }

-- of another kind: a payload of at most 257 bytes
pub at_most_257 : (version : Version) (code len : ℕ) → allows (frame_rows version) code len ≡ true → 1 < code → len ≤ 257
at_most_257 version code len allowed other = grind (arith, nat_tests)

-- a payload of which no frame is made
pub small_bad : {a b : Option (List ℕ)} (version : Version) (code : ℕ) {len : ℕ} {payload : List ℕ} (found : Option Frame) → Took a b payload → length payload ≡ len →
    IfNone found (has_bad_field version code payload ≡ true) → IfNone found (TookBadField a b (record { version = version; code = code; len = len }))
small_bad version code {payload} None took size bad = record { taken = payload; took = took; length_is = size; bad = bad }
small_bad version code (Some frame) took size bad = bad

-- a payload of which a frame is made, however many pages are free
pub small_taken : {a b : Option (List ℕ)} (version : Version) (code : ℕ) {len : ℕ} {payload : List ℕ} (found : Option Frame) → Took a b payload → length payload ≡ len →
    IfSome found (SpellsFrame version code payload) → (room : ℕ) → IfSome found (TookPayload a b (record { version = version; code = code; len = len }) room)
small_taken version code None took size s room = s
small_taken {a} {b} version code (Some frame) took size s room = record {
  whole = frame;
  is_frame = s.is_frame;
  cut = sym (s.uncut room);
  took = subst (Took a b) (sym s.payload_is) took;
  kind_is = s.kind_is;
  length_is = ap length s.payload_is ∙ size;
}

-- and such a frame has no page
pub small_pages : (version : Version) (code : ℕ) (payload : List ℕ) (found : Option Frame) → IfSome found (SpellsFrame version code payload) → found_pages found ≡ 0
small_pages version code payload None s = refl
small_pages version code payload (Some frame) s = s.no_page
