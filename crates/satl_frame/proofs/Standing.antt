-- A frame stands exactly where no reason refuses the bytes.
use Rattle.std.proofs.Common.{◌≡◌, ℕ, zero, suc, ◌+◌, ◌<◌, ◌≤◌, ◌^◌, ◌⊎◌, true, false, not, ◌&&◌, ◌||◌, nat_le, nat_lt, ◌==◌, List, [], ◌∷◌, ◌++◌, length, take, drop, get_or, slice_index, Option, Some, None, refl, ◌∙◌, ap, sym, subst, arith, append_assoc, inl, inr}
use Rattle.std.specs.Option.{option_or}
use Rattle.std.proofs.lemmas.List.{length-append, length-take-le, length-drop, take_at, take-append-drop, take_all, get_or-take, get_or-drop, append-nil, nil_from_length}
use Rattle.std.proofs.lemmas.Bool.{le-ltb, ltb-false, leb-true, and_parts, or_parts, eq-eqb, ne_eqb, cases_eq, cases_lt, false≢true, not-false, le-leb}
use Rattle.std.proofs.lemmas.Nat.{be_bytes_2}
use Rattle.byteorder.specs.Endian.{big_from, big_bytes}
use Rattle.byteorder.specs.Numbers.{big_from-cons, big_from-lt, big_from-take, big_number-reads_back}
use Rattle.satl_base.specs.Fields.{IsBytes, bytes}
use Rattle.satl_base.specs.declared.request.Request.{Request}
use Rattle.satl_base.specs.declared.request.Attr.{Attr}
use Rattle.satl_base.specs.declared.request.Attr.TheVariants.{Simple, Ordered}
use Rattle.satl_base.specs.declared.bench.Which.{Which}
use Rattle.satl_base.specs.declared.bench.Which.TheVariants.{Read, Write}
use Rattle.satl_base.specs.declared.bench.BenchEvent.{BenchEvent}
use Rattle.satl_base.specs.declared.bench.BenchEvent.TheVariants.{Strike, Mend, Glitch, Order, Power, Unplug}
use Rattle.satl_frame.specs.DataPages.{pages_of}
use Rattle.satl_frame.specs.Frames.{head_size, frame_rows, event_rows, has_code, allows, attr_code, which_code, expected_in, is_expectable, request_fields, data_out, event_fields, kind, payload_bytes, spelled, IsFrame, IsEvent}
use Rattle.satl_frame.specs.Faults.{told_length, head_fault, payload_fault, frame_fault, has_bad_field, has_bad_request, has_bad_event}
use Rattle.satl_frame.specs.Inputs.{Stands, IsRefused}
use Rattle.satl_frame.specs.declared.frames.Version.{Version}
use Rattle.satl_frame.specs.declared.frames.Version.TheVariants.{One, Two}
use Rattle.satl_frame.specs.declared.frames.Reason.{Reason}
use Rattle.satl_frame.specs.declared.frames.Reason.TheVariants.{Truncated, BadField}
use Rattle.satl_frame.specs.declared.frames.Frame.{Frame}
use Rattle.satl_frame.specs.declared.frames.Frame.TheVariants as frames
use Rattle.satl_frame.proofs.FieldBytes.{four_at, eight_at, first_of, manage_is, request_is, mend_is, strike_is, has_expected}
use Rattle.satl_frame.proofs.FieldSizes.{GoodFrame, good_frame}
use Rattle.satl_frame.proofs.Paging.{first_bytes-pages_of}
use Rattle.satl_frame.proofs.Refusals.{GoodHead, good_head, told_front, refused_not}

-- what a frame's head tells
pub told : (k n : ℕ) → n < 2 ^ 32 → told_length (k ∷ big_bytes 4 n) ≡ n
told k n small = big_from-cons 0 4 k (big_bytes 4 n) ∙ ap (λ (b : List ℕ). big_from 0 4 b) (sym (append-nil (big_bytes 4 n))) ∙ big_number-reads_back 4 n [] small

-- a head of a good kind, length and place
head_good : (version : Version) (limit offset k n : ℕ) (h : List ℕ) → length h ≡ 5 → slice_index h 0 ≡ k → told_length h ≡ n → has_code (frame_rows version) k ≡ true →
    allows (frame_rows version) k n ≡ true → offset + 5 + n ≤ limit → head_fault version limit offset h ≡ None
head_good version limit offset k n h five first tells known allowed within =
    let test : nat_lt limit (offset + 5 + n) ≡ false = le-ltb _ _ within in
    rw (five, first, tells, known, allowed, test) refl

-- a good head before a good payload
fault_good : (version : Version) (limit offset k n : ℕ) (input h p : List ℕ) → take 5 input ≡ h → told_length input ≡ n → head_fault version limit offset h ≡ None →
    5 + n ≤ length input → slice_index input 0 ≡ k → take n (drop 5 input) ≡ p → has_bad_field version k p ≡ false → frame_fault version limit offset input ≡ None
fault_good version limit offset k n input h p front tells good enough first part fields =
    let test : nat_lt (length input) (5 + n) ≡ false = le-ltb _ _ enough in
    rw (front, good, tells, test, first, part, fields) refl

-- where a frame stands there is no fault
pub stands_good : (version : Version) (limit offset : ℕ) (input : List ℕ) → Stands version limit offset input → frame_fault version limit offset input ≡ None
stands_good version limit offset input s =
    let f = s.frame in
    let p = payload_bytes f in
    let h = kind f ∷ big_bytes 4 (length p) in
    let good : GoodFrame version f = good_frame version f s.is_frame in
    let parts : input ≡ h ++ (p ++ s.rest) = s.split ∙ append_assoc h p s.rest in
    let tells : told_length h ≡ length p = told (kind f) (length p) good.small in
    let size : offset + 5 + length p ≤ limit = omega (arith, s.within, length-append h p) in
    let head : head_fault version limit offset h ≡ None = head_good version limit offset (kind f) (length p) h refl refl tells good.known good.allowed size in
    let front : take 5 input ≡ h = ap (λ (i : List ℕ). take 5 i) parts ∙ take_at h (p ++ s.rest) 5 refl in
    let all : told_length input ≡ length p = ap (λ (i : List ℕ). told_length i) parts ∙ told_front h (p ++ s.rest) refl ∙ tells in
    let long : 5 + length p ≤ length input = omega (arith, ap length parts, length-append h (p ++ s.rest), length-append p s.rest) in
    let first : slice_index input 0 ≡ kind f = ap (λ (i : List ℕ). slice_index i 0) parts in
    let part : take (length p) (drop 5 input) ≡ p = ap (λ (i : List ℕ). take (length p) (drop 5 i)) parts ∙ take_at p s.rest (length p) refl in
    fault_good version limit offset (kind f) (length p) input h p front all head long first part good.good

-- a frame that a payload spells
pub record Decoded (version : Version) (k : ℕ) (p : List ℕ) : Type 0 where
  pub frame : Frame
  pub is_frame : IsFrame version frame
  pub kind_is : kind frame ≡ k
  pub payload_is : payload_bytes frame ≡ p

within : (low high n : ℕ) → (nat_le low n && nat_le n high) ≡ true → (low ≤ n) × (n ≤ high)
within low high n e = let p = and_parts (nat_le low n) (nat_le n high) e in (leb-true low n p.0, leb-true n high p.1)

attr_of : (n : ℕ) → n ≤ 1 → (a : Attr) × (attr_code a ≡ n)
attr_of zero l = (Simple, refl)
attr_of (suc zero) l = (Ordered, refl)
attr_of (suc (suc n)) l = absurd (omega arith)

which_of : (n : ℕ) → ((n == 1) || (n == 2)) ≡ true → (w : Which) × (which_code w ≡ n)
which_of n e = elim (cases_eq n 1) [
  | inl one ↦ (Read, sym one)
  | inr not_one ↦ elim (cases_eq n 2) [
    | inl two ↦ (Write, sym two)
    | inr not_two ↦ absurd (false≢true (sym (rw (ne_eqb n 1 not_one, ne_eqb n 2 not_two) refl) ∙ e))
  ]
]

bytes_taken : (n : ℕ) (p : List ℕ) → n ≤ length p → IsBytes p → IsBytes (take n p)
bytes_taken n p l b = λ i. elim (cases_lt i n) [
  | inl below ↦ rw (get_or-take n p i 0 below) (b i)
  | inr beyond ↦ let none : get_or (take n p) i 0 ≡ 0 = past (take n p) i (omega (arith, length-take-le n p l)) in rw none (omega arith)
]
  where
    past : (xs : List ℕ) (i : ℕ) → length xs ≤ i → get_or xs i 0 ≡ 0
    past [] i l = refl
    past (x ∷ xs) zero l = absurd (omega arith)
    past (x ∷ xs) (suc i) l = past xs i (omega arith)

size_small : (version : Version) → (30 ≤ head_size version) × (head_size version ≤ 34)
size_small One = (omega arith, omega arith)
size_small Two = (omega arith, omega arith)

-- what a request without a bad field has
pub record GoodRequest (version : Version) (p : List ℕ) : Type 0 where
  pub nexus : get_or p 0 0 ≤ 3
  pub attr : get_or p 1 0 ≤ 1
  pub expected : is_expectable (expected_in version p) ≡ true

good_request : (version : Version) (p : List ℕ) → has_bad_request version p ≡ false → GoodRequest version p
good_request One p e =
    let parts = or_parts (nat_lt 3 (slice_index p 0)) (nat_lt 1 (slice_index p 1)) e in
    record { nexus = ltb-false 3 (slice_index p 0) parts.0; attr = ltb-false 1 (slice_index p 1) parts.1; expected = refl }
good_request Two p e =
    let both = or_parts (nat_lt 3 (slice_index p 0) || nat_lt 1 (slice_index p 1)) (nat_lt 2097152 (bytes 30 33 p)) e in
    let parts = or_parts (nat_lt 3 (slice_index p 0)) (nat_lt 1 (slice_index p 1)) both.0 in
    record { nexus = ltb-false 3 (slice_index p 0) parts.0; attr = ltb-false 1 (slice_index p 1) parts.1; expected = le-leb (bytes 30 33 p) 2097152 (ltb-false 2097152 (bytes 30 33 p) both.1) }

expected_front : (version : Version) (p : List ℕ) → expected_in version (take (head_size version) p) ≡ expected_in version p
expected_front One p = refl
expected_front Two p = ap (λ (n : ℕ). Some n) (big_from-take 30 4 34 p (omega arith))

decode_request : (version : Version) (p : List ℕ) → IsBytes p → allows (frame_rows version) 1 (length p) ≡ true → has_bad_request version p ≡ false → Decoded version 1 p
decode_request version p b allowed good =
    let sizes = within (head_size version) (head_size version + 2097152) (length p) allowed in
    let few = size_small version in
    let fields : GoodRequest version p = good_request version p good in
    let h = take (head_size version) p in
    let d = drop (head_size version) p in
    let counted : length h ≡ head_size version = length-take-le (head_size version) p sizes.0 in
    let small : IsBytes h = bytes_taken (head_size version) p sizes.0 b in
    let attr = attr_of (get_or p 1 0) fields.attr in
    let r : Request = record {
      nexus = get_or p 0 0;
      attr = attr.0;
      lun = take 8 (drop 2 h);
      tag = record { 0 = big_from 10 4 h };
      cdb = take 16 (drop 14 h);
      body = pages_of d;
      data_len = length d;
      expected = expected_in version h;
    } in
    let out : data_out r ≡ d = first_bytes-pages_of (length d) d refl in
    let head : request_fields r ≡ h = request_is version h (take 8 (drop 2 h)) (take 16 (drop 14 h)) (big_bytes 4 (big_from 10 4 h)) (get_or p 0 0) (attr_code attr.0) (expected_in version h)
    counted small (sym (get_or-take (head_size version) p 0 0 (omega (arith, few)))) (attr.1 ∙ sym (get_or-take (head_size version) p 1 0 (omega (arith, few)))) refl
    (four_at 10 h (omega (arith, counted, few)) small) refl refl in
    let told : is_expectable (expected_in version h) ≡ true = ap is_expectable (expected_front version p) ∙ fields.expected in
    record {
      frame = frames.Request r;
      is_frame = record {
        fields = record {
          nexus = fields.nexus;
          lun = length-take-le 8 (drop 2 h) (omega (arith, length-drop 2 h, counted, few));
          tag = big_from-lt 10 4 h small;
          cdb = length-take-le 16 (drop 14 h) (omega (arith, length-drop 14 h, counted, few));
          expected = has_expected version h (expected_in version h) refl told;
        };
        sent = record { size = ap length out; short = omega (arith, length-drop (head_size version) p, sizes.1); pages = ap pages_of (sym out) };
      };
      kind_is = refl;
      payload_is = ap (λ (x : List ℕ). x ++ data_out r) head ∙ ap (λ (x : List ℕ). h ++ x) out ∙ take-append-drop (head_size version) p;
    }

decode_manage : (version : Version) (p : List ℕ) → IsBytes p → allows (frame_rows version) 2 (length p) ≡ true → nat_lt 3 (slice_index p 0) ≡ false → Decoded version 2 p
decode_manage version p b allowed good =
    let sizes = within 14 14 (length p) allowed in
    let size : length p ≡ 14 = omega (arith, sizes) in
    record {
      frame = frames.Manage (record { nexus = get_or p 0 0; function = get_or p 1 0; lun = take 8 (drop 2 p); tag = record { 0 = big_from 10 4 p } });
      is_frame = record {
        nexus = ltb-false 3 (slice_index p 0) good;
        function = b 1;
        lun = length-take-le 8 (drop 2 p) (omega (arith, length-drop 2 p));
        tag = big_from-lt 10 4 p b;
      };
      kind_is = refl;
      payload_is = manage_is p (take 8 (drop 2 p)) (get_or p 0 0) (big_bytes 4 (big_from 10 4 p)) size refl refl (four_at 10 p (omega (arith, size)) b);
    }

-- two bytes
two_bytes : (p : List ℕ) → length p ≡ 2 → IsBytes p → big_bytes 2 (big_from 0 2 p) ≡ p
two_bytes [] l b = absurd (omega arith)
two_bytes (x ∷ []) l b = absurd (omega arith)
two_bytes (x ∷ y ∷ []) l b = be_bytes_2 (x ∷ y ∷ []) (big_from 0 2 (x ∷ y ∷ [])) refl b (omega arith)
two_bytes (x ∷ y ∷ z ∷ p) l b = absurd (omega arith)

two_last : (p : List ℕ) → length p ≡ 3 → IsBytes p → big_bytes 2 (big_from 1 2 p) ≡ drop 1 p
two_last [] l b = absurd (omega arith)
two_last (w ∷ p) l b = ap (λ (n : ℕ). big_bytes 2 n) (big_from-cons 0 2 w p) ∙ two_bytes p (omega arith) (λ i. b (suc i))

decode_turn : (version : Version) (p : List ℕ) → IsBytes p → allows (frame_rows version) 3 (length p) ≡ true → Decoded version 3 p
decode_turn version p b allowed =
    let sizes = within 2 2 (length p) allowed in
    record { frame = frames.Turn (big_from 0 2 p); is_frame = big_from-lt 0 2 p b; kind_is = refl; payload_is = two_bytes p (omega (arith, sizes)) b }

-- no event and no kind stands behind the last of its table
beyond_events : (e n : ℕ) → 7 ≤ e → allows event_rows e n ≡ false
beyond_events e n l =
    rw (ne_eqb e 1 (λ q. omega (arith, q)), ne_eqb e 2 (λ q. omega (arith, q)), ne_eqb e 3 (λ q. omega (arith, q)), ne_eqb e 4 (λ q. omega (arith, q)), ne_eqb e 5 (λ q. omega (arith, q)), ne_eqb e 6 (λ q. omega (arith, q))) refl

beyond_kinds : (version : Version) (k : ℕ) → 6 ≤ k → has_code (frame_rows version) k ≡ false
beyond_kinds version k l =
    rw (ne_eqb k 1 (λ q. omega (arith, q)), ne_eqb k 2 (λ q. omega (arith, q)), ne_eqb k 3 (λ q. omega (arith, q)), ne_eqb k 4 (λ q. omega (arith, q)), ne_eqb k 5 (λ q. omega (arith, q))) refl

-- the event that a payload spells
pub record DecodedEvent (p : List ℕ) : Type 0 where
  pub event : BenchEvent
  pub is_event : IsEvent event
  pub fields_are : event_fields event ≡ p

one_byte : (p : List ℕ) (e : ℕ) → length p ≡ 1 → get_or p 0 0 ≡ e → e ∷ [] ≡ p
one_byte [] e l is = absurd (omega arith)
one_byte (x ∷ []) e l is = ap (λ (y : ℕ). y ∷ []) (sym is)
one_byte (x ∷ y ∷ p) e l is = absurd (omega arith)

decode_event : (p : List ℕ) → IsBytes p → has_bad_event p ≡ false → DecodedEvent p
decode_event p b good =
    let parts = or_parts (not (allows event_rows (slice_index p 0) (length p))) ((slice_index p 0 == 1) && not ((slice_index p 1 == 1) || (slice_index p 1 == 2))) good in
    let allowed : allows event_rows (get_or p 0 0) (length p) ≡ true = not-false (allows event_rows (slice_index p 0) (length p)) parts.0 in
    by_event (get_or p 0 0) refl allowed parts.1
  where
    by_event : (e : ℕ) → get_or p 0 0 ≡ e → allows event_rows e (length p) ≡ true → ((slice_index p 0 == 1) && not ((slice_index p 1 == 1) || (slice_index p 1 == 2))) ≡ false → DecodedEvent p
    by_event zero is allowed which = absurd (false≢true allowed)
    by_event (suc zero) is allowed which =
        let sizes = within 10 10 (length p) allowed in
        let size : length p ≡ 10 = omega (arith, sizes) in
        let first : (slice_index p 0 == 1) ≡ true = eq-eqb (slice_index p 0) 1 is in
        let good : not ((slice_index p 1 == 1) || (slice_index p 1 == 2)) ≡ false = rw first at which in
        let w = which_of (get_or p 1 0) (not-false ((slice_index p 1 == 1) || (slice_index p 1 == 2)) good) in
        record {
          event = Strike w.0 (big_from 2 8 p);
          is_event = big_from-lt 2 8 p b;
          fields_are = strike_is p (big_bytes 8 (big_from 2 8 p)) (which_code w.0) size is w.1 (eight_at 2 p (omega (arith, size)) b);
        }
    by_event (suc (suc zero)) is allowed which =
        let sizes = within 9 9 (length p) allowed in
        let size : length p ≡ 9 = omega (arith, sizes) in
        record { event = Mend (big_from 1 8 p); is_event = big_from-lt 1 8 p b; fields_are = mend_is p (big_bytes 8 (big_from 1 8 p)) size is (eight_at 1 p (omega (arith, size)) b) }
    by_event (suc (suc (suc zero))) is allowed which =
        let sizes = within 3 3 (length p) allowed in
        let size : length p ≡ 3 = omega (arith, sizes) in
        record {
          event = Glitch (big_from 1 2 p);
          is_event = big_from-lt 1 2 p b;
          fields_are = ap (λ (xs : List ℕ). 3 ∷ xs) (two_last p size b) ∙ ap (λ (x : ℕ). x ∷ drop 1 p) (sym is) ∙ first_of p (omega (arith, size));
        }
    by_event (suc (suc (suc (suc zero)))) is allowed which =
        let sizes = within 2 257 (length p) allowed in
        record {
          event = Order (drop 1 p);
          is_event = (omega (arith, length-drop 1 p, sizes), omega (arith, length-drop 1 p, sizes));
          fields_are = ap (λ (x : ℕ). x ∷ drop 1 p) (sym is) ∙ first_of p (omega (arith, sizes));
        }
    by_event (suc (suc (suc (suc (suc zero))))) is allowed which =
        let sizes = within 1 1 (length p) allowed in
        record { event = Power; is_event = tt; fields_are = one_byte p 5 (omega (arith, sizes)) is }
    by_event (suc (suc (suc (suc (suc (suc zero)))))) is allowed which =
        let sizes = within 1 1 (length p) allowed in
        record { event = Unplug; is_event = tt; fields_are = one_byte p 6 (omega (arith, sizes)) is }
    by_event (suc (suc (suc (suc (suc (suc (suc e))))))) is allowed which =
        absurd (false≢true (sym (beyond_events (suc (suc (suc (suc (suc (suc (suc e))))))) (length p) (omega arith)) ∙ allowed))

-- a payload of a kind and a length that the table has, without a bad field, is that of a frame
decode : (version : Version) (k : ℕ) (p : List ℕ) → IsBytes p → has_code (frame_rows version) k ≡ true → allows (frame_rows version) k (length p) ≡ true → has_bad_field version k p ≡ false →
    Decoded version k p
decode version zero p b known allowed good = absurd (false≢true known)
decode version (suc zero) p b known allowed good = decode_request version p b allowed good
decode version (suc (suc zero)) p b known allowed good = decode_manage version p b allowed good
decode version (suc (suc (suc zero))) p b known allowed good = decode_turn version p b allowed
decode version (suc (suc (suc (suc zero)))) p b known allowed good =
    let e = decode_event p b good in
    record { frame = frames.Bench e.event; is_frame = e.is_event; kind_is = refl; payload_is = e.fields_are }
decode version (suc (suc (suc (suc (suc zero))))) p b known allowed good =
    let sizes = within 0 0 (length p) allowed in
    record { frame = frames.End; is_frame = tt; kind_is = refl; payload_is = sym (nil_from_length p (omega (arith, sizes))) }
decode version (suc (suc (suc (suc (suc (suc k)))))) p b known allowed good =
    absurd (false≢true (sym (beyond_kinds version (suc (suc (suc (suc (suc (suc k)))))) (omega arith)) ∙ known))

-- the two halves of a verdict without a reason
no_reason : (a b : Option Reason) → option_or a b ≡ None → (a ≡ None) × (b ≡ None)
no_reason None b e = (refl, e)
no_reason (Some r) b e = cc

-- where no reason refuses the bytes a frame stands
pub good_stands : (version : Version) (limit offset : ℕ) (input : List ℕ) → IsBytes input → frame_fault version limit offset input ≡ None → Stands version limit offset input
good_stands version limit offset input b e =
    let halves = no_reason (head_fault version limit offset (take 5 input)) (payload_fault version input) e in
    let h = take 5 input in
    let short : length h ≤ 5 = length_short 5 input in
    let head : GoodHead version limit offset h = good_head version limit offset h short halves.0 in
    let parts : h ++ drop 5 input ≡ input = take-append-drop 5 input in
    let tells : told_length input ≡ told_length h = ap (λ (i : List ℕ). told_length i) (sym parts) ∙ told_front h (drop 5 input) head.whole in
    let counts = refused_not (nat_lt (length input) (5 + told_length input)) Truncated _ halves.1 in
    let fields = refused_not (has_bad_field version (slice_index input 0) (take (told_length input) (drop 5 input))) BadField None counts.1 in
    let enough : 5 + told_length input ≤ length input = ltb-false (length input) (5 + told_length input) counts.0 in
    let p = take (told_length h) (drop 5 input) in
    let rest = drop (told_length h) (drop 5 input) in
    let size : length p ≡ told_length h = length-take-le (told_length h) (drop 5 input) (omega (arith, length-drop 5 input, tells)) in
    let first : slice_index input 0 ≡ slice_index h 0 = sym (get_or-take 5 input 0 0 (omega arith)) in
    let same : take (told_length input) (drop 5 input) ≡ p = ap (λ (n : ℕ). take n (drop 5 input)) tells in
    let good : has_bad_field version (slice_index h 0) p ≡ false = subst (λ (q : List ℕ). has_bad_field version (slice_index h 0) q ≡ false) same
    (subst (λ (k : ℕ). has_bad_field version k (take (told_length input) (drop 5 input)) ≡ false) first fields.0) in
    let allowed : allows (frame_rows version) (slice_index h 0) (length p) ≡ true = subst (λ (n : ℕ). allows (frame_rows version) (slice_index h 0) n ≡ true) (sym size) head.allowed in
    let behind : IsBytes (drop 5 input) = λ i. rw (get_or-drop 5 input i 0) (b (5 + i)) in
    let small : IsBytes p = bytes_taken (told_length h) (drop 5 input) (omega (arith, length-drop 5 input, tells)) behind in
    let d : Decoded version (slice_index h 0) p = decode version (slice_index h 0) p small head.known allowed good in
    let four : big_bytes 4 (told_length h) ≡ drop 1 h = four_at 1 h (omega (arith, head.whole)) (bytes_taken 5 input (omega (arith, enough)) b) ∙ take_all 4 (drop 1 h) (omega (arith, length-drop 1 h, head.whole)) in
    let spelled_is : spelled d.frame ≡ h ++ p =
    ap (λ (q : List ℕ). (kind d.frame ∷ big_bytes 4 (length q)) ++ q) d.payload_is ∙ ap (λ (k : ℕ). (k ∷ big_bytes 4 (length p)) ++ p) d.kind_is
    ∙ ap (λ (n : ℕ). (slice_index h 0 ∷ big_bytes 4 n) ++ p) size ∙ ap (λ (q : List ℕ). (slice_index h 0 ∷ q) ++ p) four ∙ ap (λ (q : List ℕ). q ++ p) (first_of h (omega (arith, head.whole))) in
    record {
      frame = d.frame;
      rest = rest;
      is_frame = d.is_frame;
      split = sym parts ∙ ap (λ (q : List ℕ). h ++ q) (sym (take-append-drop (told_length h) (drop 5 input))) ∙ sym (append_assoc h p rest) ∙ ap (λ (q : List ℕ). q ++ rest) (sym spelled_is);
      within = omega (arith, ap length spelled_is, length-append h p, head.whole, size, head.within);
    }
  where
    length_short : (n : ℕ) (xs : List ℕ) → length (take n xs) ≤ n
    length_short zero xs = omega arith
    length_short (suc n) [] = omega arith
    length_short (suc n) (x ∷ xs) = omega (arith, length_short n xs)

-- a frame stands, or a reason refuses the bytes
pub stands_or_refused : (version : Version) (limit offset : ℕ) (input : List ℕ) → IsBytes input → Stands version limit offset input ⊎ IsRefused version limit offset input
stands_or_refused version limit offset input b = by_fault (frame_fault version limit offset input) refl
  where
    by_fault : (o : Option Reason) → frame_fault version limit offset input ≡ o → Stands version limit offset input ⊎ IsRefused version limit offset input
    by_fault None e = inl (good_stands version limit offset input b e)
    by_fault (Some r) e = inr (r, e)

pub not_both : (version : Version) (limit offset : ℕ) (input : List ℕ) → Stands version limit offset input → IsRefused version limit offset input → ⊥
not_both version limit offset input s (r, e) = let none : frame_fault version limit offset input ≡ None = stands_good version limit offset input s in cc
