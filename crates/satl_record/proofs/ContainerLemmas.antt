-- The bytes of a record, part by part.
use Rattle.std.proofs.Common.{arith, ◌≡◌, inl, inr, sym, ap, ◌∙◌, subst, ℕ, List, [], ◌∷◌, ◌++◌, length, take, append_assoc, Option, Some, None}
use Rattle.std.specs.Prelude.{◌<◌, ◌≤◌}
use Rattle.std.specs.Io.KnownBytes.{IsAtEnd}
use Rattle.std.proofs.lemmas.Bool.{cases_lt}
use Rattle.std.proofs.lemmas.List.{length-append, take_at}
use Rattle.byteorder.specs.Endian.{big_bytes, big_from}
use Rattle.byteorder.specs.Numbers.{big_number-reads_back}
use Rattle.satl_io.specs.Known.{Took}
use Rattle.satl_io.proofs.Joined.{Took-more}
use Rattle.satl_record.specs.Containers.{IsNoRecord, IsRest, TookRecord, longest_part, record_bytes, record_magic}

-- what follows the same bytes
after_same : (zs xs ys : List ℕ) → zs ++ xs ≡ zs ++ ys → xs ≡ ys
after_same [] xs ys h = h
after_same (z ∷ zs) xs ys h = after_same zs xs ys (tail h)
  where
    tail : {us bs : List ℕ} → z ∷ us ≡ z ∷ bs → us ≡ bs
    tail e = cc

pub read_back : (n : ℕ) (rest : List ℕ) → n ≤ longest_part → big_from 0 8 (big_bytes 8 n ++ rest) ≡ n
read_back n rest few = big_number-reads_back 8 n rest (omega (arith, few))

-- a head and what follows it are read in one way
same_head : (n m : ℕ) (xs ys : List ℕ) → n ≤ longest_part → m ≤ longest_part → record_magic ++ (big_bytes 8 n ++ xs) ≡ record_magic ++ (big_bytes 8 m ++ ys) → (n ≡ m) × (xs ≡ ys)
same_head n m xs ys few small h =
    let numbers : big_bytes 8 n ++ xs ≡ big_bytes 8 m ++ ys = after_same record_magic (big_bytes 8 n ++ xs) (big_bytes 8 m ++ ys) h in
    let same : n ≡ m = sym (read_back n xs few) ∙ ap (λ (l : List ℕ). big_from 0 8 l) numbers ∙ read_back m ys small in
    (same, after_same (big_bytes 8 m) xs ys (ap (λ k. big_bytes 8 k ++ xs) (sym same) ∙ numbers))

-- ---- the head

module _ (left left' : Option (List ℕ)) (head : List ℕ) (few : length head ≤ 16) (other : (n : ℕ) → n ≤ longest_part → head ≡ record_magic ++ big_bytes 8 n → ⊥) where
  first_of : (bytes rest input output : List ℕ) → bytes ≡ head ++ rest → (length head < 16 → rest ≡ []) → bytes ≡ record_bytes input output → head ≡ record_magic ++ big_bytes 8 (length input)
  first_of bytes rest input output took ends is = elim (cases_lt (length head) 16) [ inl less ↦ absurd (omega (arith, size, ap (λ (l : List ℕ). length l) took, length-append head rest, ap (λ (l : List ℕ). length l) (ends less), less)) | inr all ↦ sym (front (omega (arith, all, few))) ∙ is_head ]
    where
      whole : List ℕ
      whole = record_magic ++ big_bytes 8 (length input)

      is_head : take 16 bytes ≡ whole
      is_head =
          ap (λ (l : List ℕ). take 16 l) (is ∙ sym (append_assoc record_magic (big_bytes 8 (length input)) (input ++ output)))
          ∙ take_at whole (input ++ output) 16 (length-append record_magic (big_bytes 8 (length input)))

      size : 16 ≤ length bytes
      size = omega (arith, ap (λ (l : List ℕ). length l) is, length-append record_magic (big_bytes 8 (length input) ++ (input ++ output)), length-append (big_bytes 8 (length input)) (input ++ output))

      front : length head ≡ 16 → take 16 bytes ≡ head
      front all = ap (λ (l : List ℕ). take 16 l) took ∙ take_at head rest 16 all

  by_left : (left left' : Option (List ℕ)) → Took left left' head → (length head < 16 → IsAtEnd left') → IsNoRecord left
  by_left None left' took ends = tt
  by_left (Some bytes) None took ends = absurd took.known
  by_left (Some bytes) (Some rest) took ends = λ input output short is. other (length input) short.input_is (first_of bytes rest input output took.known ends is)

  -- where the first 16 bytes, or fewer at the end, are no head, the bytes are no record
  pub no_head : Took left left' head → (length head < 16 → IsAtEnd left') → IsNoRecord left
  no_head took ends = by_left left left' took ends

-- ---- the input

module _ (n : ℕ) (small : n ≤ longest_part) where
  abbrev head : List ℕ
  head = record_magic ++ big_bytes 8 n

  -- a head, and an input that ends too early
  no_input_by : (a b c : Option (List ℕ)) (input : List ℕ) → Took a b head → Took b c input → length input < n → IsAtEnd c → IsNoRecord a
  no_input_by None b c input first second less ends = tt
  no_input_by (Some xs) None c input first second less ends = absurd first.known
  no_input_by (Some xs) (Some ys) None input first second less ends = absurd second.known
  no_input_by (Some xs) (Some ys) (Some zs) input first second less ends = λ given output short is.
      let split : record_magic ++ (big_bytes 8 n ++ ys) ≡ record_bytes given output = sym (append_assoc record_magic (big_bytes 8 n) ys) ∙ sym first.known ∙ is in
      let same = same_head n (length given) ys (given ++ output) small short.input_is split in
      absurd (omega (arith, same.0, ap (λ (l : List ℕ). length l) same.1, ap (λ (l : List ℕ). length l) second.known, length-append input zs, length-append given output, ap (λ (l : List ℕ). length l) ends, less))

  -- a head, an input, and an output that is too long
  no_output_by : (a b c d : Option (List ℕ)) (input output : List ℕ) → Took a b head → Took b c input → Took c d output → length input ≡ n → longest_part < length output → IsNoRecord a
  no_output_by None b c d input output first second third size long = tt
  no_output_by (Some xs) None c d input output first second third size long = absurd first.known
  no_output_by (Some xs) (Some ys) None d input output first second third size long = absurd second.known
  no_output_by (Some xs) (Some ys) (Some zs) None input output first second third size long = absurd third.known
  no_output_by (Some xs) (Some ys) (Some zs) (Some ws) input output first second third size long = λ given seen short is.
      let split : record_magic ++ (big_bytes 8 n ++ ys) ≡ record_bytes given seen = sym (append_assoc record_magic (big_bytes 8 n) ys) ∙ sym first.known ∙ is in
      let same = same_head n (length given) ys (given ++ seen) small short.input_is split in
      absurd (omega (arith, same.0, ap (λ (l : List ℕ). length l) same.1, ap (λ (l : List ℕ). length l) second.known, ap (λ (l : List ℕ). length l) third.known, length-append input zs, length-append output ws, length-append given seen, size, long, short.output_is))

  pub took_record : {a b c d : Option (List ℕ)} (input output : List ℕ) → Took a b head → Took b c input → Took c d output → length input ≡ n → length output ≤ longest_part → IsAtEnd d → TookRecord a d input output
  took_record {a} {b} {c} {d} input output first second third size few ends = record {
    took = subst (Took a d) regrouped (Took-more (Took-more first second) third);
    ends = ends;
    short = record { input_is = omega (arith, size, small); output_is = few };
  }
    where
      regrouped : (head ++ input) ++ output ≡ record_bytes input output
      regrouped =
          append_assoc head input output
          ∙ append_assoc record_magic (big_bytes 8 n) (input ++ output)
          ∙ ap (λ k. record_magic ++ (big_bytes 8 k ++ (input ++ output))) (sym size)

pub no_output : (n : ℕ) → n ≤ longest_part → {a b c d : Option (List ℕ)} (input output : List ℕ) → Took a b (record_magic ++ big_bytes 8 n) → Took b c input → Took c d output → length input ≡ n → longest_part < length output → IsNoRecord a
no_output n small {a} {b} {c} {d} input output first second third size long = no_output_by n small a b c d input output first second third size long

-- ---- the rest of a source

pub rest_taken : {a b : Option (List ℕ)} {xs : List ℕ} → Took a b xs → IsRest a b
rest_taken {xs} took = record { taken = xs; took = took }

-- a rest of a rest
pub rest_more : {a b c : Option (List ℕ)} → IsRest a b → IsRest b c → IsRest a c
rest_more first second = record { taken = first.taken ++ second.taken; took = Took-more first.took second.took }
