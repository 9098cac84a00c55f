-- The descriptor form of what a text says, byte by byte: each byte is a function of the same byte of the text, and from byte 7
-- on of the length there.
use Rattle.std.proofs.Common.{◌≡◌, ℕ, zero, suc, ◌+◌, ◌/◌, ◌%◌, ◌^◌, ◌<◌, ◌≤◌, Bool, true, false, cond, List, [], ◌∷◌, ◌++◌, length, get_or, take, refl, sym, ap, ◌∙◌, subst, arith, inl, inr, get_or-take}
use Rattle.std.specs.Prelude.{slice_index, ◌==◌, if◌then◌else◌}
use Rattle.std.specs.Int.{byte_at, w16, w64, to_be_bytes}
use Rattle.std.proofs.lemmas.Bool.{cases_lt}
use Rattle.std.proofs.lemmas.Nat.{be_bytes_2, be_bytes_8}
use Rattle.byteorder.specs.Endian.{big_number}
use Rattle.byteorder.specs.Numbers.{big_from-lt, big_number-reads_back}
use Rattle.satl_base.specs.Fields.{bytes, bit, IsBytes}
use Rattle.satl_base.proofs.FieldsLemmas.{back_2, back_8, head_at, fits_2, fits_8}
use Rattle.satl_sense.specs.declared.sense.Sense.{Sense}
use Rattle.satl_sense.specs.declared.sense.Extra.{Extra}
use Rattle.satl_sense.specs.declared.sense.Extra.TheVariants as extras
use Rattle.satl_sense.specs.declared.sense.AtaReturn.{AtaReturn}
use Rattle.satl_sense.specs.Descriptor.{descriptor_form, pointer_flags, ExtraFits, FitsForm}
use Rattle.satl_sense.specs.Fields.{sense_in, extra_in, ata_return_in}

-- ---- what is written is read

abbrev ata : Bool → ℕ → ℕ → ℕ → ℕ → ℕ → AtaReturn
ata extend error count lba device status = record { extend = extend; error = error; count = count; lba = lba; device = device; status = status }

abbrev sense : ℕ → ℕ → ℕ → Extra → Sense
sense key asc ascq extra = record { key = key; asc = asc; ascq = ascq; extra = extra }

abbrev IsTold : Sense → Type 0
IsTold s = sense_in (descriptor_form s) ≡ s

low_four : (key : ℕ) → key ≤ 0x0F → key / 1 % 16 ≡ key
low_four key k = omega arith

back_6 : (n : ℕ) → n < 2 ^ 48 → big_number 6 (byte_at 5 n ∷ byte_at 4 n ∷ byte_at 3 n ∷ byte_at 2 n ∷ byte_at 1 n ∷ byte_at 0 n ∷ []) ≡ n
back_6 n h = big_number-reads_back 6 n [] h

told_ata : (key asc ascq : ℕ) (extend : Bool) (error count lba device status : ℕ) → key ≤ 0x0F → count < 2 ^ 16 → lba < 2 ^ 48
    → IsTold (sense key asc ascq (extras.Ata (ata extend error count lba device status)))
unfolding descriptor_form
told_ata key asc ascq true error count lba device status k c l = rw (low_four key k, back_2 count c, back_6 lba l) refl
told_ata key asc ascq false error count lba device status k c l = rw (low_four key k, back_2 count c, back_6 lba l) refl

told_extra : (key asc ascq : ℕ) (extra : Extra) → key ≤ 0x0F → ExtraFits extra → IsTold (sense key asc ascq extra)
unfolding descriptor_form
told_extra key asc ascq extras.None k f = rw (low_four key k) refl
told_extra key asc ascq (extras.Information n) k f = rw (low_four key k, back_8 n f) refl
told_extra key asc ascq (extras.Pointer true place) k f = rw (low_four key k, back_2 place f) refl
told_extra key asc ascq (extras.Pointer false place) k f = rw (low_four key k, back_2 place f) refl
told_extra key asc ascq (extras.Ata r) k f = told_ata key asc ascq r.extend r.error r.count r.lba r.device r.status k f.1 f.2

pub told : (s : Sense) → FitsForm s → sense_in (descriptor_form s) ≡ s
told s f = told_extra s.key s.asc s.ascq s.extra f.key f.extra

-- ---- what a text says fits

fits_extra : (size : ℕ) (b : List ℕ) → IsBytes b → ExtraFits (extra_in size b)
fits_extra size b bs =
    elim (size == 0x0C) as (λ (t : Bool). ExtraFits (cond t (extras.Information (bytes 12 19 b)) (cond (size == 0x08) (extras.Pointer (bit 12 6 b) (bytes 13 14 b)) (cond (size == 0x0E) (extras.Ata (ata_return_in b)) extras.None)))) [
      | true ↦ big_from-lt 12 8 b bs
      | false ↦ elim (size == 0x08) as (λ (t : Bool). ExtraFits (cond t (extras.Pointer (bit 12 6 b) (bytes 13 14 b)) (cond (size == 0x0E) (extras.Ata (ata_return_in b)) extras.None))) [
        | true ↦ big_from-lt 13 2 b bs
        | false ↦ elim (size == 0x0E) as (λ (t : Bool). ExtraFits (cond t (extras.Ata (ata_return_in b)) extras.None)) [
          | true ↦ (bs 11, big_from-lt 12 2 b bs, omega (arith, bs 14, bs 15, bs 16, bs 17, bs 18, bs 19), bs 20, bs 21)
          | false ↦ tt
        ]
      ]
    ]

pub says_fits : (b : List ℕ) → IsBytes b → FitsForm (sense_in b)
says_fits b bs = record { key = omega (arith, bs 1); asc = bs 2; ascq = bs 3; extra = fits_extra (slice_index b 7) b bs }

-- ---- the form of what a text says

-- the bytes of a text from a place on, each by a function
abbrev pub mapped : List (ℕ → ℕ) → ℕ → List ℕ → List ℕ
mapped [] i b = []
mapped (f ∷ fs) i b = f (slice_index b i) ∷ mapped fs (i + 1) b

abbrev always : ℕ → ℕ → ℕ
always n x = n

abbrev kept : ℕ → ℕ
kept x = x

abbrev front : List (ℕ → ℕ)
front = always 0x72 ∷ (λ x. x / 1 % 16) ∷ kept ∷ kept ∷ always 0 ∷ always 0 ∷ always 0 ∷ []

abbrev information : List (ℕ → ℕ)
information = always 0x0C ∷ always 0 ∷ always 0x0A ∷ always 0x80 ∷ always 0 ∷ kept ∷ kept ∷ kept ∷ kept ∷ kept ∷ kept ∷ kept ∷ kept ∷ []

abbrev pointer : List (ℕ → ℕ)
pointer = always 0x08 ∷ always 0x02 ∷ always 0x06 ∷ always 0 ∷ always 0 ∷ (λ x. pointer_flags (x / 64 % 2 == 1)) ∷ kept ∷ kept ∷ always 0 ∷ []

abbrev ata_return : List (ℕ → ℕ)
ata_return = always 0x0E ∷ always 0x09 ∷ always 0x0C ∷ (λ x. cond (x / 1 % 2 == 1) 1 0) ∷ kept ∷ kept ∷ kept ∷ kept ∷ kept ∷ kept ∷ kept ∷ kept ∷ kept ∷ kept ∷ kept ∷ []

abbrev rest : ℕ → List (ℕ → ℕ)
rest size = if size == 0x0C then information else if size == 0x08 then pointer else if size == 0x0E then ata_return else always 0 ∷ []

abbrev HasForm : List ℕ → Extra → List (ℕ → ℕ) → Type 0
HasForm b extra fs = descriptor_form (record { key = slice_index b 1 / 1 % 16; asc = slice_index b 2; ascq = slice_index b 3; extra = extra }) ≡ mapped (front ++ fs) 0 b

information_form : (b : List ℕ) → IsBytes b → HasForm b (extras.Information (bytes 12 19 b)) information
unfolding descriptor_form
information_form b bs =
    let text : List ℕ = slice_index b 12 ∷ slice_index b 13 ∷ slice_index b 14 ∷ slice_index b 15 ∷ slice_index b 16 ∷ slice_index b 17 ∷ slice_index b 18 ∷ slice_index b 19 ∷ [] in
    let is : to_be_bytes w64 (bytes 12 19 b) ≡ text = be_bytes_8 text (bytes 12 19 b) refl (fits_8 _ _ _ _ _ _ _ _ (bs 12) (bs 13) (bs 14) (bs 15) (bs 16) (bs 17) (bs 18) (bs 19)) (omega arith) in
    rw (head_at 0 _ _ is, head_at 1 _ _ is, head_at 2 _ _ is, head_at 3 _ _ is, head_at 4 _ _ is, head_at 5 _ _ is, head_at 6 _ _ is, head_at 7 _ _ is) refl

pointer_form : (b : List ℕ) → IsBytes b → HasForm b (extras.Pointer (bit 12 6 b) (bytes 13 14 b)) pointer
unfolding descriptor_form
pointer_form b bs =
    let text : List ℕ = slice_index b 13 ∷ slice_index b 14 ∷ [] in
    let is : to_be_bytes w16 (bytes 13 14 b) ≡ text = be_bytes_2 text (bytes 13 14 b) refl (fits_2 _ _ (bs 13) (bs 14)) (omega arith) in
    rw (head_at 0 _ _ is, head_at 1 _ _ is) refl

ata_form : (b : List ℕ) → IsBytes b → HasForm b (extras.Ata (ata_return_in b)) ata_return
unfolding descriptor_form
ata_form b bs =
    let text : List ℕ = slice_index b 12 ∷ slice_index b 13 ∷ [] in
    let is : to_be_bytes w16 (bytes 12 13 b) ≡ text = be_bytes_2 text (bytes 12 13 b) refl (fits_2 _ _ (bs 12) (bs 13)) (omega arith) in
    let address : List ℕ = 0 ∷ 0 ∷ slice_index b 18 ∷ slice_index b 16 ∷ slice_index b 14 ∷ slice_index b 19 ∷ slice_index b 17 ∷ slice_index b 15 ∷ [] in
    let lba : to_be_bytes w64 ((ata_return_in b).lba) ≡ address = be_bytes_8 address (ata_return_in b).lba refl (fits_8 _ _ _ _ _ _ _ _ (omega arith) (omega arith) (bs 18) (bs 16) (bs 14) (bs 19) (bs 17) (bs 15)) (omega arith) in
    rw (head_at 0 _ _ is, head_at 1 _ _ is, head_at 2 _ _ lba, head_at 3 _ _ lba, head_at 4 _ _ lba, head_at 5 _ _ lba, head_at 6 _ _ lba, head_at 7 _ _ lba) refl

none_form : (b : List ℕ) → HasForm b extras.None (always 0 ∷ [])
unfolding descriptor_form
none_form b = refl

form_of : (size : ℕ) (b : List ℕ) → IsBytes b → HasForm b (extra_in size b) (rest size)
form_of size b bs =
    elim (size == 0x0C) as (λ (t : Bool). HasForm b (cond t (extras.Information (bytes 12 19 b)) (cond (size == 0x08) (extras.Pointer (bit 12 6 b) (bytes 13 14 b)) (cond (size == 0x0E) (extras.Ata (ata_return_in b)) extras.None))) (cond t information (cond (size == 0x08) pointer (cond (size == 0x0E) ata_return (always 0 ∷ []))))) [
      | true ↦ information_form b bs
      | false ↦ elim (size == 0x08) as (λ (t : Bool). HasForm b (cond t (extras.Pointer (bit 12 6 b) (bytes 13 14 b)) (cond (size == 0x0E) (extras.Ata (ata_return_in b)) extras.None)) (cond t pointer (cond (size == 0x0E) ata_return (always 0 ∷ [])))) [
        | true ↦ pointer_form b bs
        | false ↦ elim (size == 0x0E) as (λ (t : Bool). HasForm b (cond t (extras.Ata (ata_return_in b)) extras.None) (cond t ata_return (always 0 ∷ []))) [
          | true ↦ ata_form b bs
          | false ↦ none_form b
        ]
      ]
    ]

-- ---- equal beginnings of texts give equal beginnings of forms

mapped-same : (fs : List (ℕ → ℕ)) (n i : ℕ) (a b : List ℕ) → ((k : ℕ) → k < n → slice_index a (i + k) ≡ slice_index b (i + k)) → take n (mapped fs i a) ≡ take n (mapped fs i b)
mapped-same [] zero i a b h = refl
mapped-same [] (suc n) i a b h = refl
mapped-same (f ∷ fs) zero i a b h = refl
mapped-same (f ∷ fs) (suc n) i a b h =
    let here : slice_index a i ≡ slice_index b i = subst (λ (k : ℕ). slice_index a k ≡ slice_index b k) (omega arith) (h 0 (omega arith)) in
    let later : take n (mapped fs (i + 1) a) ≡ take n (mapped fs (i + 1) b) = mapped-same fs n (i + 1) a b (λ k lt. subst (λ (j : ℕ). slice_index a j ≡ slice_index b j) (omega arith) (h (k + 1) (omega arith))) in
    rw (here, later) refl

-- what stands behind does not matter to a beginning
mapped-front : (fs gs hs : List (ℕ → ℕ)) (n i : ℕ) (a : List ℕ) → n ≤ length fs → take n (mapped (fs ++ gs) i a) ≡ take n (mapped (fs ++ hs) i a)
mapped-front [] gs hs zero i a h = refl
mapped-front [] gs hs (suc n) i a h = absurd (omega arith)
mapped-front (f ∷ fs) gs hs zero i a h = refl
mapped-front (f ∷ fs) gs hs (suc n) i a h = ap (λ (r : List ℕ). f (slice_index a i) ∷ r) (mapped-front fs gs hs n (i + 1) a (omega arith))

read-take : (n k : ℕ) (a b : List ℕ) → take n a ≡ take n b → k < n → slice_index a k ≡ slice_index b k
read-take n k a b e lt = sym (get_or-take n a k 0 lt) ∙ ap (λ (l : List ℕ). get_or l k 0) e ∙ get_or-take n b k 0 lt

own_ata : (key asc ascq : ℕ) (extend : Bool) (error count lba device status : ℕ) → key ≤ 0x0F
    → descriptor_form (sense key asc ascq (extras.Ata (ata extend error count lba device status))) ≡ mapped (front ++ ata_return) 0 (descriptor_form (sense key asc ascq (extras.Ata (ata extend error count lba device status))))
unfolding descriptor_form
own_ata key asc ascq true error count lba device status k = rw (low_four key k) refl
own_ata key asc ascq false error count lba device status k = rw (low_four key k) refl

-- a form is that of its own bytes
own_extra : (key asc ascq : ℕ) (extra : Extra) → key ≤ 0x0F
    → descriptor_form (sense key asc ascq extra) ≡ mapped (front ++ rest (slice_index (descriptor_form (sense key asc ascq extra)) 7)) 0 (descriptor_form (sense key asc ascq extra))
unfolding descriptor_form
own_extra key asc ascq extras.None k = rw (low_four key k) refl
own_extra key asc ascq (extras.Information n) k = rw (low_four key k) refl
own_extra key asc ascq (extras.Pointer true place) k = rw (low_four key k) refl
own_extra key asc ascq (extras.Pointer false place) k = rw (low_four key k) refl
own_extra key asc ascq (extras.Ata r) k = own_ata key asc ascq r.extend r.error r.count r.lba r.device r.status k

own_form : (s : Sense) → FitsForm s → descriptor_form s ≡ mapped (front ++ rest (slice_index (descriptor_form s) 7)) 0 (descriptor_form s)
own_form s f = own_extra s.key s.asc s.ascq s.extra f.key

-- the text and some form begin alike: so do the form of what the text says and that form
pub begins_alike : (n : ℕ) (text : List ℕ) (s : Sense) → IsBytes text → FitsForm s → take n text ≡ take n (descriptor_form s) → take n (descriptor_form (sense_in text)) ≡ take n (descriptor_form s)
begins_alike n text s bs f e =
    let form : List ℕ = descriptor_form s in
    let one : take n (descriptor_form (sense_in text)) ≡ take n (mapped (front ++ rest (slice_index text 7)) 0 text) = ap (λ (l : List ℕ). take n l) (form_of (slice_index text 7) text bs) in
    let two : take n form ≡ take n (mapped (front ++ rest (slice_index form 7)) 0 form) = ap (λ (l : List ℕ). take n l) (own_form s f) in
    let same : take n (mapped (front ++ rest (slice_index text 7)) 0 text) ≡ take n (mapped (front ++ rest (slice_index text 7)) 0 form) =
    mapped-same (front ++ rest (slice_index text 7)) n 0 text form (λ k lt. read-take n (0 + k) text form e (omega arith)) in
    let behind : take n (mapped (front ++ rest (slice_index text 7)) 0 form) ≡ take n (mapped (front ++ rest (slice_index form 7)) 0 form) =
    elim (cases_lt 7 n) [
      | inl lt ↦ ap (λ (l : ℕ). take n (mapped (front ++ rest l) 0 form)) (read-take n 7 text form e lt)
      | inr le ↦ mapped-front front (rest (slice_index text 7)) (rest (slice_index form 7)) n 0 form le
    ] in
    one ∙ same ∙ behind ∙ sym two
