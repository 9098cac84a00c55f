-- Fields and the bytes that they were read from.
use Rattle.std.proofs.Common.{◌≡◌, ℕ, zero, suc, ◌+◌, ◌-◌, ◌<◌, ◌≤◌, List, [], ◌∷◌, ◌++◌, length, take, drop, get_or, refl, ◌∙◌, ap, sym, arith, Option, Some, None, true}
use Rattle.std.proofs.lemmas.Bool.{leb-true}
use Rattle.std.proofs.lemmas.List.{take-append-drop, drop-drop, length-drop, get_or-drop, take_all, take_rest, nil_from_length}
use Rattle.std.proofs.lemmas.Nat.{be_bytes_4, be_bytes_8}
use Rattle.byteorder.specs.Endian.{big_from, big_bytes}
use Rattle.satl_base.specs.Fields.{IsBytes}
use Rattle.satl_frame.specs.Frames.{head_size, expected_in, expected_field, is_expectable, HasExpected}
use Rattle.satl_frame.specs.declared.frames.Version.{Version}
use Rattle.satl_frame.specs.declared.frames.Version.TheVariants.{One, Two}

-- a number further on stands at the front of the rest
pub big_from-drop : (i j n : ℕ) (h : List ℕ) → big_from (i + j) n h ≡ big_from j n (drop i h)
big_from-drop i j zero h = refl
big_from-drop i j (suc n) h =
    let e : suc (i + j) ≡ i + suc j = omega arith in
    let next : big_from (suc (i + j)) n h ≡ big_from (suc j) n (drop i h) = rw e (big_from-drop i (suc j) n h) in
    rw (get_or-drop i h j 0, next) refl

-- the first four bytes are those of the number that they tell
four_first : (h : List ℕ) → 4 ≤ length h → IsBytes h → big_bytes 4 (big_from 0 4 h) ≡ take 4 h
four_first [] l b = absurd (omega arith)
four_first (x ∷ []) l b = absurd (omega arith)
four_first (x ∷ y ∷ []) l b = absurd (omega arith)
four_first (x ∷ y ∷ z ∷ []) l b = absurd (omega arith)
four_first (x ∷ y ∷ z ∷ t ∷ h) l b = be_bytes_4 (x ∷ y ∷ z ∷ t ∷ []) (big_from 0 4 (x ∷ y ∷ z ∷ t ∷ h)) refl small (omega arith)
  where
    small : (i : ℕ) → get_or (x ∷ y ∷ z ∷ t ∷ []) i 0 < 256
    small zero = b 0
    small (suc zero) = b 1
    small (suc (suc zero)) = b 2
    small (suc (suc (suc zero))) = b 3
    small (suc (suc (suc (suc i)))) = omega arith

-- the first eight bytes likewise
eight_first : (h : List ℕ) → 8 ≤ length h → IsBytes h → big_bytes 8 (big_from 0 8 h) ≡ take 8 h
eight_first [] l b = absurd (omega arith)
eight_first (p ∷ []) l b = absurd (omega arith)
eight_first (p ∷ q ∷ []) l b = absurd (omega arith)
eight_first (p ∷ q ∷ r ∷ []) l b = absurd (omega arith)
eight_first (p ∷ q ∷ r ∷ s ∷ []) l b = absurd (omega arith)
eight_first (p ∷ q ∷ r ∷ s ∷ t ∷ []) l b = absurd (omega arith)
eight_first (p ∷ q ∷ r ∷ s ∷ t ∷ u ∷ []) l b = absurd (omega arith)
eight_first (p ∷ q ∷ r ∷ s ∷ t ∷ u ∷ v ∷ []) l b = absurd (omega arith)
eight_first (p ∷ q ∷ r ∷ s ∷ t ∷ u ∷ v ∷ w ∷ h) l b =
    be_bytes_8 (p ∷ q ∷ r ∷ s ∷ t ∷ u ∷ v ∷ w ∷ []) (big_from 0 8 (p ∷ q ∷ r ∷ s ∷ t ∷ u ∷ v ∷ w ∷ h)) refl small (omega arith)
  where
    small : (i : ℕ) → get_or (p ∷ q ∷ r ∷ s ∷ t ∷ u ∷ v ∷ w ∷ []) i 0 < 256
    small zero = b 0
    small (suc zero) = b 1
    small (suc (suc zero)) = b 2
    small (suc (suc (suc zero))) = b 3
    small (suc (suc (suc (suc zero)))) = b 4
    small (suc (suc (suc (suc (suc zero))))) = b 5
    small (suc (suc (suc (suc (suc (suc zero)))))) = b 6
    small (suc (suc (suc (suc (suc (suc (suc zero))))))) = b 7
    small (suc (suc (suc (suc (suc (suc (suc (suc i)))))))) = omega arith

behind_are_bytes : (i : ℕ) (h : List ℕ) → IsBytes h → IsBytes (drop i h)
behind_are_bytes i h b = λ j. rw (get_or-drop i h j 0) (b (i + j))

-- the four bytes from a place on are those of the number that they tell
pub four_at : (i : ℕ) (h : List ℕ) → i + 4 ≤ length h → IsBytes h → big_bytes 4 (big_from i 4 h) ≡ take 4 (drop i h)
four_at i h l b =
    let e : big_from i 4 h ≡ big_from 0 4 (drop i h) = ap (λ k. big_from k 4 h) (omega arith) ∙ big_from-drop i 0 4 h in
    ap (λ n. big_bytes 4 n) e ∙ four_first (drop i h) (omega (arith, length-drop i h)) (behind_are_bytes i h b)

pub eight_at : (i : ℕ) (h : List ℕ) → i + 8 ≤ length h → IsBytes h → big_bytes 8 (big_from i 8 h) ≡ take 8 (drop i h)
eight_at i h l b =
    let e : big_from i 8 h ≡ big_from 0 8 (drop i h) = ap (λ k. big_from k 8 h) (omega arith) ∙ big_from-drop i 0 8 h in
    ap (λ n. big_bytes 8 n) e ∙ eight_first (drop i h) (omega (arith, length-drop i h)) (behind_are_bytes i h b)

pub four_read : (i n : ℕ) (h : List ℕ) → i + 4 ≤ length h → IsBytes h → n ≡ big_from 0 4 (take (length h - i) (drop i h)) → big_bytes 4 n ≡ take 4 (drop i h)
four_read i n h l b e =
    ap (λ k. big_bytes 4 k) (e ∙ ap (λ s. big_from 0 4 s) (take_rest h i)) ∙ four_first (drop i h) (omega (arith, length-drop i h)) (behind_are_bytes i h b)

pub eight_read : (i n : ℕ) (h : List ℕ) → i + 8 ≤ length h → IsBytes h → n ≡ big_from 0 8 (take (length h - i) (drop i h)) → big_bytes 8 n ≡ take 8 (drop i h)
eight_read i n h l b e =
    ap (λ k. big_bytes 8 k) (e ∙ ap (λ s. big_from 0 8 s) (take_rest h i)) ∙ eight_first (drop i h) (omega (arith, length-drop i h)) (behind_are_bytes i h b)

-- the first of a list, and the rest
pub first_of : (h : List ℕ) → 1 ≤ length h → get_or h 0 0 ∷ drop 1 h ≡ h
first_of [] l = absurd (omega arith)
first_of (x ∷ h) l = refl

-- the first two of a list, and the rest
pub first_two : (h : List ℕ) → 2 ≤ length h → get_or h 0 0 ∷ get_or h 1 0 ∷ drop 2 h ≡ h
first_two [] l = absurd (omega arith)
first_two (x ∷ []) l = absurd (omega arith)
first_two (x ∷ y ∷ h) l = refl

-- the last bytes of a list
last_of : (i n : ℕ) (h : List ℕ) → length h ≡ i + n → take n (drop i h) ≡ drop i h
last_of i n h l = take_all n (drop i h) (omega (arith, length-drop i h))

-- a part, and what follows it
part_of : (i n : ℕ) (h : List ℕ) → take n (drop i h) ++ drop (i + n) h ≡ drop i h
part_of i n h = ap (λ t. take n (drop i h) ++ t) (sym (drop-drop n i h)) ∙ take-append-drop n (drop i h)

-- nexus, a byte, LUN and tag
pub manage_is : (h lun : List ℕ) (nexus : ℕ) (tag : List ℕ) → length h ≡ 14 → nexus ≡ get_or h 0 0 → lun ≡ take 8 (drop 2 h) → tag ≡ take 4 (drop 10 h) →
    (nexus ∷ get_or h 1 0 ∷ lun) ++ tag ≡ h
manage_is h lun nexus tag l n u t =
    let last : tag ≡ drop 10 h = t ∙ last_of 10 4 h l in
    let rest : lun ++ tag ≡ drop 2 h = rw (u, last) (part_of 2 8 h) in
    rw n (ap (λ r. get_or h 0 0 ∷ get_or h 1 0 ∷ r) rest ∙ first_two h (omega arith))

-- what is expected stands at the end
expected_is : (version : Version) (h : List ℕ) → length h ≡ head_size version → IsBytes h → expected_field (expected_in version h) ≡ drop 30 h
expected_is One h l b = sym (take_all_drop h l)
  where
    take_all_drop : (h : List ℕ) → length h ≡ 30 → drop 30 h ≡ []
    take_all_drop h l = nil_from_length (drop 30 h) (omega (arith, length-drop 30 h))
expected_is Two h l b = four_at 30 h (omega arith) b ∙ last_of 30 4 h l

at_least_30 : (version : Version) → 30 ≤ head_size version
at_least_30 One = omega arith
at_least_30 Two = omega arith

-- nexus, attribute, LUN, tag, CDB and what is expected
pub request_is : (version : Version) (h lun cdb tag : List ℕ) (nexus attr : ℕ) (expected : Option ℕ) → length h ≡ head_size version → IsBytes h →
    nexus ≡ get_or h 0 0 → attr ≡ get_or h 1 0 → lun ≡ take 8 (drop 2 h) → tag ≡ take 4 (drop 10 h) → cdb ≡ take 16 (drop 14 h) →
    expected ≡ expected_in version h → (nexus ∷ attr ∷ lun) ++ (tag ++ (cdb ++ expected_field expected)) ≡ h
request_is version h lun cdb tag nexus attr expected l b n a u t d e =
    let ends : expected_field expected ≡ drop 30 h = ap expected_field e ∙ expected_is version h l b in
    let behind : cdb ++ expected_field expected ≡ drop 14 h = rw (d, ends) (part_of 14 16 h) in
    let further : tag ++ (cdb ++ expected_field expected) ≡ drop 10 h = rw (t, behind) (part_of 10 4 h) in
    let rest : lun ++ (tag ++ (cdb ++ expected_field expected)) ≡ drop 2 h = rw (u, further) (part_of 2 8 h) in
    rw (n, a) (ap (λ r. get_or h 0 0 ∷ get_or h 1 0 ∷ r) rest ∙ first_two h (omega (arith, at_least_30 version)))

-- event and LBA
pub mend_is : (h lba : List ℕ) → length h ≡ 9 → get_or h 0 0 ≡ 2 → lba ≡ take 8 (drop 1 h) → 2 ∷ lba ≡ h
mend_is h lba l e is = rw (is, last_of 1 8 h l, ← e) (first_of h (omega arith))

-- event, which and LBA
pub strike_is : (h lba : List ℕ) (which : ℕ) → length h ≡ 10 → get_or h 0 0 ≡ 1 → which ≡ get_or h 1 0 → lba ≡ take 8 (drop 2 h) → 1 ∷ which ∷ lba ≡ h
strike_is h lba which l e w is =
    rw (is, last_of 2 8 h l, w) (ap (λ k. k ∷ get_or h 1 0 ∷ drop 2 h) (sym e) ∙ first_two h (omega arith))

-- what is expected fits
pub has_expected : (version : Version) (h : List ℕ) (expected : Option ℕ) → expected ≡ expected_in version h → is_expectable expected ≡ true → HasExpected version expected
has_expected One h expected e t = e
has_expected Two h None e t = cc
has_expected Two h (Some n) e t = leb-true n 2097152 t
