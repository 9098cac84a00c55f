-- Entries and the numbers of a payload.
use Rattle.std.proofs.Common.{◌≡◌, ℕ, zero, suc, ◌+◌, ◌-◌, ◌*◌, ◌/◌, ◌%◌, ◌^◌, ◌<◌, ◌≤◌, true, false, cond, List, [], ◌∷◌, ◌++◌, length, take, drop, map, get_or, refl, sym, ap, ◌∙◌, arith, append_assoc, length-append, length-take, eqb, inl, inr}
use Rattle.std.proofs.lemmas.Bool.{eqb-true, eqb-false, cases_lt}
use Rattle.std.specs.List.{filter, AllByRecursion}
use Rattle.std.proofs.lemmas.List.{append-nil, drop-drop, take_at, drop_at, drop-replicate}
use Rattle.std.proofs.lemmas.List.Concat.{flat_map-cons}
use Rattle.byteorder.specs.Endian.{little_bytes, little_number}
use Rattle.byteorder.specs.Numbers.{little_from-take, little_number-reads_back}
use Rattle.satl_base.specs.declared.block.Range.{Range}
use Rattle.satl_regs.specs.Trim.{entry_number, trim_entry, split, entries, payload, padded_bytes, numbers, trimmed, IsTrimmable, FitsEntry}
use Rattle.satl_base.specs.Blocks.{zero_bytes, is_used}

pub entries_room : (rs : List Range) (i : ℕ) (d : Range) → i < length rs → length (entries (take i rs)) + length (split (get_or rs i d)) ≤ length (entries rs)
entries_room [] i d h = absurd (omega (arith, h))
entries_room (r ∷ rs) zero d h = rw flat_map-cons (omega (arith, length-append (split r) (entries rs)))
entries_room (r ∷ rs) (suc i) d h =
    let ih = entries_room rs i d (omega (arith, h)) in
    rw (flat_map-cons split r rs, flat_map-cons split r (take i rs)) (omega (arith, ih, length-append (split r) (entries rs), length-append (split r) (entries (take i rs))))

-- what is left of a block is read
abbrev pub rest_of : ℕ → List ℕ → List Range
rest_of i block = filter is_used (map trim_entry (numbers (64 - i) (drop (8 * i) block)))

pub starts : (block : List ℕ) → rest_of 0 block ≡ trimmed block
unfolding trimmed
starts block = refl

one_more : (n : ℕ) (bytes : List ℕ) → numbers (suc n) bytes ≡ little_number 8 bytes ∷ numbers n (drop 8 bytes)
unfolding numbers
one_more n bytes = ap (λ (w : ℕ). w ∷ numbers n (drop 8 bytes)) (little_from-take 0 8 8 bytes (omega arith))

filter_front : (r : Range) (rs : List Range) → filter is_used (r ∷ rs) ≡ filter is_used (r ∷ []) ++ filter is_used rs
filter_front r rs = elim (is_used r) as (λ b. cond b (r ∷ filter is_used rs) (filter is_used rs) ≡ cond b (r ∷ []) [] ++ filter is_used rs) [ true ↦ refl | false ↦ refl ]

pub steps : (i : ℕ) (block : List ℕ) → i < 64 → rest_of i block ≡ filter is_used (trim_entry (little_number 8 (drop (8 * i) block)) ∷ []) ++ rest_of (i + 1) block
steps i block h =
    let k : 64 - i ≡ suc (64 - (i + 1)) = omega arith in
    let d : drop 8 (drop (8 * i) block) ≡ drop (8 * (i + 1)) block = drop-drop 8 (8 * i) block ∙ ap (λ (n : ℕ). drop n block) (omega arith) in
    let one : numbers (64 - i) (drop (8 * i) block) ≡ little_number 8 (drop (8 * i) block) ∷ numbers (64 - (i + 1)) (drop (8 * (i + 1)) block) =
    rw k (one_more (64 - (i + 1)) (drop (8 * i) block) ∙ ap (λ bs. little_number 8 (drop (8 * i) block) ∷ numbers (64 - (i + 1)) bs) d) in
    ap (λ (ws : List ℕ). filter is_used (map trim_entry ws)) one ∙ filter_front (trim_entry (little_number 8 (drop (8 * i) block))) (map trim_entry (numbers (64 - (i + 1)) (drop (8 * (i + 1)) block)))

pub ends : (i : ℕ) (block : List ℕ) → 64 ≤ i → rest_of i block ≡ []
unfolding numbers
ends i block h = let k : 64 - i ≡ 0 = omega arith in rw k refl

length_payload : (es : List Range) → length (payload es) ≡ 8 * length es
length_payload [] = refl
length_payload (r ∷ rs) = let ih = length_payload rs in omega (arith, ih)

pub put_next : (xs : List ℕ) (at w : ℕ) → length xs ≡ at → at + 8 ≤ 512 → take at (padded_bytes xs) ++ (little_bytes 8 w ++ drop (at + 8) (padded_bytes xs)) ≡ padded_bytes (xs ++ little_bytes 8 w)
put_next xs at w len room =
    let len' : length (xs ++ little_bytes 8 w) ≡ at + 8 = omega (arith, len, length-append xs (little_bytes 8 w)) in
    let t : take at (padded_bytes xs) ≡ xs = take_at xs (zero_bytes (512 - length xs)) at len in
    let d : drop (at + 8) (padded_bytes xs) ≡ zero_bytes (512 - length (xs ++ little_bytes 8 w)) =
    sym (drop-drop 8 at (padded_bytes xs)) ∙ ap (drop 8) (drop_at xs (zero_bytes (512 - length xs)) at len) ∙ drop-replicate 8 (512 - length xs) 0 ∙ ap (λ (n : ℕ). zero_bytes n) (omega (arith, len, len')) in
    rw (t, d) (sym (append_assoc xs (little_bytes 8 w) (zero_bytes (512 - length (xs ++ little_bytes 8 w)))))

-- ---- what is put is read

words_zero : (n : ℕ) → numbers n (zero_bytes (8 * n)) ≡ zero_bytes n
unfolding numbers
words_zero zero = refl
words_zero (suc n) = let e : 8 * suc n ≡ suc (suc (suc (suc (suc (suc (suc (suc (8 * n)))))))) = omega arith in rw e (ap (λ (ws : List ℕ). 0 ∷ ws) (words_zero n))

words_back : (es : List Range) (m : ℕ) → AllByRecursion FitsEntry es → numbers (length es + m) (payload es ++ zero_bytes (8 * m)) ≡ map entry_number es ++ zero_bytes m
words_back [] m f = let e : 0 + m ≡ m = omega arith in rw e (words_zero m)
words_back (r ∷ rs) m f =
    let n : suc (length rs) + m ≡ suc (length rs + m) = omega arith in
    let wide : entry_number r < 256 ^ 8 = omega (arith, f.0.0, f.0.1) in
    let front = little_number-reads_back 8 (entry_number r) (payload rs ++ zero_bytes (8 * m)) wide in
    rw n (one_more (length rs + m) (payload (r ∷ rs) ++ zero_bytes (8 * m)) ∙ rw front (ap (λ (ws : List ℕ). entry_number r ∷ ws) (words_back rs m f.1)))

unused : (m : ℕ) → filter is_used (map trim_entry (zero_bytes m)) ≡ []
unused zero = refl
unused (suc m) = unused m

range_back : (r : Range) → FitsEntry r → trim_entry (entry_number r) ≡ r
range_back r f =
    let l : entry_number r / 2 ^ 0 % 2 ^ 48 ≡ r.lba = omega (arith, f.0, f.1) in
    let c : entry_number r / 2 ^ 48 % 2 ^ 16 ≡ r.count = omega (arith, f.0, f.1) in
    rw (l, c) refl

kept : (es : List Range) (m : ℕ) → AllByRecursion FitsEntry es → filter is_used (map trim_entry (map entry_number es ++ zero_bytes m)) ≡ filter is_used es
kept [] m f = unused m
kept (r ∷ rs) m f =
    ap (λ (x : Range). filter is_used (x ∷ map trim_entry (map entry_number rs ++ zero_bytes m))) (range_back r f.0)
    ∙ filter_front r (map trim_entry (map entry_number rs ++ zero_bytes m))
    ∙ ap (λ (x : List Range). filter is_used (r ∷ []) ++ x) (kept rs m f.1)
    ∙ sym (filter_front r rs)

pub block_back : (es : List Range) → AllByRecursion FitsEntry es → length es ≤ 64 → trimmed (padded_bytes (payload es)) ≡ filter is_used es
unfolding trimmed
block_back es f room =
    let n : 64 ≡ length es + (64 - length es) = omega arith in
    let z : 512 - length (payload es) ≡ 8 * (64 - length es) = omega (arith, length_payload es) in
    ap (λ (k : ℕ). filter is_used (map trim_entry (numbers k (padded_bytes (payload es))))) n
    ∙ ap (λ (k : ℕ). filter is_used (map trim_entry (numbers (length es + (64 - length es)) (payload es ++ zero_bytes k)))) z
    ∙ ap (λ (ws : List ℕ). filter is_used (map trim_entry ws)) (words_back es (64 - length es) f)
    ∙ kept es (64 - length es) f

fits_append : (xs ys : List Range) → AllByRecursion FitsEntry xs → AllByRecursion FitsEntry ys → AllByRecursion FitsEntry (xs ++ ys)
fits_append [] ys f g = g
fits_append (x ∷ xs) ys f g = (f.0, fits_append xs ys f.1 g)

lt_of_le_ne : (a b : ℕ) → a ≤ b → (a ≡ b → ⊥) → a < b
lt_of_le_ne a b h n = elim (cases_lt a b) [ inl lt ↦ lt | inr ge ↦ absurd (n (omega arith)) ]

split_fits : (r : Range) → IsTrimmable r → AllByRecursion FitsEntry (split r)
split_fits r f =
    (elim (eqb r.count 65536) as (λ b. eqb r.count 65536 ≡ b → AllByRecursion FitsEntry (cond b (record { lba = r.lba; count = 65535 } ∷ record { lba = r.lba + 65535; count = 1 } ∷ []) (r ∷ []))) [
      | true ↦ λ e. let is : r.count ≡ 65536 = eqb-true _ _ e in ((f.lba, omega arith), ((omega (arith, f.within, is), omega arith), tt))
      | false ↦ λ e. let ne = eqb-false r.count 65536 e in ((f.lba, lt_of_le_ne r.count 65536 f.count ne), tt)
    ]) refl

pub entries_fit : (rs : List Range) → AllByRecursion IsTrimmable rs → AllByRecursion FitsEntry (entries rs)
entries_fit [] f = tt
entries_fit (r ∷ rs) f = rw flat_map-cons (fits_append (split r) (entries rs) (split_fits r f.0) (entries_fit rs f.1))

pub entries_past : (rs : List Range) (i : ℕ) (d : Range) → i < length rs → payload (take (i + 1) rs) ≡ payload (take i rs) ++ little_bytes 8 (entry_number (get_or rs i d))
entries_past [] i d h = absurd (omega (arith, h))
entries_past (r ∷ rs) zero d h = sym (append-nil (little_bytes 8 (entry_number r)))
entries_past (r ∷ rs) (suc i) d h =
    let k : suc i + 1 ≡ suc (i + 1) = omega arith in
    ap (λ (n : ℕ). payload (take n (r ∷ rs))) k ∙ ap (λ (x : List ℕ). little_bytes 8 (entry_number r) ++ x) (entries_past rs i d (omega (arith, h)))

-- a turn of the loop that writes
pub writes_next : (es : List Range) (place w : ℕ) (d : Range) (old new : List ℕ) → place < length es → length es ≤ 64 → old ≡ padded_bytes (payload (take place es)) → w ≡ entry_number (get_or es place d)
    → new ≡ take (8 * place) old ++ (little_bytes 8 w ++ drop (8 * place + 8) old) → new ≡ padded_bytes (payload (take (place + 1) es))
writes_next es place w d old new lt room is wis put =
    let len : length (payload (take place es)) ≡ 8 * place = omega (arith, length_payload (take place es), length-take place es) in
    put
    ∙ ap (λ (o : List ℕ). take (8 * place) o ++ (little_bytes 8 w ++ drop (8 * place + 8) o)) is
    ∙ put_next (payload (take place es)) (8 * place) w len (omega arith)
    ∙ ap (λ (x : ℕ). padded_bytes (payload (take place es) ++ little_bytes 8 x)) wis
    ∙ ap padded_bytes (sym (entries_past es place d lt))

-- a turn of the loop that reads
pub reads_next : (i : ℕ) (block : List ℕ) (r : Range) (out new : List Range) → i < 64 → r ≡ trim_entry (little_number 8 (drop (8 * i) block)) → new ≡ out ++ filter is_used (r ∷ []) → out ++ rest_of i block ≡ trimmed block
    → new ++ rest_of (i + 1) block ≡ trimmed block
reads_next i block r out new lt ris pushed so_far =
    ap (λ (x : List Range). x ++ rest_of (i + 1) block) pushed
    ∙ append_assoc out (filter is_used (r ∷ [])) (rest_of (i + 1) block)
    ∙ ap (λ (x : Range). out ++ (filter is_used (x ∷ []) ++ rest_of (i + 1) block)) ris
    ∙ ap (λ (x : List Range). out ++ x) (sym (steps i block lt))
    ∙ so_far

pub reads_all : (i : ℕ) (block : List ℕ) (out : List Range) → 64 ≤ i → out ++ rest_of i block ≡ trimmed block → out ≡ trimmed block
reads_all i block out ge so_far = sym (append-nil out) ∙ ap (λ (x : List Range). out ++ x) (sym (ends i block ge)) ∙ so_far
