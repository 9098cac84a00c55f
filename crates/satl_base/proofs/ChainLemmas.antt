-- Lists that are walked.
use Rattle.std.proofs.Common.{◌≡◌, ℕ, zero, suc, ◌+◌, List, [], ◌∷◌, ◌≤◌, take, drop, reverse, set, length, ◌++◌, refl, sym, ◌∙◌, ap, add-one, arith}
use Rattle.std.proofs.lemmas.List.{append_assoc, length-reverse, length-append, length-take-le, reverse-append, reverse-reverse, append-nil, set-append_right, nil_from_length, take-append-drop}
use Rattle.std.proofs.Math.Seq.{drop-append_seam, take-append_seam}

pub drop_one : {X : Type 0} (n : ℕ) (xs : List X) → drop 1 (drop n xs) ≡ drop (n + 1) xs
drop_one zero xs = refl
drop_one (suc n) [] = rw (add-one (suc n)) refl
drop_one (suc n) (x ∷ xs) = rw (add-one (suc n)) (drop_one n xs ∙ rw (add-one n) refl)

-- a chain that is walked, written at and walked back
pub written : {X : Type 0} (xs front rest after back kept : List X) (i : ℕ) (v : X) → reverse front ++ rest ≡ xs → length front ≡ i → after ≡ set rest 0 v → reverse kept ++ back ≡ reverse after ++ front → length kept ≡ length after + i → kept ≡ set xs i v
written xs front rest after back kept i v walked count after_is back_walked kept_count =
    let lengths : length (reverse kept ++ back) ≡ length (reverse after ++ front) = ap length back_walked in
    let none : back ≡ [] = nil_from_length back (omega (arith, lengths, length-append (reverse kept) back, length-append (reverse after) front, length-reverse kept, length-reverse after)) in
    let turned : reverse kept ≡ reverse after ++ front = sym (append-nil (reverse kept)) ∙ ap (λ l. reverse kept ++ l) (sym none) ∙ back_walked in
    let kept_is : kept ≡ reverse front ++ after = sym (reverse-reverse kept) ∙ ap reverse turned ∙ reverse-append (reverse after) front ∙ ap (λ l. reverse front ++ l) (reverse-reverse after) in
    let places : length (reverse front) ≡ i = length-reverse front ∙ count in
    kept_is ∙ ap (λ l. reverse front ++ l) after_is ∙ ap (λ k. reverse front ++ set rest k v) (omega arith) ∙ sym (set-append_right (reverse front) rest i i v places (omega arith)) ∙ ap (λ l. set l i v) walked

-- a chain whose first n were put before another's, one by one: where the walk is cut
pub cut_at : {X : Type 0} (from onto from' onto' : List X) (n : ℕ) → reverse onto' ++ from' ≡ reverse onto ++ from → reverse onto' ++ from' ≡ (reverse onto ++ take n from) ++ drop n from
cut_at from onto from' onto' n same = same ∙ ap (λ l. reverse onto ++ l) (sym (take-append-drop n from)) ∙ sym (append_assoc (reverse onto) (take n from) (drop n from))

-- and how long the front is
pub front_length : {X : Type 0} (from onto onto' : List X) (n : ℕ) → length onto' ≡ length onto + n → n ≤ length from → length (reverse onto') ≡ length (reverse onto ++ take n from)
front_length from onto onto' n count enough = omega (arith, count, length-reverse onto', length-reverse onto, length-append (reverse onto) (take n from), length-take-le n from enough)

-- what was put before the other's comes first there, turned round
pub walked_off : {X : Type 0} (from onto from' onto' : List X) (n : ℕ) → reverse onto' ++ from' ≡ reverse onto ++ from → length onto' ≡ length onto + n → n ≤ length from → onto' ≡ reverse (take n from) ++ onto
walked_off from onto from' onto' n same count enough =
    let front : reverse onto' ≡ reverse onto ++ take n from =
    sym (take-append_seam (reverse onto') from') ∙ ap (λ k. take k (reverse onto' ++ from')) (front_length from onto onto' n count enough)
    ∙ ap (λ l. take (length (reverse onto ++ take n from)) l) (cut_at from onto from' onto' n same) ∙ take-append_seam (reverse onto ++ take n from) (drop n from) in
    sym (reverse-reverse onto') ∙ ap reverse front ∙ reverse-append (reverse onto) (take n from) ∙ ap (λ l. reverse (take n from) ++ l) (reverse-reverse onto)

-- and the rest is left
pub walked_from : {X : Type 0} (from onto from' onto' : List X) (n : ℕ) → reverse onto' ++ from' ≡ reverse onto ++ from → length onto' ≡ length onto + n → n ≤ length from → from' ≡ drop n from
walked_from from onto from' onto' n same count enough =
    sym (drop-append_seam (reverse onto') from') ∙ ap (λ k. drop k (reverse onto' ++ from')) (front_length from onto onto' n count enough)
    ∙ ap (λ l. drop (length (reverse onto ++ take n from)) l) (cut_at from onto from' onto' n same) ∙ drop-append_seam (reverse onto ++ take n from) (drop n from)
