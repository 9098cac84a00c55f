-- A part of some places: as one comes behind it, as one leaves, and as it moves to the front.
use Rattle.std.proofs.Common.{◌≡◌, ℕ, ◌+◌, ◌-◌, ◌<◌, ◌≤◌, ◌∙◌, ap, sym, subst, zero-add, arith, rules}
use Rattle.std.proofs.Common.{List, [], ◌∷◌, ◌++◌, length, take, drop, get_or, remove, slice_range, slice_set}
use Rattle.std.proofs.lemmas.List.{length-drop, take_at, drop-set-add, take_more_set}
use Rattle.std.proofs.lemmas.List.Edits.{length-remove, take-paste}
use Rattle.std.proofs.lemmas.Slice.{between_from_start, put_mid-rotated}
use Rattle.std.specs.List.{copy_within}
use borrow.Rule.Slice.PartMut.{put_mid, mid_of}

-- it moves to the front
pub part-at_front : {X : Type 0} (xs : List X) (a b : ℕ) → a ≤ b → b ≤ length xs
    → slice_range (copy_within xs a b 0) 0 (b - a) ≡ slice_range xs a b
part-at_front xs a b within inside =
    let n = b - a in
    between_from_start (copy_within xs a b 0) n
    ∙ ap (λ m. take m (copy_within xs a b 0)) (sym (zero-add n))
    ∙ take-paste xs 0 (drop a xs) n (omega arith) (omega (arith, length-drop a xs, inside))

-- one comes behind it
pub part-pushed : {X : Type 0} (xs : List X) (a b : ℕ) (x : X) → a ≤ b → b < length xs
    → slice_range (slice_set xs b x) a (b + 1) ≡ slice_range xs a b ++ x ∷ []
part-pushed xs a b x within room =
    let n = b - a in
    let at : b ≡ a + n = omega (arith, within) in
    let longer : b + 1 - a ≡ n + 1 = omega (arith, within) in
    let set_behind = subst (λ m. drop a (slice_set xs m x) ≡ slice_set (drop a xs) n x) (sym at) (drop-set-add a xs n x) in
    ap (λ m. take m (drop a (slice_set xs b x))) longer ∙ ap (take (n + 1)) set_behind
    ∙ take_more_set (drop a xs) n x (omega (arith, length-drop a xs, room, within))

-- the one at a place was taken behind all others
pub gap-closed : {X : Type 0} (xs ys : List X) (a : ℕ) → a < length xs
    → ys ≡ drop 1 (mid_of a (length xs - a) xs) ++ take 1 (mid_of a (length xs - a) xs)
    → take (length xs - 1) (put_mid a (length xs - a) xs ys) ≡ remove xs a
gap-closed [] ys a within rotated = search rules
gap-closed (x ∷ xs) ys a within rotated =
    let all = x ∷ xs in
    let fewer : length (remove all a) ≡ length all - 1 = omega (arith, length-remove all a within) in
    ap (take (length all - 1)) (put_mid-rotated a (length all - a) all ys x within (omega (arith, within)) rotated)
    ∙ take_at (remove all a) (get_or all a x ∷ []) (length all - 1) fewer
