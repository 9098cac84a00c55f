use Rattle.std.proofs.Common.{◌≡◌, ℕ, ◌+◌, ◌-◌, ◌*◌, ◌++◌, ◌∙◌, List, ap, sym, length, take, drop, replicate, append_assoc, arith}
use Rattle.std.proofs.lemmas.List.{drop-drop, length-drop, length-take-le}
use borrow.Rule.Slice.PartMut.{put_mid}
use Rattle.satl_frame.specs.DataPages.{page_count}
use Rattle.satl_base.specs.Blocks.{zero_bytes}
use Rattle.satl_frame.proofs.refill.blank_rest.Goals as goal

-- zeros from a place on up to another one
blanked : (a e : ℕ) (old part : List ℕ) → a + (e - a) ≡ e → part ≡ replicate (e - a) 0 → put_mid a (e - a) old part ≡ (take a old ++ zero_bytes (e - a)) ++ drop e old
blanked a e old part all is =
    let behind : drop (e - a) (drop a old) ≡ drop e old = drop-drop (e - a) a old ∙ ap (λ k. drop k old) all in
    ap (λ ys. take a old ++ (ys ++ drop (e - a) (drop a old))) is ∙ ap (λ ys. take a old ++ (replicate (e - a) 0 ++ ys)) behind
    ∙ sym (append_assoc (take a old) (replicate (e - a) 0) (drop e old))

pub returns : goal.returns
returns c =
    let pages : c.div_ceil.result ≡ page_count c.args.count = omega (arith, c.div_ceil.ensures) in
    let old = c.args.buffer.now in
    let count = c.args.count in
    let k : ℕ = 512 * c.div_ceil.result - count in
    let sum : count + (512 * c.div_ceil.result - count) ≡ 512 * c.div_ceil.result = omega (arith, pages) in
    let long : length (take k (drop count old)) ≡ k = length-take-le k (drop count old) (omega (arith, length-drop count old, c.told-buffer)) in
    blanked count (512 * c.div_ceil.result) old c.fill.new.self sum (c.fill.ensures.after (λ y e. e) ∙ ap (λ n. replicate n 0) long)
    ∙ ap (λ n. (take count old ++ zero_bytes (512 * n - count)) ++ drop (512 * n) old) pages
