use Rattle.std.proofs.Common.{◌≡◌, ℕ, List, [], ◌/◌, ◌∙◌, refl, ap, sym, arith, drop, length, get_or}
use Rattle.std.specs.Simd.{first_chunks}
use Rattle.satl_base.specs.Chains.{blocks_of}
use Rattle.satl_base.proofs.BlocksLemmas.{blocks_from-turned}
use Rattle.satl_base.proofs.ChainLemmas.{drop_one}
use Rattle.satl_base.proofs.chain.shift_filled.Goals as goal

pub loop-i-preserved : goal.loop-i-preserved
loop-i-preserved c =
    let i = c.loop-i.i in
    let bytes = c.args.bytes.now in
    let count = length bytes / 512 in
    let chunk : get_or c.as_chunks.result.0.now i [] ≡ get_or (first_chunks 512 count bytes) i [] = ap (λ chunks. get_or chunks i []) c.as_chunks.ensures.front in
    let block : c.deref_mut-in-loop-i.result.now.block ≡ record { bytes = get_or (first_chunks 512 count bytes) i [] } =
    ap (λ n. n.block) c.deref_mut-in-loop-i.ensures.value ∙ ap (λ (b : List ℕ). record { bytes = b }) chunk in
    let next : blocks_of c.replace-rest-in-loop-i.result ≡ blocks_of c.in-Some.node.value.next =
    ap blocks_of (c.replace-rest-in-loop-i.ensures.value ∙ ap (λ n. n.next) c.deref_mut-in-loop-i.ensures.value ∙ ap (λ n. n.next) c.deref_mut.ensures.value) in
    record {
      filled = rw (block, c.replace-rest-in-loop-i.ensures.after, c.loop-i.invariant.filled, blocks_from-turned i count bytes (omega (arith, c.loop-i-test.true, c.requires.long))) refl;
      rest = next ∙ ap (drop 1) (sym c.in-Some.ensures ∙ c.loop-i.invariant.rest) ∙ drop_one i (blocks_of c.replace-rest.result);
      left = omega (arith, ap length next, ap length c.in-Some.ensures, c.loop-i.invariant.left);
    }
