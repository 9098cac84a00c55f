use Rattle.std.proofs.Common.{arith, ap, refl, ◌∙◌, ◌≡◌, None, Option, List, length}
use Rattle.std.specs.Prelude.{replicate}
use Rattle.std.proofs.lemmas.List.{length-replicate}
use Rattle.std.proofs.lemmas.List.Elements.{All-replicate, All-same}
use Rattle.satl_base.specs.declared.block.Block.{Block}
use Rattle.satl_base.specs.Blocks.{zero_block}
use Rattle.satl_disk.specs.declared.sectors.Flaws.{Flaws}
use Rattle.satl_disk.specs.Layout.{no_flaws, sector_of, zipped}
use Rattle.satl_disk.proofs.LayoutLemmas.{zipped-replicate}
use Rattle.satl_disk.proofs.sectors.Sectors.blank.Goals as goal

pub invariant_of-result : goal.invariant_of-result
invariant_of-result c =
    let n = c.args.number in
    let none : Option Block = None in
    let blocks : length c.in_ok-zeros.field-0 ≡ n = ap length c.in_ok-zeros.ensures ∙ length-replicate n zero_block in
    let stables : length c.in_ok-none.field-0 ≡ n = ap length c.in_ok-none.ensures ∙ length-replicate n none in
    let flaws : length c.in_ok-vec.field-0.items ≡ n = omega (arith, c.in_ok-vec.ensures.len, c.in_ok-vec.field-0.ok.0) in
    let is_none : Flaws → Type 0 = λ f. f ≡ no_flaws in
    let all : c.in_ok-vec.field-0.items ≡ replicate n no_flaws = c.in_ok-vec.ensures.items_if_clones_equal (λ y same. same) in
    (omega (arith, blocks, flaws), omega (arith, stables, flaws), λ never. All-same is_none c.in_ok-vec.field-0.items (replicate n no_flaws) all (All-replicate is_none n no_flaws refl))

pub returns : goal.returns
returns c =
    let n = c.args.number in
    let none : Option Block = None in
    ap (λ (bs : List Block). zipped sector_of bs c.in_ok-none.field-0 c.in_ok-vec.field-0.items) c.in_ok-zeros.ensures
    ∙ ap (λ (os : List (Option Block)). zipped sector_of (replicate n zero_block) os c.in_ok-vec.field-0.items) c.in_ok-none.ensures
    ∙ ap (λ (fs : List Flaws). zipped sector_of (replicate n zero_block) (replicate n none) fs) (c.in_ok-vec.ensures.items_if_clones_equal (λ y same. same))
    ∙ zipped-replicate sector_of zero_block none no_flaws n
