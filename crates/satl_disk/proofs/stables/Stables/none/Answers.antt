use Rattle.std.proofs.Common.{◌≡◌, ℕ, Bool, List, Option, None, arith, ap, length, sym, subst, ◌∙◌}
use Rattle.std.specs.List.{AllZip}
use Rattle.std.proofs.lemmas.List.{length-replicate}
use Rattle.satl_base.specs.Blocks.{zero_block}
use Rattle.satl_base.specs.Lists.{paired}
use Rattle.satl_disk.specs.Layout.{HasSlot, stable_of}
use Rattle.satl_disk.proofs.StablesLemmas.{clean_have, clean_stables}
use Rattle.satl_disk.proofs.stables.Stables.none.Goals as goal

pub invariant_of-result : goal.invariant_of-result
invariant_of-result c =
    let n = c.args.number in
    let none : Option ℕ = None in
    let slots : n ≡ length c.in_ok-none-2.field-0 = omega (arith, ap length c.in_ok-none-2.ensures, length-replicate n none) in
    let sizes : length c.in_ok-zeros.field-0 ≡ length c.in_ok-none-2.field-0 = omega (arith, slots, ap length c.in_ok-zeros.ensures, length-replicate n zero_block) in
    (subst (λ (ds : List Bool). AllZip HasSlot ds c.in_ok-none-2.field-0) (sym c.in_ok-none.ensures) (clean_have c.in_ok-none-2.field-0 n slots), sizes)

pub returns : goal.returns
returns c =
    let n = c.args.number in
    let none : Option ℕ = None in
    let slots : n ≡ length c.in_ok-none-2.field-0 = omega (arith, ap length c.in_ok-none-2.ensures, length-replicate n none) in
    ap (λ (ds : List Bool). paired (stable_of c.in_ok-zeros.field-0) ds c.in_ok-none-2.field-0) c.in_ok-none.ensures
    ∙ clean_stables c.in_ok-zeros.field-0 c.in_ok-none-2.field-0 n slots
