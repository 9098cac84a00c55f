use Rattle.std.proofs.Common.{◌∙◌, ℕ, List, Bool, ap, length, sym, subst, arith, false, rules}
use Rattle.std.specs.Prelude.{replicate}
use Rattle.std.proofs.lemmas.List.{length-replicate}
use Rattle.satl_base.specs.Lists.{paired}
use Rattle.satl_disk.specs.Layout.{AreSlots, slot_given}
use Rattle.satl_disk.proofs.StablesLemmas.{empty_slots, paired-replicate}
use Rattle.satl_disk.proofs.slots.Slots.none.Goals as goal

pub returns : goal.returns
returns c =
    ap (λ (g : List Bool). paired slot_given g c.in_ok-vec.field-0.items) c.in_ok-none.ensures
    ∙ ap (paired slot_given (replicate c.args.number false)) (c.in_ok-vec.ensures.items_if_clones_equal (λ y same. search rules))
    ∙ paired-replicate slot_given false 0 c.args.number

pub invariant_of-result : goal.invariant_of-result
invariant_of-result c =
    let none : Bool = false in
    let zero_slot : ℕ = 0 in (
      ap length c.in_ok-none.ensures ∙ length-replicate c.args.number none ∙ sym (ap length (c.in_ok-vec.ensures.items_if_clones_equal (λ y same. search rules)) ∙ length-replicate c.args.number zero_slot),
      subst (AreSlots 0) (sym (returns c)) (empty_slots c.args.number (omega arith)),
    )
