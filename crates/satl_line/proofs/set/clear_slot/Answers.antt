use Rattle.std.proofs.Common.{refl, sym, ap, arith, if◌then◌else◌}
use Rattle.std.proofs.lemmas.Bool.{eq-eqb, ne_eqb}
use Rattle.satl_line.specs.Layout.{clear_bit}
use Rattle.satl_line.proofs.AmongLemmas.{fewer_left}
use Rattle.satl_line.proofs.BarredLemmas.{clearing_begins, clearing_ends, clearing_more}
use Rattle.satl_line.proofs.set.clear_slot.Goals as goal

pub loop-rest-init : goal.loop-rest-init
loop-rest-init c =
    clearing_begins c.args.masks.now _ c.args.slot c.args.these c.args.barred _ c.requires.room c.requires.small c.have_64_bits.ensures refl refl c.requires.others c.requires.barred

pub loop-rest-smaller-then-mask-eq0 : goal.loop-rest-smaller-then-mask-eq0
loop-rest-smaller-then-mask-eq0 c = fewer_left c.loop-rest.rest c.lowest_slot-other.result c.lowest_slot-other.ensures.small c.lowest_slot-other.ensures.among

pub loop-rest-smaller : goal.loop-rest-smaller
loop-rest-smaller c = fewer_left c.loop-rest.rest c.lowest_slot-other.result c.lowest_slot-other.ensures.small c.lowest_slot-other.ensures.among

pub loop-rest-preserved-then-mask-eq0 : goal.loop-rest-preserved-then-mask-eq0
loop-rest-preserved-then-mask-eq0 c =
    clearing_more c.args.masks.now c.loop-rest.masks _ c.args.slot c.loop-rest.rest c.loop-rest.barred _ c.lowest_slot-other.result (clear_bit c.args.slot c.mask_at.result)
    c.lowest_slot-other.ensures.small c.lowest_slot-other.ensures.among (ap (clear_bit c.args.slot) c.mask_at.ensures.value) refl
    (sym (ap (λ b. if b then clear_bit c.lowest_slot-other.result c.loop-rest.barred else c.loop-rest.barred) (eq-eqb (clear_bit c.args.slot c.mask_at.result) 0 c.if-mask-eq0.true))) c.loop-rest.invariant

pub loop-rest-preserved : goal.loop-rest-preserved
loop-rest-preserved c =
    clearing_more c.args.masks.now c.loop-rest.masks _ c.args.slot c.loop-rest.rest c.loop-rest.barred _ c.lowest_slot-other.result (clear_bit c.args.slot c.mask_at.result)
    c.lowest_slot-other.ensures.small c.lowest_slot-other.ensures.among (ap (clear_bit c.args.slot) c.mask_at.ensures.value) refl
    (sym (ap (λ b. if b then clear_bit c.lowest_slot-other.result c.loop-rest.barred else c.loop-rest.barred) (ne_eqb (clear_bit c.args.slot c.mask_at.result) 0 c.if-mask-eq0.false))) c.loop-rest.invariant

pub returns-clause-cleared : goal.returns-clause-cleared
returns-clause-cleared c = clearing_ends c.args.masks.now c.loop-rest.masks c.args.slot c.loop-rest.rest c.loop-rest.barred c.requires.room (omega (arith, c.loop-rest-test.false)) c.loop-rest.invariant
