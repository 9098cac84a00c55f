use Rattle.std.proofs.Common.{ap, get_or, refl, subst, ◌<◌, ◌^◌, ◌∙◌}
use Rattle.std.specs.Prelude.{◌==◌}
use Rattle.satl_line.proofs.SlotsLemmas.{eligible_is, slot_read}
use Rattle.satl_line.proofs.set.TaskSet.eligible.Goals as goal

pub returns : goal.returns
returns c =
    let order = c.self.inside.order in
    let masks = c.self.inside.masks in
    let read = slot_read c.self.inside.slots.items order c.args.self.now c.args.place c.at.result c.self.view_is c.requires c.at.ensures in
    ap (λ v. v == 0) (c.mask_at.ensures.value ∙ ap (λ q. get_or masks q 0) read)
    ∙ eligible_is c.self.inside.slots.items order order masks c.args.self.now c.args.place refl c.self.view_is
    c.self.invariant.0.taken c.self.invariant.0.masked (subst (λ q. get_or masks q 0 < 2 ^ 64) read c.mask_at.ensures.fits) c.requires
