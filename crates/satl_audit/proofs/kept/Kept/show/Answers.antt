use Rattle.std.proofs.Common.{sym, ap, ◌∙◌}
use Rattle.std.specs.Prelude.{is_some}
use Rattle.std.specs.List.{list_any}
use Rattle.satl_audit.specs.Kept.{known_sector, or_alone}
use Rattle.std.specs.Prelude.{Some}
use Rattle.satl_audit.proofs.KeptShow.{shows_as, shows_none, shows_some}
use Rattle.satl_audit.proofs.kept.Kept.show.Goals as goal

pub returns-in-Some-find_block-clause-told : goal.returns-in-Some-find_block-clause-told
returns-in-Some-find_block-clause-told c =
    ap is_some
    (sym (shows_some c.args.input.now c.args.given.now c.args.self.now c.self.inside.now c.self.inside.may.items c.in-Some-find_block.found (sym c.self.view_is) c.in_default.is
    (ap (list_any (shows_as c.args.input.now c.args.given.now)) (sym c.deref.ensures.value) ∙ sym c.in-Some-find_block.ensures.variant) c.in-Some-find_block.ensures.found))

pub returns-in-Some-find_block-clause-sector : goal.returns-in-Some-find_block-clause-sector
returns-in-Some-find_block-clause-sector c =
    λ _.
    shows_some c.args.input.now c.args.given.now c.args.self.now c.self.inside.now c.self.inside.may.items c.in-Some-find_block.found (sym c.self.view_is) c.in_default.is
    (ap (list_any (shows_as c.args.input.now c.args.given.now)) (sym c.deref.ensures.value) ∙ sym c.in-Some-find_block.ensures.variant) c.in-Some-find_block.ensures.found
    ∙ ap (λ items. Some (known_sector c.args.input.now (record { now = Some c.in-Some-find_block.found; may = or_alone (Some c.in-Some-find_block.found) items }))) (sym c.clear.ensures.items)

pub returns-in-None-clause-told : goal.returns-in-None-clause-told
returns-in-None-clause-told c =
    sym (shows_none c.args.input.now c.args.given.now c.args.self.now c.self.inside.now c.self.inside.may.items (sym c.self.view_is) c.in_default.is
    (ap (list_any (shows_as c.args.input.now c.args.given.now)) (sym c.deref.ensures.value) ∙ sym c.in-None.ensures.variant))
