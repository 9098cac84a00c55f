use Rattle.std.proofs.Common.{arith, ap, ◌∙◌, Some}
use Rattle.std.specs.Prelude.{option_map}
use Rattle.std.specs.Option.{option_copied}
use Rattle.satl_disk.specs.Layout.{block_at}
use Rattle.satl_disk.proofs.StablesLemmas.{clean_none, dirties_are, dirty_some, stables_are}
use Rattle.satl_disk.proofs.stables.Stables.get.Goals as goal

pub has-requires : goal.has-requires
has-requires c =
    let i = c.self.inside in
    omega (arith, dirties_are i.kept i.dirty i.slots c.self.view_is c.self.invariant, c.requires)

pub returns-then-not-has : goal.returns-then-not-has
returns-then-not-has c =
    let i = c.self.inside in
    clean_none i.kept i.dirty i.slots c.self.view_is c.self.invariant c.args.place c.requires c.has.ensures c.if-not-has.true

pub get-requires : goal.get-requires
get-requires c =
    let i = c.self.inside in
    omega (arith, stables_are i.kept i.dirty i.slots c.self.view_is c.self.invariant, c.requires)

pub returns-in_err-slot : goal.returns-in_err-slot
returns-in_err-slot c =
    let i = c.self.inside in
    ap option_copied c.from_residual.ensures
    ∙ ap (option_map (block_at i.kept)) c.in_err-slot.ensures.slot
    ∙ dirty_some i.kept i.dirty i.slots c.self.view_is c.self.invariant c.args.place c.requires c.has.ensures c.if-not-has.false

pub at-requires : goal.at-requires
at-requires c =
    let i = c.self.inside in
    omega (arith, c.in_ok-slot.ensures.within, c.self.invariant.1)

pub returns : goal.returns
returns c =
    let i = c.self.inside in
    ap Some c.at.ensures
    ∙ ap (option_map (block_at i.kept)) c.in_ok-slot.ensures.slot
    ∙ dirty_some i.kept i.dirty i.slots c.self.view_is c.self.invariant c.args.place c.requires c.has.ensures c.if-not-has.false
