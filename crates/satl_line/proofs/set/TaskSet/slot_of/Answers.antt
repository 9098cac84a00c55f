use Rattle.std.proofs.Common.{Some, ap, sym, ◌∙◌, arith, length, ◌≡◌}
use Rattle.std.specs.Prelude.{slice_get}
use Rattle.satl_line.specs.Tasks.{slots_of}
use Rattle.std.proofs.lemmas.List.{length-map}
use Rattle.std.proofs.lemmas.Option.{slice_get-get_or}
use Rattle.satl_line.proofs.SlotsLemmas.{slots_of_tasks, slot_alone, slot_read}
use Rattle.satl_line.proofs.set.TaskSet.slot_of.Goals as goal

pub returns-clause-value : goal.returns-clause-value
returns-clause-value c =
    let same : slots_of c.args.self.now ≡ c.self.inside.order = ap slots_of (sym c.self.view_is) ∙ slots_of_tasks c.self.inside.slots.items c.self.inside.order in
    ap (λ l. slice_get l c.args.place) same ∙ slice_get-get_or c.self.inside.order c.args.place 0 (omega (arith, ap length same, length-map c.args.self.now (λ held. held.slot), c.requires))
    ∙ ap Some (sym (slot_read c.self.inside.slots.items c.self.inside.order c.args.self.now c.args.place c.at.result c.self.view_is c.requires c.at.ensures))

pub returns-clause-small : goal.returns-clause-small
returns-clause-small c =
    (slot_alone _ c.args.self.now c.args.place c.at.result c.self.invariant.0 c.self.view_is c.requires c.at.ensures).0

pub returns-clause-alone : goal.returns-clause-alone
returns-clause-alone c =
    (slot_alone _ c.args.self.now c.args.place c.at.result c.self.invariant.0 c.self.view_is c.requires c.at.ensures).1
