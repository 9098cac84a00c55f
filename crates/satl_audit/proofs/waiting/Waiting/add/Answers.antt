use Rattle.std.proofs.Common.{arith, ap, ◌∙◌, subst, List, Bool, ◌≡◌}
use Rattle.std.specs.Prelude.{not, slice_get, Some}
use Rattle.satl_line.specs.Tasks.{slots_of}
use Rattle.satl_audit.specs.Waiting.{Placed, has_no_room}
use Rattle.satl_audit.proofs.WaitingLemmas.{placed_last, room_same}
use Rattle.satl_audit.proofs.waiting.Waiting.add.Goals as goal

pub returns-in_default-clause-room : goal.returns-in_default-clause-room
returns-in_default-clause-room c =
    ap (λ (b : Bool). not b) (c.in_default.ensures.full ∙ room_same c.self.inside.places c.self.inside.tasks c.args.entry ∙ ap (λ (l : List Placed). has_no_room l c.args.entry.blocks) c.self.view_is)

pub returns-clause-room : goal.returns-clause-room
returns-clause-room c =
    ap (λ (b : Bool). not b) (c.in-Ok.ensures.full ∙ room_same c.self.inside.places c.self.inside.tasks c.args.entry ∙ ap (λ (l : List Placed). has_no_room l c.args.entry.blocks) c.self.view_is)

pub returns-clause-added : goal.returns-clause-added
returns-clause-added c = λ _.
    placed_last c.self.inside.places c.self.inside.tasks c.add.new.self c.args.self.now c.args.entry c.slot_of-slot.result c.args.at c.self.view_is c.in-Ok.ensures.ok
    (subst (λ n. slice_get (slots_of c.add.new.self) n ≡ Some c.slot_of-slot.result) c.len-place.ensures.value c.slot_of-slot.ensures.value)
    (omega (arith, c.slot_of-slot.ensures.small, c.self.told))
