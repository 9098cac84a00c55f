use Rattle.std.proofs.Common.{◌≡◌, Some, arith, length, refl, sym, subst}
use Rattle.std.specs.Prelude.{slice_get}
use Rattle.std.proofs.lemmas.Result.{IfOk-weaker}
use Rattle.satl_audit.specs.Finishing.{AreTasks}
use Rattle.satl_audit.specs.Waiting.{Fits, Placed}
use Rattle.satl_audit.proofs.EndWithin.{both_at, fits_at, read_within, write_within}
use Rattle.satl_audit.proofs.EndLemmas.{flush_arm, other_arm, read_arm, write_arm}
use Rattle.satl_audit.proofs.SweptSectors.{if_both}
use Rattle.satl_audit.proofs.TurnLemmas.{tasks_left}
use Rattle.satl_audit.proofs.finishing.end_task.Goals as goal
use Rattle.satl_audit.proofs.finishing.end_task.Goals.{After-remove}

-- ---- the task that is taken off

abbrev task : After-remove → Placed
task c = record { entry = c.entry-entry.result.now; at = c.data_at-at.result }

found : (c : After-remove) → slice_get c.args.followed.now.waiting c.in-Some.place ≡ Some (task c)
found c = both_at (slice_get c.args.followed.now.waiting c.in-Some.place) c.entry-entry.result.now c.data_at-at.result c.entry-entry.ensures c.data_at-at.ensures

fits : (c : After-remove) → Fits c.args.identity.now.capacity (length c.args.input.now) (task c)
fits c = fits_at c.args.identity.now c.args.input.now c.args.followed.now.waiting c.in-Some.place (task c) c.requires.tasks (found c)

-- the others are left
others : (c : After-remove) → AreTasks c.args.identity.now c.args.input.now c.remove.new.self
others c = subst (AreTasks c.args.identity.now c.args.input.now) (sym c.remove.ensures) (tasks_left c.args.identity.now c.args.input.now c.args.followed.now.waiting c.in-Some.place (task c) c.requires.tasks (found c))

-- ---- goals

pub returns-in_default-clause-ends : goal.returns-in_default-clause-ends
returns-in_default-clause-ends c = λ reply deed new left done whole said.
    let o = c.in_default.ensures.only c.args.identity.now c.args.input.now reply deed new left c.requires.tasks done said in
    let found = o.1 in
    absurd cc

pub read_ends-requires-clause-within : goal.read_ends-requires-clause-within
read_ends-requires-clause-within c =
    let w = read_within _ _ _ (fits (goal.at.read_ends-requires-clause-within c).After-remove) c.in-Read.form c.in-Read.lba c.in-Read.count c.in-Read.fua c.in-Read.is in
    omega (arith, w, c.requires.sectors)

pub read_ends-requires-clause-small : goal.read_ends-requires-clause-small
read_ends-requires-clause-small c =
    let w = read_within _ _ _ (fits (goal.at.read_ends-requires-clause-small c).After-remove) c.in-Read.form c.in-Read.lba c.in-Read.count c.in-Read.fua c.in-Read.is in
    omega (arith, w, c.requires.capacity)

pub write_ends-requires-clause-within : goal.write_ends-requires-clause-within
write_ends-requires-clause-within c =
    let w = write_within _ _ _ (fits (goal.at.write_ends-requires-clause-within c).After-remove) c.in-Write.form c.in-Write.lba c.in-Write.count c.in-Write.fua c.in-Write.is in
    omega (arith, w.0, c.requires.sectors)

pub write_ends-requires-clause-small : goal.write_ends-requires-clause-small
write_ends-requires-clause-small c =
    let w = write_within _ _ _ (fits (goal.at.write_ends-requires-clause-small c).After-remove) c.in-Write.form c.in-Write.lba c.in-Write.count c.in-Write.fua c.in-Write.is in
    omega (arith, w.0, c.requires.capacity)

pub write_ends-requires-clause-room : goal.write_ends-requires-clause-room
write_ends-requires-clause-room c =
    let w = write_within _ _ _ (fits (goal.at.write_ends-requires-clause-room c).After-remove) c.in-Write.form c.in-Write.lba c.in-Write.count c.in-Write.fua c.in-Write.is in
    omega (arith, w.1, c.requires.small)

pub returns-in_default-command-clause-ends : goal.returns-in_default-command-clause-ends
returns-in_default-command-clause-ends c =
    let r = (goal.at.returns-in_default-command-clause-ends c).After-remove in
    other_arm c.args.identity.now c.args.input.now c.args.followed.now c.in-Some.place (task r) c.requires.tasks (found r) c.in-Some.ensures.eligible c.in-Some.ensures.only c.remove.new.self c.args.followed.now.output c.remove.ensures c.args.sectors.now c.args.sectors.now refl
    c.in_default-command.not-Read c.in_default-command.not-Write c.in_default-command.not-Flush

pub returns-in_default-command-clause-tasks : goal.returns-in_default-command-clause-tasks
returns-in_default-command-clause-tasks c = others (goal.at.returns-in_default-command-clause-tasks c).After-remove

pub returns-in-Read-clause-ends : goal.returns-in-Read-clause-ends
returns-in-Read-clause-ends c =
    let r = (goal.at.returns-in-Read-clause-ends c).After-remove in
    IfOk-weaker c.read_ends.result _ _
    (read_arm c.args.identity.now c.args.input.now c.args.followed.now c.in-Some.place (task r) c.requires.tasks (found r) c.in-Some.ensures.eligible c.in-Some.ensures.only c.remove.new.self c.read_ends.new.output c.remove.ensures c.args.sectors.now c.read_ends.new.sectors c.read_ends.ensures.length c.in-Read.form c.in-Read.lba c.in-Read.count c.in-Read.fua c.in-Read.is)
    c.read_ends.ensures.reads

pub returns-in-Write-clause-ends : goal.returns-in-Write-clause-ends
returns-in-Write-clause-ends c =
    let r = (goal.at.returns-in-Write-clause-ends c).After-remove in
    IfOk-weaker c.write_ends.result _ _
    (write_arm c.args.identity.now c.args.input.now c.args.followed.now c.in-Some.place (task r) c.requires.tasks (found r) c.in-Some.ensures.eligible c.in-Some.ensures.only c.remove.new.self c.write_ends.new.output c.remove.ensures c.args.sectors.now c.write_ends.new.sectors c.write_ends.ensures.length c.in-Write.form c.in-Write.lba c.in-Write.count c.in-Write.fua c.in-Write.is c.is_cached.result c.is_cached.ensures)
    (c.write_ends.ensures.writes c.args.input.now)

pub returns-in-Flush-clause-ends : goal.returns-in-Flush-clause-ends
returns-in-Flush-clause-ends c =
    let r = (goal.at.returns-in-Flush-clause-ends c).After-remove in
    if_both c.flush_ends.result _ _ _ c.flush_ends.ensures.flushes c.flush_ends.ensures.length
    (λ b flushes same. flush_arm c.args.identity.now c.args.input.now c.args.followed.now c.in-Some.place (task r) c.requires.tasks (found r) c.in-Some.ensures.eligible c.in-Some.ensures.only c.remove.new.self c.flush_ends.new.output c.remove.ensures c.args.sectors.now c.flush_ends.new.sectors same c.in-Flush.form c.in-Flush.lba c.in-Flush.count c.in-Flush.is b flushes)

pub returns-in-Read-clause-tasks : goal.returns-in-Read-clause-tasks
returns-in-Read-clause-tasks c = others (goal.at.returns-in-Read-clause-tasks c).After-remove

pub returns-in-Write-clause-tasks : goal.returns-in-Write-clause-tasks
returns-in-Write-clause-tasks c = others (goal.at.returns-in-Write-clause-tasks c).After-remove

pub returns-in-Flush-clause-tasks : goal.returns-in-Flush-clause-tasks
returns-in-Flush-clause-tasks c = others (goal.at.returns-in-Flush-clause-tasks c).After-remove
