use Rattle.std.proofs.Common.{sym, ap, subst}
use Rattle.std.specs.Prelude.{length, map}
use Rattle.std.specs.Option.{option_map}
use Rattle.satl_drive.specs.Queue.{IsPolled}
use Rattle.satl_flight.specs.Lending.{AreAlike, Lands, waiting, whole_tasks}
use Rattle.satl_flight.proofs.AlikeLemmas.{alike_lending, alike_tasks}
use Rattle.satl_flight.proofs.LaunchedLemmas.{lost_poll}
use Rattle.satl_flight.proofs.SettlingLemmas.{can_poll, done_lending, done_there, error_there, not_idle, read_there, settles_done, settles_failed, settles_lost_log}
use Rattle.satl_flight.proofs.flight.Flight.settle_one.Goals as goal

pub poll-requires : goal.poll-requires
poll-requires g c = can_poll _ _ _ c.requires.lending _ c.requires.tie

pub unreachable-requires : goal.unreachable-requires
unreachable-requires g c =
    let polled = subst (λ r. IsPolled (g.D.Drive.state c.args.drive.now) c.args.dma.now r c.poll.new.dma (g.D.Drive.state c.poll.new.self)) c.in-Ok-Idle.field-0-is c.in-Ok-Idle.ensures.ok in
    not_idle _ _ _ c.requires.tie c.requires.one polled.reports.none

pub land-place-requires-clause-lending : goal.land-place-requires-clause-lending
land-place-requires-clause-lending g c =
    let polled = subst (λ r. IsPolled (g.D.Drive.state c.args.drive.now) c.args.dma.now r c.poll.new.dma (g.D.Drive.state c.poll.new.self)) c.in-Ok-Done.field-0-is c.in-Ok-Done.ensures.ok in
    done_lending _ _ _ c.requires.lending _ c.requires.tie c.requires.fit c.in-Ok-Done.tag _ _ polled.reports

pub land-place-requires-clause-there : goal.land-place-requires-clause-there
land-place-requires-clause-there g c =
    let polled = subst (λ r. IsPolled (g.D.Drive.state c.args.drive.now) c.args.dma.now r c.poll.new.dma (g.D.Drive.state c.poll.new.self)) c.in-Ok-Done.field-0-is c.in-Ok-Done.ensures.ok in
    done_there _ _ _ c.requires.lending _ c.requires.tie c.requires.fit c.in-Ok-Done.tag _ _ polled.reports

pub returns-in-Ok-Done-clause-ok : goal.returns-in-Ok-Done-clause-ok
returns-in-Ok-Done-clause-ok g c =
    let polled = subst (λ r. IsPolled (g.D.Drive.state c.args.drive.now) c.args.dma.now r c.poll.new.dma (g.D.Drive.state c.poll.new.self)) c.in-Ok-Done.field-0-is c.in-Ok-Done.ensures.ok in
    settles_done _ _ _ c.requires.lending _ c.requires.tie c.requires.fit c.in-Ok-Done.tag c.land-place.result _ _ _ polled.reports c.land-place.ensures

pub returns-in-Ok-Done-clause-left : goal.returns-in-Ok-Done-clause-left
returns-in-Ok-Done-clause-left g c = record {
  done = c.land-place.ensures.landed;
  tag = c.in-Ok-Done.tag;
  found = c.land-place.ensures.found;
  left = c.land-place.ensures.left_is;
}

pub read_error-requires-clause-error : goal.read_error-requires-clause-error
read_error-requires-clause-error g c =
    let polled = subst (λ r. IsPolled (g.D.Drive.state c.args.drive.now) c.args.dma.now r c.poll.new.dma (g.D.Drive.state c.poll.new.self)) c.in-Ok-Error.field-0-is c.in-Ok-Error.ensures.ok in
    read_there _ _ _ c.requires.lending _ c.requires.tie c.requires.fit _ _ polled.reports

pub land-place-requires-in-Ok-clause-there : goal.land-place-requires-in-Ok-clause-there
land-place-requires-in-Ok-clause-there g c =
    let polled = subst (λ r. IsPolled (g.D.Drive.state c.args.drive.now) c.args.dma.now r c.poll.new.dma (g.D.Drive.state c.poll.new.self)) c.in-Ok-Error.field-0-is c.in-Ok-Error.ensures.ok in
    rw c.self.view_is (error_there _ _ _ c.requires.lending _ c.requires.tie c.requires.fit _ _ c.in-Ok.error polled.reports c.in-Ok.ensures.same)

pub returns-in-Ok-clause-ok : goal.returns-in-Ok-clause-ok
returns-in-Ok-clause-ok g c =
    let polled = subst (λ r. IsPolled (g.D.Drive.state c.args.drive.now) c.args.dma.now r c.poll.new.dma (g.D.Drive.state c.poll.new.self)) c.in-Ok-Error.field-0-is c.in-Ok-Error.ensures.ok in
    settles_failed _ _ _ c.requires.lending _ c.requires.tie c.requires.fit c.land-place-in-Ok.result _ _ _ c.in-Ok.error _ _ polled.reports c.in-Ok.ensures.same c.in-Ok.ensures.ok
    (subst (λ fs. Lands c.in-Ok.error.tag c.land-place-in-Ok.result (waiting fs c.poll.new.dma c.args.set.now) (waiting c.land-place-in-Ok.new.self c.land-place-in-Ok.new.dma c.land-place-in-Ok.new.set)) c.self.view_is c.land-place-in-Ok.ensures) c.land_all.ensures.none c.land_all.ensures.same c.land_all.ensures.lending

pub returns-in-Err-read_error-clause-err : goal.returns-in-Err-read_error-clause-err
returns-in-Err-read_error-clause-err g c =
    let polled = subst (λ r. IsPolled (g.D.Drive.state c.args.drive.now) c.args.dma.now r c.poll.new.dma (g.D.Drive.state c.poll.new.self)) c.in-Ok-Error.field-0-is c.in-Ok-Error.ensures.ok in
    settles_lost_log _ _ _ c.requires.lending _ c.requires.tie c.requires.fit _ _ _ polled.reports c.in-Err-read_error.ensures.err

pub returns-in-Err-clause-err : goal.returns-in-Err-clause-err
returns-in-Err-clause-err g c = lost_poll _ _ _ c.requires.tie _ _ _ c.in-Err.ensures.err

pub land_all-requires-in-Err : goal.land_all-requires-in-Err
land_all-requires-in-Err g c = alike_lending _ _ _ _ c.in-Err.ensures.err.room c.requires.lending

pub returns-in-Err-clause-alike : goal.returns-in-Err-clause-alike
returns-in-Err-clause-alike g c = subst (AreAlike (whole_tasks c.args.self.now c.args.dma.now c.args.set.now)) (sym c.land_all-in-Err.ensures.same) (alike_tasks _ _ _ c.args.set.now c.in-Err.ensures.err.room)

pub returns-in-Err-read_error-clause-alike : goal.returns-in-Err-read_error-clause-alike
returns-in-Err-read_error-clause-alike g c =
    let polled = subst (λ r. IsPolled (g.D.Drive.state c.args.drive.now) c.args.dma.now r c.poll.new.dma (g.D.Drive.state c.poll.new.self)) c.in-Ok-Error.field-0-is c.in-Ok-Error.ensures.ok in
    subst (AreAlike (whole_tasks c.args.self.now c.args.dma.now c.args.set.now)) (sym c.land_all-in-Err-read_error.ensures.same)
    (subst (λ fs. AreAlike (whole_tasks c.args.self.now c.args.dma.now c.args.set.now) (whole_tasks fs c.poll.new.dma c.args.set.now)) (sym c.self.view_is) (alike_tasks c.args.self.now c.args.dma.now c.poll.new.dma c.args.set.now (ap (λ slots. map (option_map length) slots) polled.reports.same)))
