use Rattle.std.proofs.Common.{None, refl, subst, sym}
use Rattle.satl_frame.specs.declared.frames.Frame.TheVariants as frames
use Rattle.satl_step.specs.Events.{scene_of}
use Rattle.satl_step.specs.Serving.{CanServeEvent}
use Rattle.satl_step.proofs.ServingLemmas.{leaves_some}
use Rattle.satl_usb.specs.Exchanges.{item_behind, item_told}
use Rattle.satl_usb.specs.Serving.{Exchanged, ExchangedInPart}
use Rattle.satl_usb.proofs.AnsweringLemmas.{sends_in_part, sent_in_part, sent_so}
use Rattle.satl_usb.proofs.answering.send_item.Goals as goal

pub serve_item-requires-clause-can : goal.serve_item-requires-clause-can
serve_item-requires-clause-can g c = subst (λ r. CanServeEvent (frames.Request r) c.args.satl.now (g.D.Drive.state c.args.drive.now) c.args.replies.now) (sym c.request_of.ensures) c.requires.can

pub returns-in_err-serve_item-clause-sent : goal.returns-in_err-serve_item-clause-sent
returns-in_err-serve_item-clause-sent g c =
    sends_in_part c.args.item _ _ c.from_residual.result _ c.from_residual.ensures.1 (sent_in_part c.args.item (scene_of c.args.satl.now (g.D.Drive.state c.args.drive.now) c.args.steps.now (record { command = c.args.item.command; kept = None }) (g.K.Sink.written c.args.sink.now)) (scene_of c.serve_item.new.satl (g.D.Drive.state c.serve_item.new.drive) c.serve_item.new.steps c.serve_item.new.teller (g.K.Sink.written c.serve_item.new.sink)) refl
    (subst (λ r. ExchangedInPart item_told item_behind r (scene_of c.args.satl.now (g.D.Drive.state c.args.drive.now) c.args.steps.now (record { command = c.args.item.command; kept = None }) (g.K.Sink.written c.args.sink.now)) (scene_of c.serve_item.new.satl (g.D.Drive.state c.serve_item.new.drive) c.serve_item.new.steps c.serve_item.new.teller (g.K.Sink.written c.serve_item.new.sink))) c.request_of.ensures c.in_err-serve_item.ensures.exchanged.part))

pub returns-in_err-serve_item-clause-leaves : goal.returns-in_err-serve_item-clause-leaves
returns-in_err-serve_item-clause-leaves g c = leaves_some _ _ _ c.from_residual.result _ c.from_residual.ensures.1 c.serve_item.ensures.leaves.tied c.in_err-serve_item.ensures.leaves.kept c.in_err-serve_item.ensures.leaves.writable

pub returns-clause-sent : goal.returns-clause-sent
returns-clause-sent g c = record {
  sent = sent_so c.args.item (scene_of c.args.satl.now (g.D.Drive.state c.args.drive.now) c.args.steps.now (record { command = c.args.item.command; kept = None }) (g.K.Sink.written c.args.sink.now)) (scene_of c.serve_item.new.satl (g.D.Drive.state c.serve_item.new.drive) c.serve_item.new.steps c.serve_item.new.teller (g.K.Sink.written c.serve_item.new.sink)) refl
      (subst (λ r. Exchanged item_told item_behind r (scene_of c.args.satl.now (g.D.Drive.state c.args.drive.now) c.args.steps.now (record { command = c.args.item.command; kept = None }) (g.K.Sink.written c.args.sink.now)) (scene_of c.serve_item.new.satl (g.D.Drive.state c.serve_item.new.drive) c.serve_item.new.steps c.serve_item.new.teller (g.K.Sink.written c.serve_item.new.sink))) c.request_of.ensures c.in_ok-serve_item.ensures.exchanged.whole);
  part = tt;
}

pub returns-clause-leaves : goal.returns-clause-leaves
returns-clause-leaves g c = record { tied = c.serve_item.ensures.leaves.tied; all_in = c.in_ok-serve_item.ensures.leaves.all_in; none = c.in_ok-serve_item.ensures.leaves.none; kept = tt; writable = tt }
