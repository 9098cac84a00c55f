use Rattle.std.proofs.Common.{◌≡◌, ◌+◌, IfSome, ap, arith, false, map, subst, sym}
use Rattle.satl_base.specs.Limits.{input_limit}
use Rattle.satl_line.specs.Tasks.{entries_of}
use Rattle.satl_direct.specs.Tasks.{task_of}
use Rattle.satl_core.specs.Layer.{Layer}
use Rattle.satl_step.specs.Runs.{stand_of}
use Rattle.satl_step.proofs.TallyLemmas.{tied_lent}
use Rattle.satl_serve.specs.Moments.{spot}
use Rattle.satl_usb.specs.Headline.{RanTo}
use Rattle.satl_usb.specs.Reading.{ItemRead, pages_read}
use Rattle.satl_usb.proofs.AnsweringLemmas.{held}
use Rattle.satl_usb.proofs.BridgeLemmas.{bridged_missed, bridged_whole, going_more, going_same, going_start, stopped_in_part, within_limit}
use Rattle.satl_usb.proofs.bridge.serve_items.Goals as goal

pub items-init : goal.items-init
items-init g c = record {
  tied = c.requires.tied;
  all_in = c.requires.all_in;
  none = c.new-replies.ensures;
  idle = c.requires.idle;
  near = omega arith;
  going = going_start input_limit (spot (g.S.Source.left c.args.source.now) (g.S.Source.waited c.args.source.now) (g.K.Sink.written c.args.sink.now) (stand_of c.args.satl.now (g.D.Drive.state c.args.drive.now) c.args.steps.now)) (ap (λ t. map task_of (entries_of t)) c.requires.idle);
  read_later = omega arith;
  write_later = omega arith;
}

pub returns-in-Ok-None-clause-tied : goal.returns-in-Ok-None-clause-tied
returns-in-Ok-None-clause-tied g c = tied_lent c.items.satl c.next_item.new.lender (g.D.Drive.state c.items.drive) c.in-Ok-None.ensures.lent.rest c.items.invariant.tied

pub returns-in-Ok-None-clause-bridges : goal.returns-in-Ok-None-clause-bridges
returns-in-Ok-None-clause-bridges g c = record {
  whole = bridged_whole input_limit c.items.offset (spot (g.S.Source.left c.args.source.now) (g.S.Source.waited c.args.source.now) (g.K.Sink.written c.args.sink.now) (stand_of c.args.satl.now (g.D.Drive.state c.args.drive.now) c.args.steps.now)) (spot (g.S.Source.left c.items.source) (g.S.Source.waited c.items.source) (g.K.Sink.written c.items.sink) (stand_of c.next_item.new.lender (g.D.Drive.state c.items.drive) c.items.steps)) (g.S.Source.left c.next_item.new.source) (g.S.Source.waited c.next_item.new.source) c.items.kept c.requires.deep (going_same input_limit (spot (g.S.Source.left c.args.source.now) (g.S.Source.waited c.args.source.now) (g.K.Sink.written c.args.sink.now) (stand_of c.args.satl.now (g.D.Drive.state c.args.drive.now) c.args.steps.now)) (spot (g.S.Source.left c.items.source) (g.S.Source.waited c.items.source) (g.K.Sink.written c.items.sink) (stand_of c.items.satl (g.D.Drive.state c.items.drive) c.items.steps)) (stand_of c.next_item.new.lender (g.D.Drive.state c.items.drive) c.items.steps) c.items.kept c.items.offset (ap (λ (l : Layer). stand_of l (g.D.Drive.state c.items.drive) c.items.steps) c.in-Ok-None.ensures.lent.rest) c.items.invariant.going)
      (subst (ItemRead input_limit c.items.offset c.items.satl.free (g.S.Source.left c.items.source) (g.S.Source.left c.next_item.new.source)) c.in-Ok-None.field-0-is c.in-Ok-None.ensures.read);
  stopped = tt;
}

pub returns-in-Err-clause-bridges : goal.returns-in-Err-clause-bridges
returns-in-Err-clause-bridges g c = record { whole = tt; stopped = subst (RanTo input_limit (spot (g.S.Source.left c.args.source.now) (g.S.Source.waited c.args.source.now) (g.K.Sink.written c.args.sink.now) (stand_of c.args.satl.now (g.D.Drive.state c.args.drive.now) c.args.steps.now)) (spot (g.S.Source.left c.next_item.new.source) (g.S.Source.waited c.next_item.new.source) (g.K.Sink.written c.items.sink) (stand_of c.next_item.new.lender (g.D.Drive.state c.items.drive) c.items.steps))) (sym c.stop_at.ensures) (bridged_missed input_limit c.items.offset (spot (g.S.Source.left c.args.source.now) (g.S.Source.waited c.args.source.now) (g.K.Sink.written c.args.sink.now) (stand_of c.args.satl.now (g.D.Drive.state c.args.drive.now) c.args.steps.now)) (spot (g.S.Source.left c.items.source) (g.S.Source.waited c.items.source) (g.K.Sink.written c.items.sink) (stand_of c.next_item.new.lender (g.D.Drive.state c.items.drive) c.items.steps)) (g.S.Source.left c.next_item.new.source) (g.S.Source.waited c.next_item.new.source) c.items.kept c.in-Err.fault (going_same input_limit (spot (g.S.Source.left c.args.source.now) (g.S.Source.waited c.args.source.now) (g.K.Sink.written c.args.sink.now) (stand_of c.args.satl.now (g.D.Drive.state c.args.drive.now) c.args.steps.now)) (spot (g.S.Source.left c.items.source) (g.S.Source.waited c.items.source) (g.K.Sink.written c.items.sink) (stand_of c.items.satl (g.D.Drive.state c.items.drive) c.items.steps)) (stand_of c.next_item.new.lender (g.D.Drive.state c.items.drive) c.items.steps) c.items.kept c.items.offset (ap (λ (l : Layer). stand_of l (g.D.Drive.state c.items.drive) c.items.steps) c.in-Err.ensures.lent.rest) c.items.invariant.going) c.in-Err.ensures.missed c.in-Err.ensures.awaits) }

pub returns-in-Err-clause-tied : goal.returns-in-Err-clause-tied
returns-in-Err-clause-tied g c = tied_lent c.items.satl c.next_item.new.lender (g.D.Drive.state c.items.drive) c.in-Err.ensures.lent.rest c.items.invariant.tied

pub answer_item-requires-clause-can : goal.answer_item-requires-clause-can
answer_item-requires-clause-can g c = record {
  tied = tied_lent c.items.satl c.next_item.new.lender (g.D.Drive.state c.items.drive) c.in-Ok-Some.ensures.lent.rest c.items.invariant.tied;
  can = held input_limit c.items.offset c.items.satl.free (g.S.Source.left c.items.source) (g.S.Source.left c.next_item.new.source) c.in-Ok-Some.item c.next_item.new.lender.free c.next_item.new.lender.out
      (subst (ItemRead input_limit c.items.offset c.items.satl.free (g.S.Source.left c.items.source) (g.S.Source.left c.next_item.new.source)) c.in-Ok-Some.field-0-is c.in-Ok-Some.ensures.read)
      (subst (λ o. c.next_item.new.lender.free + pages_read o ≡ c.items.satl.free) c.in-Ok-Some.field-0-is c.in-Ok-Some.ensures.lent.free)
      (let out = subst (λ o. c.next_item.new.lender.out ≡ c.items.satl.out + pages_read o) c.in-Ok-Some.field-0-is c.in-Ok-Some.ensures.lent.out in omega (arith, out, c.items.invariant.all_in));
  none = c.items.invariant.none;
}

pub returns-in-Err-answer_item-clause-bridges : goal.returns-in-Err-answer_item-clause-bridges
returns-in-Err-answer_item-clause-bridges g c =
    let unwaited = subst (λ o. IfSome o (λ _. g.S.Source.waited c.next_item.new.source ≡ false)) c.in-Ok-Some.field-0-is c.in-Ok-Some.ensures.unwaited in
    record { whole = tt; stopped = stopped_in_part input_limit c.items.offset c.items.satl.free (spot (g.S.Source.left c.args.source.now) (g.S.Source.waited c.args.source.now) (g.K.Sink.written c.args.sink.now) (stand_of c.args.satl.now (g.D.Drive.state c.args.drive.now) c.args.steps.now)) (spot (g.S.Source.left c.items.source) (g.S.Source.waited c.items.source) (g.K.Sink.written c.items.sink) (stand_of c.next_item.new.lender (g.D.Drive.state c.items.drive) c.items.steps)) (spot (g.S.Source.left c.next_item.new.source) (g.S.Source.waited c.next_item.new.source) (g.K.Sink.written c.answer_item.new.sink) (stand_of c.answer_item.new.satl (g.D.Drive.state c.answer_item.new.drive) c.answer_item.new.steps)) c.items.kept c.in-Ok-Some.item (going_same input_limit (spot (g.S.Source.left c.args.source.now) (g.S.Source.waited c.args.source.now) (g.K.Sink.written c.args.sink.now) (stand_of c.args.satl.now (g.D.Drive.state c.args.drive.now) c.args.steps.now)) (spot (g.S.Source.left c.items.source) (g.S.Source.waited c.items.source) (g.K.Sink.written c.items.sink) (stand_of c.items.satl (g.D.Drive.state c.items.drive) c.items.steps)) (stand_of c.next_item.new.lender (g.D.Drive.state c.items.drive) c.items.steps) c.items.kept c.items.offset (ap (λ (l : Layer). stand_of l (g.D.Drive.state c.items.drive) c.items.steps) c.in-Ok-Some.ensures.lent.rest) c.items.invariant.going) (subst (ItemRead input_limit c.items.offset c.items.satl.free (g.S.Source.left c.items.source) (g.S.Source.left c.next_item.new.source)) c.in-Ok-Some.field-0-is c.in-Ok-Some.ensures.read) c.in-Err-answer_item.ensures.answered.part unwaited }

pub returns-in-Err-answer_item-clause-unplugs : goal.returns-in-Err-answer_item-clause-unplugs
returns-in-Err-answer_item-clause-unplugs g c =
    let unwaited = subst (λ o. IfSome o (λ _. g.S.Source.waited c.next_item.new.source ≡ false)) c.in-Ok-Some.field-0-is c.in-Ok-Some.ensures.unwaited in
    (stopped_in_part input_limit c.items.offset c.items.satl.free (spot (g.S.Source.left c.args.source.now) (g.S.Source.waited c.args.source.now) (g.K.Sink.written c.args.sink.now) (stand_of c.args.satl.now (g.D.Drive.state c.args.drive.now) c.args.steps.now)) (spot (g.S.Source.left c.items.source) (g.S.Source.waited c.items.source) (g.K.Sink.written c.items.sink) (stand_of c.next_item.new.lender (g.D.Drive.state c.items.drive) c.items.steps)) (spot (g.S.Source.left c.next_item.new.source) (g.S.Source.waited c.next_item.new.source) (g.K.Sink.written c.answer_item.new.sink) (stand_of c.answer_item.new.satl (g.D.Drive.state c.answer_item.new.drive) c.answer_item.new.steps)) c.items.kept c.in-Ok-Some.item (going_same input_limit (spot (g.S.Source.left c.args.source.now) (g.S.Source.waited c.args.source.now) (g.K.Sink.written c.args.sink.now) (stand_of c.args.satl.now (g.D.Drive.state c.args.drive.now) c.args.steps.now)) (spot (g.S.Source.left c.items.source) (g.S.Source.waited c.items.source) (g.K.Sink.written c.items.sink) (stand_of c.items.satl (g.D.Drive.state c.items.drive) c.items.steps)) (stand_of c.next_item.new.lender (g.D.Drive.state c.items.drive) c.items.steps) c.items.kept c.items.offset (ap (λ (l : Layer). stand_of l (g.D.Drive.state c.items.drive) c.items.steps) c.in-Ok-Some.ensures.lent.rest) c.items.invariant.going) (subst (ItemRead input_limit c.items.offset c.items.satl.free (g.S.Source.left c.items.source) (g.S.Source.left c.next_item.new.source)) c.in-Ok-Some.field-0-is c.in-Ok-Some.ensures.read) c.in-Err-answer_item.ensures.answered.part unwaited).bridged.unplugs

pub returns-in-Err-answer_item-clause-orders : goal.returns-in-Err-answer_item-clause-orders
returns-in-Err-answer_item-clause-orders g c =
    let unwaited = subst (λ o. IfSome o (λ _. g.S.Source.waited c.next_item.new.source ≡ false)) c.in-Ok-Some.field-0-is c.in-Ok-Some.ensures.unwaited in
    (stopped_in_part input_limit c.items.offset c.items.satl.free (spot (g.S.Source.left c.args.source.now) (g.S.Source.waited c.args.source.now) (g.K.Sink.written c.args.sink.now) (stand_of c.args.satl.now (g.D.Drive.state c.args.drive.now) c.args.steps.now)) (spot (g.S.Source.left c.items.source) (g.S.Source.waited c.items.source) (g.K.Sink.written c.items.sink) (stand_of c.next_item.new.lender (g.D.Drive.state c.items.drive) c.items.steps)) (spot (g.S.Source.left c.next_item.new.source) (g.S.Source.waited c.next_item.new.source) (g.K.Sink.written c.answer_item.new.sink) (stand_of c.answer_item.new.satl (g.D.Drive.state c.answer_item.new.drive) c.answer_item.new.steps)) c.items.kept c.in-Ok-Some.item (going_same input_limit (spot (g.S.Source.left c.args.source.now) (g.S.Source.waited c.args.source.now) (g.K.Sink.written c.args.sink.now) (stand_of c.args.satl.now (g.D.Drive.state c.args.drive.now) c.args.steps.now)) (spot (g.S.Source.left c.items.source) (g.S.Source.waited c.items.source) (g.K.Sink.written c.items.sink) (stand_of c.items.satl (g.D.Drive.state c.items.drive) c.items.steps)) (stand_of c.next_item.new.lender (g.D.Drive.state c.items.drive) c.items.steps) c.items.kept c.items.offset (ap (λ (l : Layer). stand_of l (g.D.Drive.state c.items.drive) c.items.steps) c.in-Ok-Some.ensures.lent.rest) c.items.invariant.going) (subst (ItemRead input_limit c.items.offset c.items.satl.free (g.S.Source.left c.items.source) (g.S.Source.left c.next_item.new.source)) c.in-Ok-Some.field-0-is c.in-Ok-Some.ensures.read) c.in-Err-answer_item.ensures.answered.part unwaited).bridged.orders

pub items-preserved : goal.items-preserved
items-preserved g c = record {
  tied = c.in-Ok.ensures.leaves.tied;
  all_in = c.in-Ok.ensures.leaves.all_in;
  none = c.in-Ok.ensures.leaves.none;
  idle = c.in-Ok.ensures.idle;
  near = within_limit input_limit c.items.offset c.items.satl.free (c.items.offset + 31 + c.from.result) (g.S.Source.left c.items.source) (g.S.Source.left c.next_item.new.source) c.in-Ok-Some.item (subst (ItemRead input_limit c.items.offset c.items.satl.free (g.S.Source.left c.items.source) (g.S.Source.left c.next_item.new.source)) c.in-Ok-Some.field-0-is c.in-Ok-Some.ensures.read) (omega (arith, c.from.ensures, c.sent_length.ensures));
  going = going_more input_limit c.items.offset c.items.satl.free (spot (g.S.Source.left c.args.source.now) (g.S.Source.waited c.args.source.now) (g.K.Sink.written c.args.sink.now) (stand_of c.args.satl.now (g.D.Drive.state c.args.drive.now) c.args.steps.now)) (spot (g.S.Source.left c.items.source) (g.S.Source.waited c.items.source) (g.K.Sink.written c.items.sink) (stand_of c.next_item.new.lender (g.D.Drive.state c.items.drive) c.items.steps)) (spot (g.S.Source.left c.next_item.new.source) (g.S.Source.waited c.next_item.new.source) (g.K.Sink.written c.answer_item.new.sink) (stand_of c.answer_item.new.satl (g.D.Drive.state c.answer_item.new.drive) c.answer_item.new.steps)) c.items.kept c.in-Ok-Some.item (going_same input_limit (spot (g.S.Source.left c.args.source.now) (g.S.Source.waited c.args.source.now) (g.K.Sink.written c.args.sink.now) (stand_of c.args.satl.now (g.D.Drive.state c.args.drive.now) c.args.steps.now)) (spot (g.S.Source.left c.items.source) (g.S.Source.waited c.items.source) (g.K.Sink.written c.items.sink) (stand_of c.items.satl (g.D.Drive.state c.items.drive) c.items.steps)) (stand_of c.next_item.new.lender (g.D.Drive.state c.items.drive) c.items.steps) c.items.kept c.items.offset (ap (λ (l : Layer). stand_of l (g.D.Drive.state c.items.drive) c.items.steps) c.in-Ok-Some.ensures.lent.rest) c.items.invariant.going) (subst (ItemRead input_limit c.items.offset c.items.satl.free (g.S.Source.left c.items.source) (g.S.Source.left c.next_item.new.source)) c.in-Ok-Some.field-0-is c.in-Ok-Some.ensures.read) c.in-Ok.after (c.items.offset + 31 + c.from.result) c.in-Ok.ensures.answered.answered (omega (arith, c.from.ensures, c.sent_length.ensures));
  read_later = omega (arith, c.items.invariant.read_later, c.in-Ok-Some.ensures.causes.later);
  write_later = omega (arith, c.items.invariant.write_later, c.in-Ok.ensures.cause.later);
}
