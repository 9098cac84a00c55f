use Rattle.std.proofs.Common.{◌≡◌, Err, IfSome, ap, arith, false, inl, subst}
use Rattle.satl_base.specs.Limits.{input_limit}
use Rattle.satl_frame.specs.Pulls.{FewerThan, Lacks, TookPages}
use Rattle.satl_usb.specs.Reading.{HeadRead}
use Rattle.satl_usb.proofs.ItemsLemmas.{cut_body, short_awaits, took_item, too_far, too_short}
use Rattle.satl_usb.proofs.items.next_item.Goals as goal

pub returns-then-offset-from-clause-missed : goal.returns-then-offset-from-clause-missed
returns-then-offset-from-clause-missed g c =
    too_far input_limit c.args.offset (g.S.Source.left c.args.source.now) (g.S.Source.left c.read_head.new.source) c.in-Some.command c.requires.near
    (subst (HeadRead (g.S.Source.left c.args.source.now) (g.S.Source.left c.read_head.new.source)) c.in-Some.is c.in_ok-command.ensures.read)
    (omega (arith, c.if-offset-from.true, c.from.ensures, c.sent_length-length.ensures))

pub returns-in-Ok-clause-read : goal.returns-in-Ok-clause-read
returns-in-Ok-clause-read g c =
    took_item input_limit c.args.offset (g.P.Lender.stock c.args.lender.now).free (g.S.Source.left c.args.source.now) (g.S.Source.left c.read_head.new.source) (g.S.Source.left c.pull_data.new.source) c.in-Some.command c.in-Ok.body
    (subst (HeadRead (g.S.Source.left c.args.source.now) (g.S.Source.left c.read_head.new.source)) c.in-Some.is c.in_ok-command.ensures.read)
    (subst (λ n. TookPages (g.S.Source.left c.read_head.new.source) (g.S.Source.left c.pull_data.new.source) n (g.P.Lender.stock c.args.lender.now).free c.in-Ok.body) c.sent_length-length.ensures c.in-Ok.ensures.filled)
    c.requires.near (omega (arith, c.if-offset-from.false, c.from.ensures, c.sent_length-length.ensures))

pub returns-in-Err-Short-clause-missed : goal.returns-in-Err-Short-clause-missed
returns-in-Err-Short-clause-missed g c =
    too_short input_limit c.args.offset (g.S.Source.left c.args.source.now) (g.S.Source.left c.read_head.new.source) (g.S.Source.left c.pull_data.new.source) c.in-Some.command
    (subst (HeadRead (g.S.Source.left c.args.source.now) (g.S.Source.left c.read_head.new.source)) c.in-Some.is c.in_ok-command.ensures.read)
    (subst (Lacks (g.S.Source.left c.read_head.new.source) (g.S.Source.left c.pull_data.new.source)) c.sent_length-length.ensures (c.in-Err-Short.ensures.causes.short (ap Err c.in-Err-Short.field-0-is)))
    c.requires.near (omega (arith, c.if-offset-from.false, c.from.ensures, c.sent_length-length.ensures))

pub returns-in-Err-Failed-clause-missed : goal.returns-in-Err-Failed-clause-missed
returns-in-Err-Failed-clause-missed g c =
    cut_body input_limit c.args.offset (g.S.Source.left c.args.source.now) (g.S.Source.left c.read_head.new.source) (g.S.Source.left c.pull_data.new.source) c.in-Some.command
    (subst (HeadRead (g.S.Source.left c.args.source.now) (g.S.Source.left c.read_head.new.source)) c.in-Some.is c.in_ok-command.ensures.read)
    (subst (λ n. FewerThan (g.S.Source.left c.read_head.new.source) (g.S.Source.left c.pull_data.new.source) (λ _. n)) c.sent_length-length.ensures (c.in-Err-Failed.ensures.stopped (ap Err c.in-Err-Failed.field-0-is)))
    c.requires.near (omega (arith, c.if-offset-from.false, c.from.ensures, c.sent_length-length.ensures))

pub returns-in-Err-Short-clause-awaits : goal.returns-in-Err-Short-clause-awaits
returns-in-Err-Short-clause-awaits g c =
    short_awaits input_limit c.args.offset (g.S.Source.left c.args.source.now) (g.S.Source.left c.read_head.new.source) (g.S.Source.left c.pull_data.new.source) (g.S.Source.waited c.pull_data.new.source) c.in-Some.command
    (subst (HeadRead (g.S.Source.left c.args.source.now) (g.S.Source.left c.read_head.new.source)) c.in-Some.is c.in_ok-command.ensures.read)
    (subst (Lacks (g.S.Source.left c.read_head.new.source) (g.S.Source.left c.pull_data.new.source)) c.sent_length-length.ensures (c.in-Err-Short.ensures.causes.short (ap Err c.in-Err-Short.field-0-is)))
    c.requires.near (omega (arith, c.if-offset-from.false, c.from.ensures, c.sent_length-length.ensures))

pub returns-then-offset-from-clause-awaits : goal.returns-then-offset-from-clause-awaits
returns-then-offset-from-clause-awaits g c = inl (subst (λ o. IfSome o (λ _. g.S.Source.waited c.read_head.new.source ≡ false)) c.in-Some.is c.in_ok-command.ensures.unwaited)
