use Rattle.std.proofs.Common.{arith, ◌∙◌, subst, Some}
use Rattle.satl_frame.specs.declared.frames.FrameFault.{FrameFault}
use Rattle.satl_frame.specs.Reading.{Blames}
use Rattle.satl_cover.proofs.Going.{goes_on, goes_to_end}
use Rattle.satl_cover.proofs.RefusedInputs.{refused_is_bad}
use Rattle.satl_cover.proofs.frames.read_to_end.Goals as goal

pub returns-in-Err-Bad-clause-refuses : goal.returns-in-Err-Bad-clause-refuses
returns-in-Err-Bad-clause-refuses c =
    let i = c.loop-frame.invariant.going in
    rw (c.in-Err-Bad.reason-is, c.in-Err-Bad.offset-is)
    (refused_is_bad c.loop-frame.reader c.args.source.now c.loop-frame.source (Some c.next.new.source) i.given _ _ i.limit_is i.newest i.read i.none
    (subst (λ (f : FrameFault). Blames c.loop-frame.reader (Some c.loop-frame.source) (Some c.next.new.source) f) c.in-Err-Bad.field-0-is (c.in-Err-Bad.ensures.blames i.fresh)))

pub returns-in-End-clause-whole : goal.returns-in-End-clause-whole
returns-in-End-clause-whole c =
    let i = c.loop-frame.invariant in
    goes_to_end _ _ c.max-at.result i.going c.in-Ok.ensures.gave i.trim (omega (arith, i.len, c.max-at.ensures, c.left-len.ensures, c.left.ensures)) c.in_ok-note.ensures.knows c.in-End.is

-- whether the frame has anything to drop or not, the loop goes on
pub loop-frame-preserved-in_default : goal.loop-frame-preserved-in_default
loop-frame-preserved-in_default c =
    let i = c.loop-frame.invariant in
    record { len = i.len; trim = c.in_ok-note.ensures.trim ∙ i.trim; going = goes_on _ _ c.max-at.result i.going c.in-Ok.ensures.gave i.trim (omega (arith, i.len, c.max-at.ensures, c.left-len.ensures, c.left.ensures)) c.in_ok-note.ensures.knows c.in_default.not-End }

pub loop-frame-preserved : goal.loop-frame-preserved
loop-frame-preserved c =
    let i = c.loop-frame.invariant in
    record { len = i.len; trim = c.in_ok-note.ensures.trim ∙ i.trim; going = goes_on _ _ c.max-at.result i.going c.in-Ok.ensures.gave i.trim (omega (arith, i.len, c.max-at.ensures, c.left-len.ensures, c.left.ensures)) c.in_ok-note.ensures.knows c.in_default.not-End }
