use Rattle.std.proofs.Common.{◌≡◌, arith, sym, ap, ◌∙◌, subst, ℕ, ◌++◌, List, length, Some}
use Rattle.std.specs.Prelude.{◌==◌}
use Rattle.satl_frame.specs.Output.{out_magic}
use Rattle.satl_frame.specs.declared.frames.Frame.TheVariants as frames
use Rattle.satl_frame.specs.declared.frames.FrameFault.{FrameFault}
use Rattle.satl_frame.specs.Reading.{Blames}
use Rattle.satl_audit.specs.Advancing.{GoesOn}
use Rattle.satl_audit.specs.Kept.{Keeping}
use Rattle.satl_audit.specs.Progress.{progress, recorded}
use Rattle.satl_audit.proofs.FollowGoes.{Goes, goes_none}
use Rattle.satl_audit.proofs.FollowLemmas.{goes, goes_on, good_next, known_next, not_bad, says_no_more, says_yes, stops, tasks_next}
use Rattle.satl_audit.proofs.ReachBegins.{reached_none}
use Rattle.satl_audit.proofs.VerdictLemmas.{none_left, size_blank, some_left}
use Rattle.satl_audit.proofs.auditing.follow.Goals as goal
use Rattle.satl_audit.proofs.auditing.follow.Goals.{Else-not-branch}

pub loop-frame-init : goal.loop-frame-init
loop-frame-init c =
    let followed = c.in_ok-followed.followed in
    let sectors = c.in_ok-sectors.sectors in
    let begun = goes_none c.args.identity.now c.args.input.now c.args.output.now c.new-reader.result followed sectors c.new-reader.ensures
    (reached_none c.args.identity.now c.args.input.now c.args.output.now followed sectors c.in_ok-followed.ensures.waiting c.in_ok-followed.ensures.attentions c.in_ok-followed.ensures.output c.in_ok-sectors.ensures) in
    record {
      size = ap (λ (l : List Keeping). length l) c.in_ok-sectors.ensures ∙ size_blank c.args.identity.now.capacity;
      goes = subst (λ (l : List ℕ). Goes c.args.identity.now c.args.input.now (out_magic ++ c.args.output.now) c.new-reader.result l followed sectors) (sym c.new-source.ensures) begun;
    }

pub unreachable-requires : goal.unreachable-requires
unreachable-requires c =
    let i = c.loop-frame.invariant.goes in
    not_bad c.args.identity.now c.requires.identity c.args.input.now (out_magic ++ c.args.output.now) c.requires.taken.0 c.requires.taken.1 c.loop-frame.reader c.loop-frame.source c.loop-frame.followed c.loop-frame.sectors i (Some c.next.new.source) _ _
    (subst (λ (f : FrameFault). Blames c.loop-frame.reader (Some c.loop-frame.source) (Some c.next.new.source) f) c.in-Err-Bad.field-0-is (c.in-Err-Bad.ensures.blames i.fresh))

pub advance-requires-clause-tasks : goal.advance-requires-clause-tasks
advance-requires-clause-tasks c =
    tasks_next c.args.identity.now c.requires.identity c.args.input.now (out_magic ++ c.args.output.now) c.requires.taken.0 c.requires.taken.1 c.loop-frame.reader c.loop-frame.source c.loop-frame.followed c.loop-frame.sectors c.loop-frame.invariant.goes c.next.new.self c.next.new.source c.in-Ok.frame c.in-Ok.ensures.gave

pub advance-requires-clause-known : goal.advance-requires-clause-known
advance-requires-clause-known c =
    known_next c.args.identity.now c.requires.identity c.args.input.now (out_magic ++ c.args.output.now) c.requires.taken.0 c.requires.taken.1 c.loop-frame.reader c.loop-frame.source c.loop-frame.followed c.loop-frame.sectors c.loop-frame.invariant.goes c.next.new.self c.next.new.source c.in-Ok.frame c.in-Ok.ensures.gave

pub advance-requires-clause-good : goal.advance-requires-clause-good
advance-requires-clause-good c =
    good_next c.args.identity.now c.requires.identity c.args.input.now (out_magic ++ c.args.output.now) c.requires.taken.0 c.requires.taken.1 c.loop-frame.reader c.loop-frame.source c.loop-frame.followed c.loop-frame.sectors c.loop-frame.invariant.goes c.next.new.self c.next.new.source c.in-Ok.frame c.in-Ok.ensures.gave
    c.max-at.result (omega (arith, c.max-at.ensures, c.left.ensures))

pub returns-then-not-branch : goal.returns-then-not-branch
returns-then-not-branch c =
    stops c.args.identity.now c.requires.identity c.args.input.now (out_magic ++ c.args.output.now) c.requires.taken.0 c.requires.taken.1 c.loop-frame.reader c.loop-frame.source c.loop-frame.followed c.loop-frame.sectors c.loop-frame.invariant.goes c.next.new.self c.next.new.source c.in-Ok.frame c.in-Ok.ensures.gave
    c.max-at.result (omega (arith, c.max-at.ensures, c.left.ensures)) c.advance.new.followed c.advance.new.sectors _ c.in_ok-advance.ensures.advances c.if-not-branch.true

-- ---- the frame happened

happened : (c : Else-not-branch) → GoesOn (recorded c.args.identity.now c.args.input.now) c.in-Ok.ensures.gave.whole (progress c.loop-frame.followed c.loop-frame.sectors) (progress c.advance.new.followed c.advance.new.sectors)
happened c =
    goes c.args.identity.now c.requires.identity c.args.input.now (out_magic ++ c.args.output.now) c.requires.taken.0 c.requires.taken.1 c.loop-frame.reader c.loop-frame.source c.loop-frame.followed c.loop-frame.sectors c.loop-frame.invariant.goes c.next.new.self c.next.new.source c.in-Ok.frame c.in-Ok.ensures.gave
    c.max-at.result (omega (arith, c.max-at.ensures, c.left.ensures)) c.advance.new.followed c.advance.new.sectors _ c.in_ok-advance.ensures.advances c.if-not-branch.false

-- and is not the last
next_goes : (c : Else-not-branch) → (c.in-Ok.frame ≡ frames.End → ⊥) → Goes c.args.identity.now c.args.input.now (out_magic ++ c.args.output.now) c.next.new.self c.next.new.source c.advance.new.followed c.advance.new.sectors
next_goes c not_end =
    goes_on c.args.identity.now c.requires.identity c.args.input.now (out_magic ++ c.args.output.now) c.requires.taken.0 c.requires.taken.1 c.loop-frame.reader c.loop-frame.source c.loop-frame.followed c.loop-frame.sectors c.loop-frame.invariant.goes c.next.new.self c.next.new.source c.in-Ok.frame c.in-Ok.ensures.gave
    c.advance.new.followed c.advance.new.sectors (happened c) c.in_ok-advance.ensures.fit not_end

pub loop-frame-preserved-in_default : goal.loop-frame-preserved-in_default
loop-frame-preserved-in_default c = record {
  size = c.in_ok-advance.ensures.length ∙ c.loop-frame.invariant.size;
  goes = next_goes (goal.at.loop-frame-preserved-in_default c).Else-not-branch c.in_default.not-End;
}

pub loop-frame-preserved : goal.loop-frame-preserved
loop-frame-preserved c = record {
  size = c.in_ok-advance.ensures.length ∙ c.loop-frame.invariant.size;
  goes = next_goes (goal.at.loop-frame-preserved c).Else-not-branch c.in_default.not-End;
}

pub returns-then-is_empty : goal.returns-then-is_empty
returns-then-is_empty c =
    says_yes c.args.identity.now c.requires.identity c.args.input.now (out_magic ++ c.args.output.now) c.requires.taken.0 c.requires.taken.1 c.loop-frame.reader c.loop-frame.source c.loop-frame.followed c.loop-frame.sectors c.loop-frame.invariant.goes c.next.new.self c.next.new.source c.in-Ok.frame c.in-Ok.ensures.gave
    c.advance.new.followed c.advance.new.sectors (happened (goal.at.returns-then-is_empty c).Else-not-branch) c.in_ok-advance.ensures.fit c.in-End.is (none_left c.advance.new.followed.output (ap (λ (l : List ℕ). length l == 0) (sym c.rest.ensures) ∙ sym c.is_empty.ensures ∙ c.if-is_empty.true))

pub returns-in-End : goal.returns-in-End
returns-in-End c =
    says_no_more c.args.identity.now c.requires.identity c.args.input.now (out_magic ++ c.args.output.now) c.requires.taken.0 c.requires.taken.1 c.loop-frame.reader c.loop-frame.source c.loop-frame.followed c.loop-frame.sectors c.loop-frame.invariant.goes c.next.new.self c.next.new.source c.in-Ok.frame c.in-Ok.ensures.gave
    c.advance.new.followed c.advance.new.sectors (happened (goal.at.returns-in-End c).Else-not-branch) c.in_ok-advance.ensures.fit c.in-End.is (some_left c.advance.new.followed.output (ap (λ (l : List ℕ). length l == 0) (sym c.rest.ensures) ∙ sym c.is_empty.ensures ∙ c.if-is_empty.false))
