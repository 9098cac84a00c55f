use Rattle.std.proofs.Common.{arith, ◌∙◌, subst, ◌+◌, ◌*◌, ◌<◌, Bool, length}
use Rattle.satl_audit.specs.Kept.{ShowsAt}
use Rattle.satl_audit.proofs.Comparing.{at_place}
use Rattle.satl_audit.proofs.ShowEffects.{gives_begin, gives_end, gives_none, gives_turn}
use Rattle.satl_audit.proofs.Comparing.{sliced}
use Rattle.satl_audit.proofs.effects.show_blocks.Goals as goal

pub returns-then-not-branch-clause-gives : goal.returns-then-not-branch-clause-gives
returns-then-not-branch-clause-gives c =
    let x = c.args.range.lba + c.loop-i.i in
    let less : x < length c.args.sectors.now = omega (arith, c.loop-i-test.true, c.requires.within) in (
      x,
      less,
      gives_begin c.args.input.now x c.args.range.lba c.args.given.now c.args.range.count c.args.sectors.now c.requires.size
          ∙ c.loop-i.invariant.rest x less
          ∙ gives_none c.args.input.now c.args.range.lba c.args.given.now (sliced c.args.given.now c.loop-i.i) c.loop-i.i c.args.range.count c.loop-i.sectors c.show.new.self c.requires.size c.loop-i-test.true (at_place (512 * c.loop-i.i) c.args.given.now)
          (subst (λ (b : Bool). ShowsAt c.args.input.now x (sliced c.args.given.now c.loop-i.i) c.loop-i.sectors c.show.new.self b) c.if-not-branch.true c.in_ok-show.ensures.shows),
    )

pub loop-i-preserved : goal.loop-i-preserved
loop-i-preserved c = record {
  size = c.in_ok-show.ensures.length ∙ c.loop-i.invariant.size;
  rest = λ x less.
      c.loop-i.invariant.rest x less
      ∙ gives_turn c.args.input.now x c.args.range.lba c.args.given.now (sliced c.args.given.now c.loop-i.i) c.loop-i.i c.args.range.count c.loop-i.sectors c.show.new.self c.requires.size c.loop-i-test.true
      (omega (arith, c.loop-i-test.true, c.requires.within, c.loop-i.invariant.size)) (at_place (512 * c.loop-i.i) c.args.given.now)
      (subst (λ (b : Bool). ShowsAt c.args.input.now (c.args.range.lba + c.loop-i.i) (sliced c.args.given.now c.loop-i.i) c.loop-i.sectors c.show.new.self b) c.if-not-branch.false c.in_ok-show.ensures.shows);
}

pub returns-clause-gives : goal.returns-clause-gives
returns-clause-gives c = λ x less.
    gives_begin c.args.input.now x c.args.range.lba c.args.given.now c.args.range.count c.args.sectors.now c.requires.size
    ∙ c.loop-i.invariant.rest x less
    ∙ gives_end c.args.input.now x c.args.range.lba c.args.given.now c.loop-i.i c.args.range.count c.loop-i.sectors c.loop-i-test.false
