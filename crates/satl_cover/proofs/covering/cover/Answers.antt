use Rattle.std.proofs.Common.{arith, sym, subst, ℕ, ◌-◌, List, length}
use Rattle.satl_frame.specs.declared.frames.Reason.TheVariants.{TooLong}
use Rattle.satl_cover.specs.Covered.{IsBadInput}
use Rattle.satl_cover.specs.Reading.{ReadWhole}
use Rattle.satl_cover.proofs.ReadingLemmas.{rest_is_bad}
use Rattle.satl_cover.proofs.covering.cover.Goals as goal

pub returns-then-left-gt0 : goal.returns-then-left-gt0
returns-then-left-gt0 c =
    let whole : ReadWhole c.args.trim c.args.input.now c.read_to_end.new.source c.in_ok-noted.noted.names c.in_ok-noted.noted.uncovered =
    subst (λ (i : List ℕ). ReadWhole c.args.trim i c.read_to_end.new.source c.in_ok-noted.noted.names c.in_ok-noted.noted.uncovered) c.new-source.ensures c.in_ok-noted.ensures.whole in
    subst (λ (n : ℕ). IsBadInput c.args.input.now TooLong (length c.args.input.now - n)) (sym c.left-left.ensures) (rest_is_bad c.args.trim c.args.input.now c.read_to_end.new.source _ _ whole (omega (arith, c.if-left-gt0.true, c.left-left.ensures)))
