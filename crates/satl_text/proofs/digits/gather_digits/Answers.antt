use Rattle.std.proofs.Common.{◌++◌, [], ◌∙◌, arith}
use Rattle.satl_base.specs.Blocks.{first_bytes}
use Rattle.satl_base.proofs.OutcomeLemmas.{any_err}
use Rattle.satl_frame.proofs.GatheringLemmas.{gathers_nothing, piece_gathered}
use Rattle.satl_text.proofs.DigitLemmas.{encode_lower-nil, digits_more, digits_failed}
use Rattle.satl_text.proofs.digits.gather_digits.Goals as goal

pub loop-piece-init : goal.loop-piece-init
loop-piece-init g c = record {
  front = [];
  gathers = rw encode_lower-nil (gathers_nothing _ _);
  rest = c.into_iter-piece-iterator.ensures.into_iter_gives ∙ c.pieces-piece-items.ensures;
  later = omega arith;
}

pub loop-piece-preserved : goal.loop-piece-preserved
loop-piece-preserved g c =
    let known = c.in_ok-gather_piece.ensures in
    let before = c.loop-piece.invariant in
    record {
      front = before.front ++ c.in-Some.piece.now;
      gathers = digits_more before.front c.in-Some.piece.now before.gathers known.all;
      rest = piece_gathered before.front c.in-Some.piece.now c.next.new.self (first_bytes c.args.len c.args.pages.now) c.in-Some.ensures.steps.0 before.rest;
      later = omega (arith, known.cause.later);
    }

pub returns-in_err-gather_piece-clause-part : goal.returns-in_err-gather_piece-clause-part
returns-in_err-gather_piece-clause-part g c =
    let before = c.loop-piece.invariant in
    let all = first_bytes c.args.len c.args.pages.now in
    any_err c.from_residual.result _ (digits_failed before.front c.in-Some.piece.now c.next.new.self all before.gathers c.in_err-gather_piece.ensures.part
    (piece_gathered before.front c.in-Some.piece.now c.next.new.self all c.in-Some.ensures.steps.0 before.rest))
