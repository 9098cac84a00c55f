use Rattle.std.proofs.Common.{◌≡◌, ◌-◌, ◌≤◌, ◌++◌, [], ◌∙◌, ap, length, take, subst, arith}
use Rattle.std.proofs.lemmas.Result.{on_err_weaker, on_ok_weaker}
use Rattle.satl_base.specs.Blocks.{first_bytes}
use Rattle.satl_base.proofs.OutcomeLemmas.{any_err}
use Rattle.satl_frame.specs.Gathering.{Gathers}
use Rattle.satl_io.specs.Known.{WrotePart}
use Rattle.satl_frame.proofs.GatheringLemmas.{block_gathered, gathers_nothing, gathers_part, Gathers-more, last_gathered, piece_failed}
use Rattle.satl_frame.proofs.writing.gather_data.Goals as goal

pub loop-block-init : goal.loop-block-init
loop-block-init g c = record {
  front = [];
  gathers = gathers_nothing _ _;
  rest = ap (first_bytes c.args.len) (c.into_iter-block-iterator.ensures.into_iter_gives ∙ c.iter-block-items.ensures);
  later = omega arith;
}

pub loop-block-preserved : goal.loop-block-preserved
loop-block-preserved g c =
    let known = c.in_ok-gather.ensures in
    let before = c.loop-block.invariant in
    let more : 512 ≤ c.loop-block.left = omega (arith, c.if-left-bytes.false, ap length c.as_bytes-bytes.ensures.value, c.as_bytes-bytes.ensures.size) in
    record {
      front = before.front ++ c.as_bytes-bytes.result.now;
      gathers = Gathers-more before.gathers known.all;
      rest = block_gathered before.front c.as_bytes-bytes.result.now c.loop-block.left c.in-Some.block.now c.next.new.self c.loop-block.block-iterator _
          c.as_bytes-bytes.ensures.value c.as_bytes-bytes.ensures.size more c.in-Some.ensures.steps before.rest;
      later = omega (arith, known.cause.later);
    }

pub returns-in_err-gather-clause-part : goal.returns-in_err-gather-clause-part
returns-in_err-gather-clause-part g c =
    let before = c.loop-block.invariant in
    let more : 512 ≤ c.loop-block.left = omega (arith, c.if-left-bytes.false, ap length c.as_bytes-bytes.ensures.value, c.as_bytes-bytes.ensures.size) in
    let bytes = c.as_bytes-bytes.result.now in
    any_err c.from_residual.result _ (piece_failed bytes (first_bytes (c.loop-block.left - length bytes) c.next.new.self) (first_bytes c.args.len c.args.pages.now) before.gathers c.in_err-gather.ensures.part
    (block_gathered before.front bytes c.loop-block.left c.in-Some.block.now c.next.new.self c.loop-block.block-iterator _
    c.as_bytes-bytes.ensures.value c.as_bytes-bytes.ensures.size more c.in-Some.ensures.steps before.rest))

-- the bytes of the last block
last_bytes : (g : _) (c : goal.After-gather g) → c.loop-block.invariant.front ++ take c.loop-block.left c.as_bytes-bytes.result.now ≡ first_bytes c.args.len c.args.pages.now
last_bytes g c = last_gathered c.loop-block.invariant.front c.as_bytes-bytes.result.now c.loop-block.left c.in-Some.block.now c.next.new.self c.loop-block.block-iterator _
    c.as_bytes-bytes.ensures.value c.if-left-bytes.true c.in-Some.ensures.steps c.loop-block.invariant.rest

pub returns-then-left-bytes-clause-all : goal.returns-then-left-bytes-clause-all
returns-then-left-bytes-clause-all g c =
    on_ok_weaker c.gather.result
    (λ all. subst (Gathers (g.K.Sink.written c.args.sink.now) (g.K.Sink.written c.gather.new.sink) c.args.buffer.now c.gather.new.buffer) (last_bytes g c) (Gathers-more c.loop-block.invariant.gathers all))
    c.gather.ensures.all

pub returns-then-left-bytes-clause-part : goal.returns-then-left-bytes-clause-part
returns-then-left-bytes-clause-part g c =
    on_err_weaker c.gather.result
    (λ part. subst (λ bytes. WrotePart (g.K.Sink.written c.args.sink.now) (g.K.Sink.written c.gather.new.sink) (c.args.buffer.now ++ bytes)) (last_bytes g c)
    (gathers_part (take c.loop-block.left c.as_bytes-bytes.result.now) c.loop-block.invariant.gathers part))
    c.gather.ensures.part
