use Rattle.std.proofs.Common.{◌∙◌, [], refl, arith}
use Rattle.satl_frame.proofs.Paging.{nothing_placed}
use Rattle.satl_io.proofs.Joined.{Took-none}
use Rattle.satl_frame.proofs.refill.pull_by.Goals as goal

pub returns-then-len-eq0-clause-filled : goal.returns-then-len-eq0-clause-filled
returns-then-len-eq0-clause-filled g c = record {
  taken = [];
  took = Took-none _;
  size = omega (arith, c.if-len-eq0.true);
  pages_are = c.default.ensures ∙ nothing_placed (g.P.Lender.stock c.args.lender.now).free [] refl;
}
