use Rattle.std.proofs.Common.{ap, arith, length, sym}
use Rattle.std.proofs.lemmas.List.{length-drop}
use Rattle.satl_base.specs.Chains.{blocks_of}
use Rattle.satl_base.proofs.ChainLemmas.{walked_from, walked_off}
use Rattle.satl_base.proofs.pages.Pages.move_first.Goals as goal

pub invariant_of-self : goal.invariant_of-self
invariant_of-self c =
    omega (
      arith,
      c.self.invariant,
      c.requires.enough,
      c.shift_many.ensures.count,
      ap length (walked_from (blocks_of c.self.inside.first) (blocks_of c.others.inside.first) (blocks_of c.shift_many.new.from) (blocks_of c.shift_many.new.onto) c.args.n
          c.shift_many.ensures.same c.shift_many.ensures.count (omega (arith, c.requires.enough, ap length c.self.view_is))),
      length-drop c.args.n (blocks_of c.self.inside.first),
      ap length c.self.view_is,
    )

pub returns-clause-moved : goal.returns-clause-moved
returns-clause-moved c =
    rw (sym c.self.view_is) (rw (sym c.others.view_is)
    (walked_off (blocks_of c.self.inside.first) (blocks_of c.others.inside.first) (blocks_of c.shift_many.new.from) (blocks_of c.shift_many.new.onto) c.args.n
    c.shift_many.ensures.same c.shift_many.ensures.count (omega (arith, c.requires.enough, ap length c.self.view_is))))

pub returns-clause-rest : goal.returns-clause-rest
returns-clause-rest c =
    rw (sym c.self.view_is)
    (walked_from (blocks_of c.self.inside.first) (blocks_of c.others.inside.first) (blocks_of c.shift_many.new.from) (blocks_of c.shift_many.new.onto) c.args.n
    c.shift_many.ensures.same c.shift_many.ensures.count (omega (arith, c.requires.enough, ap length c.self.view_is)))
