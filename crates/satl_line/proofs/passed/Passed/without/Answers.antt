use Rattle.std.proofs.Common.{◌-◌, arith, inl, inr, refl}
use Rattle.satl_line.specs.Layout.{clear_bit}
use Rattle.satl_line.proofs.PassedLemmas.{without_place}
use Rattle.satl_line.proofs.passed.Passed.without.Goals as goal

pub returns-then-place-self : goal.returns-then-place-self
returns-then-place-self c = λ order within small none has.
    without_place order c.args.self (record { slots = clear_bit c.args.slot c.args.self.slots; places = c.args.self.places - 1 }) c.args.place c.args.slot c.requires within small none refl
    (inl (c.if-place-self.true, omega (arith, c.if-place-self.true))) has

pub returns-else-place-self : goal.returns-else-place-self
returns-else-place-self c = λ order within small none has.
    without_place order c.args.self (record { slots = clear_bit c.args.slot c.args.self.slots; places = c.args.self.places }) c.args.place c.args.slot c.requires within small none refl
    (inr (c.if-place-self.false, refl)) has
