use Rattle.std.proofs.Common.{◌<◌, arith, ap, ◌∙◌, ℕ, List, length}
use Rattle.satl_base.specs.Lists.{change_at}
use Rattle.satl_base.proofs.CellsLemmas.{change_at-length}
use Rattle.circular_buffer.specs.Buffer.{buffer}
use Rattle.satl_disk.specs.Sectors.{after_power_loss, byte_of}
use Rattle.satl_disk.proofs.InsideLemmas.{clean_is, clean_rest, dirty_rest, left_is, size_is}
use Rattle.satl_disk.proofs.sectors.Sectors.lose_at.Goals as goal
use Rattle.satl_disk.proofs.sectors.Sectors.lose_at.Goals.{After-self}

-- the place is one of the flaws, and so of each of the three lists
within : (c : After-self) → c.args.place < length c.self.inside.flaws.items
within c =
    let i = c.self.inside in
    omega (arith, size_is i.blocks i.stables i.flaws.items c.self.view_is c.self.invariant, c.requires)

pub get-requires : goal.get-requires
get-requires c = omega (arith, within (goal.at.get-requires c).After-self, c.self.invariant.1)

pub returns-in_default-clause-sector : goal.returns-in_default-clause-sector
returns-in_default-clause-sector c =
    let i = c.self.inside in
    clean_is i.blocks i.stables i.flaws.items c.self.view_is c.self.invariant c.args.place (within (goal.at.returns-in_default-clause-sector c).After-self) c.in_default.ensures (byte_of c.args.ring.now.items)

pub returns-in_default-clause-ring : goal.returns-in_default-clause-ring
returns-in_default-clause-ring c =
    let i = c.self.inside in
    ap (λ (bs : List ℕ). buffer bs c.args.ring.now.capacity) (clean_rest i.blocks i.stables i.flaws.items c.self.view_is c.self.invariant c.args.place (within (goal.at.returns-in_default-clause-ring c).After-self) c.in_default.ensures c.args.ring.now.items)

pub fall_back-requires : goal.fall_back-requires
fall_back-requires c = omega (arith, within (goal.at.fall_back-requires c).After-self, c.self.invariant.0)

pub clear-requires : goal.clear-requires
clear-requires c = omega (arith, within (goal.at.clear-requires c).After-self, c.self.invariant.1)

pub returns-clause-sector : goal.returns-clause-sector
returns-clause-sector c =
    let i = c.self.inside in
    left_is i.blocks i.stables i.flaws.items c.self.view_is c.self.invariant c.args.place (within (goal.at.returns-clause-sector c).After-self) c.in-Some.ensures c.draw.result c.fall_back.ensures c.clear.ensures
    ∙ ap (λ (byte : ℕ). change_at c.args.self.now c.args.place (after_power_loss byte)) c.draw.ensures.byte

pub returns-clause-size : goal.returns-clause-size
returns-clause-size c = ap length (returns-clause-sector c) ∙ change_at-length c.args.self.now c.args.place (after_power_loss (byte_of c.args.ring.now.items))

pub returns-clause-ring : goal.returns-clause-ring
returns-clause-ring c =
    let i = c.self.inside in
    c.draw.ensures.rest
    ∙ ap (λ (bs : List ℕ). buffer bs c.args.ring.now.capacity) (dirty_rest i.blocks i.stables i.flaws.items c.self.view_is c.self.invariant c.args.place (within (goal.at.returns-clause-ring c).After-self) c.in-Some.ensures c.args.ring.now.items)
