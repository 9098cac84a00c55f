use Rattle.std.proofs.Common.{◌≡◌, ℕ, ◌+◌, ◌<◌, ◌∷◌, ◌++◌, length, drop, sym, ◌∙◌, ap, arith}
use Rattle.std.specs.Prelude.{◌-◌}
use Rattle.std.proofs.lemmas.List.{get_or_default, length-drop, length-take}
use Rattle.satl_base.specs.Cells.{nows}
use Rattle.satl_disk.specs.Disk.{blank_sector}
use Rattle.satl_disk.specs.Layout.{sector_at}
use Rattle.satl_disk.specs.Sectors.{cells_of}
use Rattle.satl_disk.proofs.SectorsLemmas.{nows_front, nows_none}
use Rattle.satl_disk.proofs.data_in.fill.Goals as goal

pub loop-i-init : goal.loop-i-init
loop-i-init c =
    let n = c.args.count in
    let pages = c.args.pages.now in
    record {
      filled = c.split-filled.ensures.rest ∙ ap (λ bs. bs ++ drop n pages) (nows_none (cells_of c.args.sectors.now) (c.args.lba + (n - 0)));
      left = omega (arith, ap length c.take-blank.ensures.value, ap length c.split-filled.ensures.kept, length-take n pages);
      size = omega (arith, ap length c.split-filled.ensures.rest, length-drop n pages);
    }

pub loop-i-preserved : goal.loop-i-preserved
loop-i-preserved c =
    let ss = c.args.sectors.now in
    let i = c.loop-i.i in
    let others = drop c.args.count c.args.pages.now in
    let place : ℕ = c.args.lba + (c.args.count - (i + 1)) in
    let same : c.args.lba + (c.args.count - 1 - i) ≡ place = omega arith in
    let next : c.args.lba + (c.args.count - i) ≡ place + 1 = omega arith in
    let within : place < length ss = omega arith in
    let s = sector_at ss place in
    record {
      filled =
          c.push_first.ensures
          ∙ ap (λ b. b ∷ c.loop-i.filled) c.load.ensures
          ∙ ap (λ k. (sector_at ss k).now ∷ c.loop-i.filled) same
          ∙ ap (λ bs. s.now ∷ bs) c.loop-i.invariant.filled
          ∙ ap (λ k. s.now ∷ (nows (cells_of ss) k i ++ others)) next
          ∙ ap (λ bs. bs ++ others) (nows_front ss place i s within (get_or_default ss place blank_sector s within));
      left = omega (arith, ap length c.in-Some.ensures.items);
      size = omega (arith, ap length c.push_first.ensures);
    }

pub returns : goal.returns
returns c =
    let all : c.args.count ≡ c.loop-i.i = omega arith in
    let here : c.args.lba + (c.args.count - c.loop-i.i) ≡ c.args.lba = omega arith in
    let ss = c.args.sectors.now in
    let others = drop c.args.count c.args.pages.now in
    c.loop-i.invariant.filled
    ∙ ap (λ k. nows (cells_of ss) k c.loop-i.i ++ others) here
    ∙ sym (ap (λ k. nows (cells_of ss) c.args.lba k ++ others) all)
