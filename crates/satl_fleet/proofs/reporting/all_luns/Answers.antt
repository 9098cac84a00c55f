use Rattle.std.proofs.Common.{arith, ap, length, ◌∷◌, [], ◌*◌}
use Rattle.std.proofs.lemmas.List.{length-append}
use Rattle.satl_fleet.specs.Target.{lun_of}
use Rattle.satl_fleet.proofs.ReportLemmas.{luns_more}
use Rattle.satl_fleet.proofs.reporting.all_luns.Goals as goal

pub loop-k-preserved : goal.loop-k-preserved
loop-k-preserved c =
    let more = ap length c.append-in-loop-k.ensures.items in
    let long = length-append c.loop-k.luns.items (lun_of c.loop-k.k) in
    record {
      luns = luns_more (0 ∷ 0 ∷ 0 ∷ 8 * c.args.units ∷ 0 ∷ 0 ∷ 0 ∷ 0 ∷ []) c.loop-k.k c.loop-k.luns.items c.append-in-loop-k.new.bytes.items c.loop-k.invariant.luns c.append-in-loop-k.ensures.items;
      long = omega (arith, more, long, c.loop-k.invariant.long);
    }
