use Rattle.std.proofs.Common.{arith, map, refl, sym, subst}
use Rattle.std.specs.Prelude.{slice_set}
use Rattle.satl_core.specs.declared.satl.OpenFault.TheVariants.{NoMemory}
use Rattle.satl_fleet.specs.Opening.{OpensTo}
use Rattle.satl_fleet.specs.Opening.OpensTo.{rest}
use Rattle.satl_fleet.proofs.OpeningLemmas.{able, alone_more, cause_more, opened_alone, opened_more}
use Rattle.satl_fleet.proofs.opening.open_units.Goals as goal

pub open-requires : goal.open-requires
open-requires g c = (able g.D.Drive.state (map g.D.Drive.state c.args.drives.now.items) c.loop-k.units.items c.loop-k.drives.items c.loop-k.k c.index_mut-drive.result.now c.loop-k.invariant.opened (omega (arith, c.loop-k.invariant.units, c.loop-k.units.ok.0)) (omega (arith, c.loop-k-test.true, c.loop-k.invariant.drives, c.loop-k.drives.ok.0)) c.index_mut-drive.ensures.value c.requires.free)

pub loop-k-init : goal.loop-k-init
loop-k-init g c = record {
  units = c.new-units.ensures.len;
  drives = refl;
  opened = subst (λ ls. OpensTo (map g.D.Drive.state c.args.drives.now.items) ls (map g.D.Drive.state c.args.drives.now.items)) (sym c.new-units.ensures.items) rest;
  calls = omega arith;
}

pub returns-in_default-clause-alone : goal.returns-in_default-clause-alone
returns-in_default-clause-alone g c = alone_more g.D.Drive.state (map g.D.Drive.state c.args.drives.now.items) c.loop-k.units.items c.loop-k.drives.items c.loop-k.k c.index_mut-drive.result.now c.loop-k.invariant.opened (omega (arith, c.loop-k.invariant.units, c.loop-k.units.ok.0)) (omega (arith, c.loop-k-test.true, c.loop-k.invariant.drives, c.loop-k.drives.ok.0)) c.index_mut-drive.ensures.value c.open.new.drive (opened_alone (g.D.Drive.state c.index_mut-drive.result.now) (g.D.Drive.state c.open.new.drive) c.in-Ok.satl (record { opened = c.in-Ok.ensures.opened; queue = c.see_queue.ensures.ties (g.D.Drive.state c.open.new.drive) c.in-Ok.ensures.opened.tied; nows = c.in-Ok.ensures.nows }))

pub returns-in_default-clause-stopped : goal.returns-in_default-clause-stopped
returns-in_default-clause-stopped g c = cause_more g.D.Drive.state (map g.D.Drive.state c.args.drives.now.items) c.loop-k.units.items c.loop-k.drives.items c.loop-k.k c.index_mut-drive.result.now c.loop-k.invariant.opened (omega (arith, c.loop-k.invariant.units, c.loop-k.units.ok.0)) (omega (arith, c.loop-k-test.true, c.loop-k.invariant.drives, c.loop-k.drives.ok.0)) c.index_mut-drive.ensures.value c.open.new.drive NoMemory tt

pub returns-in-Err-clause-stopped : goal.returns-in-Err-clause-stopped
returns-in-Err-clause-stopped g c = cause_more g.D.Drive.state (map g.D.Drive.state c.args.drives.now.items) c.loop-k.units.items c.loop-k.drives.items c.loop-k.k c.index_mut-drive.result.now c.loop-k.invariant.opened (omega (arith, c.loop-k.invariant.units, c.loop-k.units.ok.0)) (omega (arith, c.loop-k-test.true, c.loop-k.invariant.drives, c.loop-k.drives.ok.0)) c.index_mut-drive.ensures.value c.open.new.drive c.in-Err.fault c.in-Err.ensures.cause

pub returns-in-Err-clause-alone : goal.returns-in-Err-clause-alone
returns-in-Err-clause-alone g c = alone_more g.D.Drive.state (map g.D.Drive.state c.args.drives.now.items) c.loop-k.units.items c.loop-k.drives.items c.loop-k.k c.index_mut-drive.result.now c.loop-k.invariant.opened (omega (arith, c.loop-k.invariant.units, c.loop-k.units.ok.0)) (omega (arith, c.loop-k-test.true, c.loop-k.invariant.drives, c.loop-k.drives.ok.0)) c.index_mut-drive.ensures.value c.open.new.drive (record { undisturbed = c.in-Err.ensures.alone; nows = c.in-Err.ensures.nows; unplugs = c.in-Err.ensures.unplugs; orders = c.in-Err.ensures.orders })

pub loop-k-preserved : goal.loop-k-preserved
loop-k-preserved g c = record {
  units = omega (arith, c.in-Ok-push.ensures.len, c.loop-k.invariant.units);
  drives = c.loop-k.invariant.drives;
  opened = subst (λ ls. OpensTo (map g.D.Drive.state c.args.drives.now.items) ls (map g.D.Drive.state (slice_set c.loop-k.drives.items c.loop-k.k c.open.new.drive))) (sym c.in-Ok-push.ensures.items) (opened_more g.D.Drive.state (map g.D.Drive.state c.args.drives.now.items) c.loop-k.units.items c.loop-k.drives.items c.loop-k.k c.index_mut-drive.result.now c.loop-k.invariant.opened (omega (arith, c.loop-k.invariant.units, c.loop-k.units.ok.0)) (omega (arith, c.loop-k-test.true, c.loop-k.invariant.drives, c.loop-k.drives.ok.0)) c.index_mut-drive.ensures.value c.open.new.drive c.in-Ok.satl (record { opened = c.in-Ok.ensures.opened; queue = c.see_queue.ensures.ties (g.D.Drive.state c.open.new.drive) c.in-Ok.ensures.opened.tied; nows = c.in-Ok.ensures.nows }));
  calls = omega (arith, c.loop-k.invariant.calls, c.open.ensures.steps);
}
