use Rattle.std.proofs.Common.{◌≡◌, arith, map, true, false}
use Rattle.std.specs.Prelude.{drop}
use Rattle.satl_top.proofs.FleetLemmas.{first_new, first_old}
use Rattle.satl_top.proofs.several.program.Goals as goal

pub returns : goal.returns
returns g c = record {
  fleet = λ asks.
      let yes : c.is_fleet.result ≡ true = c.is_fleet.ensures.1 asks in
      let no : c.is_fleet.result ≡ false = c.if-is_fleet.false in
      absurd cc;
  first = λ other. record {
    first = g.D.Drive.state c.index_mut-first.result.now;
    last = g.D.Drive.state c.satl.new.drive;
    others = map g.D.Drive.state (drop 1 c.args.drives.now.items);
    olds = first_old g.D.Drive.state c.args.drives.now.items c.index_mut-first.result.now (omega (arith, c.requires.some, c.args.drives.now.ok.0)) c.index_mut-first.ensures.value;
    news = first_new g.D.Drive.state c.args.drives.now.items c.satl.new.drive (omega (arith, c.requires.some, c.args.drives.now.ok.0));
    plain = c.satl.ensures.plain;
    usage = c.satl.ensures.usage;
    refused = c.satl.ensures.refused;
    taken = λ taken usage. c.satl.ensures.takes usage taken;
    outcome = c.satl.ensures.outcome;
  };
}
