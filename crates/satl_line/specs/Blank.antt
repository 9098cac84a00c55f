-- What lies in a box before a task was put there.
use Rattle.std.specs.Prelude.{false, [], None}
use Rattle.satl_cdb.specs.declared.command.Command.TheVariants.{TestUnitReady}
use Rattle.satl_line.specs.declared.entry.Entry.{Entry}
use Rattle.satl_line.specs.declared.entry.Kind.TheVariants.{Barrier}

-- what stands for a task where there is none (profile)
abbrev pub no_entry : Entry
no_entry = record {
  nexus = 0;
  tag = record { 0 = 0 };
  kind = Barrier;
  ordered = false;
  blocks = 0;
  command = TestUnitReady;
  body = [];
  ranges = record { items = [] };
  change = None;
  expected = None;
}
