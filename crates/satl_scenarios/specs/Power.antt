-- Power cycles, and what is on the medium after them (profile).
use Rattle.std.specs.Prelude.{false, true, List, [], ◌∷◌, ◌++◌, replicate}
use Rattle.satl_base.specs.declared.bench.BenchEvent.TheVariants as bench
use Rattle.satl_base.specs.declared.block.Block.{Block}
use Rattle.satl_base.specs.Cells.{lasts, cached_over}
use Rattle.satl_cdb.specs.declared.command.Command.{Command}
use Rattle.satl_cdb.specs.declared.command.Command.TheVariants as commands
use Rattle.satl_cdb.specs.declared.command.Form.TheVariants.{Ten}
use Rattle.satl_unit.specs.declared.attention.Attention.TheVariants.{ModeChanged, PowerOn}
use Rattle.satl_frame.specs.declared.frames.Frame.TheVariants.{Bench, Turn}
use Rattle.satl_direct.specs.Device.{Device}
use Rattle.satl_scenarios.specs.Scenario.{Scenario, answered, silent}
use Rattle.satl_scenarios.specs.Devices.{aa, bb, never_written, device, just_powered, unreadable, zeros}
use Rattle.satl_scenarios.specs.Replies.{check_condition, good, sense}
use Rattle.satl_scenarios.specs.Requests.{read_10, with_task, write_10}

-- a device whose first sector was written through the cache, with a command of tag 1 that waits
abbrev pub cached_with : Command → List Block → Device
cached_with command body = with_task 1 command body (cached_over zeros aa ∷ lasts zeros ∷ [])

-- SYNCHRONIZE CACHE of the whole medium (SBC-3, SYNCHRONIZE CACHE)
abbrev pub flush : Command
flush = commands.Flush Ten 0 0

-- the cache is written back: power takes nothing then (SBC-3 4.15)
abbrev pub written_back : Scenario
written_back = record {
  first = cached_with flush [];
  steps = answered (Turn 1) (good 1 [] ∷ []) ∷ silent (Bench bench.Power) ∷ [];
  losses = 0;
  depth = 0;
  last = just_powered (lasts aa ∷ lasts zeros ∷ []);
}

-- the cache is written back, and the sector is written again: power leaves this block (SBC-3 4.15)
abbrev pub flushed_then_written : Block → Scenario
flushed_then_written left = record {
  first = cached_with flush [];
  steps =
      silent (write_10 2 0 (bb ∷ []))
      ∷ answered (Turn 2) (good 1 [] ∷ good 2 [] ∷ [])
      ∷ silent (Bench bench.Power)
      ∷ [];
  losses = 0;
  depth = 1;
  last = just_powered (lasts left ∷ lasts zeros ∷ []);
}

-- the cache is written back, and another sector is written: power takes that block alone, and nothing when it is lost once
-- more (SBC-3 4.15)
abbrev pub flushed_then_written_elsewhere : Scenario
flushed_then_written_elsewhere = record {
  first = cached_with flush [];
  steps =
      answered (Turn 1) (good 1 [] ∷ [])
      ∷ silent (write_10 2 1 (bb ∷ []))
      ∷ answered (Turn 1) (good 2 [] ∷ [])
      ∷ silent (Bench bench.Power)
      ∷ silent (Bench bench.Power)
      ∷ [];
  losses = 0;
  depth = 1;
  last = just_powered (lasts aa ∷ lasts zeros ∷ []);
}

-- a list of 24 bytes for MODE SELECT(6): the Caching page with WCE and DRA 0 (SPC-4, MODE SELECT commands; SBC-3 6.4.5)
unfoldable pub caching_list : Block
caching_list = record { bytes = (0 ∷ 0 ∷ 0 ∷ 0 ∷ 0x08 ∷ 0x12 ∷ []) ++ replicate 506 0 }

abbrev pub select : Command
select = commands.ModeSelect false 24

-- the cache is turned off: all is written back, and the other nexuses are told that mode values have changed (SBC-3 6.4.5)
abbrev pub turned_off : Scenario
turned_off = record {
  first = cached_with select (caching_list ∷ []);
  steps = answered (Turn 1) (good 1 [] ∷ []) ∷ [];
  losses = 0;
  depth = 0;
  last = record (device (lasts aa ∷ lasts zeros ∷ [])) {
    modes = record { wce = false; dra = false; d_sense = false };
    attentions = [] ∷ (ModeChanged ∷ []) ∷ (ModeChanged ∷ []) ∷ (ModeChanged ∷ []) ∷ [];
  };
}

-- and then a power cycle: the cache is on again (SPC-4, MODE SELECT commands)
abbrev pub turned_off_then_power : Scenario
turned_off_then_power = record {
  first = turned_off.first;
  steps = turned_off.steps ++ silent (Bench bench.Power) ∷ [];
  losses = 0;
  depth = 0;
  last = just_powered (lasts aa ∷ lasts zeros ∷ []);
}

-- after a power cycle a nexus is told so once, and then its commands are carried out (SAM-5 5.14)
abbrev pub told_once : Scenario
told_once = record {
  first = never_written 2;
  steps =
      silent (Bench bench.Power)
      ∷ answered (read_10 1 0 1) (check_condition 1 (sense 0x6 0x29 0x01) ∷ [])
      ∷ silent (read_10 2 0 1)
      ∷ answered (Turn 1) (good 2 (zeros ∷ []) ∷ [])
      ∷ [];
  losses = 0;
  depth = 1;
  last = record (never_written 2) { attentions = [] ∷ (PowerOn ∷ []) ∷ (PowerOn ∷ []) ∷ (PowerOn ∷ []) ∷ [] };
}

-- a power cycle of a unit that is stopped and has lost its link: its task goes without an answer, a sector that was written
-- through the cache has its old block, flaws and glitches stay, and the mode values are the defaults (SAM-5 6.3; SBC-3 4.15;
-- profile)
abbrev pub power_with_a_task : Scenario
power_with_a_task = record {
  first = record (with_task 1 (commands.Read Ten 0 1 false) [] (cached_over zeros aa ∷ unreadable bb ∷ [])) {
    started = false;
    active = false;
    down = true;
    glitches = 3;
    modes = record { wce = false; dra = true; d_sense = true };
  };
  steps = silent (Bench bench.Power) ∷ [];
  losses = 0;
  depth = 0;
  last = record (just_powered (lasts zeros ∷ unreadable bb ∷ [])) { glitches = 3 };
}
