-- Reads and writes that end in their turns (profile).
use Rattle.std.specs.Prelude.{false, List, [], ◌∷◌, ◌++◌, drop}
use Rattle.satl_base.specs.declared.request.Attr.TheVariants.{Ordered}
use Rattle.satl_base.specs.Cells.{lasts, cached_over}
use Rattle.satl_frame.specs.declared.frames.Frame.TheVariants.{End, Request, Turn}
use Rattle.satl_frame.specs.Output.{Answer}
use Rattle.satl_frame.specs.Output.Answer.{closed}
use Rattle.satl_scenarios.specs.Scenario.{Scenario, answered, silent}
use Rattle.satl_scenarios.specs.Devices.{aa, bb, never_written, device, zeros}
use Rattle.satl_scenarios.specs.Replies.{check_condition, good, sense}
use Rattle.satl_scenarios.specs.Requests.{cdb_10, read_10, request, write_10}

-- a block is written through the cache and read: power may still bring the old one back (SBC-3 4.15, READ and
-- WRITE commands)
abbrev pub written_then_read : Scenario
written_then_read = record {
  first = never_written 3;
  steps =
      silent (write_10 1 0 (aa ∷ []))
      ∷ answered (Turn 1) (good 1 [] ∷ [])
      ∷ silent (read_10 2 0 1)
      ∷ answered (Turn 1) (good 2 (aa ∷ []) ∷ [])
      ∷ [];
  losses = 0;
  depth = 1;
  last = device (cached_over zeros aa ∷ lasts zeros ∷ lasts zeros ∷ []);
}

-- two reads wait, and END answers them so
abbrev pub two_reads : List Answer → Scenario
two_reads answers = record {
  first = never_written 2;
  steps =
      silent (read_10 1 0 1)
      ∷ silent (read_10 2 1 1)
      ∷ answered End (answers ++ closed ∷ [])
      ∷ [];
  losses = 0;
  depth = 2;
  last = never_written 2;
}

-- in the order of arrival, and the other way round (SAM-5 8, command order)
abbrev pub reads_in_order : Scenario
reads_in_order = two_reads (good 1 (zeros ∷ []) ∷ good 2 (zeros ∷ []) ∷ [])

abbrev pub reads_in_reverse : Scenario
reads_in_reverse = two_reads (good 2 (zeros ∷ []) ∷ good 1 (zeros ∷ []) ∷ [])

-- the second is ORDERED: it waits for the first, and the drive has one of them at a time (SAM-5 8.6)
abbrev pub ordered_read : Scenario
ordered_read = record {
  first = never_written 2;
  steps =
      silent (read_10 1 0 1)
      ∷ silent (Request (record (request 2 (cdb_10 0x28 1 1) []) { attr = Ordered }))
      ∷ answered End (good 1 (zeros ∷ []) ∷ good 2 (zeros ∷ []) ∷ closed ∷ [])
      ∷ [];
  losses = 0;
  depth = 1;
  last = never_written 2;
}

-- a read of a drive in standby wakes it (ACS-3, power modes)
abbrev pub waking_read : Scenario
waking_read = record {
  first = record (never_written 2) { active = false };
  steps = silent (read_10 1 0 1) ∷ answered (Turn 1) (good 1 (zeros ∷ []) ∷ []) ∷ [];
  losses = 0;
  depth = 1;
  last = never_written 2;
}

-- a write past the cache: nothing else is left to a loss of power (SBC-3, WRITE commands, FUA)
abbrev pub written_past_the_cache : Scenario
written_past_the_cache = record {
  first = never_written 2;
  steps =
      silent (Request (request 1 (0x2A ∷ 0x08 ∷ drop 2 (cdb_10 0x2A 0 1)) (aa ∷ [])))
      ∷ answered (Turn 1) (good 1 [] ∷ [])
      ∷ [];
  losses = 0;
  depth = 1;
  last = device (lasts aa ∷ lasts zeros ∷ []);
}

-- a write garbled by a CRC error: its second block alone is written (SPC-4 4.5.6; profile)
abbrev pub garbled_write : Scenario
garbled_write = record {
  first = record (never_written 2) { glitches = 1 };
  steps =
      silent (write_10 1 0 (aa ∷ bb ∷ []))
      ∷ answered (Turn 1) (check_condition 1 (sense 0xB 0x47 0x03) ∷ [])
      ∷ [];
  losses = 0;
  depth = 1;
  last = device (lasts zeros ∷ cached_over zeros bb ∷ []);
}
