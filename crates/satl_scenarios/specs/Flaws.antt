-- Transfers that meet a flaw of a sector or a CRC error.
use Rattle.std.specs.Prelude.{false, true, [], ◌∷◌, ◌++◌}
use Rattle.satl_base.specs.declared.bench.BenchEvent.TheVariants.{Glitch, Strike}
use Rattle.satl_base.specs.declared.bench.Which.TheVariants as flaws
use Rattle.satl_base.specs.Cells.{lasts, cached_over}
use Rattle.satl_frame.specs.declared.frames.Frame.TheVariants.{Bench, End, Turn}
use Rattle.satl_frame.specs.Output.Answer.{closed}
use Rattle.satl_scenarios.specs.Scenario.{Scenario, answered, silent}
use Rattle.satl_scenarios.specs.Devices.{aa, bb, never_written, device, unreadable, unwritable, zeros}
use Rattle.satl_scenarios.specs.Replies.{check_condition, good, sense, sense_at}
use Rattle.satl_scenarios.specs.Requests.{read_10, write_10}

-- of three commands that wait, the read in the middle fails first, and the writes about it are done: UNRECOVERED READ ERROR at
-- its address (SPC-4 4.5.6)
abbrev pub flaw_among_writes : Scenario
flaw_among_writes = record {
  first = never_written 3;
  steps =
      silent (Bench (Strike flaws.Read 1))
      ∷ silent (write_10 1 0 (aa ∷ []))
      ∷ silent (read_10 2 1 1)
      ∷ silent (write_10 3 2 (bb ∷ []))
      ∷ answered End (check_condition 2 (sense_at 0x3 0x11 0x00 1) ∷ good 1 [] ∷ good 3 [] ∷ closed ∷ [])
      ∷ [];
  losses = 0;
  depth = 3;
  last = device (cached_over zeros aa ∷ unreadable zeros ∷ cached_over zeros bb ∷ []);
}

-- a write of two blocks fails at the second, when the first is written: WRITE ERROR - AUTO REALLOCATION FAILED at its address
-- (SPC-4 4.5.6)
abbrev pub torn_write : Scenario
torn_write = record {
  first = never_written 2;
  steps =
      silent (Bench (Strike flaws.Write 1))
      ∷ silent (write_10 1 0 (aa ∷ bb ∷ []))
      ∷ answered (Turn 1) (check_condition 1 (sense_at 0x3 0x0C 0x02 1) ∷ [])
      ∷ [];
  losses = 0;
  depth = 1;
  last = device (cached_over zeros aa ∷ unwritable zeros ∷ []);
}

-- a read fails by a CRC error, and the next is done: INFORMATION UNIT iuCRC ERROR DETECTED (SPC-4 4.5.6)
abbrev pub garbled_read : Scenario
garbled_read = record {
  first = never_written 2;
  steps =
      silent (Bench (Glitch 1))
      ∷ silent (read_10 1 0 1)
      ∷ answered (Turn 1) (check_condition 1 (sense 0xB 0x47 0x03) ∷ [])
      ∷ silent (read_10 2 0 1)
      ∷ answered (Turn 1) (good 2 (zeros ∷ []) ∷ [])
      ∷ [];
  losses = 0;
  depth = 1;
  last = never_written 2;
}

-- while a glitch is left a read may be done too (profile)
abbrev pub spared_read : Scenario
spared_read = record {
  first = never_written 2;
  steps =
      silent (Bench (Glitch 1))
      ∷ silent (read_10 1 0 1)
      ∷ answered (Turn 1) (good 1 (zeros ∷ []) ∷ [])
      ∷ [];
  losses = 0;
  depth = 1;
  last = record (never_written 2) { glitches = 1 };
}

-- where D_SENSE is 1 sense data are in the descriptor form: a flaw is told in an information descriptor (SPC-4 4.5.2.2)
abbrev pub described : Scenario
described = record {
  first = record (device (lasts zeros ∷ unreadable zeros ∷ [])) { modes = record { wce = true; dra = false; d_sense = true } };
  steps =
      silent (read_10 1 0 2)
      ∷ answered (Turn 1) (
      check_condition 1
      ((0x72 ∷ 0x3 ∷ 0x11 ∷ 0x00 ∷ 0 ∷ 0 ∷ 0 ∷ 0x0C ∷ []) ++ (0 ∷ 0x0A ∷ 0x80 ∷ 0 ∷ 0 ∷ 0 ∷ 0 ∷ 0 ∷ 0 ∷ 0 ∷ 0 ∷ 1 ∷ []))
      ∷ []
      )
      ∷ [];
  losses = 0;
  depth = 1;
  last = record (device (lasts zeros ∷ unreadable zeros ∷ [])) { modes = record { wce = true; dra = false; d_sense = true } };
}
