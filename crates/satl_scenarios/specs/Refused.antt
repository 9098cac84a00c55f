-- Commands that are refused when they arrive, or at their turn because the unit is stopped.
use Rattle.std.specs.Prelude.{false, [], ◌∷◌, drop, replicate}
use Rattle.satl_frame.specs.declared.frames.Frame.TheVariants.{Request, Turn}
use Rattle.satl_scenarios.specs.Scenario.{Scenario, answered, silent}
use Rattle.satl_scenarios.specs.Devices.{aa, never_written}
use Rattle.satl_scenarios.specs.Replies.{check_condition, sense, sense_pointing}
use Rattle.satl_scenarios.specs.Requests.{cdb_10, read_10, request}

-- refused at once, each for its own fault: another logical unit, an operation code that there is none for, RDPROTECT in byte 1,
-- a block past the last sector, and fewer bytes of data-out than the blocks (SPC-4 4.5.6)
abbrev pub refused_at_once : Scenario
refused_at_once = record {
  first = never_written 2;
  steps =
      answered (Request (record (request 1 (cdb_10 0x28 0 1) []) { lun = 0 ∷ 1 ∷ replicate 6 0 }))
      (check_condition 1 (sense 0x5 0x25 0x00) ∷ [])
      ∷ answered (Request (request 2 (cdb_10 0xFF 0 1) [])) (check_condition 2 (sense 0x5 0x20 0x00) ∷ [])
      ∷ answered (Request (request 3 (0x28 ∷ 0x20 ∷ drop 2 (cdb_10 0x28 0 1)) []))
      (check_condition 3 (sense_pointing 0x5 0x24 0x00 1) ∷ [])
      ∷ answered (read_10 4 2 1) (check_condition 4 (sense 0x5 0x21 0x00) ∷ [])
      ∷ answered (Request (request 5 (cdb_10 0x2A 0 2) (aa ∷ []))) (check_condition 5 (sense 0xB 0x4B 0x00) ∷ [])
      ∷ [];
  losses = 0;
  depth = 0;
  last = never_written 2;
}

-- a read of a unit that is stopped: it waits for its turn, and is told so (SPC-4 4.5.6, LOGICAL UNIT NOT READY)
abbrev pub not_started : Scenario
not_started = record {
  first = record (never_written 2) { started = false; active = false };
  steps =
      silent (read_10 1 0 1)
      ∷ answered (Turn 1) (check_condition 1 (sense 0x2 0x04 0x02) ∷ [])
      ∷ [];
  losses = 0;
  depth = 0;
  last = record (never_written 2) { started = false; active = false };
}
