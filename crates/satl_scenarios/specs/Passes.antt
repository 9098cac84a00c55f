-- ATA commands that a host sends through the layer (SAT-3 12.2).
use Rattle.std.specs.Prelude.{ℕ, false, List, [], ◌∷◌}
use Rattle.satl_base.specs.Cells.{lasts, cached_over}
use Rattle.satl_cdb.specs.declared.command.Command.TheVariants.{Pass}
use Rattle.satl_frame.specs.declared.frames.Frame.TheVariants.{Request, Turn}
use Rattle.satl_frame.specs.Output.{Answer}
use Rattle.satl_scenarios.specs.Commands.{ends_with, written}
use Rattle.satl_scenarios.specs.Scenario.{Scenario, answered, silent}
use Rattle.satl_scenarios.specs.Devices.{aa, bb, device, identify_data, unreadable, zeros}
use Rattle.satl_scenarios.specs.Replies.{check_condition, good}
use Rattle.satl_scenarios.specs.Requests.{read_10, request}

-- bytes of an ATA PASS-THROUGH (16): byte 1 with PROTOCOL and EXTEND, byte 2 with the flags, and the low bytes of FEATURES,
-- COUNT, LBA, DEVICE and COMMAND (SAT-3 12.2.2.3)
pub record ThroughFields : Type 0 where
  pub protocol : ℕ
  pub flags : ℕ
  pub features : ℕ
  pub count : ℕ
  pub lba : ℕ
  pub device_field : ℕ
  pub command : ℕ

-- all of them 0 (SAT-3 12.2.2.3)
abbrev pub no_fields : ThroughFields
no_fields = record { protocol = 0; flags = 0; features = 0; count = 0; lba = 0; device_field = 0; command = 0 }

-- the CDB with these bytes, and 0 in all others (SAT-3 12.2.2.3)
abbrev pub through : ThroughFields → List ℕ
through f =
    0x85 ∷ f.protocol ∷ f.flags ∷ 0 ∷ f.features ∷ 0 ∷ f.count ∷ 0 ∷ f.lba ∷ 0 ∷ 0 ∷ 0 ∷ 0 ∷ f.device_field ∷ f.command ∷ 0 ∷ []

-- IDENTIFY DEVICE, by PIO (ACS-3, IDENTIFY DEVICE)
abbrev pub identify : List ℕ
identify = through (record no_fields { protocol = 0x08; flags = 0x0E; count = 1; command = 0xEC })

-- CHECK POWER MODE with CK_COND (ACS-3, CHECK POWER MODE)
abbrev pub check_power : List ℕ
check_power = through (record no_fields { protocol = 0x06; flags = 0x20; command = 0xE5 })

-- SET FEATURES that turns the write cache off (ACS-3, SET FEATURES)
abbrev pub cache_off : List ℕ
cache_off = through (record no_fields { protocol = 0x06; features = 0x82; command = 0xEF })

-- READ DMA EXT of a block at address 1 (ACS-3, READ DMA EXT)
abbrev pub read_block : List ℕ
read_block =
    through (record no_fields { protocol = 0x0D; flags = 0x0E; count = 1; lba = 1; device_field = 0x40; command = 0x25 })

-- its answer, with its data (ACS-3, IDENTIFY DEVICE)
abbrev pub identity_told : Answer
identity_told = good 1 (record { bytes = identify_data 2 } ∷ [])

-- it waits, and ends with its data (SAT-3 12.2)
abbrev pub identified : Scenario
identified = ends_with (Pass identify) [] written identity_told (device written)

-- it arrives, waits, and ends with its data (SAT-3 12.2)
abbrev pub identified_on_request : Scenario
identified_on_request = record {
  first = device written;
  steps = silent (Request (request 1 identify [])) ∷ answered (Turn 1) (identity_told ∷ []) ∷ [];
  losses = 0;
  depth = 0;
  last = device written;
}

-- CHECK POWER MODE with CK_COND: ATA PASS THROUGH INFORMATION AVAILABLE, with STATUS 40h and COUNT FFh, active (SAT-3 12.2.2.6)
abbrev pub power_checked : Scenario
power_checked =
    ends_with (Pass check_power) [] written
    (check_condition 1 (0xF0 ∷ 0 ∷ 0x1 ∷ 0 ∷ 0x40 ∷ 0 ∷ 0xFF ∷ 0x0A ∷ 0 ∷ 0 ∷ 0 ∷ 0 ∷ 0x00 ∷ 0x1D ∷ 0 ∷ 0 ∷ 0 ∷ 0 ∷ []))
    (device written)

-- SET FEATURES turns the write cache off: all is written back, and WCE is 0 (ACS-3, SET FEATURES; SAT-3)
abbrev pub cache_disabled : Scenario
cache_disabled =
    ends_with (Pass cache_off) [] written (good 1 [])
    (record (device (lasts aa ∷ lasts zeros ∷ [])) { modes = record { wce = false; dra = false; d_sense = false } })

-- WRITE DMA EXT of a block at address 1 (ACS-3, WRITE DMA EXT)
abbrev pub write_block : List ℕ
write_block =
    through (record no_fields { protocol = 0x0D; flags = 0x06; count = 1; lba = 1; device_field = 0x40; command = 0x35 })

-- it waits, and ends with GOOD (SAT-3 12.2)
abbrev pub written_through : Scenario
written_through =
    ends_with (Pass write_block) (bb ∷ []) written (good 1 []) (device (cached_over zeros aa ∷ cached_over zeros bb ∷ []))

-- it arrives with its data-out, and a READ behind it waits for it and gives the block (SAT-3 12.2; SBC-3, READ commands)
abbrev pub read_behind_it : Scenario
read_behind_it = record {
  first = device written;
  steps =
      silent (Request (request 1 write_block (bb ∷ [])))
      ∷ silent (read_10 2 1 1)
      ∷ answered (Turn 2) (good 1 [] ∷ good 2 (bb ∷ []) ∷ [])
      ∷ [];
  losses = 0;
  depth = 1;
  last = written_through.last;
}

-- READ DMA EXT of a sector with a flaw: UNRECOVERED READ ERROR, with ERROR 40h, STATUS 41h, DEVICE 40h, EXTEND and LBA 1
-- (SAT-3 11, 12.2.2.6)
abbrev pub unreadable_through : Scenario
unreadable_through =
    ends_with (Pass read_block) [] (lasts zeros ∷ unreadable zeros ∷ [])
    (check_condition 1 (0xF0 ∷ 0 ∷ 0x3 ∷ 0x40 ∷ 0x41 ∷ 0x40 ∷ 0 ∷ 0x0A ∷ 0x80 ∷ 1 ∷ 0 ∷ 0 ∷ 0x11 ∷ 0x00 ∷ 0 ∷ 0 ∷ 0 ∷ 0 ∷ []))
    (device (lasts zeros ∷ unreadable zeros ∷ []))
