-- Transfers that end out of order, as if each had ended on arrival: runs that the laws of order and of passing speak of
-- (profile).
use Rattle.std.specs.Prelude.{◌≡◌, true, false, List, [], ◌∷◌, ◌++◌}
use Rattle.std.specs.List.{AllByRecursion}
use Rattle.satl_base.specs.declared.bench.BenchEvent.TheVariants as bench
use Rattle.satl_base.specs.Cells.{lasts, cached_over}
use Rattle.satl_cdb.specs.declared.command.Command.TheVariants.{Read, Write}
use Rattle.satl_cdb.specs.declared.command.Form.TheVariants.{Ten}
use Rattle.satl_unit.specs.declared.attention.Attention.TheVariants.{PowerOn}
use Rattle.satl_frame.specs.declared.frames.Frame.{Frame}
use Rattle.satl_frame.specs.declared.frames.Frame.TheVariants.{Bench, End, Request, Turn}
use Rattle.satl_frame.specs.Output.Answer.{closed}
use Rattle.satl_line.specs.declared.entry.Entry.{Entry}
use Rattle.satl_laws.specs.ArrivalOrder.{AskOnce, IsFresh, is_plain}
use Rattle.satl_laws.specs.OrderUnderErrors.{is_mild}
use Rattle.satl_laws.specs.Passing.{ComesAfter, DoNotClash, goes_alone}
use Rattle.satl_direct.specs.Device.{Device}
use Rattle.satl_direct.specs.Valid.{IsValid}
use Rattle.satl_scenarios.specs.Scenario.{Scenario, answered, events_of, silent}
use Rattle.satl_scenarios.specs.Devices.{aa, bb, never_written, device, just_powered, zeros}
use Rattle.satl_scenarios.specs.Replies.{check_condition, good, sense}
use Rattle.satl_scenarios.specs.Requests.{cdb_10, read_10, request, task, write_10}

-- just after the power came back: TEST UNIT READY is told so; then two WRITEs, a READ over both and SYNCHRONIZE CACHE, sent
-- without waiting. The second WRITE ends first, and the READ gives both blocks (SAM-5 5.14, 8; SBC-3 5)
abbrev pub written_out_of_order : Scenario
written_out_of_order = record {
  first = just_powered (never_written 3).cells;
  steps =
      answered (Request (request 1 (cdb_10 0x00 0 0) [])) (check_condition 1 (sense 0x6 0x29 0x01) ∷ [])
      ∷ silent (write_10 2 0 (aa ∷ []))
      ∷ silent (write_10 3 1 (bb ∷ []))
      ∷ silent (read_10 4 0 2)
      ∷ silent (Request (request 5 (cdb_10 0x35 0 0) []))
      ∷ answered End (good 3 [] ∷ good 2 [] ∷ good 4 (aa ∷ bb ∷ []) ∷ good 5 [] ∷ closed ∷ [])
      ∷ [];
  losses = 0;
  depth = 2;
  last = record (device (lasts aa ∷ lasts bb ∷ lasts zeros ∷ [])) {
    attentions = [] ∷ (PowerOn ∷ []) ∷ (PowerOn ∷ []) ∷ (PowerOn ∷ []) ∷ [];
  };
}

-- a CRC error: of two WRITEs the second ends first; of the first, the second block alone is written, and a READ over both gives
-- it so; then a third WRITE waits as the link is lost (SAM-5 8; SPC-4 4.5.6; profile)
abbrev pub torn_out_of_order : Scenario
torn_out_of_order = record {
  first = never_written 3;
  steps =
      silent (Bench (bench.Glitch 1))
      ∷ silent (write_10 1 0 (aa ∷ bb ∷ []))
      ∷ silent (write_10 2 2 (aa ∷ []))
      ∷ silent (read_10 3 0 3)
      ∷ answered (Turn 3) (good 2 [] ∷ check_condition 1 (sense 0xB 0x47 0x03) ∷ good 3 (zeros ∷ bb ∷ aa ∷ []) ∷ [])
      ∷ silent (write_10 4 1 (aa ∷ []))
      ∷ answered (Bench bench.Unplug) (check_condition 4 (sense 0x4 0x08 0x00) ∷ [])
      ∷ [];
  losses = 1;
  depth = 2;
  last = record (device (lasts zeros ∷ cached_over zeros bb ∷ cached_over zeros aa ∷ [])) { down = true };
}

-- the law of arrival order speaks of a scenario (profile)
pub record IsOfArrivalOrder (scenario : Scenario) : Type 0 where
  pub all : List Frame
  pub to_end : events_of scenario ≡ all ++ End ∷ []
  pub without_loss : scenario.losses ≡ 0
  pub valid : IsValid scenario.first
  pub fresh : IsFresh scenario.first
  pub plain : AllByRecursion (λ f. is_plain scenario.first.identity.trim f ≡ true) all
  pub once : AskOnce all

-- the law of order under errors does (profile)
pub record IsOfOrderUnderErrors (scenario : Scenario) : Type 0 where
  pub valid : IsValid scenario.first
  pub no_tasks : scenario.first.tasks ≡ []
  pub mild : AllByRecursion (λ f. is_mild scenario.first.identity.trim f ≡ true) (events_of scenario)
  pub once : AskOnce (events_of scenario)

-- a READ of two sectors, a READ of the second of them, a WRITE of that one, and a WRITE of a third (SBC-3, READ and WRITE
-- commands)
abbrev pub reads_two : Entry
reads_two = task 1 (Read Ten 0 2 false) []

abbrev pub reads_second : Entry
reads_second = task 2 (Read Ten 1 1 false) []

abbrev pub writes_second : Entry
writes_second = task 3 (Write Ten 1 1 false) (bb ∷ [])

abbrev pub writes_third : Entry
writes_third = task 4 (Write Ten 2 1 false) (aa ∷ [])

-- they wait
abbrev pub four_waiting : Device
four_waiting = record (never_written 3) { tasks = reads_two ∷ reads_second ∷ writes_second ∷ writes_third ∷ [] }

-- the last WRITE passes all of them, the second READ the first; the WRITE of what both read waits for them (SAM-5 8; SBC-3 5)
abbrev pub passed_where_apart : Scenario
passed_where_apart = record {
  first = four_waiting;
  steps = answered (Turn 4) (good 4 [] ∷ good 2 (zeros ∷ []) ∷ good 1 (zeros ∷ zeros ∷ []) ∷ good 3 [] ∷ []) ∷ [];
  losses = 0;
  depth = 2;
  last = device (lasts zeros ∷ cached_over zeros bb ∷ cached_over zeros aa ∷ []);
}

-- by the law of passing a task can end before these (profile)
pub record IsOfPassing (s : Device) (earlier : List Entry) (t : Entry) : Type 0 where
  pub after : ComesAfter s earlier t
  pub up : s.down ≡ false
  pub started : s.started ≡ true
  pub with_others : goes_alone s t ≡ false
  pub all_with_others : AllByRecursion (λ u. goes_alone s u ≡ false) earlier
  pub clear : AllByRecursion (λ u. DoNotClash u t) earlier
