-- The generated input: requests by random numbers (profile).
use Rattle.std.specs.Prelude.{ℕ, zero, suc, ◌+◌, ◌*◌, ◌/◌, ◌%◌, ◌==◌, ◌&&◌, nat_lt, nat_le, Bool, false, if◌then◌else◌, List, [], ◌∷◌, ◌++◌, None, replicate}
use Rattle.byteorder.specs.Endian.{big_bytes}
use Rattle.rand_core.specs.Pcg32Seed.{pcg32_seed}
use Rattle.rand_pcg.specs.Lcg.{Lcg}
use Rattle.rand_pcg.specs.Pcg.{pcg32, pcg32_of_seed}
use Rattle.satl_base.specs.declared.bench.BenchEvent.TheVariants as events
use Rattle.satl_base.specs.declared.block.Block.{Block}
use Rattle.satl_base.specs.declared.request.Attr.TheVariants.{Simple, Ordered}
use Rattle.satl_base.specs.declared.request.Request.{Request}
use Rattle.satl_cdb.specs.Spelling.{cdb_bytes}
use Rattle.satl_cdb.specs.declared.command.Command.{Command}
use Rattle.satl_cdb.specs.declared.command.Command.TheVariants as commands
use Rattle.satl_cdb.specs.declared.command.Form.TheVariants.{Ten}
use Rattle.satl_frame.specs.Inputs.{all_spelled}
use Rattle.satl_frame.specs.Magic.{magic}
use Rattle.satl_frame.specs.declared.frames.Frame.{Frame}
use Rattle.satl_frame.specs.declared.frames.Frame.TheVariants as frames
use Rattle.satl_frame.specs.declared.frames.Version.TheVariants.{One}
use Rattle.satl_gen.specs.declared.draw.Draw.{Draw}

-- the generator of random numbers that a seed gives (profile)
unfoldable pub seeded : ℕ → Lcg
seeded seed = pcg32_of_seed (pcg32_seed 16 seed)

-- its next three numbers (profile)
unfoldable pub draw : Lcg → Draw
draw g =
    let second = (pcg32 g).1 in
    let third = (pcg32 second).1 in
    record { a = (pcg32 g).0; b = (pcg32 second).0; c = (pcg32 third).0 }

-- the generator behind these (profile)
unfoldable pub after_draw : Lcg → Lcg
after_draw g = (pcg32 (pcg32 (pcg32 g).1).1).1

-- whether a request is a WRITE (profile)
abbrev pub draws_write : Draw → Bool
draws_write d = nat_le 3 (d.a % 8) && nat_lt (d.a % 8) 6

-- the command: READ(10) and WRITE(10) of 1 to 32 blocks below address 8,032, SYNCHRONIZE CACHE(10) of all, TEST UNIT READY
-- (profile)
abbrev pub drawn_command : Draw → Command
drawn_command d =
    if nat_lt (d.a % 8) 3 then commands.Read Ten (d.b % 8000) (1 + d.c % 32) false
    else if draws_write d then commands.Write Ten (d.b % 8000) (1 + d.c % 32) false
    else if d.a % 8 == 6 then commands.Flush Ten 0 0
    else commands.TestUnitReady

-- the number of blocks of data-out (profile)
abbrev pub sent_blocks : Draw → ℕ
sent_blocks d = if draws_write d then 1 + d.c % 32 else 0

-- a block whose bytes are all the same (profile)
unfoldable pub block_full_of : ℕ → Block
block_full_of value = record { bytes = replicate 512 (value % 256) }

-- n blocks, each with the value that follows that of the block before it (profile)
unfoldable pub rising_blocks : ℕ → ℕ → List Block
rising_blocks zero value = []
rising_blocks (suc n) value = block_full_of value ∷ rising_blocks n (value + 1)

-- request i of nexus 0 to 3: one of sixteen is ORDERED, the tag is i, and block k of data-out has the value i + k (profile)
abbrev pub request_drawn : ℕ → Draw → Request
request_drawn i d = record {
  nexus = d.a / 8 % 4;
  attr = if d.a / 32 % 16 == 0 then Ordered else Simple;
  lun = replicate 8 0;
  tag = record { 0 = i };
  cdb = cdb_bytes (drawn_command d);
  body = rising_blocks (sent_blocks d) i;
  data_len = 512 * sent_blocks d;
  expected = None;
}

-- an ORDER with the bytes of a number, and a TURN that empties the task set by 16 (profile)
abbrev pub burst : ℕ → List Frame
burst c = frames.Bench (events.Order (big_bytes 4 c)) ∷ frames.Turn 16 ∷ []

-- the frames of request i: behind each sixteenth one stands a burst (profile)
abbrev pub frames_drawn : ℕ → Draw → List Frame
frames_drawn i d = frames.Request (request_drawn i d) ∷ (if i % 16 == 15 then burst d.c else [])

-- the frames of n requests, from request i on (profile)
unfoldable pub frames_from : ℕ → ℕ → Lcg → List Frame
frames_from zero i g = []
frames_from (suc n) i g = frames_drawn i (draw g) ++ frames_from n (i + 1) (after_draw g)

-- the frames before END (profile)
abbrev pub generated_frames : ℕ → ℕ → List Frame
generated_frames seed requests = frames_from requests 0 (seeded seed)

-- the bytes of the generated input: the magic of version 1, the frames and END (profile)
abbrev pub generated : ℕ → ℕ → List ℕ
generated seed requests = magic One ++ all_spelled (generated_frames seed requests ++ frames.End ∷ [])
