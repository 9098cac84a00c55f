-- What is still to come of a generated input (profile).
use Rattle.std.specs.Prelude.{ℕ, ◌+◌, ◌*◌, ◌%◌, ◌==◌, List, [], ◌∷◌, ◌++◌, if◌then◌else◌, Option, Some, None}
use Rattle.satl_base.specs.Blocks.{bytes_of}
use Rattle.satl_frame.specs.Frames.{framed, request_fields}
use Rattle.satl_frame.specs.Inputs.{all_spelled}
use Rattle.satl_frame.specs.declared.frames.Frame.TheVariants as frames
use Rattle.satl_gen.specs.Generated.{request_drawn, sent_blocks, rising_blocks, burst, frames_from}
use Rattle.satl_gen.specs.declared.ahead.Ahead.{Ahead}
use Rattle.satl_gen.specs.declared.draw.Draw.{Draw}

-- a REQUEST frame up to its data-out (profile)
abbrev pub request_head : ℕ → Draw → List ℕ
request_head i d = framed 0x01 (30 + 512 * sent_blocks d) (request_fields (request_drawn i d))

-- the number of the burst behind request i, where one stands there (profile)
abbrev pub burst_behind : ℕ → Draw → Option ℕ
burst_behind i d = if i % 16 == 15 then Some d.c else None

-- the bytes of a burst, where one is to come (profile)
abbrev pub burst_bytes : Option ℕ → List ℕ
burst_bytes None = []
burst_bytes (Some c) = all_spelled (burst c)

-- blocks of a WRITE, a burst, and then requests and END, unless END was made (profile)
abbrev pub bytes_ahead : Ahead → List ℕ
bytes_ahead p =
    bytes_of (rising_blocks p.blocks p.value) ++ (burst_bytes p.burst
    ++ (if p.ended then [] else all_spelled (frames_from p.requests p.next p.generator ++ frames.End ∷ [])))
