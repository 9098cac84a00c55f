-- The generated input is frames up to END.
use Rattle.std.proofs.Common.{◌≡◌, ◌≤◌, ◌<◌, ◌^◌, ℕ, zero, suc, ◌+◌, ◌*◌, ◌%◌, ◌==◌, Bool, true, false, List, [], ◌∷◌, ◌++◌, length, refl, sym, arith, append_assoc, subst, lit<, lit≤}
use Rattle.std.specs.Prelude.{if◌then◌else◌}
use Rattle.std.proofs.lemmas.List.{append-nil}
use Rattle.satl_base.specs.Limits.{input_limit}
use Rattle.rand_pcg.specs.Lcg.{Lcg}
use Rattle.satl_frame.specs.Frames.{spelled}
use Rattle.satl_frame.specs.Inputs.{all_spelled, AreFrames}
use Rattle.satl_frame.specs.Magic.{magic, names_version}
use Rattle.satl_frame.specs.Progress.{ReadsToEnd}
use Rattle.satl_frame.specs.declared.frames.Frame.{Frame}
use Rattle.satl_frame.specs.declared.frames.Frame.TheVariants as frames
use Rattle.satl_frame.specs.declared.frames.Version.{Version}
use Rattle.satl_frame.specs.declared.frames.Version.TheVariants.{One, Two}
use Rattle.satl_gen.specs.Generated.{seeded, draw, after_draw, burst, request_drawn, frames_from, generated, generated_frames}
use Rattle.satl_gen.specs.declared.draw.Draw.{Draw}
use Rattle.satl_gen.proofs.Requests.{sent_blocks-le, is_request, length-payload}

length-request : (i : ℕ) (d : Draw) → i < 2 ^ 32 → length (spelled (frames.Request (request_drawn i d))) ≤ 16419
length-request i d small = omega (arith, length-payload i d small, sent_blocks-le d)

-- a burst, which has 17 bytes
burst_before : (limit offset c : ℕ) (rest : List Frame) → offset + 17 ≤ limit → AreFrames One limit (offset + 10 + 7) rest → AreFrames One limit offset (burst c ++ rest)
burst_before limit offset c rest within each = (
  (lit≤ tt, lit≤ tt),
  omega arith,
  λ e. absurd (cc),
  (lit< tt, omega arith, λ e. absurd (cc), each),
)

regroup : (a b : ℕ) → a + b + 10 + 7 ≡ a + (b + 17)
regroup a b = omega arith

-- a request, with a burst behind it or with none
request_before : (limit offset i : ℕ) (d : Draw) (there : Bool) (rest : List Frame) → i < 2 ^ 32 → offset + 16436 ≤ limit → ((size : ℕ) → size ≤ 16436 → AreFrames One limit (offset + size) rest) →
    AreFrames One limit offset ((frames.Request (request_drawn i d) ∷ (if there then burst d.c else [])) ++ rest)
request_before limit offset i d true rest small within each =
    let size = length (spelled (frames.Request (request_drawn i d))) in
    let few : size ≤ 16419 = length-request i d small in
    let behind : AreFrames One limit (offset + size + 10 + 7) rest = rw (regroup offset size) (each (size + 17) (omega arith)) in
    (is_request i d small, omega arith, λ e. absurd (cc), burst_before limit (offset + size) d.c rest (omega arith) behind)
request_before limit offset i d false rest small within each =
    let size = length (spelled (frames.Request (request_drawn i d))) in
    let few : size ≤ 16419 = length-request i d small in
    (is_request i d small, omega arith, λ e. absurd (cc), each size (omega arith))

-- the frames of so many requests, and END
pub are_frames : (n i limit offset : ℕ) (g : Lcg) → i + n ≤ 2 ^ 32 → offset + 16436 * n + 5 ≤ limit → AreFrames One limit offset (frames_from n i g ++ frames.End ∷ [])
unfolding frames_from
are_frames zero i limit offset g small within = (tt, omega arith, λ e. refl, tt)
are_frames (suc n) i limit offset g small within =
    let rest = frames_from n (i + 1) (after_draw g) ++ frames.End ∷ [] in
    let tail = if i % 16 == 15 then burst (draw g).c else [] in
    let split : (frames.Request (request_drawn i (draw g)) ∷ tail) ++ rest ≡ ((frames.Request (request_drawn i (draw g)) ∷ tail) ++ frames_from n (i + 1) (after_draw g)) ++ frames.End ∷ [] =
    sym (append_assoc (frames.Request (request_drawn i (draw g)) ∷ tail) (frames_from n (i + 1) (after_draw g)) (frames.End ∷ [])) in
    subst (λ (fs : List Frame). AreFrames One limit offset fs) split
    (request_before limit offset i (draw g) (i % 16 == 15) rest (omega arith) (omega arith)
    (λ size few. are_frames n (i + 1) limit (offset + size) (after_draw g) (omega arith) (omega arith)))

pub reads_whole : (newest : Version) (seed requests : ℕ) → requests ≤ 100000 → ReadsToEnd input_limit newest (generated seed requests) (generated_frames seed requests) []
reads_whole newest seed requests few =
    let all = all_spelled (generated_frames seed requests ++ frames.End ∷ []) in
    record {
      place = record { version = One; offset = 8 + length all };
      read = record {
        named = named newest;
        took = record { known = sym (append-nil (magic One ++ all)) };
        offset_is = refl;
        each = are_frames requests 0 input_limit 8 (seeded seed) (omega arith) (omega arith);
      };
    }
  where
    named : (newest : Version) → names_version newest 0x31 ≡ true
    named One = refl
    named Two = refl
