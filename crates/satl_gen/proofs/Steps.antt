-- One piece more of a generated input.
use Rattle.std.proofs.Common.{◌≡◌, ◌<◌, ◌^◌, drop, ℕ, zero, suc, ◌+◌, ◌-◌, ◌%◌, ◌==◌, Bool, true, false, Option, Some, None, List, [], ◌∷◌, ◌++◌, refl, ◌∙◌, ap, sym, arith, append_assoc}
use Rattle.std.specs.Prelude.{if◌then◌else◌}
use Rattle.rand_pcg.specs.Lcg.{Lcg}
use Rattle.satl_base.specs.declared.block.Block.{Block}
use Rattle.satl_base.specs.Blocks.{bytes_of}
use Rattle.satl_frame.specs.Frames.{spelled}
use Rattle.satl_frame.specs.Inputs.{all_spelled}
use Rattle.satl_frame.specs.declared.frames.Frame.{Frame}
use Rattle.satl_frame.specs.declared.frames.Frame.TheVariants as frames
use Rattle.satl_gen.specs.Coming.{request_head, burst_behind, burst_bytes}
use Rattle.satl_gen.specs.Generated.{seeded, draw, after_draw, sent_blocks, block_full_of, rising_blocks, burst, request_drawn, frames_drawn, frames_from, generated}
use Rattle.satl_frame.specs.Magic.{magic}
use Rattle.satl_frame.specs.declared.frames.Version.TheVariants.{One}
use Rattle.satl_frame.proofs.ProgressLemmas.{all_spelled-append}
use Rattle.satl_gen.specs.declared.draw.Draw.{Draw}
use Rattle.satl_gen.proofs.Blocks.{rising_blocks-next, rising_blocks-none}
use Rattle.satl_gen.proofs.Requests.{request_spelled}

-- a block more
pub block_taken : (n value : ℕ) (piece rest : List ℕ) → 0 < n → piece ≡ (block_full_of value).bytes →
    bytes_of (rising_blocks n value) ++ rest ≡ piece ++ (bytes_of (rising_blocks (n - 1) (value + 1)) ++ rest)
block_taken n value piece rest some is =
    rw is (ap (λ (bs : List Block). bytes_of bs ++ rest) (rising_blocks-next n value some) ∙ append_assoc (block_full_of value).bytes (bytes_of (rising_blocks (n - 1) (value + 1))) rest)

-- no block
pub no_block_left : (n value : ℕ) (rest : List ℕ) → n ≡ 0 → bytes_of (rising_blocks n value) ++ rest ≡ rest
no_block_left n value rest none = ap (λ (bs : List Block). bytes_of bs ++ rest) (rising_blocks-none n value none)

-- a burst
pub burst_taken : (n value c : ℕ) (b : Option ℕ) (piece rest : List ℕ) → n ≡ 0 → b ≡ Some c → piece ≡ all_spelled (burst c) →
    bytes_of (rising_blocks n value) ++ (burst_bytes b ++ rest) ≡ piece ++ (bytes_of (rising_blocks n value) ++ (burst_bytes None ++ rest))
burst_taken n value c b piece rest none there is =
    no_block_left n value (burst_bytes b ++ rest) none ∙ ap (λ (o : Option ℕ). burst_bytes o ++ rest) there ∙ ap (λ (xs : List ℕ). xs ++ rest) (sym is)
    ∙ ap (λ (xs : List ℕ). piece ++ xs) (sym (no_block_left n value rest none))

burst_spelled : (i : ℕ) (d : Draw) → all_spelled (if i % 16 == 15 then burst d.c else []) ≡ burst_bytes (burst_behind i d)
burst_spelled i d = by_case (i % 16 == 15)
  where
    by_case : (there : Bool) → all_spelled (if there then burst d.c else []) ≡ burst_bytes (if there then Some d.c else None)
    by_case true = refl
    by_case false = refl

frames_from-next : (n i : ℕ) (g : Lcg) → 0 < n → frames_from n i g ≡ frames_drawn i (draw g) ++ frames_from (n - 1) (i + 1) (after_draw g)
unfolding frames_from
frames_from-next zero i g some = absurd (omega arith)
frames_from-next (suc n) i g some = let less : suc n - 1 ≡ n = omega arith in rw less refl

pub frames_from-none : (n i : ℕ) (g : Lcg) → n ≡ 0 → frames_from n i g ≡ []
unfolding frames_from
frames_from-none zero i g none = refl
frames_from-none (suc n) i g none = absurd (omega arith)

-- what stands behind the blocks of a request
abbrev behind : Bool → ℕ → ℕ → Lcg → List ℕ
behind ended n i g = if ended then [] else all_spelled (frames_from n i g ++ frames.End ∷ [])

-- a request more
pub request_taken : (n i : ℕ) (g : Lcg) → 0 < n → i < 2 ^ 32 → all_spelled (frames_from n i g ++ frames.End ∷ []) ≡
    request_head i (draw g) ++ (bytes_of (rising_blocks (sent_blocks (draw g)) i) ++ (burst_bytes (burst_behind i (draw g)) ++ all_spelled (frames_from (n - 1) (i + 1) (after_draw g) ++ frames.End ∷ [])))
request_taken n i g some small =
    let d = draw g in
    let tail = if i % 16 == 15 then burst d.c else [] in
    let rest = frames_from (n - 1) (i + 1) (after_draw g) ++ frames.End ∷ [] in
    let blocks = bytes_of (rising_blocks (sent_blocks d) i) in
    ap (λ (fs : List Frame). all_spelled (fs ++ frames.End ∷ [])) (frames_from-next n i g some)
    ∙ ap (λ (fs : List Frame). spelled (frames.Request (request_drawn i d)) ++ all_spelled fs) (append_assoc tail (frames_from (n - 1) (i + 1) (after_draw g)) (frames.End ∷ []))
    ∙ ap (λ (xs : List ℕ). spelled (frames.Request (request_drawn i d)) ++ xs) (all_spelled-append tail rest ∙ ap (λ (xs : List ℕ). xs ++ all_spelled rest) (burst_spelled i d))
    ∙ ap (λ (xs : List ℕ). xs ++ (burst_bytes (burst_behind i d) ++ all_spelled rest)) (request_spelled i d small)
    ∙ append_assoc (request_head i d) blocks (burst_bytes (burst_behind i d) ++ all_spelled rest)

-- the same, as one piece more
pub request_step : (blocks value : ℕ) (b : Option ℕ) (ended : Bool) (n i : ℕ) (g g' : Lcg) (d : Draw) (piece : List ℕ) (blocks' value' : ℕ) (b' : Option ℕ) →
    blocks ≡ 0 → b ≡ None → ended ≡ false → 0 < n → i < 2 ^ 32 → d ≡ draw g → g' ≡ after_draw g → piece ≡ request_head i d → blocks' ≡ sent_blocks d → value' ≡ i → b' ≡ burst_behind i d →
    bytes_of (rising_blocks blocks value) ++ (burst_bytes b ++ behind ended n i g) ≡ piece ++ (bytes_of (rising_blocks blocks' value') ++ (burst_bytes b' ++ behind ended (n - 1) (i + 1) g'))
request_step blocks value b ended n i g g' d piece blocks' value' b' none no_burst going some small drawn moved is sent valued order =
    no_block_left blocks value (burst_bytes b ++ behind ended n i g) none
    ∙ rw (no_burst, going, is, sent, valued, order, drawn, moved) (request_taken n i g some small)

-- END
pub end_taken : (blocks value : ℕ) (b : Option ℕ) (ended : Bool) (n i : ℕ) (g : Lcg) (piece : List ℕ) → blocks ≡ 0 → b ≡ None → ended ≡ false → n ≡ 0 → piece ≡ spelled frames.End →
    bytes_of (rising_blocks blocks value) ++ (burst_bytes b ++ behind ended n i g) ≡ piece ++ (bytes_of (rising_blocks blocks value) ++ (burst_bytes b ++ []))
end_taken blocks value b ended n i g piece none no_burst going last is =
    no_block_left blocks value (burst_bytes b ++ behind ended n i g) none
    ∙ rw (no_burst, going, is, frames_from-none n i g last, rising_blocks-none blocks value none) refl

-- nothing is to come
pub nothing_left : (blocks value : ℕ) (b : Option ℕ) (ended : Bool) (rest : List ℕ) → blocks ≡ 0 → b ≡ None → ended ≡ true →
    bytes_of (rising_blocks blocks value) ++ (burst_bytes b ++ (if ended then [] else rest)) ≡ []
nothing_left blocks value b ended rest none no_burst done = no_block_left blocks value (burst_bytes b ++ (if ended then [] else rest)) none ∙ rw (no_burst, done) refl

-- all is to come
pub all_ahead : (piece : List ℕ) (seed requests : ℕ) (g : Lcg) → piece ≡ magic One → g ≡ seeded seed →
    drop 0 piece ++ (bytes_of (rising_blocks 0 0) ++ (burst_bytes None ++ behind false requests 0 g)) ≡ generated seed requests
all_ahead piece seed requests g is start = rw (is, start, rising_blocks-none 0 0 refl) refl
