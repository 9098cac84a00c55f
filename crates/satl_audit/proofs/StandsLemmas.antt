-- Where the data-out of a request stands in its input.
use Rattle.std.proofs.Common.{arith, ◌≡◌, refl, sym, ap, ◌∙◌, ℕ, zero, suc, ◌+◌, ◌*◌, List, [], ◌∷◌, ◌++◌, length, take, drop, append_assoc}
use Rattle.std.specs.Prelude.{◌≤◌}
use Rattle.std.proofs.lemmas.List.{append-nil, drop-append-le, drop-drop, drop_at, length-append, length-drop, take-append-le}
use Rattle.byteorder.specs.Endian.{big_bytes}
use Rattle.satl_base.specs.declared.block.Block.{Block}
use Rattle.satl_base.specs.declared.request.Request.{Request}
use Rattle.satl_base.specs.Blocks.{blocks_from}
use Rattle.satl_frame.specs.declared.frames.Frame.{Frame}
use Rattle.satl_frame.specs.declared.frames.Frame.TheVariants as frames
use Rattle.satl_frame.specs.declared.frames.Version.TheVariants.{One}
use Rattle.satl_frame.specs.DataPages.{page_count, pages_from, pages_of}
use Rattle.satl_frame.specs.Frames.{IsFrame, data_out, payload_bytes, request_fields}
use Rattle.satl_frame.specs.Inputs.{all_spelled}
use Rattle.satl_frame.specs.Magic.{magic}
use Rattle.satl_frame.proofs.FieldSizes.{length-request_fields}
use Rattle.satl_frame.proofs.Paging.{whole_block}
use Rattle.satl_frame.proofs.Refusals.{length-magic}
use Rattle.satl_frame.proofs.ProgressLemmas.{all_spelled-append}
use Rattle.satl_cover.specs.Covered.{place_behind}
use Rattle.satl_audit.specs.Arriving.{StandsAt}
use Rattle.satl_audit.specs.Following.{input_blocks}

-- whole pages of bytes that stand at a place are the blocks from there on
module _ (input : List ℕ) where
  blocks_stand : (n count : ℕ) (bytes given post : List ℕ) → count ≤ n → 512 * count ≤ length given → bytes ≡ given ++ post → take count (pages_from n given) ≡ blocks_from count bytes
  unfolding pages_from
  blocks_stand zero zero bytes given post le size is = refl
  blocks_stand zero (suc count) bytes given post le size is = absurd (omega (arith, le))
  blocks_stand (suc n) zero bytes given post le size is = refl
  blocks_stand (suc n) (suc count) bytes given post le size is =
      let enough : 512 ≤ length given = omega (arith, size) in
      let front : take 512 bytes ≡ take 512 given = ap (λ (l : List ℕ). take 512 l) is ∙ take-append-le 512 given post enough in
      let later : drop 512 bytes ≡ drop 512 given ++ post = ap (λ (l : List ℕ). drop 512 l) is ∙ drop-append-le 512 given post enough in
      ap (λ (b : Block). b ∷ take count (pages_from n (drop 512 given))) (sym (whole_block given (take 512 bytes) enough front))
      ∙ ap (λ (l : List Block). record { bytes = take 512 bytes } ∷ l) (blocks_stand n count (drop 512 bytes) (drop 512 given) post (omega (arith, le)) (omega (arith, size, length-drop 512 given)) later)

  pub pages_stand : (count at : ℕ) (given post : List ℕ) → 512 * count ≤ length given → drop at input ≡ given ++ post → take count (pages_of given) ≡ input_blocks input at count
  unfolding pages_of
  pages_stand count at given post size is = blocks_stand (page_count (length given)) count (drop at input) given post (omega (arith, size)) size is

-- the frames behind the first ones
pub frames_behind : (input : List ℕ) (before later : List Frame) → input ≡ magic One ++ (all_spelled (before ++ later) ++ []) → drop (place_behind before) input ≡ all_spelled later
frames_behind input before later is =
    let front = magic One ++ all_spelled before in
    let size : length front ≡ place_behind before = omega (arith, length-append (magic One) (all_spelled before), length-magic One) in
    let split : input ≡ front ++ all_spelled later =
    is ∙ ap (λ (l : List ℕ). magic One ++ l) (append-nil (all_spelled (before ++ later)) ∙ all_spelled-append before later) ∙ sym (append_assoc (magic One) (all_spelled before) (all_spelled later)) in
    ap (λ (l : List ℕ). drop (place_behind before) l) split ∙ drop_at front (all_spelled later) (place_behind before) size

-- the data-out of the request there
module _ (input : List ℕ) (at : ℕ) (r : Request) (later : List Frame) (good : IsFrame One (frames.Request r)) (is : drop at input ≡ all_spelled (frames.Request r ∷ later)) where
  abbrev head : List ℕ
  head = (0x01 ∷ big_bytes 4 (length (payload_bytes (frames.Request r)))) ++ request_fields r

  split : drop at input ≡ head ++ (data_out r ++ all_spelled later)
  split =
      is
      ∙ append_assoc (0x01 ∷ big_bytes 4 (length (payload_bytes (frames.Request r)))) (request_fields r ++ data_out r) (all_spelled later)
      ∙ ap (λ (l : List ℕ). (0x01 ∷ big_bytes 4 (length (payload_bytes (frames.Request r)))) ++ l) (append_assoc (request_fields r) (data_out r) (all_spelled later))
      ∙ sym (append_assoc (0x01 ∷ big_bytes 4 (length (payload_bytes (frames.Request r)))) (request_fields r) (data_out r ++ all_spelled later))

  head_size : length head ≡ 35
  head_size = omega (arith, length-append (0x01 ∷ big_bytes 4 (length (payload_bytes (frames.Request r)))) (request_fields r), length-request_fields One r good.fields)

  data_behind : drop (at + 35) input ≡ data_out r ++ all_spelled later
  data_behind =
      ap (λ k. drop k input) (omega arith) ∙ sym (drop-drop 35 at input) ∙ ap (λ (l : List ℕ). drop 35 l) split ∙ drop_at head (data_out r ++ all_spelled later) 35 head_size

  pub data_stands : StandsAt input (at + 35) r.data_len r.body
  data_stands count size =
      ap (λ (l : List Block). take count l) good.sent.pages ∙ pages_stand input count (at + 35) (data_out r) (all_spelled later) (omega (arith, size, good.sent.size)) data_behind

  pub data_within : (at + 35) + r.data_len ≤ length input
  data_within = omega (arith, ap (λ (l : List ℕ). length l) data_behind, length-drop (at + 35) input, length-append (data_out r) (all_spelled later), good.sent.size, small)
    where
      small : at + 35 ≤ length input
      small = omega (arith, ap (λ (l : List ℕ). length l) split, length-drop at input, length-append head (data_out r ++ all_spelled later), head_size)
