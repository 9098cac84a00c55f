-- The frames of an input, each request with a tag of its own.
use Rattle.std.proofs.Common.{◌≡◌, refl, sym, ap, ◌∙◌, subst, ℕ, suc, ◌+◌, ◌<◌, Bool, true, List, [], ◌∷◌, ◌++◌, arith, length, eqb-true, append_assoc}
use Rattle.std.specs.Prelude.{if◌then◌else◌, ◌==◌}
use Rattle.std.specs.List.{AllByRecursion}
use Rattle.std.proofs.lemmas.Bool.{and_parts}
use Rattle.satl_base.specs.declared.block.Block.{Block}
use Rattle.satl_base.specs.declared.request.Request.{Request}
use Rattle.satl_base.specs.Lists.{how_many}
use Rattle.satl_cdb.specs.Table.{says}
use Rattle.satl_frame.specs.declared.frames.Frame.{Frame}
use Rattle.satl_frame.specs.declared.frames.Frame.TheVariants as frames
use Rattle.satl_laws.specs.ArrivalOrder.{AskOnce, block_after, brought, content, is_plain}
use Rattle.satl_laws.specs.OnceEach.{asks_by}
use Rattle.satl_laws.specs.OrderUnderErrors.{is_mild}
use Rattle.satl_laws.proofs.Seen.{by_test}
use Rattle.satl_renaming.specs.UsedAgain.{content_from}
use Rattle.satl_renaming.proofs.Names.{Names, at_first, named_from, names_after, next, own_named, own_tag}
use Rattle.satl_renaming.proofs.Renaming.{frame_by, request_by}

-- the frames, of which the first has this place
abbrev pub frames_by : ℕ → Names → List Frame → List Frame
frames_by place names [] = []
frames_by place names (event ∷ events) =
    let now : Names = named_from place event names in
    frame_by now event ∷ frames_by (suc place) now events

-- the request at a place
abbrev pub request_at : ℕ → Request → Request
request_at place r = record r { tag = record { 0 = own_tag place } }

pub request_named : (place : ℕ) (names : Names) (r : Request) → request_by (named_from place (frames.Request r) names) r ≡ request_at place r
request_named place names r = ap (λ tag. record r { tag = record { 0 = tag } }) (own_named place r names)

pub frames_by-append : (place : ℕ) (names : Names) (events rest : List Frame) → frames_by place names (events ++ rest) ≡ frames_by place names events ++ frames_by (place + length events) (names_after place names events) rest
frames_by-append place names [] rest = ap (λ p. frames_by p names rest) (omega arith)
frames_by-append place names (event ∷ events) rest =
    let now : Names = named_from place event names in
    ap (λ l. frame_by now event ∷ l) (frames_by-append (suc place) now events rest ∙ ap (λ p. frames_by (suc place) now events ++ frames_by p (names_after (suc place) now events) rest) (next place (length events)))

-- what stands before and behind the request at a place
pub record Renamed (events before : List Frame) (r : Request) : Type 0 where
  pub later : List Frame
  pub split : frames_by 0 at_first events ≡ frames_by 0 at_first before ++ frames.Request (request_at (length before) r) ∷ later

pub renamed_at : (events before after : List Frame) (r : Request) → events ≡ before ++ frames.Request r ∷ after → Renamed events before r
renamed_at events before after r h =
    let place : ℕ = 0 + length before in
    let old : Names = names_after 0 at_first before in
    record {
      later = frames_by (suc place) (named_from place (frames.Request r) old) after;
      split =
          ap (frames_by 0 at_first) h
          ∙ frames_by-append 0 at_first before (frames.Request r ∷ after)
          ∙ ap (λ q. frames_by 0 at_first before ++ frames.Request q ∷ frames_by (suc place) (named_from place (frames.Request r) old) after) (request_named place old r ∙ ap (λ p. request_at p r) (omega arith));
    }

-- ---- each asks once

-- of an event, the tag is that of its place
asks_own : (place : ℕ) (names : Names) (event : Frame) (nexus tag : ℕ) → asks_by nexus tag (frame_by (named_from place event names) event) ≡ true → tag ≡ own_tag place
asks_own place names (frames.Request r) nexus tag h =
    let same = eqb-true (named_from place (frames.Request r) names r.nexus (r.tag).0) tag (and_parts (r.nexus == nexus) (named_from place (frames.Request r) names r.nexus (r.tag).0 == tag) h).1 in
    sym same ∙ own_named place r names
asks_own place names _ nexus tag h = absurd cc

asked_later : (place : ℕ) (names : Names) (events : List Frame) (nexus tag : ℕ) → tag < own_tag place → how_many (asks_by nexus tag) (frames_by place names events) ≡ 0
asked_later place names [] nexus tag h = refl
asked_later place names (event ∷ events) nexus tag h =
    let now : Names = named_from place event names in
    let rest : ℕ = how_many (asks_by nexus tag) (frames_by (suc place) now events) in
    let none : rest ≡ 0 = asked_later (suc place) now events nexus tag (omega (arith, h)) in
    by_test (λ b. (if b then 1 else 0) + rest ≡ 0) (asks_by nexus tag (frame_by now event))
    (λ asks. absurd (omega (arith, h, asks_own place names event nexus tag asks)))
    (λ other. omega (arith, none))

asked_from : (place : ℕ) (names : Names) (events : List Frame) (nexus tag : ℕ) → how_many (asks_by nexus tag) (frames_by place names events) < 2
asked_from place names [] nexus tag = omega arith
asked_from place names (event ∷ events) nexus tag =
    let now : Names = named_from place event names in
    let rest : ℕ = how_many (asks_by nexus tag) (frames_by (suc place) now events) in
    by_test (λ b. (if b then 1 else 0) + rest < 2) (asks_by nexus tag (frame_by now event))
    (λ asks. let none : rest ≡ 0 = asked_later (suc place) now events nexus tag (omega (arith, asks_own place names event nexus tag asks)) in omega (arith, none))
    (λ other. let few : rest < 2 = asked_from (suc place) now events nexus tag in omega (arith, few))

pub asked_once : (events : List Frame) → AskOnce (frames_by 0 at_first events)
asked_once events nexus tag = asked_from 0 at_first events nexus tag

-- ---- a test of frames that does not see tags

pub all_renamed : (P : Frame → Type 0) → ((names : Names) (event : Frame) → P event → P (frame_by names event)) → (place : ℕ) (names : Names) (events : List Frame) → AllByRecursion P events → AllByRecursion P (frames_by place names events)
all_renamed P alike place names [] all = tt
all_renamed P alike place names (event ∷ events) all =
    (alike (named_from place event names) event all.0, all_renamed P alike (suc place) (named_from place event names) events all.1)

pub plain_alike : (trim : Bool) (names : Names) (event : Frame) → is_plain trim event ≡ true → is_plain trim (frame_by names event) ≡ true
plain_alike trim names (frames.Request r) h = h
plain_alike trim names (frames.Manage m) h = h
plain_alike trim names (frames.Turn count) h = h
plain_alike trim names (frames.Bench event) h = h
plain_alike trim names frames.End h = h

pub mild_alike : (trim : Bool) (names : Names) (event : Frame) → is_mild trim event ≡ true → is_mild trim (frame_by names event) ≡ true
mild_alike trim names (frames.Request r) h = h
mild_alike trim names (frames.Manage m) h = h
mild_alike trim names (frames.Turn count) h = h
mild_alike trim names (frames.Bench event) h = h
mild_alike trim names frames.End h = h

-- ---- what a sector holds

-- what acts by its place acts by its own tag
abbrev pub ActAlike : List Frame → (ℕ → Request → Bool) → (Request → Bool) → Type 0
ActAlike all acted renamed =
    (before after : List Frame) (r : Request) → all ≡ before ++ frames.Request r ∷ after → acted (length before) r ≡ renamed (request_at (length before) r)

module _ (all : List Frame) (acted : ℕ → Request → Bool) (renamed : Request → Bool) (alike : ActAlike all acted renamed) (trim : Bool) (x : ℕ) where
  block_alike : (before after : List Frame) (event : Frame) (names : Names) (was : Block) → all ≡ before ++ event ∷ after
      → block_after (acted (length before)) trim x event was ≡ block_after renamed trim x (frame_by (named_from (length before) event names) event) was
  block_alike before after (frames.Request r) names was h =
      ap (λ b. if b then brought (says r.cdb trim) r.body x was else was) (alike before after r h ∙ ap renamed (sym (request_named (length before) names r)))
  block_alike before after (frames.Manage m) names was h = refl
  block_alike before after (frames.Turn count) names was h = refl
  block_alike before after (frames.Bench event) names was h = refl
  block_alike before after frames.End names was h = refl

  content_on : (names : Names) (place : ℕ) (before events after : List Frame) (was : Block) → length before ≡ place → all ≡ before ++ (events ++ after)
      → content_from acted trim x place events was ≡ content renamed trim x (frames_by place names events) was
  content_on names place before [] after was size h = refl
  content_on names place before (event ∷ events) after was size h =
      let now : Names = named_from place event names in
      ap (content_from acted trim x (suc place) events)
      (subst (λ p. block_after (acted p) trim x event was ≡ block_after renamed trim x (frame_by (named_from p event names) event) was) size (block_alike before (events ++ after) event names was h))
      ∙ content_on now (suc place) (before ++ event ∷ []) events after (block_after renamed trim x (frame_by now event) was) (longer before ∙ ap suc size) (h ∙ sym (append_assoc before (event ∷ []) (events ++ after)))
    where
      longer : (l : List Frame) → length (l ++ event ∷ []) ≡ suc (length l)
      longer [] = refl
      longer (f ∷ l) = ap suc (longer l)

  -- the content by places is that of the renamed input
  pub content_alike : (events after : List Frame) (was : Block) → all ≡ events ++ after → content_from acted trim x 0 events was ≡ content renamed trim x (frames_by 0 at_first events) was
  content_alike events after was h = content_on at_first 0 [] events after was refl h
