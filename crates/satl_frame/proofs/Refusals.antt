-- What was read shows why the bytes are refused, and no more was taken.
use Rattle.std.proofs.Common.{◌≡◌, ◌⊎◌, ℕ, ◌+◌, ◌<◌, ◌≤◌, Bool, true, false, not, ◌==◌, nat_lt, List, [], ◌∷◌, ◌++◌, length, take, drop, slice_index, Option, Some, None, IfSome, refl, ◌∙◌, ap, sym, subst, arith, inl, inr, cond, append_assoc}
use Rattle.std.proofs.lemmas.List.{length-append, length-take-le, append-nil, take_at, take_all, drop_at}
use Rattle.std.proofs.Math.ListN.{get_or-append}
use Rattle.std.proofs.Math.Seq.{take-append-add}
use Rattle.std.specs.Io.KnownBytes.{IsAtEnd}
use Rattle.std.proofs.lemmas.Bool.{cases_lt, le-ltb, lt-ltb, ltb-false, not-false}
use Rattle.satl_io.specs.Known.{Took}
use Rattle.satl_io.proofs.Joined.{Took-more}
use Rattle.std.specs.Prelude.{if◌then◌else◌, is_some}
use Rattle.byteorder.specs.Endian.{big_bytes}
use Rattle.satl_frame.proofs.FieldBytes.{first_of}
use Rattle.satl_frame.proofs.Stopping.{fewer_after, fewer_weaker}
use Rattle.satl_frame.specs.Frames.{frame_rows, has_code, allows, kind, payload_bytes, spelled}
use Rattle.satl_frame.specs.Magic.{magic, magic_fault, names_version, version_code, version_of}
use Rattle.satl_frame.specs.Faults.{told_length, has_bad_field, head_fault, frame_fault}
use Rattle.satl_frame.specs.Pulls.{Lacks, FewerThan, TookPayload, TookBadField}
use Rattle.satl_frame.specs.Reading.{AwaitsNoMore, Reading, Blames, at_offset, where_refused, asked, asked_of_frame}
use Rattle.satl_frame.specs.Steps.{Began, BlamesMagic, BlamesAt, BlamesPayload, StoodAt, head_in}
use Rattle.satl_frame.specs.declared.frames.Version.{Version}
use Rattle.satl_frame.specs.declared.frames.Version.TheVariants.{One, Two}
use Rattle.satl_frame.specs.declared.frames.Frame.{Frame}
use Rattle.satl_frame.specs.declared.frames.Place.{Place}
use Rattle.satl_frame.specs.declared.frames.Reason.{Reason}
use Rattle.satl_frame.specs.declared.frames.Reason.TheVariants.{BadMagic, BadKind, BadLength, TooLong, Truncated, BadField}
use Rattle.satl_frame.specs.declared.frames.FrameFault.{FrameFault}
use Rattle.satl_frame.specs.declared.frames.FrameFault.TheVariants.{Bad, ReadFault}

-- a front is whole, or nothing follows it
front : (n : ℕ) (input h rest : List ℕ) → input ≡ h ++ rest → length h ≤ n → (length h < n → rest ≡ []) → take n input ≡ h
front n input h rest is short ends = elim (cases_lt (length h) n) [
  | inl l ↦ rw (is, ends l, append-nil) (take_all n h short)
  | inr g ↦ rw is (take_at h rest n (omega arith))
]

-- a head tells the length whatever follows it
pub told_front : (h rest : List ℕ) → length h ≡ 5 → told_length (h ++ rest) ≡ told_length h
told_front [] rest l = absurd (omega arith)
told_front (a ∷ []) rest l = absurd (omega arith)
told_front (a ∷ b ∷ []) rest l = absurd (omega arith)
told_front (a ∷ b ∷ c ∷ []) rest l = absurd (omega arith)
told_front (a ∷ b ∷ c ∷ d ∷ []) rest l = absurd (omega arith)
told_front (a ∷ b ∷ c ∷ d ∷ e ∷ []) rest l = refl
told_front (a ∷ b ∷ c ∷ d ∷ e ∷ f ∷ h) rest l = absurd (omega arith)

-- the head is refused
head_at : (version : Version) (limit offset : ℕ) (a b : Option (List ℕ)) (h : List ℕ) (r : Reason) → Took a b h → length h ≤ 5 → (length h < 5 → IsAtEnd b) →
    head_fault version limit offset h ≡ Some r →
    IfSome a (λ input. (frame_fault version limit offset input ≡ Some r) × Took a b (take (asked_of_frame version limit offset input) input))
head_at version limit offset None b h r took short ends f = tt
head_at version limit offset (Some input) None h r took short ends f = absurd took.known
head_at version limit offset (Some input) (Some rest) h r took short ends f =
    let whole : take 5 input ≡ h = front 5 input h rest took.known short ends in
    (rw (whole, f) refl, rw (whole, f) (rw whole took))

-- a test that refuses was passed
pub refused_not : (b : Bool) (r : Reason) (later : Option Reason) → cond b (Some r) later ≡ None → (b ≡ false) × (later ≡ None)
refused_not true r later e = cc
refused_not false r later e = (refl, e)

-- what a head is that is not refused
pub record GoodHead (version : Version) (limit offset : ℕ) (h : List ℕ) : Type 0 where
  pub whole : length h ≡ 5
  pub known : has_code (frame_rows version) (slice_index h 0) ≡ true
  pub allowed : allows (frame_rows version) (slice_index h 0) (told_length h) ≡ true
  pub within : offset + 5 + told_length h ≤ limit
  pub none : head_fault version limit offset h ≡ None

pub good_head : (version : Version) (limit offset : ℕ) (h : List ℕ) → length h ≤ 5 → head_fault version limit offset h ≡ None → GoodHead version limit offset h
good_head version limit offset h short f =
    let second = (refused_not (length h == 0) Truncated _ f).1 in
    let kinds = refused_not (not (has_code (frame_rows version) (slice_index h 0))) BadKind _ second in
    let counts = refused_not (nat_lt (length h) 5) Truncated _ kinds.1 in
    let lengths = refused_not (not (allows (frame_rows version) (slice_index h 0) (told_length h))) BadLength _ counts.1 in
    let limits = refused_not (nat_lt limit (offset + 5 + told_length h)) TooLong None lengths.1 in
    let five : 5 ≤ length h = ltb-false _ _ counts.0 in
    record {
      whole = omega arith;
      known = not-false (has_code (frame_rows version) (slice_index h 0)) kinds.0;
      allowed = not-false (allows (frame_rows version) (slice_index h 0) (told_length h)) lengths.0;
      within = ltb-false _ _ limits.0;
      none = f;
    }

-- a head in a buffer
pub head_read : (version : Version) (limit offset : ℕ) (buf : List ℕ) (n : ℕ) → length buf ≡ 5 → n ≤ length buf →
    None ≡ head_fault version limit offset (take n buf) → GoodHead version limit offset buf × (take n buf ≡ buf)
head_read version limit offset buf n five within f =
    let count : length (take n buf) ≡ n = length-take-le n buf within in
    let good : GoodHead version limit offset (take n buf) = good_head version limit offset (take n buf) (omega arith) (sym f) in
    let all : take n buf ≡ buf = take_all n buf (omega (arith, good.whole)) in
    (rw all at good, all)

-- the payload is cut short
short_at : (version : Version) (limit offset : ℕ) (a b c : Option (List ℕ)) (h : List ℕ) → Took a b h → length h ≡ 5 →
    head_fault version limit offset h ≡ None → Lacks b c (told_length h) →
    IfSome a (λ input. (frame_fault version limit offset input ≡ Some Truncated) × Took a c (take (asked_of_frame version limit offset input) input))
short_at version limit offset None b c h took five f lacks = tt
short_at version limit offset (Some input) None c h took five f lacks = absurd took.known
short_at version limit offset (Some input) (Some rest) c h took five f lacks =
    let whole : take 5 input ≡ h = front 5 input h rest took.known (omega arith) (λ l. absurd (omega arith)) in
    let told : told_length input ≡ told_length h = ap (λ i. told_length i) took.known ∙ told_front h rest five in
    let fewer : length input < 5 + told_length h = omega (arith, ap length took.known, length-append h rest, lacks.known.0) in
    let test : nat_lt (length input) (5 + told_length h) ≡ true = lt-ltb _ _ fewer in
    let all : take (5 + told_length h) input ≡ h ++ rest = take_all (5 + told_length h) input (omega arith) ∙ took.known in
    (rw (whole, f, told, test) refl, rw (whole, f, told, all) (Took-more took lacks.known.1))

-- a field of the payload is bad
field_at : (version : Version) (limit offset : ℕ) (a b c : Option (List ℕ)) (h : List ℕ) → Took a b h → length h ≡ 5 →
    head_fault version limit offset h ≡ None → TookBadField b c (head_in version h) →
    IfSome a (λ input. (frame_fault version limit offset input ≡ Some BadField) × Took a c (take (asked_of_frame version limit offset input) input))
field_at version limit offset None b c h took five f bad = tt
field_at version limit offset (Some input) None c h took five f bad = absurd took.known
field_at version limit offset (Some input) (Some rest) None h took five f bad = absurd bad.took.known
field_at version limit offset (Some input) (Some rest) (Some more) h took five f bad =
    let whole : take 5 input ≡ h = front 5 input h rest took.known (omega arith) (λ l. absurd (omega arith)) in
    let told : told_length input ≡ told_length h = ap (λ i. told_length i) took.known ∙ told_front h rest five in
    let size : length bad.taken ≡ told_length h = bad.length_is in
    let is_bad : has_bad_field version (slice_index h 0) bad.taken ≡ true = bad.bad in
    let enough : 5 + told_length h ≤ length input =
    omega (arith, ap length took.known, length-append h rest, ap length bad.took.known, length-append bad.taken more, size) in
    let test : nat_lt (length input) (5 + told_length h) ≡ false = le-ltb _ _ enough in
    let behind : drop 5 input ≡ rest = ap (λ xs. drop 5 xs) took.known ∙ drop_at h rest 5 five in
    let bytes_are : take (told_length h) (drop 5 input) ≡ bad.taken =
    ap (λ xs. take (told_length h) xs) (behind ∙ bad.took.known) ∙ take_at bad.taken more (told_length h) size in
    let first : slice_index input 0 ≡ slice_index h 0 = ap (λ xs. slice_index xs 0) took.known ∙ get_or-append h rest 0 0 (omega arith) in
    let parts : input ≡ (h ++ bad.taken) ++ more = took.known ∙ ap (λ xs. h ++ xs) bad.took.known ∙ sym (append_assoc h bad.taken more) in
    let all : take (5 + told_length h) input ≡ h ++ bad.taken =
    ap (λ xs. take (5 + told_length h) xs) parts ∙ take_at (h ++ bad.taken) more (5 + told_length h) (length-append h bad.taken ∙ omega (arith, size)) in
    (rw (whole, f, told, test, bytes_are, first, is_bad) refl, rw (whole, f, told, all) (Took-more took bad.took))

-- behind a good head the payload is asked for
payload_asked : (version : Version) (limit offset : ℕ) (h rest : List ℕ) → length h ≡ 5 → head_fault version limit offset h ≡ None →
    length h + told_length h ≤ asked_of_frame version limit offset (h ++ rest)
payload_asked version limit offset h rest five f =
    let whole : take 5 (h ++ rest) ≡ h = take_at h rest 5 five in
    let told : told_length (h ++ rest) ≡ told_length h = told_front h rest five in
    rw (whole, f, told) (omega arith)

-- five bytes are asked for at least
five_asked : (version : Version) (limit offset : ℕ) (input : List ℕ) → 5 ≤ asked_of_frame version limit offset input
five_asked version limit offset input = by_fault (head_fault version limit offset (take 5 input))
  where
    by_fault : (o : Option Reason) → 5 ≤ (if is_some o then 5 else 5 + told_length input)
    by_fault None = omega arith
    by_fault (Some r) = omega arith

-- a head that was not read whole
pub head_stopped : (limit : ℕ) (place : Place) (a b : Option (List ℕ)) → FewerThan a b (λ _. 5) → FewerThan a b (asked_of_frame place.version limit place.offset)
head_stopped limit place a b fewer = fewer_weaker (asked_of_frame place.version limit place.offset) (λ input. five_asked place.version limit place.offset input) fewer

-- the refusal of a payload is that of the bytes at the place
blames_all : (limit : ℕ) (place : Place) (a b c : Option (List ℕ)) (h : List ℕ) (e : FrameFault) → Took a b h → length h ≡ 5 →
    head_fault place.version limit place.offset h ≡ None → BlamesPayload (head_in place.version h) place.offset b c e → BlamesAt limit place a c e
blames_all limit place a b c h (Bad BadMagic o) took five f (is, never) = absurd never
blames_all limit place a b c h (Bad BadKind o) took five f (is, never) = absurd never
blames_all limit place a b c h (Bad BadLength o) took five f (is, never) = absurd never
blames_all limit place a b c h (Bad TooLong o) took five f (is, never) = absurd never
blames_all limit place a b c h (Bad Truncated o) took five f (is, lacks) = (is, short_at place.version limit place.offset a b c h took five f lacks)
blames_all limit place a b c h (Bad BadField o) took five f (is, bad) = (is, field_at place.version limit place.offset a b c h took five f bad)
blames_all limit place a b c h ReadFault took five f fewer =
    fewer_after (asked_of_frame place.version limit place.offset) took (λ rest. payload_asked place.version limit place.offset h rest five f) fewer

-- what was read of a head shows its refusal
pub head_refused : (version : Version) (limit offset : ℕ) (a b : Option (List ℕ)) (buf : List ℕ) (n : ℕ) (r : Reason) → length buf ≡ 5 → n ≤ length buf → Took a b (take n buf) →
    (n < length buf → IsAtEnd b) → Some r ≡ head_fault version limit offset (take n buf) →
    IfSome a (λ input. (frame_fault version limit offset input ≡ Some r) × Took a b (take (asked_of_frame version limit offset input) input))
head_refused version limit offset a b buf n r five within took ends f =
    let count : length (take n buf) ≡ n = length-take-le n buf within in
    head_at version limit offset a b (take n buf) r took (omega arith) (λ l. ends (omega arith)) (sym f)

-- the refusal behind a good head is that of the bytes at the place
pub payload_refused : (limit : ℕ) (place : Place) (a b c : Option (List ℕ)) (buf : List ℕ) (n : ℕ) (e : FrameFault) → length buf ≡ 5 → n ≤ length buf → Took a b (take n buf) →
    None ≡ head_fault place.version limit place.offset (take n buf) → BlamesPayload (head_in place.version buf) place.offset b c e → BlamesAt limit place a c e
payload_refused limit place a b c buf n e five within took f blames =
    let good = head_read place.version limit place.offset buf n five within f in
    blames_all limit place a b c buf e (rw good.1 at took) five good.0.none blames

-- a frame behind a good head stands at the place
pub frame_stood : (limit : ℕ) (place : Place) (a b c : Option (List ℕ)) (buf : List ℕ) (n room next : ℕ) (frame : Frame) → length buf ≡ 5 → n ≤ length buf → Took a b (take n buf) →
    None ≡ head_fault place.version limit place.offset (take n buf) → big_bytes 4 (told_length buf) ≡ drop 1 buf → TookPayload b c (head_in place.version buf) room frame → next ≡ place.offset + 5 + told_length buf →
    StoodAt limit (record { place = place; left = a }) (record { place = record place { offset = next }; left = c }) room frame
frame_stood limit place a b c buf n room next frame five within took f four behind is =
    let good = head_read place.version limit place.offset buf n five within f in
    let payload = payload_bytes behind.whole in
    let count : length payload ≡ told_length buf = behind.length_is in
    let kind_is : kind behind.whole ≡ slice_index buf 0 = behind.kind_is in
    let spelled_is : spelled behind.whole ≡ buf ++ payload =
    ap (λ (k : ℕ). (k ∷ big_bytes 4 (length payload)) ++ payload) kind_is ∙ ap (λ (n : ℕ). (slice_index buf 0 ∷ big_bytes 4 n) ++ payload) count
    ∙ ap (λ (q : List ℕ). (slice_index buf 0 ∷ q) ++ payload) four ∙ ap (λ (q : List ℕ). q ++ payload) (first_of buf (omega arith)) in
    let size : length (spelled behind.whole) ≡ 5 + told_length buf = ap length spelled_is ∙ length-append buf payload ∙ omega (arith, count) in
    record {
      whole = behind.whole;
      is_frame = behind.is_frame;
      cut = behind.cut;
      took = rw spelled_is (Took-more (rw good.1 at took) behind.took);
      version_is = refl;
      offset_is = omega (arith, size);
      within = omega (arith, good.0.within);
    }

-- what was read of the magic shows its refusal
pub magic_refused : (newest : Version) (a b : Option (List ℕ)) (buf : List ℕ) (n : ℕ) (r : Reason) → length buf ≡ 8 → n ≤ length buf → Took a b (take n buf) →
    (n < length buf → IsAtEnd b) → Some r ≡ magic_fault newest (take n buf) →
    IfSome a (λ input. (magic_fault newest (take 8 input) ≡ Some r) × Took a b (take 8 input))
magic_refused newest None b buf n r eight within took ends f = tt
magic_refused newest (Some input) None buf n r eight within took ends f = absurd took.known
magic_refused newest (Some input) (Some rest) buf n r eight within took ends f =
    let count : length (take n buf) ≡ n = length-take-le n buf within in
    let whole : take 8 input ≡ take n buf = front 8 input (take n buf) rest took.known (omega arith) (λ l. ends (omega arith)) in
    (rw whole (sym f), rw whole took)

-- a magic of an accepted version is whole
pub magic_good : (newest version : Version) → names_version newest (version_code version) ≡ true → magic_fault newest (magic version) ≡ None
magic_good One One e = refl
magic_good One Two e = cc
magic_good Two One e = refl
magic_good Two Two e = refl

pub version_read : (version : Version) (rest : List ℕ) → version_of (magic version ++ rest) ≡ version
version_read One rest = refl
version_read Two rest = refl

pub length-magic : (version : Version) → length (magic version) ≡ 8
length-magic One = refl
length-magic Two = refl

-- eight bytes of an input are asked for at least
eight_asked : (limit : ℕ) (newest : Version) (input : List ℕ) → 8 ≤ asked limit newest None input
eight_asked limit newest input = by_fault (magic_fault newest (take 8 input))
  where
    by_fault : (o : Option Reason) → 8 ≤ (if is_some o then 8 else 8 + asked_of_frame (version_of input) limit 8 (drop 8 input))
    by_fault None = omega arith
    by_fault (Some r) = omega arith

-- the refusal of the magic is that of the reader
pub begin_blames : (old : Reading) (a b : Option (List ℕ)) (e : FrameFault) → (old.place ≡ None) × BlamesMagic old.newest a b e → Blames old a b e
begin_blames old None b (Bad r o) (is, blames) = tt
begin_blames old (Some input) b (Bad r o) (is, blames) = rw (is, blames.1.0, blames.0) (refl, blames.1.1)
begin_blames old a b ReadFault (is, fewer) = fewer_weaker (asked old.limit old.newest old.place) (λ input. rw is (eight_asked old.limit old.newest input)) fewer

-- what a reader says of a whole magic is what it says of the frame behind it
pub computed : (limit : ℕ) (newest version : Version) (rest : List ℕ) → names_version newest (version_code version) ≡ true →
    (where_refused limit newest None (magic version ++ rest) ≡ at_offset 8 (frame_fault version limit 8 rest))
    × (asked limit newest None (magic version ++ rest) ≡ 8 + asked_of_frame version limit 8 rest)
computed limit One One rest named = (refl, refl)
computed limit One Two rest named = cc
computed limit Two One rest named = (refl, refl)
computed limit Two Two rest named = (refl, refl)

-- the refusal of a frame behind the magic
behind_magic : (limit : ℕ) (newest version : Version) (rest : List ℕ) (c : Option (List ℕ)) (r : Reason) → names_version newest (version_code version) ≡ true →
    frame_fault version limit 8 rest ≡ Some r → Took (Some rest) c (take (asked_of_frame version limit 8 rest) rest) →
    (where_refused limit newest None (magic version ++ rest) ≡ Some (r, 8))
    × Took (Some (magic version ++ rest)) c (take (asked limit newest None (magic version ++ rest)) (magic version ++ rest))
behind_magic limit newest version rest c r named fault took =
    let known = computed limit newest version rest named in
    let k = asked_of_frame version limit 8 rest in
    let count : 8 + k ≡ length (magic version) + k = omega (arith, length-magic version) in
    let all : take (asked limit newest None (magic version ++ rest)) (magic version ++ rest) ≡ magic version ++ take k rest =
    ap (λ (n : ℕ). take n (magic version ++ rest)) (known.1 ∙ count) ∙ take-append-add (magic version) rest k in
    let first : Took (Some (magic version ++ rest)) (Some rest) (magic version) = record { known = refl } in
    let both : Took (Some (magic version ++ rest)) c (magic version ++ take k rest) = Took-more first took in
    (known.0 ∙ ap (λ f. at_offset 8 f) fault, subst (λ (xs : List ℕ). Took (Some (magic version ++ rest)) c xs) (sym all) both)

-- the refusal of a frame is that of the reader
pub frame_blames : (old : Reading) (place : Place) (a b c : Option (List ℕ)) (e : FrameFault) → Began old.newest old.place a b place → BlamesAt old.limit place b c e → Blames old a c e
frame_blames old place a b c e began blames = by_place old.limit old.newest old.place old.refused place a b c e began blames
  where
    by_place : (limit : ℕ) (newest : Version) (at : Option Place) (refused : Option FrameFault) (place : Place) (a b c : Option (List ℕ)) (e : FrameFault) →
        Began newest at a b place → BlamesAt limit place b c e → Blames (record { limit = limit; newest = newest; place = at; refused = refused }) a c e
    by_place limit newest (Some p) refused place a b c ReadFault (same, is) fewer = rw (same, is) at fewer
    by_place limit newest None refused place a b c ReadFault (took, named, is) fewer =
        fewer_after (asked limit newest None) took
        (λ rest. rw ((computed limit newest place.version rest named).1, length-magic place.version, is) (omega arith)) fewer
    by_place limit newest (Some p) refused place None b c (Bad r o) began blames = tt
    by_place limit newest (Some p) refused place (Some input) b c (Bad r o) (same, is) blames =
        let there : BlamesAt limit p (Some input) c (Bad r o) = rw (same, is) at blames in
        (rw (there.1.0, there.0) refl, there.1.1)
    by_place limit newest None refused place None b c (Bad r o) began blames = tt
    by_place limit newest None refused place (Some input) None c (Bad r o) (took, named, is) blames = absurd took.known
    by_place limit newest None refused place (Some input) (Some rest) c (Bad r o) (took, named, is) blames =
        let fault : frame_fault place.version limit 8 rest ≡ Some r = rw is at blames.1.0 in
        let taken : Took (Some rest) c (take (asked_of_frame place.version limit 8 rest) rest) = rw is at blames.1.1 in
        let all = behind_magic limit newest place.version rest c r named fault taken in
        let offset : o ≡ 8 = blames.0 ∙ is in
        subst (λ (xs : List ℕ). (where_refused limit newest None xs ≡ Some (r, o)) × Took (Some xs) c (take (asked limit newest None xs) xs)) (sym took.known)
        (all.0 ∙ ap (λ (k : ℕ). Some (r, k)) (sym offset), all.1)

-- ---- what was waited for where bytes are refused

-- where nothing was waited for
unawaited : (waited : Bool) (left : Option (List ℕ)) (reason : Reason) (offset : ℕ) → waited ≡ false → AwaitsNoMore waited left (Bad reason offset)
unawaited waited left BadMagic offset w = inl w
unawaited waited left BadKind offset w = inl w
unawaited waited left BadLength offset w = w
unawaited waited left BadField offset w = w
unawaited waited left TooLong offset w = w
unawaited waited left Truncated offset w = tt

-- a head of which fewer bytes stand there is cut short, or its kind is bad
short_awaits : (waited : Bool) (left : Option (List ℕ)) (offset : ℕ) (none unknown few : Bool) (later : Option Reason) (r : Reason) → few ≡ true →
    cond none (Some Truncated) (cond unknown (Some BadKind) (cond few (Some Truncated) later)) ≡ Some r → IsAtEnd left → AwaitsNoMore waited left (Bad r offset)
short_awaits waited left offset true unknown few later r e is ends = let same : Truncated ≡ r = cc in subst (λ x. AwaitsNoMore waited left (Bad x offset)) same tt
short_awaits waited left offset false true few later r e is ends = let same : BadKind ≡ r = cc in subst (λ x. AwaitsNoMore waited left (Bad x offset)) same (inr ends)
short_awaits waited left offset false false true later r e is ends = let same : Truncated ≡ r = cc in subst (λ x. AwaitsNoMore waited left (Bad x offset)) same tt
short_awaits waited left offset false false false later r e is ends = cc

-- a refused head was whole, or the source is at its end
pub head_awaits : (version : Version) (limit offset : ℕ) (waited : Bool) (left : Option (List ℕ)) (buf : List ℕ) (n : ℕ) (r : Reason) → length buf ≡ 5 → n ≤ length buf →
    (0 < n → n ≡ length buf → waited ≡ false) → (n < length buf → IsAtEnd left) → Some r ≡ head_fault version limit offset (take n buf) → AwaitsNoMore waited left (Bad r offset)
head_awaits version limit offset waited left buf n r five within unwaited ends f =
    let count : length (take n buf) ≡ n = length-take-le n buf within in
    elim (cases_lt n 5) [
      | inl l ↦ short_awaits waited left offset _ _ _ _ r (lt-ltb (length (take n buf)) 5 (omega (arith, count))) (sym f) (ends (omega (arith, five)))
      | inr g ↦ unawaited waited left r offset (unwaited (omega arith) (omega arith))
    ]

-- a magic is cut short, or a bad one
magic_reasons : (waited : Bool) (left : Option (List ℕ)) (offset : ℕ) (other few unknown : Bool) (r : Reason) →
    cond other (Some BadMagic) (cond few (Some Truncated) (cond unknown (Some BadMagic) None)) ≡ Some r → (waited ≡ false) ⊎ IsAtEnd left → AwaitsNoMore waited left (Bad r offset)
magic_reasons waited left offset true few unknown r is either = let same : BadMagic ≡ r = cc in subst (λ x. AwaitsNoMore waited left (Bad x offset)) same either
magic_reasons waited left offset false true unknown r is either = let same : Truncated ≡ r = cc in subst (λ x. AwaitsNoMore waited left (Bad x offset)) same tt
magic_reasons waited left offset false false true r is either = let same : BadMagic ≡ r = cc in subst (λ x. AwaitsNoMore waited left (Bad x offset)) same either
magic_reasons waited left offset false false false r is either = cc

-- a refused magic was whole, or the source is at its end
pub magic_awaits : (newest : Version) (offset : ℕ) (waited : Bool) (left : Option (List ℕ)) (buf : List ℕ) (n : ℕ) (r : Reason) → length buf ≡ 8 → n ≤ length buf →
    (0 < n → n ≡ length buf → waited ≡ false) → (n < length buf → IsAtEnd left) → Some r ≡ magic_fault newest (take n buf) → AwaitsNoMore waited left (Bad r offset)
magic_awaits newest offset waited left buf n r eight within unwaited ends f =
    magic_reasons waited left offset _ _ _ r (sym f) (elim (cases_lt n 8) [
      | inl l ↦ inr (ends (omega (arith, eight)))
      | inr g ↦ inl (unwaited (omega arith) (omega arith))
    ])
