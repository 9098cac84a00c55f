-- No bytes are read in two ways.
use Rattle.std.proofs.Common.{◌≡◌, ℕ, ◌+◌, ◌-◌, ◌==◌, List, [], ◌∷◌, ◌++◌, length, take, drop, get_or, Option, Some, None, refl, ◌∙◌, ap, sym, subst, arith, append_assoc}
use Rattle.std.specs.Prelude.{if◌then◌else◌}
use Rattle.std.proofs.lemmas.List.{length-append, take_at, drop_at, drop-drop}
use Rattle.byteorder.specs.Endian.{big_from, big_bytes}
use Rattle.byteorder.specs.Numbers.{big_number-reads_back}
use Rattle.satl_base.specs.declared.block.Block.{Block}
use Rattle.satl_base.specs.declared.request.Request.{Request}
use Rattle.satl_base.specs.declared.request.Manage.{Manage}
use Rattle.satl_base.specs.declared.request.Attr.{Attr}
use Rattle.satl_base.specs.declared.request.Attr.TheVariants.{Simple, Ordered}
use Rattle.satl_base.specs.declared.bench.Which.{Which}
use Rattle.satl_base.specs.declared.bench.Which.TheVariants.{Read, Write}
use Rattle.satl_base.specs.declared.bench.BenchEvent.{BenchEvent}
use Rattle.satl_base.specs.declared.bench.BenchEvent.TheVariants.{Strike, Mend, Glitch, Order, Power, Unplug}
use Rattle.satl_base.proofs.FieldsLemmas.{back_2, back_8, back_4}
use Rattle.satl_frame.specs.DataPages.{pages_of}
use Rattle.satl_frame.specs.Frames.{head_size, attr_code, expected_in, expected_field, request_fields, data_out, manage_fields, event_fields, kind, payload_bytes, spelled, HasExpected, HasFields, IsRequest, IsManage, IsFrame, IsEvent}
use Rattle.satl_frame.specs.Faults.{told_length}
use Rattle.satl_frame.specs.Magic.{magic}
use Rattle.satl_frame.specs.Inputs.{all_spelled, AreFrames, Reads}
use Rattle.satl_frame.specs.declared.frames.Version.{Version}
use Rattle.satl_frame.specs.declared.frames.Version.TheVariants.{One, Two}
use Rattle.satl_frame.specs.declared.frames.Frame.{Frame}
use Rattle.satl_frame.specs.declared.frames.Frame.TheVariants as frames
use Rattle.satl_frame.proofs.FieldBytes.{big_from-drop}
use Rattle.satl_frame.proofs.FieldSizes.{GoodFrame, good_frame, length-request_fields, expected_stands}
use Rattle.satl_frame.proofs.Standing.{told}

abbrev attr_from : ℕ → Attr
attr_from n = if n == 0 then Simple else Ordered

attr_again : (a : Attr) → attr_from (attr_code a) ≡ a
attr_again Simple = refl
attr_again Ordered = refl

abbrev which_from : ℕ → Which
which_from n = if n == 1 then Read else Write

abbrev request_from : ℕ → Attr → List ℕ → ℕ → List ℕ → List Block → ℕ → Option ℕ → Request
request_from nexus attr lun tag cdb body data_len expected =
    record { nexus = nexus; attr = attr; lun = lun; tag = record { 0 = tag }; cdb = cdb; body = body; data_len = data_len; expected = expected }

-- the request that a payload spells
abbrev decoded_request : Version → List ℕ → Request
decoded_request version p =
    request_from (get_or p 0 0) (attr_from (get_or p 1 0)) (take 8 (drop 2 p)) (big_from 10 4 p) (take 16 (drop 14 p)) (pages_of (drop (head_size version) p)) (length p - head_size version) (expected_in version p)

same_request : {n n' : ℕ} {a a' : Attr} {l l' : List ℕ} {t t' : ℕ} {c c' : List ℕ} {b b' : List Block} {d d' : ℕ} {e e' : Option ℕ} →
    n ≡ n' → a ≡ a' → l ≡ l' → t ≡ t' → c ≡ c' → b ≡ b' → d ≡ d' → e ≡ e' → request_from n a l t c b d e ≡ request_from n' a' l' t' c' b' d' e'
same_request p q r s u v w x = cc

-- the fields of a request, one after another
fields_split : (r : Request) → request_fields r ++ data_out r ≡ r.nexus ∷ attr_code r.attr ∷ (r.lun ++ (big_bytes 4 (r.tag).0 ++ (r.cdb ++ (expected_field r.expected ++ data_out r))))
fields_split r =
    let inner : (r.lun ++ (big_bytes 4 (r.tag).0 ++ (r.cdb ++ expected_field r.expected))) ++ data_out r ≡ r.lun ++ (big_bytes 4 (r.tag).0 ++ (r.cdb ++ (expected_field r.expected ++ data_out r))) =
    regrouped r.lun (big_bytes 4 (r.tag).0) r.cdb (expected_field r.expected) (data_out r) in
    ap (λ (xs : List ℕ). r.nexus ∷ attr_code r.attr ∷ xs) inner
  where
    regrouped : (a b c d e : List ℕ) → (a ++ (b ++ (c ++ d))) ++ e ≡ a ++ (b ++ (c ++ (d ++ e)))
    regrouped a b c d e = simp append_assoc

-- what stands behind the LUN, the tag and the CDB
pub record Behind (r : Request) (q : List ℕ) : Type 0 where
  pub tag : drop 10 q ≡ big_bytes 4 (r.tag).0 ++ (r.cdb ++ (expected_field r.expected ++ data_out r))
  pub cdb : drop 14 q ≡ r.cdb ++ (expected_field r.expected ++ data_out r)
  pub expected : drop 30 q ≡ expected_field r.expected ++ data_out r

behind_fields : (version : Version) (r : Request) (q : List ℕ) → HasFields version r → q ≡ r.nexus ∷ attr_code r.attr ∷ (r.lun ++ (big_bytes 4 (r.tag).0 ++ (r.cdb ++ (expected_field r.expected ++ data_out r)))) → Behind r q
behind_fields version r q fields is =
    let rest = r.cdb ++ (expected_field r.expected ++ data_out r) in
    let tag : drop 10 q ≡ big_bytes 4 (r.tag).0 ++ rest = ap (λ (xs : List ℕ). drop 10 xs) is ∙ drop_at r.lun (big_bytes 4 (r.tag).0 ++ rest) 8 fields.lun in
    let cdb : drop 14 q ≡ rest = sym (drop-drop 4 10 q) ∙ ap (λ (xs : List ℕ). drop 4 xs) tag in
    let last : drop 30 q ≡ expected_field r.expected ++ data_out r = sym (drop-drop 16 14 q) ∙ ap (λ (xs : List ℕ). drop 16 xs) cdb ∙ drop_at r.cdb (expected_field r.expected ++ data_out r) 16 fields.cdb in
    record { tag = tag; cdb = cdb; expected = last }

data_behind : (version : Version) (expected : Option ℕ) (q sent : List ℕ) → HasExpected version expected → drop 30 q ≡ expected_field expected ++ sent → drop (head_size version) q ≡ sent
data_behind One expected q sent has is = is ∙ ap (λ (e : Option ℕ). expected_field e ++ sent) has
data_behind Two None q sent has is = absurd has
data_behind Two (Some count) q sent has is = sym (drop-drop 4 30 q) ∙ ap (λ (xs : List ℕ). drop 4 xs) is

expected_again : (version : Version) (r : Request) → HasFields version r → expected_in version (request_fields r ++ data_out r) ≡ r.expected
expected_again One r fields = sym fields.expected
expected_again Two r fields = by_expected r.expected refl fields.expected
  where
    by_expected : (e : Option ℕ) → r.expected ≡ e → HasExpected Two e → expected_in Two (request_fields r ++ data_out r) ≡ r.expected
    by_expected None is has = absurd has
    by_expected (Some count) is has = ap (λ (n : ℕ). Some n) (expected_stands r Two count (data_out r) fields is (omega arith)) ∙ sym is

request_again : (version : Version) (r : Request) → IsRequest version r → decoded_request version (request_fields r ++ data_out r) ≡ r
request_again version r is =
    let q = request_fields r ++ data_out r in
    let behind : Behind r q = behind_fields version r q is.fields (fields_split r) in
    let sent : drop (head_size version) q ≡ data_out r = data_behind version r.expected q (data_out r) is.fields.expected behind.expected in
    let lun : take 8 (drop 2 q) ≡ r.lun = ap (λ (xs : List ℕ). take 8 (drop 2 xs)) (fields_split r)
    ∙ take_at r.lun (big_bytes 4 (r.tag).0 ++ (r.cdb ++ (expected_field r.expected ++ data_out r))) 8 is.fields.lun in
    let tag : big_from 10 4 q ≡ (r.tag).0 = big_from-drop 10 0 4 q ∙ ap (λ (xs : List ℕ). big_from 0 4 xs) behind.tag
    ∙ big_number-reads_back 4 (r.tag).0 (r.cdb ++ (expected_field r.expected ++ data_out r)) is.fields.tag in
    let cdb : take 16 (drop 14 q) ≡ r.cdb = ap (λ (xs : List ℕ). take 16 xs) behind.cdb ∙ take_at r.cdb (expected_field r.expected ++ data_out r) 16 is.fields.cdb in
    let body : pages_of (drop (head_size version) q) ≡ r.body = ap pages_of sent ∙ sym is.sent.pages in
    let size : length q - head_size version ≡ r.data_len = omega (arith, length-append (request_fields r) (data_out r), length-request_fields version r is.fields, is.sent.size) in
    same_request refl (attr_again r.attr) lun tag cdb body size (expected_again version r is.fields)

abbrev decoded_manage : List ℕ → Manage
decoded_manage p = record { nexus = get_or p 0 0; function = get_or p 1 0; lun = take 8 (drop 2 p); tag = record { 0 = big_from 10 4 p } }

same_manage : (n f : ℕ) {l l' : List ℕ} {t t' : ℕ} → l ≡ l' → t ≡ t' →
    ◌≡◌ {A = Manage} (record { nexus = n; function = f; lun = l; tag = record { 0 = t } }) (record { nexus = n; function = f; lun = l'; tag = record { 0 = t' } })
same_manage n f p q = cc

manage_again : (m : Manage) → IsManage m → decoded_manage (manage_fields m) ≡ m
manage_again m is =
    let q = manage_fields m in
    let lun : take 8 (drop 2 q) ≡ m.lun = take_at m.lun (big_bytes 4 (m.tag).0) 8 is.lun in
    let behind : drop 10 q ≡ big_bytes 4 (m.tag).0 = drop_at m.lun (big_bytes 4 (m.tag).0) 8 is.lun in
    let tag : big_from 10 4 q ≡ (m.tag).0 = big_from-drop 10 0 4 q ∙ ap (λ (xs : List ℕ). big_from 0 4 xs) behind ∙ back_4 (m.tag).0 is.tag in
    same_manage m.nexus m.function lun tag

abbrev decoded_event : List ℕ → BenchEvent
decoded_event p =
    if get_or p 0 0 == 1 then Strike (which_from (get_or p 1 0)) (big_from 2 8 p)
    else if get_or p 0 0 == 2 then Mend (big_from 1 8 p)
    else if get_or p 0 0 == 3 then Glitch (big_from 1 2 p)
    else if get_or p 0 0 == 4 then Order (drop 1 p)
    else if get_or p 0 0 == 5 then Power
    else Unplug

event_again : (e : BenchEvent) → IsEvent e → decoded_event (event_fields e) ≡ e
event_again (Strike Read lba) is = ap (λ (n : ℕ). Strike Read n) (back_8 lba is)
event_again (Strike Write lba) is = ap (λ (n : ℕ). Strike Write n) (back_8 lba is)
event_again (Mend lba) is = ap (λ (n : ℕ). Mend n) (back_8 lba is)
event_again (Glitch count) is = ap (λ (n : ℕ). Glitch n) (back_2 count is)
event_again (Order order) is = refl
event_again Power is = refl
event_again Unplug is = refl

-- the frame that a kind and a payload spell
abbrev decoded_frame : Version → ℕ → List ℕ → Frame
decoded_frame version k p =
    if k == 1 then frames.Request (decoded_request version p)
    else if k == 2 then frames.Manage (decoded_manage p)
    else if k == 3 then frames.Turn (big_from 0 2 p)
    else if k == 4 then frames.Bench (decoded_event p)
    else frames.End

frame_again : (version : Version) (f : Frame) → IsFrame version f → decoded_frame version (kind f) (payload_bytes f) ≡ f
frame_again version (frames.Request r) is = ap (λ (x : Request). frames.Request x) (request_again version r is)
frame_again version (frames.Manage m) is = ap (λ (x : Manage). frames.Manage x) (manage_again m is)
frame_again version (frames.Turn count) is = ap (λ (n : ℕ). frames.Turn n) (back_2 count is)
frame_again version (frames.Bench event) is = ap (λ (x : BenchEvent). frames.Bench x) (event_again event is)
frame_again version frames.End is = refl

-- two frames in front of one list are the same, and the same bytes follow
pub same_frame : (version : Version) (f g : Frame) (x y : List ℕ) → IsFrame version f → IsFrame version g → spelled f ++ x ≡ spelled g ++ y → (f ≡ g) × (x ≡ y)
same_frame version f g x y first second same =
    let p = payload_bytes f in
    let q = payload_bytes g in
    let left : GoodFrame version f = good_frame version f first in
    let right : GoodFrame version g = good_frame version g second in
    let heads : (kind f ∷ big_bytes 4 (length p)) ≡ (kind g ∷ big_bytes 4 (length q)) = ap (λ (xs : List ℕ). take 5 xs) same in
    let kinds : kind f ≡ kind g = ap (λ (h : List ℕ). get_or h 0 0) heads in
    let long : length p ≡ length q = sym (told (kind f) (length p) left.small) ∙ ap (λ (h : List ℕ). told_length h) heads ∙ told (kind g) (length q) right.small in
    let tails : p ++ x ≡ q ++ y = ap (λ (xs : List ℕ). drop 5 xs) same in
    let payloads : p ≡ q = sym (take_at p x (length p) refl) ∙ ap (λ (xs : List ℕ). take (length p) xs) tails ∙ take_at q y (length p) (sym long) in
    let rests : x ≡ y = sym (drop_at p x (length p) refl) ∙ ap (λ (xs : List ℕ). drop (length p) xs) tails ∙ drop_at q y (length p) (sym long) in
    (sym (frame_again version f first) ∙ ap (λ (k : ℕ). decoded_frame version k p) kinds ∙ ap (λ (xs : List ℕ). decoded_frame version (kind g) xs) payloads ∙ frame_again version g second, rests)

-- as many frames of one list
same_frames : (version : Version) (limit offset other : ℕ) (fs gs : List Frame) (x y : List ℕ) → AreFrames version limit offset fs → AreFrames version limit other gs → length fs ≡ length gs →
    all_spelled fs ++ x ≡ all_spelled gs ++ y → (fs ≡ gs) × (x ≡ y)
same_frames version limit offset other [] [] x y first second counts same = (refl, same)
same_frames version limit offset other [] (g ∷ gs) x y first second counts same = absurd (omega arith)
same_frames version limit offset other (f ∷ fs) [] x y first second counts same = absurd (omega arith)
same_frames version limit offset other (f ∷ fs) (g ∷ gs) x y first second counts same =
    let regrouped : spelled f ++ (all_spelled fs ++ x) ≡ spelled g ++ (all_spelled gs ++ y) = sym (append_assoc (spelled f) (all_spelled fs) x) ∙ same ∙ append_assoc (spelled g) (all_spelled gs) y in
    let front = same_frame version f g (all_spelled fs ++ x) (all_spelled gs ++ y) first.0 second.0 regrouped in
    let rest = same_frames version limit (offset + length (spelled f)) (other + length (spelled g)) fs gs x y first.3 second.3 (omega arith) front.1 in
    (ap (λ (h : Frame). h ∷ fs) front.0 ∙ ap (λ (hs : List Frame). g ∷ hs) rest.0, rest.1)

pub same_version : (version other : Version) (x y : List ℕ) → magic version ++ x ≡ magic other ++ y → (version ≡ other) × (x ≡ y)
same_version One One x y e = (refl, ap (λ (xs : List ℕ). drop 8 xs) e)
same_version Two Two x y e = (refl, ap (λ (xs : List ℕ). drop 8 xs) e)
same_version One Two x y e = let last : ◌≡◌ {A = ℕ} 49 50 = ap (λ (xs : List ℕ). get_or xs 7 0) e in absurd (omega (arith, last))
same_version Two One x y e = let last : ◌≡◌ {A = ℕ} 50 49 = ap (λ (xs : List ℕ). get_or xs 7 0) e in absurd (omega (arith, last))

-- as many frames of one input are the same frames, of the same version, and the same bytes follow
pub one_way : (limit : ℕ) (input : List ℕ) (version other : Version) (fs gs : List Frame) (rest behind : List ℕ) →
    Reads limit input version fs rest → Reads limit input other gs behind → length fs ≡ length gs → (version ≡ other) × (fs ≡ gs) × (rest ≡ behind)
one_way limit input version other fs gs rest behind first second counts =
    let versions = same_version version other (all_spelled fs ++ rest) (all_spelled gs ++ behind) (sym first.split ∙ second.split) in
    let each : AreFrames version limit 8 gs = subst (λ (v : Version). AreFrames v limit 8 gs) (sym versions.0) second.each in
    let all = same_frames version limit 8 8 fs gs rest behind first.each each counts versions.1 in
    (versions.0, all.0, all.1)
