-- Tasks, replies, requests and devices whose tags are replaced.
use Rattle.std.proofs.Common.{◌≡◌, refl, sym, ap, ◌∙◌, ℕ, Bool, true, false, List, [], ◌∷◌, map, length, eqb-true, eq-eqb}
use Rattle.std.specs.Prelude.{if◌then◌else◌, ◌==◌, ◌&&◌, ◌||◌, filter}
use Rattle.std.specs.List.{list_any}
use Rattle.std.proofs.lemmas.List.{length-map}
use Rattle.satl_base.specs.declared.request.Request.{Request}
use Rattle.satl_base.specs.declared.request.Manage.{Manage}
use Rattle.satl_base.specs.declared.reply.Reply.{Reply}
use Rattle.satl_base.specs.Names.{is_name}
use Rattle.satl_base.proofs.ListsLemmas.{sum_by-map}
use Rattle.satl_frame.specs.declared.frames.Frame.{Frame}
use Rattle.satl_frame.specs.declared.frames.Frame.TheVariants as frames
use Rattle.satl_frame.specs.Output.{Answer}
use Rattle.satl_frame.specs.Output.Answer.{replied, managed, closed}
use Rattle.satl_line.specs.declared.entry.Entry.{Entry}
use Rattle.satl_direct.specs.Device.{Device, is_called, without}
use Rattle.satl_direct.specs.Tasks.{held_by}
use Rattle.satl_direct.specs.Arrival.{Arrival}
use Rattle.satl_direct.specs.Arrival.Arrival.{answered, attended, overlaps, waits}
use Rattle.satl_laws.proofs.Seen.{by_test}
use Rattle.satl_renaming.proofs.Names.{AreApart, Names}

module _ (names : Names) where
  abbrev pub entry_by : Entry → Entry
  entry_by t = record t { tag = record { 0 = names t.nexus (t.tag).0 } }

  abbrev pub entries_by : List Entry → List Entry
  entries_by tasks = map entry_by tasks

  abbrev pub device_by : Device → Device
  device_by s = record s { tasks = entries_by s.tasks }

  abbrev pub reply_by : Reply → Reply
  reply_by reply = record reply { tag = record { 0 = names reply.nexus (reply.tag).0 } }

  abbrev pub replies_by : List Reply → List Reply
  replies_by replies = map reply_by replies

  abbrev pub answer_by : Answer → Answer
  answer_by (replied reply) = replied (reply_by reply)
  answer_by (managed nexus function response tag) = managed nexus function response (record { 0 = names nexus tag.0 })
  answer_by closed = closed

  abbrev pub answers_by : List Answer → List Answer
  answers_by answers = map answer_by answers

  abbrev pub request_by : Request → Request
  request_by r = record r { tag = record { 0 = names r.nexus (r.tag).0 } }

  abbrev pub manage_by : Manage → Manage
  manage_by m = record m { tag = record { 0 = names m.nexus (m.tag).0 } }

  abbrev pub frame_by : Frame → Frame
  frame_by (frames.Request r) = frames.Request (request_by r)
  frame_by (frames.Manage m) = frames.Manage (manage_by m)
  frame_by (frames.Turn count) = frames.Turn count
  frame_by (frames.Bench event) = frames.Bench event
  frame_by frames.End = frames.End

  abbrev pub arrival_by : Arrival → Arrival
  arrival_by (answered reply) = answered (reply_by reply)
  arrival_by (attended reply) = attended (reply_by reply)
  arrival_by (overlaps reply) = overlaps (reply_by reply)
  arrival_by (waits task) = waits (entry_by task)

  -- the tasks hold as many blocks
  pub held_alike : (tasks : List Entry) → held_by (entries_by tasks) ≡ held_by tasks
  held_alike tasks = sum_by-map entry_by (λ t. t.blocks) tasks

  pub length_alike : (tasks : List Entry) → length (entries_by tasks) ≡ length tasks
  length_alike tasks = length-map tasks entry_by

  -- a test that does not see tags
  pub any_alike : (p q : Entry → Bool) → ((t : Entry) → q (entry_by t) ≡ p t) → (tasks : List Entry) → list_any q (entries_by tasks) ≡ list_any p tasks
  any_alike p q same [] = refl
  any_alike p q same (t ∷ ts) = ap (λ b. b || list_any q (entries_by ts)) (same t) ∙ ap (λ b. p t || b) (any_alike p q same ts)

  pub filter_alike : (p q : Entry → Bool) → ((t : Entry) → q (entry_by t) ≡ p t) → (tasks : List Entry) → filter q (entries_by tasks) ≡ entries_by (filter p tasks)
  filter_alike p q same [] = refl
  filter_alike p q same (t ∷ ts) =
      ap (λ b. if b then entry_by t ∷ filter q (entries_by ts) else filter q (entries_by ts)) (same t)
      ∙ ap (λ l. if p t then entry_by t ∷ l else l) (filter_alike p q same ts)
      ∙ chosen (p t)
    where
      chosen : (b : Bool) → (if b then entry_by t ∷ entries_by (filter p ts) else entries_by (filter p ts)) ≡ entries_by (if b then t ∷ filter p ts else filter p ts)
      chosen true = refl
      chosen false = refl

  module _ (apart : AreApart names) where
    -- names are the same as before, or different as before
    pub named_alike : (nexus tag its_nexus its_tag : ℕ) → is_name nexus (names nexus tag) its_nexus (names its_nexus its_tag) ≡ is_name nexus tag its_nexus its_tag
    named_alike nexus tag its_nexus its_tag =
        by_test (λ b. (b && (names its_nexus its_tag == names nexus tag)) ≡ (b && (its_tag == tag))) (its_nexus == nexus)
        (λ yes_same. tags (eqb-true its_nexus nexus yes_same))
        (λ other. refl)
      where
        tags : its_nexus ≡ nexus → (names its_nexus its_tag == names nexus tag) ≡ (its_tag == tag)
        tags same =
            by_test (λ b. (names its_nexus its_tag == names nexus tag) ≡ b) (its_tag == tag)
            (λ yes_tag. eq-eqb (names its_nexus its_tag) (names nexus tag) (ap (λ n. names n its_tag) same ∙ ap (names nexus) (eqb-true its_tag tag yes_tag)))
            (λ other. by_test (λ b. b ≡ false) (names its_nexus its_tag == names nexus tag)
            (λ alike. sym (eq-eqb its_tag tag (apart nexus its_tag tag (sym (ap (λ n. names n its_tag) same) ∙ eqb-true (names its_nexus its_tag) (names nexus tag) alike))) ∙ other)
            (λ unlike. refl))

    -- a task is called by its name
    pub called_alike : (nexus tag : ℕ) (t : Entry) → is_called nexus (names nexus tag) (entry_by t) ≡ is_called nexus tag t
    called_alike nexus tag t = named_alike nexus tag t.nexus (t.tag).0

    pub any_called : (nexus tag : ℕ) (tasks : List Entry) → list_any (is_called nexus (names nexus tag)) (entries_by tasks) ≡ list_any (is_called nexus tag) tasks
    any_called nexus tag tasks = any_alike (is_called nexus tag) (is_called nexus (names nexus tag)) (called_alike nexus tag) tasks

    -- and taken off by it
    pub without_alike : (t : Entry) (tasks : List Entry) → without (entry_by t) (entries_by tasks) ≡ entries_by (without t tasks)
    without_alike t [] = refl
    without_alike t (u ∷ us) =
        ap (λ b. if b then entries_by us else entry_by u ∷ without (entry_by t) (entries_by us)) (called_alike t.nexus (t.tag).0 u)
        ∙ ap (λ l. if is_called t.nexus (t.tag).0 u then entries_by us else entry_by u ∷ l) (without_alike t us)
        ∙ chosen (is_called t.nexus (t.tag).0 u)
      where
        chosen : (b : Bool) → (if b then entries_by us else entry_by u ∷ entries_by (without t us)) ≡ entries_by (if b then us else u ∷ without t us)
        chosen true = refl
        chosen false = refl
