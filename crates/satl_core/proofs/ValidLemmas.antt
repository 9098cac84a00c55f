-- Each step of the layer leaves a valid device.
use Rattle.std.proofs.Common.{◌≡◌, ⊎_elim, inl, refl, sym, ap, subst, ◌∙◌, arith, cond, ℕ, zero, suc, ◌+◌, ◌≤◌, Bool, true, false, List, [], ◌∷◌, ◌++◌, length, map, take, drop, get_or, set, Some, None}
use Rattle.std.specs.Prelude.{Option, Ok, MatchBool, not, ◌==◌, ◌*◌, nat_lt, filter, replicate, IfSome}
use Rattle.std.specs.List.{AllByRecursion, list_any}
use Rattle.std.proofs.lemmas.Bool.{eqb-false, ltb-false, not-false, or_parts}
use Rattle.std.proofs.lemmas.List.{length-append, length-replicate, length-set, length_push}
use Rattle.std.proofs.lemmas.List.Sums.{sum_by-cons, sum_by_push}
use Rattle.std.proofs.Math.Seq.{take-append_seam}
use Rattle.satl_base.proofs.ListsLemmas.{All-filter, All-push_end}
use Rattle.satl_base.specs.declared.modes.Modes.{Modes}
use Rattle.satl_base.specs.declared.reply.Reply.{Reply}
use Rattle.satl_base.specs.declared.request.Request.{Request}
use Rattle.satl_base.specs.Blocks.{zero_block}
use Rattle.satl_base.specs.Identify.{has_queued_trim}
use Rattle.satl_base.specs.Lists.{LeavesOut}
use Rattle.satl_cdb.specs.declared.command.Command.{Command}
use Rattle.satl_identify.specs.declared.identity.Identity.{Identity}
use Rattle.satl_unit.specs.declared.attention.Attention.{Attention}
use Rattle.satl_unit.specs.Conditions.{IsInReportOrder, report_order}
use Rattle.satl_frame.specs.DataPages.{page_count}
use Rattle.satl_line.specs.declared.entry.Entry.{Entry}
use Rattle.satl_line.specs.Tasks.{Held, entries_of, is_too_much}
use Rattle.satl_drive.specs.State.{DriveState, IsFit}
use Rattle.satl_base.specs.Identify.{has_cache, has_look}
use Rattle.satl_sense.specs.declared.sense.Sense.{Sense}
use Rattle.satl_direct.specs.Arrival.{waits}
use Rattle.satl_direct.specs.Device.{Device, is_called, is_of, once_told, attentions_left}
use Rattle.satl_direct.specs.Tasks.{held_blocks, held_by, is_full, task_for, task_of, task_without_pages}
use Rattle.satl_direct.specs.Valid.{HasCome, IsValid}
use Rattle.satl_direct.proofs.Conditions.{valid_attended}
use Rattle.satl_direct.proofs.Naming.{own_filtered, own_pushed, own_rest}
use Rattle.satl_flight.specs.Flown.{IsInFlight}
use Rattle.satl_flight.specs.Settled.{IsFilled}
use Rattle.satl_flight.proofs.ComingLemmas.{tie_come}
use Rattle.satl_flight.proofs.FlownLemmas.{FitsOn, fits_by, fits_on}
use Rattle.satl_core.specs.Refilling.{Comes}
use Rattle.satl_core.specs.Layer.{Agrees, IsUsed, Layer, Tied, view, works}
use Rattle.satl_base.specs.Limits.{IsExpectable}
use Rattle.satl_core.proofs.AgreeingLemmas.{agrees_by, capacity_is, idle_in_flight, valid_fewer}
use Rattle.satl_core.specs.Leaving.{left_by}
use Rattle.satl_asks.specs.Requests.{is_for_unit}
use Rattle.satl_core.specs.Submitting.{Becomes, FindsSetFull, IsAdded, attention_of, code_answer, judged, once_judged, overlaps}
use Rattle.satl_barrier.specs.Leaving.{Stays}
use Rattle.satl_core.proofs.TieLemmas.{bytes_long, has_as_noted, queue_alike}
use Rattle.satl_core.proofs.ArrivalLemmas.{code_waits, full_is, full_or_waits}
use Rattle.satl_core.proofs.JudgingLemmas.{by_ok}
use Rattle.satl_core.specs.declared.managing.Posting.{Posting}
use Rattle.satl_core.specs.declared.turning.Ending.{Ending}
use Rattle.satl_core.specs.declared.turning.Ending.TheVariants as endings
use Rattle.satl_core.specs.Managing.{once_posted}
use Rattle.satl_core.specs.Turning.{modes_after}
use Rattle.satl_mode.specs.Changes.{AreModesOf, IsChangeOf, wanted_by}
use Rattle.satl_mode.proofs.Unchanged.{applied_of}
use Rattle.satl_base.specs.declared.modes.ModeChange.{ModeChange}
use Rattle.satl_core.proofs.DeviceLemmas.{first_tasks, seen}
use Rattle.satl_core.proofs.HeldLemmas.{IsFirst, IsKeptEntry, filter_fewer}
use Rattle.satl_core.proofs.PostingLemmas.{once_kept, once_length}
use Rattle.satl_core.proofs.ServedLemmas.{still}
use Rattle.satl_core.proofs.LeavingLemmas.{found_is, left_tasks}

-- ---- tasks that go

held_fewer : (p : Entry → Bool) (ts : List Entry) → held_by (filter p ts) ≤ held_by ts
held_fewer p [] = omega arith
held_fewer p (t ∷ ts) =
    let rest = held_fewer p ts in
    let whole = sum_by-cons (λ (e : Entry). e.blocks) t ts in
    elim (p t) as (λ b. held_by (cond b (t ∷ filter p ts) (filter p ts)) ≤ held_by (t ∷ ts))
    [ true ↦ omega (arith, rest, whole, sum_by-cons (λ (e : Entry). e.blocks) t (filter p ts)) | false ↦ omega (arith, rest, whole) ]

-- the tasks that pass a test are left
pub valid_left : (p : Entry → Bool) (s : Device) → IsValid s → IsValid (record s { tasks = filter p s.tasks })
valid_left p s v = valid_fewer (filter p s.tasks) s (filter_fewer p s.tasks, held_fewer p s.tasks) (own_filtered p s.tasks v.own) (All-filter (HasCome s.identity) p s.tasks v.come) v

-- ---- a condition that is told

without_first : {X : Type 0} (xs ys : List X) → LeavesOut xs ys → LeavesOut xs (drop 1 ys)
without_first xs [] leaves = leaves
without_first [] (y ∷ ys) leaves = absurd leaves
without_first (x ∷ xs) (y ∷ []) leaves = tt
without_first (x ∷ xs) (y ∷ z ∷ ys) leaves = ⊎_elim (λ a. inl (without_first xs (y ∷ z ∷ ys) a)) (λ a. inl a.1) leaves

told_kept : (nexus : ℕ) (lists : List (List Attention)) → AllByRecursion IsInReportOrder lists → AllByRecursion IsInReportOrder (set lists nexus (drop 1 (get_or lists nexus [])))
told_kept nexus [] all = tt
told_kept zero (conditions ∷ lists) all = (without_first report_order conditions all.0, all.1)
told_kept (suc nexus) (conditions ∷ lists) all = (all.0, told_kept nexus lists all.1)

valid_told : (nexus : ℕ) (s : Device) → IsValid s → IsValid (once_told nexus s)
valid_told nexus s v = valid_attended s _ (length-set s.attentions nexus (drop 1 (get_or s.attentions nexus [])) ∙ v.nexuses) (told_kept nexus s.attentions v.attentions) v

valid_untold : (what : Option Attention) (l : Layer) (d : DriveState) (nexus : ℕ) → IsValid (view l d) → IsValid (view (record l { attentions = attentions_left what nexus l.attentions }) d)
valid_untold None l d nexus v = v
valid_untold (Some what) l d nexus v = valid_told nexus (view l d) v

-- judging a request leaves a valid device
pub once_judged_valid : (l : Layer) (d : DriveState) (r : Request) → IsValid (view l d) → IsValid (view (once_judged l r) d)
once_judged_valid l d r v =
    elim (is_for_unit r) as (λ b. IsValid (view (cond (not b) l (cond (overlaps l.tasks r) (record l { tasks = left_by (is_of r.nexus) l.tasks }) (record l { attentions = attentions_left (attention_of l.attentions r) r.nexus l.attentions }))) d)) [
      | false ↦ v
      | true ↦ (elim (overlaps l.tasks r) as (λ b. IsValid (view (cond b (record l { tasks = left_by (is_of r.nexus) l.tasks }) (record l { attentions = attentions_left (attention_of l.attentions r) r.nexus l.attentions })) d)) [
        | true ↦ subst (λ ts. IsValid (record (view l d) { tasks = ts })) (sym (left_tasks (is_of r.nexus) (is_of r.nexus) (λ t. refl) l.tasks)) (valid_left (λ t. not (is_of r.nexus t)) (view l d) v)
        | false ↦ valid_untold (attention_of l.attentions r) l d r.nexus v
      ])
    ]

-- ---- a task that comes

held_pushed : (ts : List Entry) (t : Entry) → held_by (ts ++ t ∷ []) ≡ held_by ts + t.blocks
held_pushed ts t = sum_by_push (λ (e : Entry). e.blocks) ts t

-- a device with room for a task of its own nexus and tag, which has come
valid_with : (s : Device) (t : Entry) → (length s.tasks == 64) ≡ false → nat_lt 32768 (held_by s.tasks + t.blocks) ≡ false → list_any (is_called t.nexus (t.tag).0) s.tasks ≡ false → HasCome s.identity t → IsValid s → IsValid (record s { tasks = s.tasks ++ t ∷ [] })
valid_with s t room fits apart come v =
    let more = length_push s.tasks t in
    let blocks = held_pushed s.tasks t in
    let some = eqb-false (length s.tasks) 64 room in
    let within = ltb-false 32768 (held_by s.tasks + t.blocks) fits in
    record {
      identity = v.identity;
      cells = v.cells;
      sound = v.sound;
      few = omega (arith, more, some, v.few);
      blocks = omega (arith, blocks, within);
      own = own_pushed s.tasks t apart v.own;
      come = All-push_end (HasCome s.identity) s.tasks t v.come come;
      modes = v.modes;
      nexuses = v.nexuses;
      attentions = v.attentions;
    }

added_valid : (l new : Layer) (d : DriveState) (r : Request) (c : Command) (replies : List Reply) → judged l r ≡ Ok c → is_too_much l.tasks (task_without_pages l.identity.queued_trim r c) ≡ false → IsAdded r c l replies new → r.data_len ≤ 512 * length r.body → IsExpectable r.expected → IsValid (view l d) → IsValid (view new d)
added_valid l new d r c replies e fits a pages expected v =
    let room : is_full (map task_of (entries_of l.tasks)) c ≡ false = full_is l.tasks r c l.identity.queued_trim ∙ fits in
    let both = or_parts (length (map task_of (entries_of l.tasks)) == 64) (nat_lt 32768 (held_by (map task_of (entries_of l.tasks)) + held_blocks c)) room in
    let apart : overlaps l.tasks r ≡ false = by_ok (λ unit over what. over ≡ false) (is_for_unit r) (overlaps l.tasks r) (attention_of l.attentions r) l r c (λ ok. refl) e in
    let answer : code_answer l r ≡ Ok c = by_ok (λ unit over what. code_answer l r ≡ Ok c) (is_for_unit r) (overlaps l.tasks r) (attention_of l.attentions r) l r c (λ ok. ok) e in
    subst IsValid (sym (ap (λ x. view x d) a.stays ∙ ap (λ ts. record (view l d) { tasks = ts }) a.last))
    (valid_with (view l d) (task_for l.identity.queued_trim r c) both.0 both.1 (sym (found_is r.nexus r.tag l.tasks 0) ∙ apart) (record {
      request = r;
      pages = pages;
      expected = expected;
      at = view l d;
      same = refl;
      modes = v.modes;
      became = code_waits l d r c answer ∙ waits_so room;
    }) v)
  where
    waits_so : is_full (map task_of (entries_of l.tasks)) c ≡ false → full_or_waits l d r c ≡ waits (task_for l.identity.queued_trim r c)
    waits_so room = rw room refl

becomes_valid : (l new : Layer) (d : DriveState) (r : Request) (c : Command) (replies : List Reply) → judged l r ≡ Ok c → Becomes r c l replies new → r.data_len ≤ 512 * length r.body → IsExpectable r.expected → IsValid (view l d) → IsValid (view new d)
becomes_valid l new d r c replies e b pages expected v =
    (elim (is_too_much l.tasks (task_without_pages l.identity.queued_trim r c)) as (λ f. is_too_much l.tasks (task_without_pages l.identity.queued_trim r c) ≡ f → MatchBool f (FindsSetFull r l replies new) (IsAdded r c l replies new) → IsValid (view new d)) [
      | true ↦ λ is a. subst IsValid (sym (ap (λ x. view x d) a.stays)) v
      | false ↦ λ is a. added_valid l new d r c replies e is a pages expected v
    ]) refl b

-- a request with zeros behind its pages, so that they hold its data-out
abbrev pub filled_up : Request → Request
filled_up r = record r { body = r.body ++ replicate (page_count r.data_len) zero_block }

pub filled_up_holds : (r : Request) → (filled_up r).data_len ≤ 512 * length (filled_up r).body
filled_up_holds r =
    let all = length-append r.body (replicate (page_count r.data_len) zero_block) in
    let more = length-replicate (page_count r.data_len) zero_block in
    omega (arith, all, more)

-- it is the request once they are cut off
pub filled_up_cut : (r : Request) → r ≡ record (filled_up r) { body = take (length r.body) (filled_up r).body }
filled_up_cut r = ap (λ b. record r { body = b }) (sym (take-append_seam r.body (replicate (page_count r.data_len) zero_block)))

-- ---- the tie

-- other conditions leave the layer tied, where its device is valid
pub tied_told : (l new : Layer) (d : DriveState) → new ≡ record l { attentions = new.attentions; free = new.free; out = new.out } → IsValid (view new d) → Tied l d → Tied new d
tied_told l new d same valid tied = record {
  agrees = agrees_by l new d d (ap (λ (x : Layer). x.down) same) (ap (λ (x : Layer). x.modes) same) (ap (λ (x : Layer). x.identity) same) (record { down = refl; cache = refl; look = refl; identify = refl })
      (subst (λ fs. IsInFlight fs new.tasks d) (sym (ap (λ (x : Layer). x.flying) same)) (subst (λ ts. IsInFlight l.flying ts d) (sym (ap (λ (x : Layer). x.tasks) same)) tied.agrees.queue)) tied.agrees.fit valid tied.agrees;
  used = subst IsUsed (sym same) tied.used;
}

-- what becomes of a request leaves the layer and its drive in agreement
module _ (l new : Layer) (d : DriveState) (r : Request) (c : Command) (replies : List Reply) (b : Becomes r c l replies new) where
  becomes_same : new ≡ record l { tasks = new.tasks; free = new.free; out = new.out }
  becomes_same = (elim (is_too_much l.tasks (task_without_pages l.identity.queued_trim r c)) as (λ f. MatchBool f (FindsSetFull r l replies new) (IsAdded r c l replies new) → new ≡ record l { tasks = new.tasks; free = new.free; out = new.out }) [
    | true ↦ λ a. a.stays ∙ ap (λ (x : Layer). record l { tasks = x.tasks; free = new.free; out = x.out }) (sym a.stays)
    | false ↦ λ a. a.stays ∙ ap (λ (x : Layer). record l { tasks = new.tasks; free = new.free; out = x.out }) (sym a.stays)
  ]) b

  pub becomes_down : new.down ≡ l.down
  becomes_down = ap (λ (x : Layer). x.down) becomes_same

  pub becomes_flying : new.flying ≡ l.flying
  becomes_flying = ap (λ (x : Layer). x.flying) becomes_same

  -- a full set stays as it is
  full_same : (replies ≡ [] → ⊥) → new ≡ record l { free = new.free; out = new.out }
  full_same some = (elim (is_too_much l.tasks (task_without_pages l.identity.queued_trim r c)) as (λ f. MatchBool f (FindsSetFull r l replies new) (IsAdded r c l replies new) → new ≡ record l { free = new.free; out = new.out }) [
    | true ↦ λ a. a.stays ∙ ap (λ (x : Layer). record l { free = new.free; out = x.out }) (sym a.stays)
    | false ↦ λ a. absurd (some a.none)
  ]) b

  pub full_tied : (replies ≡ [] → ⊥) → Tied l d → Tied new d
  full_tied some tied =
      let same = full_same some in
      tied_told l new d (same ∙ ap (λ lists. record l { attentions = lists; free = new.free; out = new.out }) (sym (ap (λ (x : Layer). x.attentions) same))) (subst IsValid (sym (ap (λ x. view x d) same)) tied.agrees.valid) tied

  module _ (added : replies ≡ []) (comes : replies ≡ [] → Comes l.identity.capacity l.identity.queued_trim l.tasks new.tasks) (tied : Tied l d) where
    come : Comes l.identity.capacity l.identity.queued_trim l.tasks new.tasks
    come = comes added

    -- it may be issued to the drive
    come_fits : FitsOn d come.held
    come_fits = fits_by come.held l.identity.capacity d.capacity l.identity.queued_trim (has_queued_trim d.identify) (capacity_is l d tied.agrees) (has_as_noted l d tied.agrees).queued_trim come.fits

    pub came_agrees : judged l r ≡ Ok c → r.data_len ≤ 512 * length r.body → IsExpectable r.expected → Agrees new d
    came_agrees e pages expected =
        agrees_by l new d d (ap (λ (x : Layer). x.down) becomes_same) (ap (λ (x : Layer). x.modes) becomes_same) (ap (λ (x : Layer). x.identity) becomes_same) (record { down = refl; cache = refl; look = refl; identify = refl })
        (subst (λ fs. IsInFlight fs new.tasks d) (sym (ap (λ (x : Layer). x.flying) becomes_same)) (subst (λ ts. IsInFlight l.flying ts d) (sym come.last)
        (tie_come l.flying l.tasks come.held d come_fits tied.agrees.queue)))
        tied.agrees.fit (becomes_valid l new d r c replies e b pages expected tied.agrees.valid) tied.agrees

    -- the others are covered
    pub came_last : (before : List Held) × Comes d.capacity (has_queued_trim d.identify) before new.tasks × MatchBool (works new) (IsFilled new.flying before) (new.flying ≡ [])
    came_last = (
      l.tasks,
      record { held = come.held; last = come.last; fits = come_fits },
      subst (λ (x : Layer). MatchBool (works x) (IsFilled x.flying l.tasks) (x.flying ≡ [])) (sym becomes_same) tied.used,
    )

-- mode values that a task wants are such that the drive can have them
wanted_valid : (identity : Identity) (modes : Modes) (change : Option ModeChange) → AreModesOf identity modes → IfSome change (IsChangeOf identity) → AreModesOf identity (wanted_by modes change)
wanted_valid identity modes None valid may = valid
wanted_valid identity modes (Some change) valid may = applied_of identity modes change valid may

-- so what it does not set stays where the drive has not the feature
pub wanted_cache : (identity : Identity) (modes wanted : Modes) (change : Option ModeChange) (has : Bool) → has ≡ identity.cache → wanted ≡ wanted_by modes change → AreModesOf identity modes → IfSome change (IsChangeOf identity) → has ≡ false → wanted.wce ≡ modes.wce
wanted_cache identity modes wanted change has is wants valid may none = ap (λ (m : Modes). m.wce) wants ∙ ((wanted_valid identity modes change valid may).cache (sym is ∙ none) ∙ sym (valid.cache (sym is ∙ none)))

pub wanted_look : (identity : Identity) (modes wanted : Modes) (change : Option ModeChange) (has : Bool) → has ≡ identity.look → wanted ≡ wanted_by modes change → AreModesOf identity modes → IfSome change (IsChangeOf identity) → has ≡ false → wanted.dra ≡ modes.dra
wanted_look identity modes wanted change has is wants valid may none = ap (λ (m : Modes). m.dra) wants ∙ ((wanted_valid identity modes change valid may).look (sym is ∙ none) ∙ sym (valid.look (sym is ∙ none)))

-- a drive that fits its data is set as it can be
set_valid : (identity : Identity) (modes : Modes) (d : DriveState) → IsFit d → has_cache d.identify ≡ identity.cache → has_look d.identify ≡ identity.look → d.cache ≡ modes.wce → d.look ≡ not modes.dra → AreModesOf identity modes
set_valid identity modes d fit has looks cache look = record {
  cache = λ none. sym cache ∙ off d.cache (λ is. sym (fit.cache is) ∙ (has ∙ none));
  look = λ none. not-false modes.dra (sym look ∙ off d.look (λ is. sym (fit.look is) ∙ (looks ∙ none)));
}
  where
    off : (b : Bool) → (b ≡ true → true ≡ false) → b ≡ false
    off true has_none = let clash = has_none refl in absurd cc
    off false has_none = refl

-- the first task is gone, with nothing outstanding, and the link is as it was
pub agrees_rest : (l new : Layer) (wanted : Modes) (posting : Option Posting) (rest : List Held) (entry : Entry) (ending : Ending) (d d' : DriveState) → IsFirst l.tasks entry rest → IsKeptEntry l.identity entry → (l.down ≡ true → (sense : Sense) × (ending ≡ endings.Check sense))
    → new.modes ≡ modes_after entry.command ending l.modes wanted → new.attentions ≡ once_posted posting rest l.attentions → d'.down ≡ l.down → (l.down ≡ false → d'.cache ≡ (modes_after entry.command ending l.modes wanted).wce) → (l.down ≡ false → d'.look ≡ not (modes_after entry.command ending l.modes wanted).dra) → Stays d d'
    → new ≡ record l { modes = new.modes; started = new.started; attentions = new.attentions; tasks = rest; flying = []; slots = new.slots; free = new.free; out = new.out } → Agrees l d → Agrees new d'
agrees_rest l new wanted posting rest entry ending d d' first kept unasked changed told mark cache look stays same agrees =
    let v = subst (λ ts. IsValid (seen l.identity l.modes l.started l.attentions ts d)) (first_tasks l.tasks rest entry first) agrees.valid in
    let fits : FitsOn d first.held × AllByRecursion (FitsOn d) rest = subst (AllByRecursion (FitsOn d)) first.are agrees.queue.fits in
    let tells = stays.tells l.identity.bytes (bytes_long l d agrees) agrees.told in
    let alike = queue_alike l.identity.bytes d d' (bytes_long l d agrees) agrees.told tells in
    let all : held_by (task_of entry ∷ map task_of (entries_of rest)) ≤ 32768 = v.blocks in
    let parts : held_by (task_of entry ∷ map task_of (entries_of rest)) ≡ (task_of entry).blocks + held_by (map task_of (entries_of rest)) = sum_by-cons (λ (e : Entry). e.blocks) (task_of entry) (map task_of (entries_of rest)) in
    let fewer : held_by (map task_of (entries_of rest)) ≤ 32768 = omega (arith, parts, all) in
    subst (λ x. Agrees x d') (sym same) (record {
      mark = sym mark;
      queue = idle_in_flight rest d' stays.free.idle stays.free.no_error (fits_on rest d d' stays.capacity alike fits.1) (omega (arith, stays.capacity, agrees.queue.small));
      fit = stays.free.fit;
      cache = λ up. cache up ∙ sym (ap (λ (m : Modes). m.wce) changed);
      look = λ up. look up ∙ sym (ap (λ (m : Modes). not m.dra) changed);
      told = tells;
      valid = record {
        identity = v.identity;
        cells = stays.free.fit.sectors ∙ (stays.capacity ∙ (sym agrees.fit.sectors ∙ v.cells));
        sound = stays.sound;
        few = omega (arith, v.few);
        blocks = fewer;
        own = own_rest _ _ v.own;
        come = v.come.1;
        modes = subst (AreModesOf l.identity) (sym changed) (valid_after l.down refl);
        nexuses = ap length told ∙ (once_length posting rest l.attentions ∙ v.nexuses);
        attentions = subst (AllByRecursion IsInReportOrder) (sym told) (once_kept posting rest l.attentions v.attentions);
      };
    })
  where
    -- what the drive is set to is valid, and where the link is lost nothing was set
    valid_after : (b : Bool) → l.down ≡ b → AreModesOf l.identity (modes_after entry.command ending l.modes wanted)
    valid_after false up =
        let noted = has_as_noted l d agrees in
        set_valid l.identity (modes_after entry.command ending l.modes wanted) d' stays.free.fit (stays.says.cache ∙ noted.cache) (stays.says.look ∙ noted.look) (cache up) (look up)
    valid_after true lost =
        let checked = unasked lost in
        subst (AreModesOf l.identity) (sym (ap (λ e. modes_after entry.command e l.modes wanted) checked.1 ∙ (still l.identity.capacity entry.blocks l.modes wanted l.started checked.0 entry.command kept.task).0)) agrees.valid.modes
