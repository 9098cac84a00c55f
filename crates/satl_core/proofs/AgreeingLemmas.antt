-- The layer and its drive agree, as tasks are issued, end and go, and as the link is lost.
use Rattle.std.proofs.Common.{◌≡◌, ⊎_elim, refl, sym, ap, subst, ◌∙◌, arith, ℕ, zero, suc, ◌+◌, ◌≤◌, Bool, true, false, List, [], ◌∷◌, length, map, None, Some}
use Rattle.std.specs.Prelude.{not, ◌^◌, MatchBool}
use Rattle.std.specs.List.{AllByRecursion, AllZip, remove}
use Rattle.std.proofs.lemmas.List.Sums.{sum_by-cons}
use Rattle.satl_base.specs.declared.block.Block.{Block}
use Rattle.satl_base.specs.declared.block.Range.{Range}
use Rattle.satl_base.specs.declared.modes.Modes.{Modes}
use Rattle.satl_cdb.specs.declared.command.Command.{Command}
use Rattle.satl_cdb.specs.declared.command.Command.TheVariants as cdbs
use Rattle.satl_regs.specs.Trim.{trim_block}
use Rattle.satl_base.specs.Cells.{AreSound, Cell}
use Rattle.satl_base.proofs.LossesLemmas.{loses-length, loses-sound}
use Rattle.satl_base.proofs.MovesLemmas.{moves-length, moves-sound}
use Rattle.satl_identify.specs.Data.{identity_data}
use Rattle.satl_identify.specs.declared.identity.Identity.{Identity}
use Rattle.satl_line.specs.declared.entry.Entry.{Entry}
use Rattle.satl_line.specs.Ending.{Outcome, surface}
use Rattle.satl_line.specs.Kinds.{kind_of}
use Rattle.satl_line.specs.Ranged.{ranged_by, ranged_of}
use Rattle.satl_line.specs.Ranged.RangedTask.{ranged_read, ranged_trim, ranged_write}
use Rattle.satl_line.specs.Tasks.{Held, entries_of}
use Rattle.satl_base.proofs.ListsLemmas.{remove-map}
use Rattle.satl_line.proofs.EndingLemmas.{ends-sound}
use Rattle.satl_drive.specs.State.{DriveState, IsFit}
use Rattle.satl_drive.specs.Rules.{MaySet}
use Rattle.satl_flight.specs.Flown.{FitsDrive, IsFlown, IsInFlight, RangedFits}
use Rattle.satl_flight.specs.Settled.{HasEndedAt, IsCut, IsFilled, IsLaunched, IsLostInFlight, IsLostQuietly}
use Rattle.satl_flight.proofs.FlownLemmas.{FitsOn}
use Rattle.satl_flight.proofs.ZipLemmas.{All-remove}
use Rattle.satl_barrier.specs.Leaving.{Stays, TellsOf}
use Rattle.satl_barrier.proofs.ToldLemmas.{all_bytes, retold}
use Rattle.satl_direct.specs.Device.{Device}
use Rattle.satl_direct.specs.Tasks.{held_by, task_of}
use Rattle.satl_direct.specs.Valid.{AreOwn, HasCome, IsValid}
use Rattle.satl_direct.proofs.Naming.{own_first, own_more, own_none, own_rest}
use Rattle.satl_core.specs.Layer.{Agrees, CanTrim, IsKept, IsUsed, Layer, Tied, entry_pages, view, works}
use Rattle.satl_core.proofs.QueuedLemmas.{by_command, queue_on}
use Rattle.satl_core.proofs.TieLemmas.{bytes_long}
use Rattle.satl_core.proofs.Transfers.{of_task}
use Rattle.satl_core.proofs.UnmapLemmas.{entries_suit}

-- ---- devices with other sectors, and with fewer tasks

-- other sectors, as many and sound, leave a valid device
pub valid_with_cells : (s new : Device) (cells : List Cell) (started active down : Bool) (glitches : ℕ) → length cells ≡ length s.cells → AreSound cells → new ≡ record s { cells = cells; started = started; active = active; down = down; glitches = glitches } → IsValid s → IsValid new
valid_with_cells s new cells started active down glitches size sound same v =
    subst IsValid (sym same) (record {
      identity = v.identity;
      cells = size ∙ v.cells;
      sound = sound;
      few = v.few;
      blocks = v.blocks;
      own = v.own;
      come = v.come;
      modes = v.modes;
      nexuses = v.nexuses;
      attentions = v.attentions;
    })

own_removed : (ts : List Entry) (place : ℕ) → AreOwn ts → AreOwn (remove ts place)
own_removed [] zero own = own
own_removed [] (suc place) own = own
own_removed (t ∷ ts) zero own = own_rest t ts own
own_removed (t ∷ ts) (suc place) own = own_more t (remove ts place) (All-remove _ ts place (own_first t ts own)) (own_removed ts place (own_rest t ts own))

fewer_removed : (ts : List Entry) (place : ℕ) → (length (remove ts place) ≤ length ts) × (held_by (remove ts place) ≤ held_by ts)
fewer_removed [] zero = (omega arith, omega arith)
fewer_removed [] (suc place) = (omega arith, omega arith)
fewer_removed (t ∷ ts) zero = (omega arith, omega (arith, sum_by-cons (λ (e : Entry). e.blocks) t ts))
fewer_removed (t ∷ ts) (suc place) =
    let rest = fewer_removed ts place in
    (omega (arith, rest.0), omega (arith, rest.1, sum_by-cons (λ (e : Entry). e.blocks) t ts, sum_by-cons (λ (e : Entry). e.blocks) t (remove ts place)))

-- fewer of the tasks are left
pub valid_fewer : (ts : List Entry) (s : Device) → (length ts ≤ length s.tasks) × (held_by ts ≤ held_by s.tasks) → AreOwn ts → AllByRecursion (HasCome s.identity) ts → IsValid s → IsValid (record s { tasks = ts })
valid_fewer ts s fewer own come v = record {
  identity = v.identity;
  cells = v.cells;
  sound = v.sound;
  few = omega (arith, fewer.0, v.few);
  blocks = omega (arith, fewer.1, v.blocks);
  own = own;
  come = come;
  modes = v.modes;
  nexuses = v.nexuses;
  attentions = v.attentions;
}

-- the task at a place is gone
pub valid_removed : (place : ℕ) (s : Device) → IsValid s → IsValid (record s { tasks = remove s.tasks place })
valid_removed place s v = valid_fewer (remove s.tasks place) s (fewer_removed s.tasks place) (own_removed s.tasks place v.own) (All-remove (HasCome s.identity) s.tasks place v.come) v

-- ---- settings that stay

-- the link, the settings and the data of a drive are as before
pub record KeepsSettings (d d' : DriveState) : Type 0 where
  pub down : d'.down ≡ d.down
  pub cache : d'.cache ≡ d.cache
  pub look : d'.look ≡ d.look
  pub identify : d'.identify ≡ d.identify

-- so on a drive that is this one
pub settings_kept : (d d' g : DriveState) → d' ≡ g → g.down ≡ d.down → g.cache ≡ d.cache → g.look ≡ d.look → g.identify ≡ d.identify → KeepsSettings d d'
settings_kept d d' g stays down cache look identify = subst (KeepsSettings d) (sym stays) (record { down = down; cache = cache; look = look; identify = identify })

-- so the data tell the same
pub still_told : (bytes : List ℕ) (d d' : DriveState) → d'.identify ≡ d.identify → d'.cache ≡ d.cache → d'.look ≡ d.look → TellsOf bytes d → TellsOf bytes d'
still_told bytes d d' same cache look told = same ∙ (told ∙ (ap (λ b. identity_data bytes b d.look) (sym cache) ∙ ap (λ b. identity_data bytes d'.cache b) (sym look)))

-- the data of a drive that is this one
pub told_by : (bytes : List ℕ) (d d' g : DriveState) → d' ≡ g → g.identify ≡ d.identify → g.cache ≡ d.cache → g.look ≡ d.look → TellsOf bytes d → TellsOf bytes d'
told_by bytes d d' g stays identify cache look told = subst (TellsOf bytes) (sym stays) (still_told bytes d g identify cache look told)

-- another layer agrees where its mark, its modes and its identity are the same
pub agrees_by : (l new : Layer) (d d' : DriveState) → new.down ≡ l.down → new.modes ≡ l.modes → new.identity ≡ l.identity → KeepsSettings d d' → IsInFlight new.flying new.tasks d' → IsFit d' → IsValid (view new d') → Agrees l d → Agrees new d'
agrees_by l new d d' mark modes same keeps queue fit valid agrees = record {
  mark = mark ∙ (agrees.mark ∙ sym keeps.down);
  queue = queue;
  fit = fit;
  cache = λ up. keeps.cache ∙ (agrees.cache (sym mark ∙ up) ∙ sym (ap (λ (m : Modes). m.wce) modes));
  look = λ up. keeps.look ∙ (agrees.look (sym mark ∙ up) ∙ sym (ap (λ (m : Modes). not m.dra) modes));
  told = subst (λ (i : Identity). TellsOf i.bytes d') (sym same) (still_told l.identity.bytes d d' keeps.identify keeps.cache keeps.look agrees.told);
  valid = valid;
}

-- the capacity of the drive is that of the identity
pub capacity_is : (l : Layer) (d : DriveState) → Agrees l d → d.capacity ≡ l.identity.capacity
capacity_is l d agrees = sym agrees.fit.sectors ∙ agrees.valid.cells

-- ---- what is issued

pub agrees_launched : (l new : Layer) (d d' : DriveState) → IsLaunched (queue_on l d) (queue_on new d') → new ≡ record l { flying = new.flying; slots = new.slots } → IsFit d' → Agrees l d → Agrees new d'
agrees_launched l new d d' step same fit agrees =
    agrees_by l new d d' (ap (λ (x : Layer). x.down) same) (ap (λ (x : Layer). x.modes) same) (ap (λ (x : Layer). x.identity) same)
    (settings_kept d d' _ step.stays refl refl refl refl)
    (subst (λ ts. IsInFlight new.flying ts d') (sym (ap (λ (x : Layer). x.tasks) same)) step.tie) fit
    (valid_with_cells (view l d) (view new d') d'.cells l.started d'.active d'.down d'.glitches size sound (ap (λ x. view x d') same) agrees.valid) agrees
  where
    size : length d'.cells ≡ length d.cells
    size = ⊎_elim (λ still. ap length still) (λ lost. loses-length d.cells d'.cells lost) step.lost

    sound : AreSound d'.cells
    sound = ⊎_elim (λ still. subst AreSound (sym still) agrees.valid.sound) (λ lost. loses-sound d.cells d'.cells lost) step.lost

-- ---- a drive that was reset

pub agrees_cut : (l new : Layer) (d d' : DriveState) → IsCut l.tasks d d' → new ≡ record l { flying = []; slots = new.slots } → IsFit d' → Agrees l d → Agrees new d'
agrees_cut l new d d' cut same fit agrees =
    agrees_by l new d d' (ap (λ (x : Layer). x.down) same) (ap (λ (x : Layer). x.modes) same) (ap (λ (x : Layer). x.identity) same)
    (settings_kept d d' _ cut.stays refl refl refl refl)
    (subst (λ fs. IsInFlight fs new.tasks d') (sym (ap (λ (x : Layer). x.flying) same)) (subst (λ ts. IsInFlight [] ts d') (sym (ap (λ (x : Layer). x.tasks) same)) cut.tie)) fit
    (valid_with_cells (view l d) (view new d') d'.cells l.started d'.active d'.down d'.glitches (moves-length cut.moves) (moves-sound cut.moves agrees.valid.sound) (ap (λ x. view x d') same) agrees.valid) agrees

-- ---- a lost link

-- the link was lost, and nothing is outstanding
pub record IsLeftDown (d d' : DriveState) : Type 0 where
  pub down : d'.down ≡ true
  pub idle : d'.outstanding ≡ []
  pub no_error : d'.error ≡ None
  pub capacity : d'.capacity ≡ d.capacity
  pub size : length d'.cells ≡ length d.cells
  pub sound : AreSound d.cells → AreSound d'.cells
  pub fit : IsFit d'
  pub told : (bytes : List ℕ) → length bytes ≡ 512 → TellsOf bytes d → TellsOf bytes d'

-- a drive that is this one, which is down with nothing outstanding
pub down_by : (d d' g : DriveState) → d' ≡ g → g.down ≡ true → g.outstanding ≡ [] → g.error ≡ None → g.capacity ≡ d.capacity → length d'.cells ≡ length d.cells → (AreSound d.cells → AreSound d'.cells) → IsFit d' → ((bytes : List ℕ) → length bytes ≡ 512 → TellsOf bytes d → TellsOf bytes d') → IsLeftDown d d'
down_by d d' g stays down idle no_error capacity size sound fit told = record {
  down = ap (λ (x : DriveState). x.down) stays ∙ down;
  idle = ap (λ (x : DriveState). x.outstanding) stays ∙ idle;
  no_error = ap (λ (x : DriveState). x.error) stays ∙ no_error;
  capacity = ap (λ (x : DriveState). x.capacity) stays ∙ capacity;
  size = size;
  sound = sound;
  fit = fit;
  told = told;
}

pub quietly_down : (tasks : List Held) (d d' : DriveState) → IsLostQuietly tasks d d' → IsFit d' → IsLeftDown d d'
quietly_down tasks d d' lost fit =
    down_by d d' _ lost.stays refl refl refl refl (moves-length lost.moves) (moves-sound lost.moves) fit
    (λ bytes long. told_by bytes d d' _ lost.stays refl refl refl)

pub in_flight_down : (tasks : List Held) (d d' : DriveState) → IsLostInFlight tasks d d' → IsFit d' → IsLeftDown d d'
in_flight_down tasks d d' lost fit =
    down_by d d' _ lost.stays refl refl refl refl (moves-length lost.moves) (moves-sound lost.moves) fit
    (λ bytes long told.
    ⊎_elim
    (λ (set : MaySet d d'). retold bytes d.identify d'.identify d.cache d.look d'.cache d'.look long (all_bytes d'.identify fit.bytes) told set.tells)
    (λ same. still_told bytes d d' same.2 same.0 same.1 told)
    lost.settings)

pub alone_down : (d d' : DriveState) → Stays d d' → d'.down ≡ true → IsFit d → IsLeftDown d d'
alone_down d d' stays down fit = record {
  down = down;
  idle = stays.free.idle;
  no_error = stays.free.no_error;
  capacity = stays.capacity;
  size = stays.free.fit.sectors ∙ (stays.capacity ∙ sym fit.sectors);
  sound = λ was. stays.sound;
  fit = stays.free.fit;
  told = stays.tells;
}

-- nothing is outstanding
pub idle_in_flight : (tasks : List Held) (d : DriveState) → d.outstanding ≡ [] → d.error ≡ None → AllByRecursion (FitsOn d) tasks → d.capacity ≤ 2 ^ 48 → IsInFlight [] tasks d
idle_in_flight tasks d idle no_error fits small = record {
  each = subst (λ qs. AllZip (IsFlown tasks) [] qs) (sym idle) tt;
  apart = tt;
  few = omega arith;
  fits = fits;
  small = small;
  no_error = no_error;
}

-- so the layer that has answered all is tied to it
pub tied_lost : (l new : Layer) (d d' : DriveState) → IsLeftDown d d' → new ≡ record l { down = true; tasks = []; flying = []; slots = new.slots; free = new.free; out = new.out } → Agrees l d → Tied new d'
tied_lost l new d d' left same agrees =
    subst (λ x. Tied x d') (sym same) (record {
      agrees = record {
        mark = sym left.down;
        queue = idle_in_flight [] d' left.idle left.no_error tt (omega (arith, left.capacity, agrees.queue.small));
        fit = left.fit;
        cache = λ up. absurd cc;
        look = λ up. absurd cc;
        told = left.told l.identity.bytes (bytes_long l d agrees) agrees.told;
        valid = record {
          identity = agrees.valid.identity;
          cells = left.size ∙ agrees.valid.cells;
          sound = left.sound agrees.valid.sound;
          few = omega arith;
          blocks = omega arith;
          own = own_none;
          come = tt;
          modes = agrees.valid.modes;
          nexuses = agrees.valid.nexuses;
          attentions = agrees.valid.attentions;
        };
      };
      used = refl;
    })

-- ---- a task that has ended

pub agrees_settled : (l new : Layer) (d d' : DriveState) (place : ℕ) (outcome : Outcome) → HasEndedAt place outcome (queue_on l d) (queue_on new d') → new ≡ record l { tasks = remove l.tasks place; flying = new.flying; slots = new.slots; free = new.free; out = new.out } → IsFit d' → Agrees l d → Agrees new d'
agrees_settled l new d d' place outcome s same fit agrees =
    agrees_by l new d d' (ap (λ (x : Layer). x.down) same) (ap (λ (x : Layer). x.modes) same) (ap (λ (x : Layer). x.identity) same)
    (settings_kept d d' _ s.stays refl refl refl refl)
    (subst (λ ts. IsInFlight new.flying ts d') (sym (ap (λ (x : Layer). x.tasks) same)) s.tie) fit
    (valid_with_cells (record (view l d) { tasks = remove (view l d).tasks place }) (view new d') d'.cells l.started d'.active d'.down d'.glitches size sound (ap (λ x. view x d') same ∙ ap (λ ts. record (view l d) { cells = d'.cells; tasks = ts; active = d'.active; down = d'.down; glitches = d'.glitches }) fewer)
    (valid_removed place (view l d) agrees.valid)) agrees
  where
    fewer : map task_of (entries_of (remove l.tasks place)) ≡ remove (map task_of (entries_of l.tasks)) place
    fewer = ap (map task_of) (remove-map (λ (h : Held). h.entry) l.tasks place) ∙ remove-map task_of (entries_of l.tasks) place

    size : length d'.cells ≡ length d.cells
    size = fit.sectors ∙ (ap (λ (x : DriveState). x.capacity) s.stays ∙ sym agrees.fit.sectors)

    sound : AreSound d'.cells
    sound = moves-sound s.moves_after (ends-sound d.cache s.ranged outcome (surface s.before d.glitches) (surface s.after d'.glitches) (moves-sound s.moves_before agrees.valid.sound) s.ends)

-- ---- the queue is used

pub used_filled : (l : Layer) → works l ≡ true → IsFilled l.flying l.tasks → IsUsed l
used_filled l on filled = subst (λ b. MatchBool b (IsFilled l.flying l.tasks) (l.flying ≡ [])) (sym on) filled

-- what is outstanding is so at a unit that works
pub works_flying : (l : Layer) → IsUsed l → (l.flying ≡ [] → ⊥) → works l ≡ true
works_flying l used some = (elim (works l) as (λ b. works l ≡ b → MatchBool b (IsFilled l.flying l.tasks) (l.flying ≡ []) → b ≡ true) [ true ↦ λ e u. refl | false ↦ λ e u. absurd (some u) ]) refl used

-- ---- a task that is kept may be issued

-- an UNMAP whose trim is queued has its entries in its page
abbrev pub HasOwnEntries : Command → Bool → List Range → List Block → Type 0
HasOwnEntries (cdbs.Unmap size) queued_trim ranges body = queued_trim ≡ true → body ≡ record { bytes = trim_block ranges } ∷ []
HasOwnEntries _ queued_trim ranges body = Unit {0}

pub fits_kept : (identity : Identity) (h : Held) → HasOwnEntries h.entry.command identity.queued_trim h.entry.ranges.items h.entry.body → IsKept identity h → FitsDrive identity.capacity identity.queued_trim h
fits_kept identity h entries kept ranged is =
    of_task (λ c. h.entry.kind ≡ kind_of c identity.queued_trim → CanTrim identity c h.entry.ranges.items → HasOwnEntries c identity.queued_trim h.entry.ranges.items h.entry.body → length h.entry.body ≡ h.entry.blocks + entry_pages c identity.queued_trim → ranged_by c h.entry.ranges.items h.entry.body ≡ Some ranged → RangedFits identity.capacity identity.queued_trim h.entry.body ranged) identity.capacity h.entry.blocks h.entry.command
    (λ form lba count fua t kind trims entries pages e. let one : ranged_read fua (record { lba = lba; count = count }) ≡ ranged = cc in subst (RangedFits identity.capacity identity.queued_trim h.entry.body) one (omega (arith, pages, t.0), record { lba = t.1; some = t.2; few = t.3; within = t.4 }))
    (λ form lba count fua t kind trims entries pages e. let one : ranged_write fua (record { lba = lba; count = count }) h.entry.body ≡ ranged = cc in subst (RangedFits identity.capacity identity.queued_trim h.entry.body) one (omega (arith, pages, t.0), record { lba = t.1; some = t.2; few = t.3; within = t.4 }))
    (λ form lba count none kind trims entries pages e. absurd cc) (λ start no_flush none kind trims entries pages e. absurd cc) (λ ten size none kind trims entries pages e. absurd cc) (λ form lba count t kind trims entries pages e. absurd cc) (λ form lba count t kind trims entries pages e. absurd cc)
    (λ form lba count unmap t kind trims entries pages e. absurd cc)
    (λ size t kind trims entries pages e.
    let one : ranged_trim h.entry.ranges.items ≡ ranged = cc in
    subst (RangedFits identity.capacity identity.queued_trim h.entry.body) one (entries_suit identity h.entry.ranges.items h.entry.body trims (queued size identity.queued_trim kind) (entries (queued size identity.queued_trim kind))))
    (λ cdb t kind trims entries pages e. absurd cc)
    kept.task kept.kind kept.trims entries kept.pages (by_command h.entry ranged is)
  where
    -- its kind says that trims are queued
    queued : (size : ℕ) (q : Bool) → h.entry.kind ≡ kind_of (cdbs.Unmap size) q → q ≡ true
    queued size true kind = refl
    queued size false kind = let none = subst (λ k. ranged_of (record h.entry { kind = k }) ≡ Some ranged) kind is in absurd cc
