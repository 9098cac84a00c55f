-- What an event of a test bench does to the drive and to the layer is what it does to the device.
use Rattle.std.proofs.Common.{◌≡◌, inl, inr, refl, sym, ap, subst, ◌∙◌, arith, ℕ, zero, suc, ◌≤◌, Bool, true, false, List, [], ◌∷◌, length, map}
use Rattle.std.specs.Prelude.{MatchBool, not, replicate}
use Rattle.std.specs.List.{AllZip}
use Rattle.std.proofs.lemmas.Slice.Zip.{AllZip-long}
use Rattle.satl_flight.proofs.ZipLemmas.{zip-right}
use Rattle.satl_base.specs.declared.bench.BenchEvent.{BenchEvent}
use Rattle.satl_base.specs.declared.bench.BenchEvent.TheVariants.{Strike, Mend, Glitch, Order, Power, Unplug}
use Rattle.satl_base.specs.declared.bench.Which.{Which}
use Rattle.satl_base.specs.declared.bench.Which.TheVariants as flaws
use Rattle.satl_base.specs.declared.modes.Modes.{Modes}
use Rattle.satl_base.specs.declared.reply.Reply.{Reply}
use Rattle.satl_base.specs.Cells.{AreSound, Cell, IsSound, Part}
use Rattle.satl_base.specs.Identify.{has_cache}
use Rattle.satl_base.specs.Losses.{Loses}
use Rattle.satl_base.proofs.CellsLemmas.{change_at-length}
use Rattle.satl_base.proofs.LossesLemmas.{loses-sound}
use Rattle.satl_base.proofs.MovesLemmas.{lose_once}
use Rattle.satl_io.specs.Causes.{RoseBy}
use Rattle.satl_io.proofs.Counting.{RoseBy-none}
use Rattle.satl_regs.specs.Effects.{IsTelling}
use Rattle.satl_regs.specs.Sectors.{IsLeftBehind, with_flaw, without_flaws}
use Rattle.satl_identify.specs.declared.identity.Identity.{Identity}
use Rattle.satl_mode.specs.ModePages.{defaults}
use Rattle.satl_unit.specs.declared.attention.Attention.{Attention}
use Rattle.satl_unit.specs.declared.attention.Attention.TheVariants.{PowerOn}
use Rattle.satl_unit.specs.Conditions.{IsInReportOrder}
use Rattle.satl_line.specs.Tasks.{Held}
use Rattle.satl_drive.specs.State.{DriveState, IsFit, Orders}
use Rattle.satl_drive.specs.Bench.{IsPowerCycled, IsUnplugged, with_order}
use Rattle.satl_drive.specs.Queue.{all_pairs}
use Rattle.satl_direct.specs.Bench as direct
use Rattle.satl_direct.specs.Bench.{Happens}
use Rattle.satl_direct.specs.Device.{Device}
use Rattle.satl_direct.specs.Quiet.{Around}
use Rattle.satl_direct.specs.Run.{bench_losses}
use Rattle.satl_direct.specs.Valid.{IsValid}
use Rattle.satl_core.specs.Benching.{FollowsEvent, IsActedOn, LosesLink, StartsAnew, StaysSame}
use Rattle.satl_base.specs.Moves.{Moves}
use Rattle.satl_base.specs.Lists.{change_at}
use Rattle.satl_base.proofs.Booleans.{not-not}
use Rattle.satl_direct.specs.Quiet.{MayShow}
use Rattle.satl_direct.proofs.Naming.{own_none}
use Rattle.satl_direct.proofs.Quieting.{quiet_none, around_alone}
use Rattle.satl_core.specs.Layer.{Layer, Tied, view, works}
use Rattle.satl_core.proofs.AgreeingLemmas.{IsLeftDown, agrees_by, idle_in_flight, settings_kept, still_told, tied_lost, valid_with_cells}
use Rattle.satl_core.proofs.EndingLemmas.{nothing_out}
use Rattle.satl_core.proofs.QueuedLemmas.{moves_shown}
use Rattle.satl_drive.specs.Queue.{Slots}
use Rattle.satl_flight.specs.Flown.{IsInFlight}
use Rattle.satl_flight.specs.Settled.{Deepens, IsFilled}
use Rattle.satl_flight.proofs.LaunchedLemmas.{lost_reset}
use Rattle.satl_barrier.proofs.ToldLemmas.{all_bytes, retold}
use Rattle.satl_pages.specs.Counts.{Counts}
use Rattle.satl_flight.specs.declared.flight.Flying.{Flying}
use Rattle.satl_flight.specs.Lending.{Waiting}
use Rattle.satl_flight.proofs.SettledLemmas.{deepens_shorter}
use Rattle.satl_core.proofs.TieLemmas.{bytes_long, has_as_noted, layer_of}
use Rattle.satl_core.proofs.DeviceLemmas.{rest_lost}

-- ---- what the drive does

-- an event that changes sectors, glitches or the account of order bytes alone
record ChangesMedium (old new : DriveState) : Type 0 where
  size : length new.cells ≡ length old.cells
  sound : AreSound old.cells → AreSound new.cells
  stays : new ≡ record old { cells = new.cells; glitches = new.glitches; orders = new.orders }

-- a change that leaves the blocks of a sector leaves all sound
changed-sound : (f : Cell → Cell) → ((c : Cell) → IsSound c → IsSound (f c)) → (cells : List Cell) (lba : ℕ) → AreSound cells → AreSound (change_at cells lba f)
changed-sound f keeps [] lba sound = tt
changed-sound f keeps (c ∷ cells) zero sound = (keeps c sound.0, sound.1)
changed-sound f keeps (c ∷ cells) (suc lba) sound = (sound.0, changed-sound f keeps cells lba sound.1)

flaw-sound : (which : Which) (c : Cell) → IsSound c → IsSound (with_flaw which c)
flaw-sound flaws.Read c sound = sound
flaw-sound flaws.Write c sound = sound

changes_at : (f : Cell → Cell) → ((c : Cell) → IsSound c → IsSound (f c)) → (lba : ℕ) (old new : DriveState) → new ≡ record old { cells = change_at old.cells lba f } → ChangesMedium old new
changes_at f keeps lba old new is =
    let cells : new.cells ≡ change_at old.cells lba f = ap (λ (d : DriveState). d.cells) is in
    record {
      size = ap length cells ∙ change_at-length old.cells lba f;
      sound = λ sound. subst AreSound (sym cells) (changed-sound f keeps old.cells lba sound);
      stays = is ∙ ap (λ (d : DriveState). record old { cells = d.cells; glitches = d.glitches; orders = d.orders }) (sym is);
    }

changes_counts : (glitches : ℕ) (orders : Orders) (old new : DriveState) → new ≡ record old { glitches = glitches; orders = orders } → ChangesMedium old new
changes_counts glitches orders old new is =
    let cells : new.cells ≡ old.cells = ap (λ (d : DriveState). d.cells) is in
    record {
      size = ap length cells;
      sound = λ sound. subst AreSound (sym cells) sound;
      stays = is ∙ ap (λ (d : DriveState). record old { cells = d.cells; glitches = d.glitches; orders = d.orders }) (sym is);
    }

-- sectors that are left behind are sound
left_behind-sound : (old new : List Cell) → AllZip IsLeftBehind old new → AreSound new
left_behind-sound old new all = zip-right IsLeftBehind IsSound old new (λ c c' left. subst (λ may. IsSound (record c' { may = may })) (sym left.alone) (inl refl)) all

-- with nothing outstanding an unplugged drive writes back at most
unplugged_lost : (old new : DriveState) → old.outstanding ≡ [] → IsUnplugged old new → Loses old.cells new.cells
unplugged_lost old new idle u =
    let part = subst (λ q. Part old.cells (all_pairs old.cache q) u.cut.0.mid) idle u.cut.0.part in
    subst (λ cells. Loses cells new.cells) part u.cut.0.lost

-- ---- the step of the device

-- the device is changed so, and nothing is answered
unanswered : (l new : Layer) (d d' : DriveState) (replies : List Reply) (after : DriveState) → d' ≡ after → StaysSame l replies new → direct.IsUnanswered (view l after) replies (view new d')
unanswered l new d d' replies after acted same = record { none = same.none; new_is = ap (λ x. view x d') same.stays ∙ ap (view l) acted }

-- each of four has the same
all_told : {X Y : Type 0} (y : Y) (xs : List X) (n : ℕ) → length xs ≡ n → replicate n y ≡ map (λ x. y) xs
all_told y [] n e = rw (sym e) refl
all_told y (x ∷ xs) n e = rw (sym e) (ap (λ l. y ∷ l) (all_told y xs (length xs) refl))

powered : (l new : Layer) (d d' : DriveState) (replies : List Reply) → length l.attentions ≡ 4 → IsPowerCycled d d' → StartsAnew l replies new → direct.IsPowered (view l d) replies (view new d')
powered l new d d' replies four p r = record {
  none = r.none;
  cells = p.cells;
  stays = ap (λ x. view x d') r.stays
      ∙ (ap (λ (x : DriveState). record (view l d) { cells = d'.cells; tasks = []; modes = defaults l.identity; started = true; active = x.active; down = x.down; glitches = x.glitches; attentions = replicate 4 (PowerOn ∷ []) }) p.stays
      ∙ ap (λ lists. record (view l d) { cells = d'.cells; tasks = []; modes = defaults l.identity; started = true; active = true; down = false; attentions = lists }) (all_told (PowerOn ∷ []) l.attentions 4 four));
}

-- what the drive does as it is unplugged may show
unplugged_shows : (l : Layer) (d d' : DriveState) → Tied l d → IsUnplugged d d' → Moves (MayShow (view l d)) d.cells d'.cells
unplugged_shows l d d' tied u =
    (elim (works l) as (λ b. works l ≡ b → MatchBool b (IsFilled l.flying l.tasks) (l.flying ≡ []) → Moves (MayShow (view l d)) d.cells d'.cells) [
      | true ↦ λ on used. moves_shown l d tied.agrees on d'.cells (lost_reset l.flying l.tasks d tied.agrees.queue (record d' { unplugs = d.unplugs }) u.cut).moves
      | false ↦ λ off idle. lose_once (unplugged_lost d d' (nothing_out l d tied.agrees idle) u)
    ]) refl tied.used

unplugged : (l new : Layer) (d d' : DriveState) (replies : List Reply) → Tied l d → IsUnplugged d d' → LosesLink l replies new → Around (Happens Unplug) (view l d) replies (view new d')
unplugged l new d d' replies tied u r = record {
  before = before;
  after = view new d';
  quiet_before = record { cells = unplugged_shows l d d' tied u; active = inl refl; stays = refl };
  step = record {
    answer = r.answer ∙ rest_lost before l.tasks;
    stays = ap (λ x. view x d') r.stays ∙ left (ap (λ (x : DriveState). x.down) u.cut.0.stays) u.cut.1 (ap (λ (x : DriveState). x.glitches) u.cut.0.stays);
  };
  quiet_after = quiet_none (view new d');
}
  where
    before : Device
    before = record (view l d) { cells = d'.cells }

    left : d'.down ≡ true → d'.active ≡ d.active → d'.glitches ≡ d.glitches → record before { tasks = []; down = d'.down; active = d'.active; glitches = d'.glitches } ≡ record before { tasks = []; down = true }
    left down active glitches =
        ap (λ b. record before { tasks = []; down = b; active = d'.active; glitches = d'.glitches }) down
        ∙ (ap (λ b. record before { tasks = []; down = true; active = b; glitches = d'.glitches }) active
        ∙ ap (λ n. record before { tasks = []; down = true; glitches = n }) glitches)

-- what follows for the layer from what happens to its drive is what happens to the device
pub happens : (event : BenchEvent) (l new : Layer) (d d' : DriveState) (replies : List Reply) → Tied l d → IsActedOn event d d' → FollowsEvent event l replies new → Around (Happens event) (view l d) replies (view new d')
happens (Strike which lba) l new d d' replies tied acted r = around_alone (Happens (Strike which lba)) (view l d) (view new d') replies (unanswered l new d d' replies (record d { cells = change_at d.cells lba (with_flaw which) }) acted r)
happens (Mend lba) l new d d' replies tied acted r = around_alone (Happens (Mend lba)) (view l d) (view new d') replies (unanswered l new d d' replies (record d { cells = change_at d.cells lba without_flaws }) acted r)
happens (Glitch count) l new d d' replies tied acted r = around_alone (Happens (Glitch count)) (view l d) (view new d') replies (unanswered l new d d' replies (record d { glitches = count }) acted r)
happens (Order order) l new d d' replies tied acted r = around_alone (Happens (Order order)) (view l d) (view new d') replies (unanswered l new d d' replies (record d { orders = with_order order d.orders }) acted r)
happens Power l new d d' replies tied acted r = around_alone (Happens Power) (view l d) (view new d') replies (powered l new d d' replies tied.agrees.valid.nexuses acted r)
happens Unplug l new d d' replies tied acted r = unplugged l new d d' replies tied acted r

-- ---- the tie

-- the medium alone has changed
tied_changed : (l new : Layer) (d d' : DriveState) → ChangesMedium d d' → new ≡ l → IsFit d' → Tied l d → Tied new d'
tied_changed l new d d' change same fit tied =
    subst (λ x. Tied x d') (sym same) (record {
      agrees = agrees_by l l d d' refl refl refl
          (settings_kept d d' _ change.stays refl refl refl refl)
          (subst (λ x. IsInFlight l.flying l.tasks x) (sym change.stays) (record { each = queue.each; apart = queue.apart; few = queue.few; fits = queue.fits; small = queue.small; no_error = queue.no_error })) fit
          (valid_with_cells (view l d) (view l d') d'.cells l.started d'.active d'.down d'.glitches change.size (change.sound tied.agrees.valid.sound) refl tied.agrees.valid) tied.agrees;
      used = tied.used;
    })
  where
    queue : IsInFlight l.flying l.tasks d
    queue = tied.agrees.queue

-- the device after a power cycle is valid
valid_powered : (l : Layer) (d d' : DriveState) (slots : Slots) (free out : ℕ) → IsPowerCycled d d' → IsValid (view l d) → IsValid (view (record l { modes = defaults l.identity; started = true; down = false; attentions = replicate 4 (PowerOn ∷ []); tasks = []; flying = []; slots = slots; free = free; out = out }) d')
valid_powered l d d' slots free out p v = record {
  identity = v.identity;
  cells = AllZip-long IsLeftBehind d.cells d'.cells p.cells ∙ v.cells;
  sound = left_behind-sound d.cells d'.cells p.cells;
  few = omega arith;
  blocks = omega arith;
  own = own_none;
  come = tt;
  modes = record { cache = λ none. none; look = λ none. ap not none };
  nexuses = refl;
  attentions = (told, (told, (told, (told, tt))));
}
  where
    told : IsInReportOrder (PowerOn ∷ [])
    told = inr (refl, tt)

tied_powered : (l new : Layer) (d d' : DriveState) (replies : List Reply) → IsPowerCycled d d' → StartsAnew l replies new → IsFit d' → Tied l d → Tied new d'
tied_powered l new d d' replies p r fit tied =
    let noted = has_as_noted l d tied.agrees in
    subst (λ x. Tied x d') (sym r.stays) (record {
      agrees = record {
        mark = sym (ap (λ (x : DriveState). x.down) p.stays);
        queue = idle_in_flight [] d' (ap (λ (x : DriveState). x.outstanding) p.stays) (ap (λ (x : DriveState). x.error) p.stays) tt (omega (arith, ap (λ (x : DriveState). x.capacity) p.stays, tied.agrees.queue.small));
        fit = fit;
        cache = λ up. ap (λ (x : DriveState). x.cache) p.stays ∙ noted.cache;
        look = λ up. ap (λ (x : DriveState). x.look) p.stays ∙ (noted.look ∙ sym (not-not l.identity.look));
        told = retold l.identity.bytes d.identify d'.identify d.cache d.look d'.cache d'.look (bytes_long l d tied.agrees) (all_bytes d'.identify fit.bytes) tied.agrees.told (subst (λ b. IsTelling b d'.look d.identify d'.identify) (sym (ap (λ (x : DriveState). x.cache) p.stays)) (subst (λ b. IsTelling (has_cache d.identify) b d.identify d'.identify) (sym (ap (λ (x : DriveState). x.look) p.stays)) p.tells));
        valid = valid_powered l d d' new.slots new.free new.out p tied.agrees.valid;
      };
      used = inr (λ h task eligible ranged. absurd eligible);
    })

-- the link is lost, and nothing is outstanding
unplugged_down : (d d' : DriveState) → IsUnplugged d d' → IsFit d → IsFit d' → IsLeftDown d d'
unplugged_down d d' u fit fit' = record {
  down = ap (λ (x : DriveState). x.down) u.cut.0.stays;
  idle = ap (λ (x : DriveState). x.outstanding) u.cut.0.stays;
  no_error = ap (λ (x : DriveState). x.error) u.cut.0.stays;
  capacity = ap (λ (x : DriveState). x.capacity) u.cut.0.stays;
  size = fit'.sectors ∙ (ap (λ (x : DriveState). x.capacity) u.cut.0.stays ∙ sym fit.sectors);
  sound = λ sound. loses-sound u.cut.0.mid d'.cells u.cut.0.lost;
  fit = fit';
  told = λ bytes long told. still_told bytes d d' (ap (λ (x : DriveState). x.identify) u.cut.0.stays) (ap (λ (x : DriveState). x.cache) u.cut.0.stays) (ap (λ (x : DriveState). x.look) u.cut.0.stays) told;
}

tied_unplugged : (l new : Layer) (d d' : DriveState) (replies : List Reply) → IsUnplugged d d' → LosesLink l replies new → IsFit d' → Tied l d → Tied new d'
tied_unplugged l new d d' replies u r fit tied = tied_lost l new d d' (unplugged_down d d' u tied.agrees.fit fit) r.stays tied.agrees

-- an event leaves the layer tied to its drive
pub still_tied : (event : BenchEvent) (l new : Layer) (d d' : DriveState) (replies : List Reply) → IsActedOn event d d' → FollowsEvent event l replies new → IsFit d' → Tied l d → Tied new d'
still_tied (Strike which lba) l new d d' replies acted r fit tied = tied_changed l new d d' (changes_at (with_flaw which) (flaw-sound which) lba d d' acted) r.stays fit tied
still_tied (Mend lba) l new d d' replies acted r fit tied = tied_changed l new d d' (changes_at without_flaws (λ c sound. sound) lba d d' acted) r.stays fit tied
still_tied (Glitch count) l new d d' replies acted r fit tied = tied_changed l new d d' (changes_counts count d.orders d d' acted) r.stays fit tied
still_tied (Order order) l new d d' replies acted r fit tied = tied_changed l new d d' (changes_counts d.glitches (with_order order d.orders) d d' acted) r.stays fit tied
still_tied Power l new d d' replies acted r fit tied = tied_powered l new d d' replies acted r fit tied
still_tied Unplug l new d d' replies acted r fit tied = tied_unplugged l new d d' replies acted r fit tied

-- ---- counts

-- the count of faults rises at a lost link
none_rose : (old new : DriveState) → new.faults ≡ old.faults → RoseBy 0 old.faults new.faults
none_rose old new same = subst (λ n. RoseBy 0 old.faults n) (sym same) (RoseBy-none old.faults)

pub losses_counted : (event : BenchEvent) (d d' : DriveState) → IsActedOn event d d' → RoseBy (bench_losses event) d.faults d'.faults
losses_counted (Strike which lba) d d' acted = none_rose d d' (ap (λ (x : DriveState). x.faults) acted)
losses_counted (Mend lba) d d' acted = none_rose d d' (ap (λ (x : DriveState). x.faults) acted)
losses_counted (Glitch count) d d' acted = none_rose d d' (ap (λ (x : DriveState). x.faults) acted)
losses_counted (Order order) d d' acted = none_rose d d' (ap (λ (x : DriveState). x.faults) acted)
losses_counted Power d d' acted = none_rose d d' (ap (λ (x : DriveState). x.faults) acted.stays)
losses_counted Unplug d d' acted = acted.cut.0.rose

-- the deepest queue does not fall
pub none_deeper : (event : BenchEvent) (d d' : DriveState) → IsActedOn event d d' → Deepens d d'
none_deeper (Strike which lba) d d' acted = deepens_shorter d d' (ap (λ (x : DriveState). x.deepest) acted) (omega (arith, ap (λ (x : DriveState). length x.outstanding) acted))
none_deeper (Mend lba) d d' acted = deepens_shorter d d' (ap (λ (x : DriveState). x.deepest) acted) (omega (arith, ap (λ (x : DriveState). length x.outstanding) acted))
none_deeper (Glitch count) d d' acted = deepens_shorter d d' (ap (λ (x : DriveState). x.deepest) acted) (omega (arith, ap (λ (x : DriveState). length x.outstanding) acted))
none_deeper (Order order) d d' acted = deepens_shorter d d' (ap (λ (x : DriveState). x.deepest) acted) (omega (arith, ap (λ (x : DriveState). length x.outstanding) acted))
none_deeper Power d d' acted = deepens_shorter d d' (ap (λ (x : DriveState). x.deepest) acted.stays) (omega (arith, ap (λ (x : DriveState). length x.outstanding) acted.stays))
none_deeper Unplug d d' acted = deepens_shorter d d' (ap (λ (x : DriveState). x.deepest) acted.cut.0.stays) (omega (arith, ap (λ (x : DriveState). length x.outstanding) acted.cut.0.stays))

same_tasks : (l new : Layer) → new ≡ l → length new.tasks ≤ length l.tasks
same_tasks l new same = let count = ap (λ (x : Layer). length x.tasks) same in omega (arith, count)

no_tasks : (l new : Layer) → new.tasks ≡ [] → length new.tasks ≤ length l.tasks
no_tasks l new none = let count = ap length none in omega (arith, count)

-- no event adds a task
pub follows_fewer : (event : BenchEvent) (l new : Layer) (replies : List Reply) → FollowsEvent event l replies new → length new.tasks ≤ length l.tasks
follows_fewer (Strike which lba) l new replies r = same_tasks l new r.stays
follows_fewer (Mend lba) l new replies r = same_tasks l new r.stays
follows_fewer (Glitch count) l new replies r = same_tasks l new r.stays
follows_fewer (Order order) l new replies r = same_tasks l new r.stays
follows_fewer Power l new replies r = no_tasks l new (ap (λ (x : Layer). x.tasks) r.stays)
follows_fewer Unplug l new replies r = no_tasks l new (ap (λ (x : Layer). x.tasks) r.stays)

-- ---- power on

-- the layer by its parts starts anew
pub anew_by : (identity : Identity) (modes modes' : Modes) (started down : Bool) (lists lists' : List (List Attention)) (q q' : Waiting) (pool pool' : Counts) (l : Layer)
    → layer_of identity modes started down lists q pool ≡ l → modes' ≡ defaults identity → lists' ≡ replicate 4 (PowerOn ∷ []) → q'.tasks ≡ [] → q'.flying ≡ [] → StartsAnew l [] (layer_of identity modes' true false lists' q' pool')
anew_by identity modes modes' started down lists lists' q q' pool pool' l view_is settings told none idle =
    let new = layer_of identity modes' true false lists' q' pool' in
    subst (λ x. StartsAnew x [] new) view_is (record {
      none = refl;
      stays = ap (λ m. record new { modes = m }) settings
          ∙ (ap (λ a. record new { modes = defaults identity; attentions = a }) told
          ∙ (ap (λ (t : List Held). record new { modes = defaults identity; attentions = replicate 4 (PowerOn ∷ []); tasks = t }) none
          ∙ ap (λ (f : List Flying). record new { modes = defaults identity; attentions = replicate 4 (PowerOn ∷ []); tasks = []; flying = f }) idle));
    })
