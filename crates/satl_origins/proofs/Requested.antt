-- What the task of a request brings is what its command may write: the origins by the input.
use Rattle.std.proofs.Common.{◌≡◌, ◌⊎◌, ⊎_elim, inl, inr, refl, subst, ℕ, ◌+◌, Bool, List, [], ◌∷◌, ◌++◌, Option, Some, None}
use Rattle.std.specs.Prelude.{not, ◌==◌, ◌||◌, ◌&&◌, nat_lt, slice_get, length, Result, Ok, Err}
use Rattle.std.specs.List.{AllByRecursion, list_any}
use Rattle.satl_base.specs.declared.block.Block.{Block}
use Rattle.satl_base.specs.declared.request.Request.{Request}
use Rattle.satl_base.specs.Fields.{bit}
use Rattle.satl_base.specs.Lists.{IsIn}
use Rattle.satl_base.proofs.ListsLemmas.{All-in, in_left, in_right}
use Rattle.satl_cdb.specs.declared.command.Command.{Command}
use Rattle.satl_cdb.specs.declared.command.Command.TheVariants as commands
use Rattle.satl_cdb.specs.declared.command.Illegal.{Illegal}
use Rattle.satl_cdb.specs.Table.{says}
use Rattle.satl_cdb.specs.Unmap.{ranges_of}
use Rattle.satl_unit.specs.declared.attention.Attention.{Attention}
use Rattle.satl_frame.specs.declared.frames.Frame.{Frame}
use Rattle.satl_frame.specs.declared.frames.Frame.TheVariants as frames
use Rattle.satl_frame.specs.Output.{Answer}
use Rattle.satl_direct.specs.Arrival.{Arrival, arrival, asks_for, attention_arrival, attention_for, becomes, cdb_arrival, command_arrival, is_unit_0, placed, placed_unless, sense_told, unless_refused}
use Rattle.satl_direct.specs.Arrival.Arrival.{answered, attended, overlaps, waits}
use Rattle.satl_direct.specs.Device.{Device, attentions_of, is_called}
use Rattle.satl_direct.specs.Run.{RunDeep}
use Rattle.satl_direct.specs.Run.RunDeep.{start, next_event}
use Rattle.satl_direct.specs.Tasks.{asks, is_full, needed, range_of, task_for}
use Rattle.satl_direct.specs.Valid.{IsValid}
use Rattle.satl_laws.proofs.Addresses.{Alike}
use Rattle.satl_laws.proofs.Cases.{chosen}
use Rattle.satl_laws.proofs.Rows.{all_at, all_front}
use Rattle.satl_origins.specs.Origins.{Brings, BringsAtArrival, BringsIn, HasOrigin, IsRequestedBy, ComesWith, OnlyRequested, OnlyRequestedIsRead}
use Rattle.satl_origins.proofs.Alike.{brings_alike}
use Rattle.satl_origins.proofs.Reading.{nothing_invented_is_read}
use Rattle.satl_origins.proofs.Runs.{all_own, nothing_invented, run_so}

-- ---- a task is that of its request

-- a task that waits after an arrival is that of the command that the CDB says
abbrev pub IsMade : Bool → Request → Result Command Illegal → Arrival → Type 0
IsMade queued_trim r said (waits task) = (c : Command) × (said ≡ Ok c) × (task ≡ task_for queued_trim r c)
IsMade queued_trim r said _ = Unit {0}

module _ (s : Device) (r : Request) where
  abbrev pub Made : Result Command Illegal → Arrival → Type 0
  Made said a = IsMade s.identity.queued_trim r said a

  made_unless : (said : Result Command Illegal) (why : Option Illegal) (next : Arrival) → Made said next → Made said (unless_refused why s r next)
  made_unless said None next h = h
  made_unless said (Some why) next h = tt

  made_in_place : (c : Command) → Made (Ok c) (placed s r c)
  made_in_place c = chosen (Made (Ok c)) (is_full s.tasks c) tt (c, refl, refl)

  made_unless_idle : (idle : Bool) (c : Command) → Made (Ok c) (placed_unless idle s r c)
  made_unless_idle idle c = chosen (Made (Ok c)) idle tt (made_in_place c)

  made_sense : (o : Option Attention) (descriptor : Bool) (alloc : ℕ) (said : Result Command Illegal) → Made said (sense_told o r descriptor alloc)
  made_sense None descriptor alloc said = tt
  made_sense (Some what) descriptor alloc said = tt

  becomes_made : (c : Command) → Made (Ok c) (becomes s r c)
  becomes_made (commands.RequestSense descriptor alloc) = made_sense (slice_get (attentions_of r.nexus s) 0) descriptor alloc _
  becomes_made (commands.ModeSelect ten size) = made_unless_idle (size == 0) (commands.ModeSelect ten size)
  becomes_made (commands.StartStop starts no_flush) = made_in_place (commands.StartStop starts no_flush)
  becomes_made (commands.Read form lba count fua) = made_unless_idle (count == 0) (commands.Read form lba count fua)
  becomes_made (commands.Write form lba count fua) = made_unless_idle (count == 0) (commands.Write form lba count fua)
  becomes_made (commands.Verify form lba count compare) = made_unless_idle (count == 0) (commands.Verify form lba count compare)
  becomes_made (commands.Flush form lba count) = made_in_place (commands.Flush form lba count)
  becomes_made (commands.WriteSame form lba count unmap) = made_in_place (commands.WriteSame form lba count unmap)
  becomes_made (commands.Unmap size) = made_unless_idle ((size == 0) || (length (ranges_of r.body) == 0)) (commands.Unmap size)
  becomes_made (commands.Pass cdb) = made_in_place (commands.Pass cdb)
  becomes_made _ = tt

  said_made : (said : Result Command Illegal) → Made said (cdb_arrival s r said)
  said_made (Err why) = tt
  said_made (Ok c) =
      made_unless (Ok c) (asks c).fields_fault (command_arrival s r c)
      (chosen (Made (Ok c)) (nat_lt s.identity.capacity ((range_of c).lba + (range_of c).count)) tt
      (made_unless (Ok c) (asks c).length_fault _
      (chosen (Made (Ok c)) (nat_lt r.data_len (needed c)) tt
      (made_unless (Ok c) ((asks c).data_fault s.identity s.modes r.body) _ (becomes_made c)))))

  attention_made : (o : Option Attention) → Made (says r.cdb s.identity.trim) (attention_arrival o s r)
  attention_made (Some what) = tt
  attention_made None = said_made (says r.cdb s.identity.trim)

  -- each arrival
  pub arrival_made : Made (says r.cdb s.identity.trim) (arrival s r)
  arrival_made =
      let P = Made (says r.cdb s.identity.trim) in
      chosen P (is_unit_0 r.lun || asks_for 0xA0 r)
      (chosen P (list_any (is_called r.nexus (r.tag).0) s.tasks) tt (attention_made (attention_for s r)))
      (chosen P (asks_for 0x12 r && not (bit 1 0 r.cdb)) tt (chosen P (asks_for 0x03 r) tt tt))

-- ---- from the run to the input

module _ (first : Device) (P : Frame → Type 0) (W : Request → ℕ → Block → Type 0) where
  -- what the task of each request of these brings is what the request does
  abbrev pub Each : Type 0
  Each = (r : Request) (s : Device) → Alike first s → P (frames.Request r) → (x : ℕ) (block : Block) → BringsAtArrival s (arrival s r) x block → W r x block

  -- a request of the input does
  abbrev Found : List Frame → ℕ → Block → Type 0
  Found all x block = (r : Request) × IsIn (frames.Request r) all × W r x block

  module _ (each : Each) (valid : IsValid first) where
    in_event : (event : Frame) (s : Device) → Alike first s → P event → (x : ℕ) (block : Block) → BringsIn event s x block → (all : List Frame) → IsIn event all → Found all x block
    in_event (frames.Request r) s alike p x block h all i = (r, i, each r s alike p x block h)
    in_event (frames.Manage m) s alike p x block h all i = absurd h
    in_event (frames.Turn count) s alike p x block h all i = absurd h
    in_event (frames.Bench event) s alike p x block h all i = absurd h
    in_event frames.End s alike p x block h all i = absurd h

    -- an origin in a run is an origin by the input
    pub by_input : {last : Device} {all : List Frame} {groups : List (List Answer)} {losses deep : ℕ} (run : RunDeep first all groups losses last deep)
        → AllByRecursion P all → (x : ℕ) (block : Block) → HasOrigin x block run → ComesWith first x block ⊎ Found all x block
    by_input (start quiet) ps x block h = inl h
    by_input (next_event {events = events} {s = s} event now d so_far does) ps x block h =
        ⊎_elim
        (λ earlier. ⊎_elim (λ there. inl there) (λ w. inr (w.0, in_left (frames.Request w.0) events (event ∷ []) w.1, w.2)) (by_input so_far (all_front P events [] event ps) x block earlier))
        (λ here. inr (in_event event s (run_so (λ y v. HasOrigin y v so_far) so_far (λ y v k. k) (all_own first valid)).alike (all_at P events [] event ps) x block here (events ++ event ∷ []) (in_right event events (event ∷ []) (inl refl))))
        h

-- ---- the laws

-- what a task brings its command may write
pub requested_each : (first : Device) → Each first (λ f. Unit {0}) (IsRequestedBy first)
requested_each first r s alike p x block h = go (arrival s r) (arrival_made s r) h
  where
    go : (a : Arrival) → Made s r (says r.cdb s.identity.trim) a → BringsAtArrival s a x block → IsRequestedBy first r x block
    go (waits task) made brings = (
      made.0,
      subst (λ i. says r.cdb i.trim ≡ Ok made.0) alike.identity made.1,
      subst (λ i. Brings first (task_for i.queued_trim r made.0) x block) alike.identity (subst (λ t. Brings first t x block) made.2 (brings_alike x block first s alike task brings)),
    )
    go (answered reply) made brings = absurd brings
    go (attended reply) made brings = absurd brings
    go (overlaps reply) made brings = absurd brings

pub only_requested : OnlyRequested
only_requested first last all groups losses deep run x block valid there =
    by_input first (λ f. Unit {0}) (IsRequestedBy first) (requested_each first) valid run (All-in (λ f. Unit {0}) all (λ f i. tt)) x block (nothing_invented first last all groups losses deep run x block valid there)

pub only_requested_is_read : OnlyRequestedIsRead
only_requested_is_read first last all groups losses deep run x block valid free read =
    by_input first (λ f. Unit {0}) (IsRequestedBy first) (requested_each first) valid run (All-in (λ f. Unit {0}) all (λ f i. tt)) x block (nothing_invented_is_read first last all groups losses deep run x block valid free read)
