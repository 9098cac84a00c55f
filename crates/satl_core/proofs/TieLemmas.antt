-- The layer by its parts, and what the tie says of the drive's data.
use Rattle.std.proofs.Common.{◌≡◌, sym, ap, ◌∙◌, ◌-◌, ℕ, Bool, List, length}
use Rattle.satl_base.specs.declared.modes.Modes.{Modes}
use Rattle.satl_base.specs.Identify.{has_cache, has_look, has_queued_trim, has_trim}
use Rattle.satl_identify.specs.declared.identity.Identity.{Identity}
use Rattle.satl_identify.proofs.Judging.{unbroken}
use Rattle.satl_drive.specs.State.{DriveState}
use Rattle.satl_barrier.specs.Leaving.{TellsOf}
use Rattle.satl_barrier.proofs.ToldLemmas.{data_queued_trims, data_says, data_trims, length-data}
use Rattle.satl_unit.specs.declared.attention.Attention.{Attention}
use Rattle.satl_pages.specs.Counts.{Counts}
use Rattle.satl_flight.specs.Lending.{Waiting}
use Rattle.satl_core.specs.Layer.{Agrees, Layer, held_pages}

-- the data of the identity are as long as the drive's
pub bytes_long : (l : Layer) (d : DriveState) → Agrees l d → length l.identity.bytes ≡ 512
bytes_long l d tied = sym (length-data l.identity.bytes d.cache d.look) ∙ (sym (ap length tied.told) ∙ tied.fit.size)

-- drives whose data are those of one identity queue trims alike
pub queue_alike : (bytes : List ℕ) (d d' : DriveState) → length bytes ≡ 512 → TellsOf bytes d → TellsOf bytes d' → has_queued_trim d'.identify ≡ has_queued_trim d.identify
queue_alike bytes d d' long was is = queues d' is ∙ sym (queues d was)
  where
    queues : (x : DriveState) → TellsOf bytes x → has_queued_trim x.identify ≡ has_queued_trim bytes
    queues x told = ap has_queued_trim told ∙ data_queued_trims bytes x.cache x.look long

-- the drive has a write cache, look-ahead and trim, also in the queue, where the layer has noted so
pub record HasAsNoted (l : Layer) (d : DriveState) : Type 0 where
  pub cache : has_cache d.identify ≡ l.identity.cache
  pub look : has_look d.identify ≡ l.identity.look
  pub trim : has_trim d.identify ≡ l.identity.trim
  pub queued_trim : has_queued_trim d.identify ≡ l.identity.queued_trim

pub has_as_noted : (l : Layer) (d : DriveState) → Agrees l d → HasAsNoted l d
has_as_noted l d tied =
    let says = data_says l.identity.bytes d.cache d.look (bytes_long l d tied) in
    let noted = (unbroken l.identity.bytes l.identity tied.valid.identity).1 in
    record {
      cache = ap has_cache tied.told ∙ (says.cache ∙ ap (λ (i : Identity). i.cache) noted);
      look = ap has_look tied.told ∙ (says.look ∙ ap (λ (i : Identity). i.look) noted);
      trim = ap has_trim tied.told ∙ (data_trims l.identity.bytes d.cache d.look (bytes_long l d tied) ∙ ap (λ (i : Identity). i.trim) noted);
      queued_trim = ap has_queued_trim tied.told ∙ (data_queued_trims l.identity.bytes d.cache d.look (bytes_long l d tied) ∙ ap (λ (i : Identity). i.queued_trim) noted);
    }

-- ---- the layer by its parts

abbrev pub layer_of : Identity → Modes → Bool → Bool → List (List Attention) → Waiting → Counts → Layer
layer_of identity modes started down attentions q pool = record {
  identity = identity;
  modes = modes;
  started = started;
  down = down;
  attentions = attentions;
  tasks = q.tasks;
  flying = q.flying;
  slots = q.slots;
  free = pool.free;
  out = pool.out - held_pages q.tasks;
}

-- another queue with the same tasks
pub queue_changed : (identity : Identity) (modes : Modes) (started down : Bool) (attentions : List (List Attention)) (q q' : Waiting) (pool : Counts) → q'.tasks ≡ q.tasks
    → layer_of identity modes started down attentions q' pool ≡ record (layer_of identity modes started down attentions q pool) { flying = q'.flying; slots = q'.slots }
queue_changed identity modes started down attentions q q' pool same = ap (λ ts. record (layer_of identity modes started down attentions q' pool) { tasks = ts; out = pool.out - held_pages ts }) same
