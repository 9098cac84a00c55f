-- What opening the layer gives.
use Rattle.std.proofs.Common.{subst, ◌≡◌, refl, sym, ap, inr, ◌∙◌, ◌-◌, arith, ℕ, Bool, true, false, List, [], map, None}
use Rattle.std.specs.Prelude.{Result, Ok, not, replicate, slice_index_or}
use Rattle.satl_base.specs.declared.block.Block.{Block}
use Rattle.satl_base.specs.declared.modes.Modes.{Modes}
use Rattle.satl_base.proofs.LossesLemmas.{loses-nows, loses-sound}
use Rattle.satl_base.specs.Identify.{has_cache, has_look, look_is_on}
use Rattle.satl_base.proofs.Booleans.{not-not}
use Rattle.satl_identify.specs.declared.identity.Identity.{Identity}
use Rattle.satl_identify.specs.declared.identity.IdentityFault.{IdentityFault}
use Rattle.satl_identify.specs.Data.{identity_data}
use Rattle.satl_identify.specs.Refusals.{identity_of, identity_rules}
use Rattle.satl_identify.proofs.Judging.{Unbroken, capacity_bounds, unbroken}
use Rattle.satl_unit.specs.declared.attention.Attention.{Attention}
use Rattle.satl_drive.specs.State.{DriveState, IsFit}
use Rattle.satl_barrier.specs.Leaving.{TellsOf}
use Rattle.satl_barrier.proofs.ToldLemmas.{all_bytes, own_data, right_sum}
use Rattle.satl_pages.specs.Counts.{Counts}
use Rattle.satl_drive.specs.Queue.{Slots}
use Rattle.satl_flight.specs.Lending.{Waiting}
use Rattle.satl_flight.specs.Queueing.{empty}
use Rattle.satl_flight.specs.Settled.{IsFilled}
use Rattle.satl_direct.proofs.Naming.{own_none}
use Rattle.satl_core.specs.Layer.{Agrees, held_pages}
use Rattle.satl_core.proofs.AgreeingLemmas.{idle_in_flight}
use Rattle.satl_core.proofs.TieLemmas.{layer_of}
use Rattle.satl_barrier.specs.Commands.{GivesIdentifyData}
use Rattle.satl_core.specs.Opening.{IsOpened}

pub told_nows : (old new : DriveState) (given taken : List Block) → GivesIdentifyData old given taken new → map (λ c. c.now) new.cells ≡ map (λ c. c.now) old.cells
told_nows old new given taken told = loses-nows old.cells new.cells told.lost

-- what is read in the first page is what the drive says
pub judged_as_told : (old new : DriveState) (given taken : List Block) (block : Block) (found : Result Identity IdentityFault) → GivesIdentifyData old given taken new → block ≡ slice_index_or taken 0 block → found ≡ identity_of block.bytes
    → found ≡ identity_of old.identify
judged_as_told old new given taken block found told is judged = judged ∙ ap (λ (b : Block). identity_of b.bytes) (is ∙ ap (λ pages. slice_index_or pages 0 block) told.pages)

-- a setting that a drive has not is off
off : (on has : Bool) → (on ≡ true → has ≡ true) → has ≡ false → on ≡ false
off true has must none = let has_it = must refl in absurd cc
off false has must none = refl

-- the data of a drive that fits them are those of themselves, with its settings in them
own : (old new : DriveState) → new ≡ record old { cells = new.cells } → IsFit old → Unbroken identity_rules old.identify → TellsOf old.identify new
own old new stays fit right =
    ap (λ (d : DriveState). d.identify) stays
    ∙ (own_data old.identify fit.size (all_bytes old.identify fit.bytes) (right_sum old.identify right.1.0)
    ∙ (ap (λ b. identity_data old.identify b (look_is_on old.identify)) (fit.cache_told ∙ sym (ap (λ (d : DriveState). d.cache) stays))
    ∙ ap (λ b. identity_data old.identify new.cache b) (fit.look_told ∙ sym (ap (λ (d : DriveState). d.look) stays))))

agrees : (old new : DriveState) (given taken : List Block) (i : Identity) (modes : Modes) (slots : Slots) (free : ℕ) → old.outstanding ≡ [] → old.error ≡ None → GivesIdentifyData old given taken new → IsFit old → IsFit new → identity_of old.identify ≡ Ok i → modes.wce ≡ i.cache_on → modes.dra ≡ not i.look_on
    → Agrees (record { identity = i; modes = modes; started = true; down = false; attentions = replicate 4 []; tasks = []; flying = []; slots = slots; free = free; out = 0 }) new
agrees old new given taken i modes slots free idle no_error told fit fit' judged wce dra =
    let say = (unbroken old.identify i judged).1 in
    record {
      mark = sym told.was_up ∙ sym (ap (λ (d : DriveState). d.down) told.stays);
      queue = idle_in_flight [] new (ap (λ (d : DriveState). d.outstanding) told.stays ∙ idle) (ap (λ (d : DriveState). d.error) told.stays ∙ no_error) tt (omega (arith, (capacity_bounds i (subst (λ b. identity_of b ≡ Ok i) (ap (λ (j : Identity). j.bytes) say) judged)).1, ap (λ (d : DriveState). d.capacity) told.stays, fit.told, ap (λ (j : Identity). j.capacity) say));
      fit = fit';
      cache = λ up. ap (λ (d : DriveState). d.cache) told.stays ∙ (sym fit.cache_told ∙ (ap (λ (j : Identity). j.cache_on) say ∙ sym wce));
      look = λ up. ap (λ (d : DriveState). d.look) told.stays ∙ (sym fit.look_told ∙ (ap (λ (j : Identity). j.look_on) say ∙ (sym (not-not i.look_on) ∙ ap not (sym dra))));
      told = subst (λ b. TellsOf b new) (ap (λ (j : Identity). j.bytes) say) (own old new told.stays fit (unbroken old.identify i judged).0);
      valid = record {
        identity = subst (λ b. identity_of b ≡ Ok i) (ap (λ (j : Identity). j.bytes) say) judged;
        cells = fit'.sectors ∙ (ap (λ (d : DriveState). d.capacity) told.stays ∙ (sym fit.told ∙ ap (λ (j : Identity). j.capacity) say));
        sound = loses-sound old.cells new.cells told.lost;
        few = omega arith;
        blocks = omega arith;
        own = own_none;
        come = tt;
        modes = record {
          cache = λ none. wce ∙ (sym (ap (λ (j : Identity). j.cache_on) say) ∙ (fit.cache_told ∙ off old.cache (has_cache old.identify) fit.cache (ap (λ (j : Identity). j.cache) say ∙ none)));
          look = λ none. dra ∙ ap not (sym (ap (λ (j : Identity). j.look_on) say) ∙ (fit.look_told ∙ off old.look (has_look old.identify) fit.look (ap (λ (j : Identity). j.look) say ∙ none)));
        };
        nexuses = refl;
        attentions = (tt, (tt, (tt, (tt, tt))));
      };
    }

pub opened : (old new : DriveState) (given taken : List Block) (i : Identity) (modes : Modes) (q : Waiting) (attentions : List (List Attention)) (pool : Counts) → old.outstanding ≡ [] → old.error ≡ None → GivesIdentifyData old given taken new → IsFit old → IsFit new → identity_of old.identify ≡ Ok i
    → modes.wce ≡ i.cache_on → modes.dra ≡ not i.look_on → modes.d_sense ≡ false → q ≡ empty → attentions ≡ replicate 4 [] → pool.out - held_pages q.tasks ≡ 0 → IsOpened old (layer_of i modes true false attentions q pool) new
opened old new given taken i modes q attentions pool idle no_error told fit fit' judged wce dra d_sense none untold in_all = record {
  identity = judged;
  tasks = ap (λ (w : Waiting). w.tasks) none;
  idle = ap (λ (w : Waiting). w.flying) none;
  wce = wce;
  dra = dra;
  d_sense = d_sense;
  started = refl;
  up = refl;
  attentions = untold;
  out = in_all;
  tied = record {
    agrees = subst (λ n. Agrees (record (layer_of i modes true false attentions q pool) { out = n }) new) (sym in_all)
        (subst (λ (w : Waiting). Agrees (record { identity = i; modes = modes; started = true; down = false; attentions = attentions; tasks = w.tasks; flying = w.flying; slots = w.slots; free = pool.free; out = 0 }) new) (sym none)
        (subst (λ lists. Agrees (record { identity = i; modes = modes; started = true; down = false; attentions = lists; tasks = []; flying = []; slots = empty.slots; free = pool.free; out = 0 }) new) (sym untold)
        (agrees old new given taken i modes empty.slots pool.free idle no_error told fit fit' judged wce dra)));
    used = subst (λ (w : Waiting). IsFilled w.flying w.tasks) (sym none) (inr (λ h task eligible ranged. absurd eligible));
  };
  lost = told.lost;
  stays = told.stays;
}
