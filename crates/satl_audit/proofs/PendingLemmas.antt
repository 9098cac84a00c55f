-- What a pending task writes, and what a loss of power leaves.
use Rattle.std.proofs.Common.{arith, ◌≡◌, refl, sym, ap, ◌∙◌, ℕ, zero, suc, Bool, List, [], ◌∷◌, length, map, subst}
use Rattle.std.specs.Prelude.{◌<◌, ◌&&◌, not, Option, Some, None, slice_get}
use Rattle.std.specs.Option.{option_map}
use Rattle.std.proofs.lemmas.List.{get_or-map, length-map}
use Rattle.satl_base.specs.declared.block.Block.{Block}
use Rattle.satl_base.specs.Cells.{pairs_from}
use Rattle.satl_base.specs.Blocks.{over}
use Rattle.satl_cdb.specs.declared.command.Command.{Command}
use Rattle.satl_cdb.specs.declared.command.Command.TheVariants as commands
use Rattle.satl_cdb.specs.declared.command.Form.{Form}
use Rattle.satl_identify.specs.declared.identity.Identity.{Identity}
use Rattle.satl_unit.specs.declared.attention.Attention.{Attention}
use Rattle.satl_unit.specs.declared.attention.Attention.TheVariants.{PowerOn}
use Rattle.satl_line.specs.declared.entry.Entry.{Entry}
use Rattle.satl_direct.specs.Device.{Device}
use Rattle.satl_direct.specs.Quiet.{writes, written_by}
use Rattle.satl_direct.specs.Tasks.{held_blocks}
use Rattle.satl_audit.specs.Arriving.{device_without_sectors}
use Rattle.satl_audit.specs.Following.{Follows, pairs_in}
use Rattle.satl_audit.specs.Kept.{Keeping, blank_keeping, kept_power, known_sector, known_sector_at}
use Rattle.satl_audit.specs.Deeds.Deed.{powers}
use Rattle.satl_audit.specs.Powering.{PendsAll}
use Rattle.satl_audit.specs.Skeleton.{deeds_at}
use Rattle.satl_audit.specs.Waiting.{MayWait, Placed, task_in}
use Rattle.satl_audit.proofs.EndWithin.{write_body}

-- ---- what a task writes

-- the task at a place
pub record IsAt (o : Option Placed) (entry : Entry) : Type 0 where
  pub placed : Placed
  pub at : o ≡ Some placed
  pub is : placed.entry ≡ entry

pub placed_of : (o : Option Placed) (entry : Entry) → option_map (λ (q : Placed). q.entry) o ≡ Some entry → IsAt o entry
placed_of None entry e = absurd cc
placed_of (Some q) entry e = let same : q.entry ≡ entry = cc in record { placed = q; at = refl; is = same }

pub write_pairs : (identity : Identity) (input : List ℕ) (waiting : List Placed) (p : Placed) (form : Form) (lba count : ℕ) (fua : Bool) → p.entry.command ≡ commands.Write form lba count fua → p.entry.blocks ≡ held_blocks p.entry.command →
    writes (device_without_sectors identity input waiting []) (task_in input p) ≡ pairs_in input (over lba count) p.at (identity.cache && not fua)
write_pairs identity input waiting p form lba count fua c held =
    ap (λ (k : Command). written_by k (device_without_sectors identity input waiting []) (task_in input p)) c
    ∙ ap (λ (l : List Block). pairs_from lba l (identity.cache && not fua))
    (write_body input p form lba count fua c held)

none_by : (capacity bytes : ℕ) (c : Command) (s : Device) (t : Entry) → MayWait capacity bytes c → ((form : Form) (lba count : ℕ) (fua : Bool) → c ≡ commands.Write form lba count fua → ⊥) → written_by c s t ≡ []
none_by capacity bytes (commands.Write form lba count fua) s t w other = absurd (other form lba count fua refl)
none_by capacity bytes (commands.WriteSame form lba count unmap) s t w other = absurd w
none_by capacity bytes (commands.Unmap size) s t w other = absurd w
none_by capacity bytes (commands.Pass cdb) s t w other = absurd w
none_by capacity bytes _ s t w other = refl

pub writes_none : (identity : Identity) (input : List ℕ) (waiting : List Placed) (capacity bytes : ℕ) (p : Placed) → MayWait capacity bytes p.entry.command → ((form : Form) (lba count : ℕ) (fua : Bool) → p.entry.command ≡ commands.Write form lba count fua → ⊥) →
    writes (device_without_sectors identity input waiting []) (task_in input p) ≡ []
writes_none identity input waiting capacity bytes p w other = none_by capacity bytes p.entry.command (device_without_sectors identity input waiting []) (task_in input p) w other

pub some_at : (ps : List Placed) (n : ℕ) → n < length ps → (p : Placed) × (slice_get ps n ≡ Some p)
some_at [] n less = absurd (omega (arith, less))
some_at (p ∷ ps) zero less = (p, refl)
some_at (p ∷ ps) (suc n) less = some_at ps n (omega (arith, less))

-- ---- the power is lost

pub power_follows : (identity : Identity) (input : List ℕ) (waiting : List Placed) (old mid new : List Keeping) → length mid ≡ length old → PendsAll identity input waiting old mid → new ≡ map kept_power mid →
    Follows input (deeds_at (device_without_sectors identity input waiting []) powers) old new
power_follows identity input waiting old mid new size pends is = (
  ap (λ (l : List Keeping). length l) is ∙ length-map mid kept_power ∙ size,
  λ x less.
      ap (λ (l : List Block). Some (record { now = None; may = l })) (sym (pends x less))
      ∙ ap (λ (k : Keeping). Some (known_sector input k)) (sym (get_or-map kept_power mid x blank_keeping blank_keeping (subst (λ n. x < n) (sym size) less)))
      ∙ ap (λ (l : List Keeping). Some (known_sector_at input l x)) (sym is),
)

pub told_all : (before : List (List Attention)) → length before ≡ 4 → (PowerOn ∷ []) ∷ (PowerOn ∷ []) ∷ (PowerOn ∷ []) ∷ (PowerOn ∷ []) ∷ [] ≡ map (λ (conditions : List Attention). PowerOn ∷ []) before
told_all (a ∷ b ∷ c ∷ d ∷ []) four = refl
told_all [] four = absurd (omega (arith, four))
told_all (a ∷ []) four = absurd (omega (arith, four))
told_all (a ∷ b ∷ []) four = absurd (omega (arith, four))
told_all (a ∷ b ∷ c ∷ []) four = absurd (omega (arith, four))
told_all (a ∷ b ∷ c ∷ d ∷ e ∷ rest) four = absurd (omega (arith, four))
