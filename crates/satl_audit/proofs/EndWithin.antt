-- What the command of a task that waits goes over.
use Rattle.std.proofs.Common.{arith, ◌≡◌, refl, ap, ◌∙◌, subst, ℕ, ◌+◌, ◌*◌, Bool, List, length}
use Rattle.std.specs.Prelude.{◌≤◌, Option, Some, None, slice_get}
use Rattle.std.specs.Option.{option_map}
use Rattle.satl_base.specs.declared.block.Block.{Block}
use Rattle.satl_cdb.specs.declared.command.Command.{Command}
use Rattle.satl_cdb.specs.declared.command.Command.TheVariants as commands
use Rattle.satl_cdb.specs.declared.command.Form.{Form}
use Rattle.satl_identify.specs.declared.identity.Identity.{Identity}
use Rattle.satl_line.specs.declared.entry.Entry.{Entry}
use Rattle.satl_audit.specs.Deeds.{Deed}
use Rattle.satl_audit.specs.Finishing.{AreTasks}
use Rattle.satl_audit.specs.Skeleton.{DoneAs}
use Rattle.satl_audit.specs.Waiting.{Fits, MayWait, Placed, task_in}
use Rattle.satl_audit.specs.Following.{input_blocks}
use Rattle.satl_direct.specs.Device.{Device}
use Rattle.satl_direct.specs.Tasks.{data_out_kept, held_blocks}
use Rattle.std.proofs.lemmas.Option.{same_Some}
use Rattle.satl_audit.proofs.NextLemmas.{all_at}

pub read_within : (capacity size : ℕ) (p : Placed) → Fits capacity size p → (form : Form) (lba count : ℕ) (fua : Bool) → p.entry.command ≡ commands.Read form lba count fua → lba + count ≤ capacity
read_within capacity size p f form lba count fua c = subst (MayWait capacity f.bytes) c f.waits

pub write_within : (capacity size : ℕ) (p : Placed) → Fits capacity size p → (form : Form) (lba count : ℕ) (fua : Bool) → p.entry.command ≡ commands.Write form lba count fua → (lba + count ≤ capacity) × (p.at + 512 * count ≤ size)
write_within capacity size p f form lba count fua c =
    let w = subst (MayWait capacity f.bytes) c f.waits in
    (w.0, omega (arith, w.1, f.stands))

-- the data-out of a WRITE that waits
pub write_body : (input : List ℕ) (p : Placed) (form : Form) (lba count : ℕ) (fua : Bool) → p.entry.command ≡ commands.Write form lba count fua → p.entry.blocks ≡ held_blocks p.entry.command → (task_in input p).body ≡ input_blocks input p.at count
write_body input p form lba count fua c held = ap (λ (k : Command). data_out_kept k (input_blocks input p.at p.entry.blocks)) c ∙ ap (input_blocks input p.at) (held ∙ ap (λ (k : Command). held_blocks k) c)

pub fits_at : (identity : Identity) (input : List ℕ) (ps : List Placed) (place : ℕ) (p : Placed) → AreTasks identity input ps → slice_get ps place ≡ Some p → Fits identity.capacity (length input) p
fits_at identity input ps place p tasks at = all_at (Fits identity.capacity (length input)) ps place p tasks.fit at

pub both_at : (o : Option Placed) (entry : Entry) (at : ℕ) → option_map (λ (q : Placed). q.entry) o ≡ Some entry → option_map (λ (q : Placed). q.at) o ≡ Some at → o ≡ Some (record { entry = entry; at = at })
both_at None entry at e f = absurd cc
both_at (Some q) entry at e f =
    let g : q.entry ≡ entry = same_Some _ _ e in
    let h : q.at ≡ at = same_Some _ _ f in
    ap (λ (x : Entry). Some (record { entry = x; at = q.at })) g ∙ ap (λ n. Some (record { entry = entry; at = n })) h

-- no other command ends so that it is known what it did
pub no_other : (c : Command) (s : Device) (t : Entry) (blocks : List Block) (deed : Deed) → DoneAs c s t blocks deed → ((form : Form) (lba count : ℕ) (fua : Bool) → c ≡ commands.Read form lba count fua → ⊥) →
    ((form : Form) (lba count : ℕ) (fua : Bool) → c ≡ commands.Write form lba count fua → ⊥) → ((form : Form) (lba count : ℕ) → c ≡ commands.Flush form lba count → ⊥) → ⊥
no_other (commands.Read form lba count fua) s t blocks deed d r w f = r form lba count fua refl
no_other (commands.Write form lba count fua) s t blocks deed d r w f = w form lba count fua refl
no_other (commands.Flush form lba count) s t blocks deed d r w f = f form lba count refl
no_other _ s t blocks deed d r w f = absurd d
