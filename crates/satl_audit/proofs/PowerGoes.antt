-- A loss of power of a record, as a step of the device.
use Rattle.std.proofs.Common.{◌≡◌, refl, sym, ap, ◌∙◌, subst, ℕ, true, false, List, [], ◌∷◌, ◌++◌, map}
use Rattle.satl_base.specs.declared.bench.BenchEvent.TheVariants as events
use Rattle.satl_base.specs.Cells.{Pair}
use Rattle.satl_cdb.specs.declared.command.Command.{Command}
use Rattle.satl_cdb.specs.declared.command.Command.TheVariants as commands
use Rattle.satl_identify.specs.declared.identity.Identity.{Identity}
use Rattle.satl_unit.specs.declared.attention.Attention.{Attention}
use Rattle.satl_unit.specs.declared.attention.Attention.TheVariants.{PowerOn}
use Rattle.satl_line.specs.declared.entry.Entry.{Entry}
use Rattle.satl_frame.specs.declared.frames.Frame.TheVariants as frames
use Rattle.satl_direct.specs.Quiet.{written_by}
use Rattle.satl_direct.specs.Run.{eligibles}
use Rattle.satl_audit.specs.Advancing.{GoesOn}
use Rattle.satl_audit.specs.Arriving.{device_at, device_without_sectors}
use Rattle.satl_audit.specs.Deeds.Deed.{shows, powers}
use Rattle.satl_audit.specs.Following.{Follows}
use Rattle.satl_audit.specs.Kept.{Keeping}
use Rattle.satl_audit.specs.Skeleton.{pairs_of_tasks, pairs_shown, after_power_cycle, deeds_at}
use Rattle.satl_audit.specs.Waiting.{Placed, device_tasks}
use Rattle.satl_audit.specs.declared.arriving.Followed.{Followed}
use Rattle.satl_audit.specs.Progress.{recorded, progress}

-- what tasks write does not depend on what nexuses are to be told
written_same : (identity : Identity) (before after : List (List Attention)) (input : List ℕ) (waiting : List Placed) (c : Command) (t : Entry) →
    written_by c (device_without_sectors identity input waiting before) t ≡ written_by c (device_without_sectors identity input waiting after) t
written_same identity before after input waiting commands.TestUnitReady t = refl
written_same identity before after input waiting (commands.RequestSense descriptor alloc) t = refl
written_same identity before after input waiting (commands.Inquiry page alloc) t = refl
written_same identity before after input waiting (commands.ModeSense ten long_lba no_descriptor control page alloc) t = refl
written_same identity before after input waiting (commands.ModeSelect ten size) t = refl
written_same identity before after input waiting (commands.StartStop start no_flush) t = refl
written_same identity before after input waiting commands.ReadCapacity10 t = refl
written_same identity before after input waiting (commands.ReadCapacity16 alloc) t = refl
written_same identity before after input waiting (commands.ReportLuns select alloc) t = refl
written_same identity before after input waiting (commands.Read form lba count fua) t = refl
written_same identity before after input waiting (commands.Write form lba count fua) t = refl
written_same identity before after input waiting (commands.Verify form lba count compare) t = refl
written_same identity before after input waiting (commands.Flush form lba count) t = refl
written_same identity before after input waiting (commands.WriteSame form lba count true) t = refl
written_same identity before after input waiting (commands.WriteSame form lba count false) t = refl
written_same identity before after input waiting (commands.Unmap size) t = refl
written_same identity before after input waiting (commands.Pass cdb) t = refl

pairs_same : (identity : Identity) (before after : List (List Attention)) (input : List ℕ) (waiting : List Placed) (ts : List Entry) →
    pairs_of_tasks (device_without_sectors identity input waiting before) ts ≡ pairs_of_tasks (device_without_sectors identity input waiting after) ts
pairs_same identity before after input waiting [] = refl
pairs_same identity before after input waiting (t ∷ ts) =
    ap (λ (l : List Pair). l ++ pairs_of_tasks (device_without_sectors identity input waiting before) ts) (written_same identity before after input waiting t.command t)
    ∙ ap (λ (l : List Pair). written_by t.command (device_without_sectors identity input waiting after) t ++ l) (pairs_same identity before after input waiting ts)

pub shown_same : (identity : Identity) (before after : List (List Attention)) (input : List ℕ) (waiting : List Placed) → pairs_shown (device_without_sectors identity input waiting before) ≡ pairs_shown (device_without_sectors identity input waiting after)
shown_same identity before after input waiting = pairs_same identity before after input waiting (eligibles (device_tasks input waiting))

pub power_goes : (identity : Identity) (input : List ℕ) (old new : Followed) (sectors after : List Keeping) → new.waiting ≡ [] → new.attentions ≡ map (λ (conditions : List Attention). PowerOn ∷ []) old.attentions → new.output ≡ old.output →
    Follows input (deeds_at (device_without_sectors identity input old.waiting []) powers) sectors after → GoesOn (recorded identity input) (frames.Bench events.Power) (progress old sectors) (progress new after)
power_goes identity input old new sectors after none told output follows = record {
  answers = [];
  deeds = deeds_at (device_at identity input old) powers;
  stepped = (refl, (refl, same));
  whole = (tt, (tt, tt));
  said = sym output;
  follows = subst (λ (pairs : List Pair). Follows input (shows pairs ∷ powers ∷ []) sectors after) (shown_same identity [] old.attentions input old.waiting) follows;
}
  where
    same : device_at identity input new ≡ after_power_cycle (device_at identity input old)
    same =
        ap (λ (w : List Placed). device_without_sectors identity input w new.attentions) none
        ∙ ap (device_without_sectors identity input []) told
