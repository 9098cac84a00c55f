-- The task of a request, and whether there is room for it.
use Rattle.std.proofs.Common.{◌≡◌, refl, sym, ap, ◌∙◌, ℕ, ◌+◌, Bool, true, List, length}
use Rattle.std.specs.Prelude.{◌≤◌, ◌==◌, ◌||◌, nat_lt, Ok}
use Rattle.std.proofs.lemmas.List.{length-map}
use Rattle.satl_base.specs.declared.block.Block.{Block}
use Rattle.satl_base.specs.declared.request.Request.{Request}
use Rattle.satl_base.specs.Limits.{most_held, most_tasks}
use Rattle.satl_base.proofs.ListsLemmas.{sum_by-map}
use Rattle.satl_cdb.specs.declared.command.Command.{Command}
use Rattle.satl_cdb.specs.declared.command.Command.TheVariants as commands
use Rattle.satl_line.specs.declared.entry.Entry.{Entry}
use Rattle.satl_direct.specs.Tasks.{held_blocks, held_by, is_full, needed, task_for, task_without_pages}
use Rattle.satl_cover.specs.Known.{is_known}
use Rattle.satl_audit.specs.Arriving.{StandsAt}
use Rattle.satl_audit.specs.Waiting.{Placed, device_tasks, entries_in, has_no_room, task_in}

-- ---- room

held_same : (input : List ℕ) (ps : List Placed) → held_by (device_tasks input ps) ≡ held_by (entries_in ps)
held_same input ps = sum_by-map (task_in input) (λ (e : Entry). e.blocks) ps ∙ sym (sum_by-map (λ (p : Placed). p.entry) (λ (e : Entry). e.blocks) ps)

pub full_same : (input : List ℕ) (ps : List Placed) (c : Command) → is_full (device_tasks input ps) c ≡ has_no_room ps (held_blocks c)
full_same input ps c =
    ap (λ n. (n == most_tasks) || nat_lt most_held (held_by (device_tasks input ps) + held_blocks c)) (length-map ps (task_in input))
    ∙ ap (λ n. (length ps == most_tasks) || nat_lt most_held (n + held_blocks c)) (held_same input ps)

-- ---- the task

pub task_same : (input : List ℕ) (at : ℕ) (q : Bool) (r : Request) (c : Command) → is_known (Ok c) ≡ true → needed c ≤ r.data_len → StandsAt input at r.data_len r.body → task_in input (record { entry = task_without_pages q r c; at = at }) ≡ task_for q r c
task_same input at q r commands.TestUnitReady k le st = refl
task_same input at q r (commands.Read form lba count fua) k le st = refl
task_same input at q r (commands.Write form lba count fua) k le st =
    ap (λ (l : List Block). record (task_for q r (commands.Write form lba count fua)) { body = l }) (sym (st count le))
task_same input at q r (commands.Flush form lba count) k le st = refl
task_same input at q r _ k le st = absurd cc
