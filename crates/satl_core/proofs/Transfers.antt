-- The commands that make tasks.
use Rattle.std.proofs.Common.{◌≡◌, ◌⊎◌, inl, inr, arith, ℕ, ◌*◌, ◌<◌, ◌≤◌, Bool, true, false, List}
use Rattle.std.specs.Prelude.{if◌then◌else◌, ◌+◌}
use Rattle.satl_cdb.specs.declared.command.Form.{Form}
use Rattle.satl_cdb.specs.declared.command.Command.{Command}
use Rattle.satl_cdb.specs.declared.command.Command.TheVariants as cdbs
use Rattle.satl_frame.specs.DataPages.{page_count}
use Rattle.satl_pass.specs.Reading.{CanGoToDrive}
use Rattle.satl_direct.specs.Tasks.{held_blocks, needed, pass_of}
use Rattle.satl_core.specs.Layer.{FitsCapacity, IsTask, IsWithin, entry_pages}

-- what holds of each READ, WRITE, SYNCHRONIZE CACHE, START STOP UNIT, MODE SELECT, VERIFY without and with comparison, WRITE
-- SAME, UNMAP and ATA PASS-THROUGH holds of a command that makes a task
pub of_task : (P : Command → Type 0) (capacity n : ℕ) (command : Command)
    → ((form : Form) (lba count : ℕ) (fua : Bool) → IsWithin capacity lba count n → P (cdbs.Read form lba count fua))
    → ((form : Form) (lba count : ℕ) (fua : Bool) → IsWithin capacity lba count n → P (cdbs.Write form lba count fua))
    → ((form : Form) (lba count : ℕ) → n ≡ 0 → P (cdbs.Flush form lba count))
    → ((start no_flush : Bool) → n ≡ 0 → P (cdbs.StartStop start no_flush))
    → ((ten : Bool) (size : ℕ) → (n ≡ 0) × (size < 65536) → P (cdbs.ModeSelect ten size))
    → ((form : Form) (lba count : ℕ) → (n ≡ 0) × FitsCapacity capacity lba count → P (cdbs.Verify form lba count false))
    → ((form : Form) (lba count : ℕ) → (n ≡ count) × (count ≤ 4096) × FitsCapacity capacity lba count → P (cdbs.Verify form lba count true))
    → ((form : Form) (lba count : ℕ) (unmap : Bool) → (n ≡ 1) × FitsCapacity capacity lba count → P (cdbs.WriteSame form lba count unmap))
    → ((size : ℕ) → (n ≡ 0) × (size < 65536) → P (cdbs.Unmap size))
    → ((cdb : List ℕ) → (n ≡ page_count (pass_of cdb).length) × CanGoToDrive (pass_of cdb) → P (cdbs.Pass cdb)) → IsTask capacity command n → P command
of_task P capacity n (cdbs.Read form lba count fua) read write flush switch select check compare same trim through t = read form lba count fua t
of_task P capacity n (cdbs.Write form lba count fua) read write flush switch select check compare same trim through t = write form lba count fua t
of_task P capacity n (cdbs.Flush form lba count) read write flush switch select check compare same trim through t = flush form lba count t
of_task P capacity n (cdbs.StartStop start no_flush) read write flush switch select check compare same trim through t = switch start no_flush t
of_task P capacity n (cdbs.ModeSelect ten size) read write flush switch select check compare same trim through t = select ten size t
of_task P capacity n (cdbs.Verify a b e false) read write flush switch select check compare same trim through t = check a b e t
of_task P capacity n (cdbs.Verify a b e true) read write flush switch select check compare same trim through t = compare a b e t
of_task P capacity n (cdbs.WriteSame a b e f) read write flush switch select check compare same trim through t = same a b e f t
of_task P capacity n (cdbs.Unmap a) read write flush switch select check compare same trim through t = trim a t
of_task P capacity n (cdbs.Pass a) read write flush switch select check compare same trim through t = through a t
of_task P capacity n _ read write flush switch select check compare same trim through t = absurd t

-- a task holds at most 4,096 pages
pub task_few : (capacity n : ℕ) (queued_trim : Bool) (command : Command) → IsTask capacity command n → n + entry_pages command queued_trim ≤ 4096
task_few capacity n queued_trim command t =
    of_task (λ c. n + entry_pages c queued_trim ≤ 4096) capacity n command (λ form lba count fua t. omega (arith, t)) (λ form lba count fua t. omega (arith, t)) (λ form lba count none. omega (arith, none)) (λ start no_flush none. omega (arith, none)) (λ ten size none. omega (arith, none.0))
    (λ form lba count t. omega (arith, t.0)) (λ form lba count t. omega (arith, t.0, t.1)) (λ form lba count unmap t. omega (arith, t.0)) (λ size t. let one = one_page queued_trim in omega (arith, t.0, one))
    (λ cdb t. omega (arith, t.0, t.1.length)) t
  where
    one_page : (b : Bool) → (if b then 1 else 0) ≤ 1
    one_page true = omega arith
    one_page false = omega arith

-- the entries of an UNMAP take one page
pub entries_few : (command : Command) (queued_trim : Bool) → entry_pages command queued_trim ≤ 1
entries_few (cdbs.Unmap size) true = omega arith
entries_few (cdbs.Unmap size) false = omega arith
entries_few _ queued_trim = omega arith

-- a task holds the blocks that it needs, or needs a list of fewer than 65,536 bytes
pub task_needs : (capacity n : ℕ) (command : Command) → IsTask capacity command n → (needed command ≤ 512 * held_blocks command) ⊎ (needed command < 65536)
task_needs capacity n command t =
    of_task (λ c. (needed c ≤ 512 * held_blocks c) ⊎ (needed c < 65536)) capacity n command (λ form lba count fua t. inl (omega arith)) (λ form lba count fua t. inl (omega arith)) (λ form lba count none. inl (omega arith)) (λ start no_flush none. inl (omega arith)) (λ ten size none. inr none.1)
    (λ form lba count t. inl (omega arith)) (λ form lba count t. inl (omega arith)) (λ form lba count unmap t. elim unmap as (λ b. (needed (cdbs.WriteSame form lba count b) ≤ 512 * held_blocks (cdbs.WriteSame form lba count b)) ⊎ (needed (cdbs.WriteSame form lba count b) < 65536)) [ true ↦ inl (omega arith) | false ↦ inl (omega arith) ]) (λ size t. inr t.1)
    (λ cdb t. inl (out_held (pass_of cdb).out (pass_of cdb).length)) t
  where
    out_held : (out : Bool) (length : ℕ) → (if out then length else 0) ≤ 512 * page_count length
    out_held true length = omega arith
    out_held false length = omega arith
