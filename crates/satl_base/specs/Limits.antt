-- Limits of the profile.
use Rattle.std.specs.Prelude.{ℕ, ◌+◌, ◌^◌, ◌≤◌, ◌==◌, ◌||◌, nat_lt, Bool, Option, IfSome}

-- the most tasks that wait at once (SAM-5 5.3.1, TASK SET FULL; the figure: profile)
abbrev pub most_tasks : ℕ
most_tasks = 64

-- the most blocks that all waiting tasks hold together (SAM-5 5.3.1, TASK SET FULL; the figure: profile)
abbrev pub most_held : ℕ
most_held = 32768

-- whether so many tasks, which hold so many blocks, leave no room for a task of so many more: there are 64 of them, or the
-- blocks with those of the task exceed 32,768 (SAM-5 5.3.1, TASK SET FULL; the figures: profile)
abbrev pub leave_no_room : ℕ → ℕ → ℕ → Bool
leave_no_room tasks held blocks = (tasks == most_tasks) || nat_lt most_held (held + blocks)

-- the most blocks that one command moves: READ, WRITE, VERIFY with comparison and ATA PASS-THROUGH (SBC-3, MAXIMUM TRANSFER
-- LENGTH; the figure: profile)
abbrev pub most_moved : ℕ
most_moved = 4096

-- the most blocks that one command goes over without moving each: VERIFY without comparison, WRITE SAME, and an UNMAP in all
-- its ranges (SBC-3, MAXIMUM WRITE SAME LENGTH and MAXIMUM UNMAP LBA COUNT; the figure: profile)
abbrev pub most_covered : ℕ
most_covered = 65536

-- the blocks of a piece, in which a WRITE SAME and a VERIFY with comparison go over their range (profile)
abbrev pub piece : ℕ
piece = 64

-- the most ranges of one UNMAP (SBC-3, MAXIMUM UNMAP BLOCK DESCRIPTOR COUNT; the figure: profile)
abbrev pub most_ranges : ℕ
most_ranges = 64

-- within how many bytes each frame, or each item of a bridge, ends in its input (profile)
abbrev pub input_limit : ℕ
input_limit = 2 ^ 40

-- the most bytes of data of one command: those of 4,096 blocks (profile)
abbrev pub longest_data : ℕ
longest_data = 2097152

-- a number of bytes of data-in that a host may take, where it says one (profile)
abbrev pub IsExpectable : Option ℕ → Type 0
IsExpectable expected = IfSome expected (λ count. count ≤ longest_data)
