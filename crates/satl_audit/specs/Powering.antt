-- The power is lost: what pending WRITEs may have left.
use Rattle.std.specs.Prelude.{◌≡◌, ℕ, suc, ◌<◌, Bool, if◌then◌else◌, List, [], ◌∷◌, ◌++◌, length, drop}
use Rattle.satl_base.specs.Cells.{Pair}
use Rattle.satl_identify.specs.declared.identity.Identity.{Identity}
use Rattle.satl_line.specs.declared.entry.Entry.{Entry}
use Rattle.satl_line.specs.Eligible.{eligible_at}
use Rattle.satl_audit.specs.Arriving.{device_without_sectors}
use Rattle.satl_audit.specs.Guesses.{blocks_at}
use Rattle.satl_audit.specs.Kept.{Keeping, known_sector_at}
use Rattle.satl_audit.specs.Skeleton.{pairs_of_tasks, pairs_shown}
use Rattle.satl_audit.specs.Waiting.{Placed, device_tasks, entries_in}

-- the tasks whose places, from this one on, pass (profile)
abbrev pub picks : (ℕ → Bool) → ℕ → List Entry → List Entry
picks passes place [] = []
picks passes place (t ∷ ts) = if passes place then t ∷ picks passes (suc place) ts else picks passes (suc place) ts

-- the pairs of the eligible tasks from a place on (SBC-3 5)
abbrev pub shown_from : Identity → List ℕ → List Placed → ℕ → List Pair
shown_from identity input waiting place = pairs_of_tasks (device_without_sectors identity input waiting [])
    (picks (eligible_at (entries_in waiting)) place (drop place (device_tasks input waiting)))

-- of the pairs that show, all but the later ones are now among what a loss of power may leave (SBC-3 4.15)
abbrev pub PendsUpTo : List ℕ → List Pair → List Pair → List Keeping → List Keeping → Type 0
PendsUpTo input pairs later old new = (x : ℕ) → x < length old →
    (known_sector_at input old x).may ++ blocks_at x pairs ≡ (known_sector_at input new x).may ++ blocks_at x later

-- what a loss of power may leave has the blocks of all eligible tasks too (SBC-3 4.15)
abbrev pub PendsAll : Identity → List ℕ → List Placed → List Keeping → List Keeping → Type 0
PendsAll identity input waiting old new = (x : ℕ) → x < length old →
    (known_sector_at input new x).may
    ≡ (known_sector_at input old x).may ++ blocks_at x (pairs_shown (device_without_sectors identity input waiting []))
