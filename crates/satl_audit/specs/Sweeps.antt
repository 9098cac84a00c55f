-- What is done to all sectors at once.
use Rattle.std.specs.Prelude.{◌≡◌, ℕ, Bool, true, false, List, Option, Some, None}
use Rattle.std.specs.List.{fold, list_any}
use Rattle.satl_audit.specs.Kept.{Keeping, kept_power, kept_settle, known_sector}
use Rattle.satl_audit.specs.Sectors.{sector_show}
use Rattle.satl_audit.specs.declared.sectors.Sweep.{Sweep}
use Rattle.satl_audit.specs.declared.sectors.Sweep.TheVariants.{Settled, Powered}

-- all is written back, or the power is lost (SBC-3 4.15)
abbrev pub swept : Sweep → Keeping → Keeping
swept Settled k = kept_settle k
swept Powered k = kept_power k

-- a sector that has missed these, in order (profile)
abbrev pub caught_up : List Sweep → Keeping → Keeping
caught_up sweeps k = fold (λ k s. swept s k) k sweeps

-- whether it is a loss of power (profile)
abbrev pub is_power : Sweep → Bool
is_power Settled = false
is_power Powered = true

-- whether the power was lost (profile)
abbrev pub has_power : List Sweep → Bool
has_power ss = list_any is_power ss

-- a sector behind the first sweep that it missed, where that wrote it back (profile)
abbrev pub after_first : Option Sweep → Keeping → Keeping
after_first None k = k
after_first (Some Settled) k = kept_settle k
after_first (Some Powered) k = k

-- a READ gave these 512 bytes: the sector cannot have them; or it can, and they are its block from then on (SBC-3, READ
-- commands)
abbrev pub Shows : List ℕ → List ℕ → Keeping → Keeping → Bool → Type 0
Shows input given old new false = sector_show (record { bytes = given }) (known_sector input old) ≡ None
Shows input given old new true = sector_show (record { bytes = given }) (known_sector input old) ≡ Some (known_sector input new)
