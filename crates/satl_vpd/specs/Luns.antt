-- The data of the REPORT LUNS command (SPC-4, REPORT LUNS command).
use Rattle.std.specs.Prelude.{ℕ, ◌==◌, List, [], ◌∷◌, if◌then◌else◌}
use Rattle.satl_base.specs.Places.{number, laid}

-- LUN LIST LENGTH, and LUN 0 in bytes 8 to 15; the well known units, which SELECT REPORT 1 asks for, are none
abbrev pub lun_list : ℕ → List ℕ
lun_list select = if select == 1 then laid 8 (number 0 3 0 ∷ []) else laid 16 (number 0 3 8 ∷ [])
