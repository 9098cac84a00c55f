-- What an input begins with (profile).
use Rattle.std.specs.Prelude.{ℕ, Bool, not, ◌||◌, ◌==◌, if◌then◌else◌, List, [], ◌∷◌, ◌++◌, length, take, nat_eq, nat_lt, slice_index, Option, Some, None}
use Rattle.std.specs.List.{starts_with}
use Rattle.satl_frame.specs.declared.frames.Version.{Version}
use Rattle.satl_frame.specs.declared.frames.Version.TheVariants.{One, Two}
use Rattle.satl_frame.specs.declared.frames.Reason.{Reason}
use Rattle.satl_frame.specs.declared.frames.Reason.TheVariants.{BadMagic, Truncated}

-- "SATLRPL"
abbrev pub magic_name : List ℕ
magic_name = 0x53 ∷ 0x41 ∷ 0x54 ∷ 0x4C ∷ 0x52 ∷ 0x50 ∷ 0x4C ∷ []

-- "1" or "2"
abbrev pub version_code : Version → ℕ
version_code One = 0x31
version_code Two = 0x32

-- the first eight bytes of an input of this version
abbrev pub magic : Version → List ℕ
magic version = magic_name ++ version_code version ∷ []

-- whether a byte names a version up to the newest one
abbrev pub names_version : Version → ℕ → Bool
names_version One code = code == 0x31
names_version Two code = (code == 0x31) || (code == 0x32)

-- the version that the eighth byte of an input names
abbrev pub version_of : List ℕ → Version
version_of input = if slice_index input 7 == 0x32 then Two else One

-- why the first eight bytes, or as many as there are, are not the magic of a version up to the newest one
abbrev pub magic_fault : Version → List ℕ → Option Reason
magic_fault newest front =
    if not (starts_with nat_eq magic_name (take 7 front)) then Some BadMagic
    else if nat_lt (length front) 8 then Some Truncated
    else if not (names_version newest (slice_index front 7)) then Some BadMagic
    else None
