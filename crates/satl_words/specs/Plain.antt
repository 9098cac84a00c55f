-- Plain words, which mean what they spell (profile).
use Rattle.std.specs.Prelude.{◌≡◌, ◌<◌, ◌≤◌, ◌^◌, List, [], ◌∷◌, codes}
use Rattle.std.specs.Fmt.{decimal}
use Rattle.clap.specs.Words.{Text}
use Rattle.satl_words.specs.declared.modes.Mode.{Mode}
use Rattle.satl_words.specs.declared.modes.Mode.TheVariants as modes

-- the words of a load behind the program's name, with these for its numbers (profile)
abbrev pub load_words : Text → Text → List Text
load_words seed requests = codes "gen" ∷ codes "--seed" ∷ seed ∷ codes "--requests" ∷ requests ∷ []

-- the plain words behind the program's name that ask for a mode, with its numbers in decimal digits (profile)
abbrev pub plain_words : Mode → List Text
plain_words modes.Replay = codes "replay" ∷ []
plain_words modes.Show = codes "show" ∷ []
plain_words modes.Usb = codes "usb" ∷ []
plain_words modes.Audit = codes "audit" ∷ []
plain_words (modes.Generate seed requests) = load_words (decimal seed) (decimal requests)

-- words are plain and ask for this mode: whatever name the program goes by stands before them (profile)
abbrev pub ArePlain : List Text → Mode → Type 0
ArePlain words mode = (name : Text) × (words ≡ name ∷ plain_words mode)

-- a seed has 64 bits, and there are at most 100,000 requests (profile)
abbrev pub IsInRange : Mode → Type 0
IsInRange (modes.Generate seed requests) = (seed < 2 ^ 64) × (requests ≤ 100000)
IsInRange _ = Unit {0}
