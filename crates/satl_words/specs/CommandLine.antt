-- The command line, as clap reads it (profile).
use Rattle.std.specs.Prelude.{◌≡◌, ◌⊎◌, ℕ, ◌-◌, ◌^◌, ◌≤◌, true, List, [], codes, Option, Some, None}
use Rattle.std.specs.Str.Parse.{IsNumeral, digits_value, without_leading_plus}
use Rattle.clap.specs.Words.{App, Row, Rule, Text, fault_of, new_app, new_rule, one_of, with_rule, with_subcommand}
use Rattle.clap.specs.Simple.{on_top}
use Rattle.clap.specs.declared.builder.ArgAction.TheVariants.{Set}
use Rattle.clap.specs.declared.builder.ValueParser.TheVariants as parsers
use Rattle.satl_words.specs.declared.modes.Mode.{Mode}
use Rattle.satl_words.specs.declared.modes.Mode.TheVariants as modes

-- an option that has to be given, with a number up to this one (profile)
abbrev numbered : Text → ℕ → Rule
numbered name most =
    record (new_rule name) { long = Some name; required = true; action = Some Set; parser = Some (parsers.Unsigned 0 most) }

abbrev pub seed : Rule
seed = numbered (codes "seed") (2 ^ 64 - 1)

abbrev pub requests : Rule
requests = numbered (codes "requests") 100000

-- gen --seed N --requests N (profile)
abbrev pub generate : App
generate = with_rule (with_rule (new_app (codes "gen")) seed) requests

-- one subcommand, which has to be given; there is no `help` (profile)
abbrev pub command_line : App
command_line =
    with_subcommand (with_subcommand (with_subcommand (with_subcommand (with_subcommand
    (on_top (λ s. record s { disable_help_subcommand = true; subcommand_required = true }) (new_app (codes "satl")))
    (new_app (codes "replay")).top) (new_app (codes "show")).top) (new_app (codes "usb")).top) (new_app (codes "audit")).top)
    generate.top

-- a text spells a number in decimal digits, perhaps behind a plus sign (profile)
pub record Spells (text : Text) (n : ℕ) : Type 0 where
  pub numeral : IsNumeral 10 (without_leading_plus text)
  pub value : n ≡ digits_value 10 (without_leading_plus text)

-- a number is what the text of an option spells, where that is not above the greatest (profile)
abbrev pub GivesNumber : Text → ℕ → List Row → ℕ → Type 0
GivesNumber name most rows n =
    (text : Text) (spelled : ℕ) → one_of name rows ≡ Some text → Spells text spelled → spelled ≤ most → n ≡ spelled

-- a mode is a load with the numbers of these matches (profile)
abbrev pub IsLoadOf : List Row → Mode → Type 0
IsLoadOf rows mode =
    (s : ℕ) × (r : ℕ) × (mode ≡ modes.Generate s r) × GivesNumber (codes "seed") (2 ^ 64 - 1) rows s
    × GivesNumber (codes "requests") 100000 rows r

-- the name of one of the subcommands (profile)
abbrev pub IsSubcommand : Text → Type 0
IsSubcommand name =
    (name ≡ codes "replay") ⊎ ((name ≡ codes "show") ⊎ ((name ≡ codes "usb") ⊎ ((name ≡ codes "audit") ⊎ (name ≡ codes "gen"))))

-- the mode that the subcommand of this name with these matches is (profile)
abbrev pub IsModeOf : Option (Text × List Row) → Mode → Type 0
IsModeOf None mode = ⊥
IsModeOf (Some p) mode =
    ((p.0 ≡ codes "replay") × (mode ≡ modes.Replay))
    ⊎ (((p.0 ≡ codes "show") × (mode ≡ modes.Show))
    ⊎ (((p.0 ≡ codes "usb") × (mode ≡ modes.Usb))
    ⊎ (((p.0 ≡ codes "audit") × (mode ≡ modes.Audit)) ⊎ ((p.0 ≡ codes "gen") × IsLoadOf p.1 mode))))

-- clap takes words: there is no kind of error that it gives at them (profile)
abbrev pub AreTaken : List Text → Type 0
AreTaken words = fault_of command_line words ≡ []
