-- What words ask for (profile).
use Rattle.std.specs.Prelude.{◌⊎◌, List}
use Rattle.clap.specs.Words.{Text, subcommand_of}
use Rattle.satl_words.specs.declared.modes.Mode.{Mode}
use Rattle.satl_words.specs.CommandLine.{AreTaken, IsModeOf, command_line}
use Rattle.satl_words.specs.Plain.{ArePlain, IsInRange}

-- words ask for a mode: they are plain, or clap takes them and reads them so (profile)
abbrev pub AskFor : List Text → Mode → Type 0
AskFor words mode = ArePlain words mode ⊎ (AreTaken words × IsModeOf (subcommand_of command_line words) mode)

-- words ask for nothing: they are not plain, and clap does not take them (profile)
pub record AreRefused (words : List Text) : Type 0 where
  pub not_plain : (mode : Mode) → IsInRange mode → ArePlain words mode → ⊥
  pub not_taken : AreTaken words → ⊥
