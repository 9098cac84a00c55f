-- The shape of the table of operation codes, and what a table says of a command descriptor block (SPC-4 4.3).
use Rattle.std.specs.Prelude.{ℕ, false, ◌==◌, nat_lt, not, List, Option, Some, None, Result, Ok, Err}
use Rattle.std.specs.List.{find}
use Rattle.std.specs.Option.{option_map, option_map_or}
use Rattle.satl_base.specs.Fields.{Field, Flag, bits}
use Rattle.satl_base.specs.Lists.{is_in}
use Rattle.satl_cdb.specs.declared.command.Command.{Command}
use Rattle.satl_cdb.specs.declared.command.Illegal.{Illegal}
use Rattle.satl_cdb.specs.Refusals.{invalid_field, invalid_operation_code}

-- tests on a field
abbrev pub is : ℕ → Field → Flag
is n field cdb = field cdb == n

abbrev pub is_not : ℕ → Field → Flag
is_not n field cdb = not (field cdb == n)

abbrev pub is_above : ℕ → Field → Flag
is_above limit field cdb = nat_lt limit (field cdb)

abbrev pub is_none_of : List ℕ → Field → Flag
is_none_of values field cdb = not (is_in (field cdb) values)

abbrev pub never : Flag
never cdb = false

-- a rule: the byte that it is on, when it is broken, and the refusal then
pub record Rule : Type 0 where
  pub place : ℕ
  pub breaks : Flag
  pub refusal : Illegal

-- a rule whose refusal is INVALID FIELD IN CDB at its byte
abbrev pub at : ℕ → Flag → Rule
at place breaks = record { place = place; breaks = breaks; refusal = invalid_field place }

-- the same for a field of one byte, bits high to low, which is named once
abbrev pub on : ℕ → ℕ → ℕ → (Field → Flag) → Rule
on place high low test = at place (test (bits place high low))

-- what an operation code stands for: rules by ascending byte, and the command where none is broken
pub record Format : Type 0 where
  pub rules : List Rule
  pub command : List ℕ → Command

-- the first rule that is broken
abbrev pub broken_rule : List Rule → List ℕ → Option Rule
broken_rule rules cdb = find (λ rule. rule.breaks cdb) rules

-- a value, or the refusal of the first rule that is broken
abbrev pub unless_broken : {A : Type 0} → List Rule → List ℕ → A → Result A Illegal
unless_broken rules cdb value = option_map_or (λ rule. Err rule.refusal) (broken_rule rules cdb) (Ok value)

abbrev pub format_says : Format → List ℕ → Result Command Illegal
format_says format cdb = unless_broken format.rules cdb (format.command cdb)

-- a row: an operation code and its format
pub record Row : Type 0 where
  pub code : ℕ
  pub format : Format

abbrev pub row : ℕ → Format → Row
row code format = record { code = code; format = format }

-- the format of an operation code in a table
abbrev pub format_of : List Row → ℕ → Option Format
format_of rows code = option_map (λ r. r.format) (find (λ r. code == r.code) rows)

abbrev pub found_says : Option Format → List ℕ → Result Command Illegal
found_says None cdb = Err invalid_operation_code
found_says (Some format) cdb = format_says format cdb
