-- What holds of every row of a table (profile).
use Rattle.std.specs.Prelude.{Bool, true, ◌&&◌, nat_lt, nat_le, List, [], ◌∷◌}
use Rattle.std.specs.List.{list_all}
use Rattle.satl_cdb.specs.Rows.{Rule, Row}

-- the rules stand by ascending byte
abbrev pub rules_ascend : List Rule → Bool
rules_ascend [] = true
rules_ascend (rule ∷ []) = true
rules_ascend (rule ∷ next ∷ rules) = nat_le rule.place next.place && rules_ascend (next ∷ rules)

-- the rules of each row do
abbrev pub all_rules_ascend : List Row → Bool
all_rules_ascend rows = list_all (λ row. rules_ascend row.format.rules) rows

-- each operation code is above the one before it
abbrev pub codes_ascend : List Row → Bool
codes_ascend [] = true
codes_ascend (row ∷ []) = true
codes_ascend (row ∷ next ∷ rows) = nat_lt row.code next.code && codes_ascend (next ∷ rows)
