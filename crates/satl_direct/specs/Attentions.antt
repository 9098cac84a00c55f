-- Unit attention conditions that are posted for several nexuses (SAM-5 5.14).
use Rattle.std.specs.Prelude.{ℕ, ◌+◌, ◌==◌, ◌&&◌, not, Bool, if◌then◌else◌, List, [], ◌∷◌}
use Rattle.satl_base.specs.declared.modes.Modes.{Modes}
use Rattle.satl_unit.specs.declared.attention.Attention.{Attention}
use Rattle.satl_unit.specs.declared.attention.Attention.TheVariants.{ModeChanged}
use Rattle.satl_unit.specs.Conditions.{posted}

-- the conditions of each nexus from this number on, with this one posted for each nexus that passes a test, unless it is posted
-- there already (SAM-5 5.14)
abbrev pub posted_for : (ℕ → Bool) → Attention → ℕ → List (List Attention) → List (List Attention)
posted_for for what nexus [] = []
posted_for for what nexus (conditions ∷ rest) =
    (if for nexus then posted what conditions else conditions) ∷ posted_for for what (nexus + 1) rest

-- a condition is posted for each nexus that passes a test, unless it is posted there already (SAM-5 5.14)
abbrev pub post : (ℕ → Bool) → Attention → List (List Attention) → List (List Attention)
post for what attentions = posted_for for what 0 attentions

-- whether two flags are the same (profile)
abbrev pub are_same : Bool → Bool → Bool
are_same a b = if a then b else not b

-- whether two sets of mode values are the same (SPC-4, MODE SELECT commands)
abbrev pub are_same_modes : Modes → Modes → Bool
are_same_modes a b = are_same a.wce b.wce && are_same a.dra b.dra && are_same a.d_sense b.d_sense

-- MODE PARAMETERS CHANGED for all nexuses but one, where a mode value has changed (SAM-5 5.14; SPC-4, MODE SELECT commands)
abbrev pub with_modes_changed : Modes → Modes → ℕ → List (List Attention) → List (List Attention)
with_modes_changed old new nexus attentions =
    if are_same_modes old new then attentions else post (λ other. not (other == nexus)) ModeChanged attentions
