use Rattle.std.proofs.Common.{◌≡◌, [], ◌∷◌, Some, replicate}
use Rattle.satl_audit.specs.declared.content.Content.TheVariants.{Zero}
use Rattle.satl_audit.proofs.sectors.Sectors.new.Given as goal

abbrev pub invariant-loop : goal.invariant-loop
invariant-loop l = l.stamped.items ≡ replicate l.counter (record { kept = record { now = Some Zero; may = Zero ∷ [] }; seen = 0 })
