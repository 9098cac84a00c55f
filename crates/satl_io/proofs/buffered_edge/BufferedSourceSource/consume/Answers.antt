use Rattle.std.proofs.Common.{◌≤◌, Bool, true, false, List, ℕ, None, Some, IfSome, if◌then◌else◌, length, take, refl, sym, subst}
use Rattle.std.specs.declared.option.Option.{Option}
use Rattle.std.specs.Io.{StartsWith}
use Rattle.std.specs.Io.Buffered.{reader_remaining}
use Rattle.std.specs.Io.KnownBytes.{prepend_known}
use Rattle.std.proofs.Transfers.{starts_with_of_append}
use Rattle.satl_io.specs.Known.{Took}
use Rattle.satl_io.proofs.Joined.{Took-front}
use Rattle.satl_io.proofs.buffered_edge.BufferedSourceSource.consume.Goals as goal

-- what was read ahead stands in front of what is left
stands_in_front : (is_unknown : Bool) (front : List ℕ) (rest : Option (List ℕ))
    → IfSome (if is_unknown then None else prepend_known front rest) (λ bytes. StartsWith bytes front)
stands_in_front true front rest = tt
stands_in_front false front None = tt
stands_in_front false front (Some rest) = starts_with_of_append _ front rest refl

pub returns-clause-bytes : goal.returns-clause-bytes
returns-clause-bytes g c =
    let left = reader_remaining g.R.Read.remaining c.consume.new.self in
    let within = subst (λ s. c.args.count ≤ length s.ahead) (sym c.self.view_is) c.requires in
    subst (λ s. Took s.bytes left (take c.args.count s.ahead)) c.self.view_is
    (Took-front _ left _ c.args.count within (stands_in_front _ _ _) c.consume.ensures.bytes)
