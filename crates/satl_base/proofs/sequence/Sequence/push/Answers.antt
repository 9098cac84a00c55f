use Rattle.std.proofs.Common.{◌≡◌, ◌∙◌, ◌<◌, ◌≤◌, ap, length, slice_range, rules, ◌++◌, ◌∷◌, []}
use Rattle.satl_base.proofs.SequenceLemmas.{part-at_front, part-pushed}
use Rattle.satl_base.proofs.sequence.Sequence.push.Goals.{then-self, else-self}
use Rattle.satl_base.proofs.sequence.Sequence.push.Goals as goal

pub returns : goal.returns
returns g c =
    let s = c.if-self.self-inside in
    let old = c.self.inside in
    let same : slice_range s.places s.start s.end ≡ c.args.self.now =
    elim c.if-self.branch [
      | then-self w ↦
          let moved = part-at_front old.places old.start old.end c.self.invariant.0 (search rules) in
          rw (w.self-inside-is, w.copy_within.ensures.after) (moved ∙ c.self.view_is)
      | else-self w ↦ rw w.self-inside-is c.self.view_is
    ]
    in
    let within : s.start ≤ s.end = elim c.if-self.branch [ then-self w ↦ search rules | else-self w ↦ search rules ] in
    let room : s.end < length s.places =
    elim c.if-self.branch [ then-self w ↦ search rules | else-self w ↦ search rules ]
    in
    part-pushed s.places s.start s.end c.args.item within room ∙ ap (λ xs. xs ++ c.args.item ∷ []) same
