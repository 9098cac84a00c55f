use Rattle.std.proofs.Common.{ap, sym, ◌∙◌}
use Rattle.satl_line.specs.Regions.{with_mark}
use Rattle.satl_line.proofs.RegionsLemmas.{broad_noted, broad_others, two_noted, two_others}
use Rattle.satl_line.proofs.regions.Regions.note.Goals as goal

pub returns-then-is_broad-clause-noted : goal.returns-then-is_broad-clause-noted
returns-then-is_broad-clause-noted c =
    broad_noted c.args.self.now c.args.slot c.args.outline.now c.requires.small c.requires.room (sym c.is_broad.ensures ∙ c.if-is_broad.true)

pub returns-then-is_broad-clause-others : goal.returns-then-is_broad-clause-others
returns-then-is_broad-clause-others c = broad_others c.args.self.now c.args.slot c.args.outline.now c.requires.small c.requires.room

pub returns-else-is_broad-clause-noted : goal.returns-else-is_broad-clause-noted
returns-else-is_broad-clause-noted c =
    two_noted c.args.self.now c.args.slot c.args.outline.now c.requires.small c.requires.room c.mark.new.near c.mark-else-is_broad.new.near
    (c.mark.ensures ∙ ap (λ b. with_mark c.args.self.now.near b c.args.slot) c.first.ensures)
    (c.mark-else-is_broad.ensures ∙ ap (λ b. with_mark c.mark.new.near b c.args.slot) c.last.ensures) (sym c.is_broad.ensures ∙ c.if-is_broad.false)

pub returns-else-is_broad-clause-others : goal.returns-else-is_broad-clause-others
returns-else-is_broad-clause-others c =
    two_others c.args.self.now c.args.slot c.args.outline.now c.requires.small c.requires.room c.mark.new.near c.mark-else-is_broad.new.near
    (c.mark.ensures ∙ ap (λ b. with_mark c.args.self.now.near b c.args.slot) c.first.ensures)
    (c.mark-else-is_broad.ensures ∙ ap (λ b. with_mark c.mark.new.near b c.args.slot) c.last.ensures)
