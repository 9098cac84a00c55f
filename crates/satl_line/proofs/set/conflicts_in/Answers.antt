use Rattle.std.proofs.Common.{◌≡◌, ◌∙◌, sym, ap, subst, arith, ℕ, ◌<◌, Bool, true, false, List, length, get_or}
use Rattle.std.specs.Prelude.{◌&&◌, ◌||◌}
use Rattle.std.proofs.lemmas.List.{get_or_default}
use Rattle.satl_line.specs.declared.entry.Entry.{Entry}
use Rattle.satl_line.specs.declared.outline.Outline.{Outline}
use Rattle.satl_line.specs.Blank.{no_entry}
use Rattle.satl_line.specs.Conflict.{conflicts}
use Rattle.satl_line.specs.Outlines.{IsOutline, may_meet, no_outline}
use Rattle.satl_line.proofs.OutlinesLemmas.{told_by_outlines}
use Rattle.satl_line.proofs.set.conflicts_in.Goals as goal

module _ (slots : List Entry) (outlines : List Outline) (slot : ℕ) (b : Entry) (o p : Outline) (lt : slot < length outlines) (told : IsOutline (get_or slots slot no_entry) (get_or outlines slot no_outline)) (own : IsOutline b p) (is : o ≡ get_or outlines slot o) where
  by_outlines : ((o.alone || p.alone) || (may_meet o p && conflicts (get_or slots slot no_entry) b)) ≡ conflicts (get_or slots slot no_entry) b
  by_outlines = told_by_outlines (get_or slots slot no_entry) b o p (subst (λ x. IsOutline (get_or slots slot no_entry) x) (get_or_default outlines slot no_outline o lt ∙ sym is) told) own

  told_alone : (r : Bool) → r ≡ (o.alone || p.alone) → r ≡ true → r ≡ conflicts (get_or slots slot no_entry) b
  told_alone r r_is beside = beside ∙ ap (λ x. x || (may_meet o p && conflicts (get_or slots slot no_entry) b)) (sym beside ∙ r_is) ∙ by_outlines

  told_apart : (r m : Bool) → r ≡ (o.alone || p.alone) → r ≡ false → m ≡ may_meet o p → m ≡ false → m ≡ conflicts (get_or slots slot no_entry) b
  told_apart r m r_is not_beside m_is apart =
      apart ∙ ap (λ x. x && conflicts (get_or slots slot no_entry) b) (sym apart ∙ m_is)
      ∙ ap (λ x. x || (may_meet o p && conflicts (get_or slots slot no_entry) b)) (sym not_beside ∙ r_is) ∙ by_outlines

pub returns-then-is_alone_beside : goal.returns-then-is_alone_beside
returns-then-is_alone_beside c =
    let lt : c.args.slot < length c.args.outlines.now = omega arith in
    told_alone c.args.slots.now c.args.outlines.now c.args.slot c.args.entry.now c.index-outlines-slot.result c.args.outline.now lt c.requires.told c.requires.own c.index-outlines-slot.is
    c.is_alone_beside.result c.is_alone_beside.ensures c.if-is_alone_beside.true

pub returns-else-may_meet : goal.returns-else-may_meet
returns-else-may_meet c =
    let lt : c.args.slot < length c.args.outlines.now = omega arith in
    told_apart c.args.slots.now c.args.outlines.now c.args.slot c.args.entry.now c.index-outlines-slot.result c.args.outline.now lt c.requires.told c.requires.own c.index-outlines-slot.is
    c.is_alone_beside.result c.may_meet.result c.is_alone_beside.ensures c.if-is_alone_beside.false c.may_meet.ensures c.if-may_meet.false
