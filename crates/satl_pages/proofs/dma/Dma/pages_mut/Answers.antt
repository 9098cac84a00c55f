use Rattle.std.proofs.Common.{◌≡◌, Some, ap, inr, sym, ◌∙◌, refl}
use Rattle.std.specs.Prelude.{slice_get, slice_set}
use Rattle.std.specs.Option.{ghost_name_of, option_flatten}
use borrow.Follows.Closed.{read_of}
use Rattle.std.proofs.lemmas.List.{set-get_or}
use Rattle.std.proofs.lemmas.Option.{slice_get-get_or, slice_get_past}
use Rattle.satl_pages.proofs.dma.Dma.pages_mut.Goals as goal

pub returns-in-None : goal.returns-in-None
returns-in-None c = (
  ap inr c.self.view_is,
  record {
    writes_back = tt;
    value = sym (ap option_flatten (ap (λ l. slice_get l c.args.tag) (sym c.self.view_is) ∙ slice_get_past c.self.inside.slots.items c.args.tag c.in-None.ensures.item.3));
  },
)

pub returns-in-Some : goal.returns-in-Some
returns-in-Some c =
    let there : slice_set c.self.inside.slots.items c.args.tag c.in-Some.slot.now ≡ c.self.inside.slots.items
    = ap (slice_set c.self.inside.slots.items c.args.tag) c.in-Some.ensures.value ∙ set-get_or c.self.inside.slots.items c.args.tag c.in-Some.slot.now in (
      ap (read_of (ghost_name_of c.as_mut.result) (λ w. slice_set c.self.inside.slots.items c.args.tag (Some w))) there
          ∙ ap (λ l. read_of (ghost_name_of c.as_mut.result) (λ w. slice_set l c.args.tag (Some w)) l) c.self.view_is,
      record {
        writes_back = tt;
        value = c.as_mut.ensures.value ∙ sym (ap option_flatten (ap (λ l. slice_get l c.args.tag) (sym c.self.view_is)
            ∙ slice_get-get_or c.self.inside.slots.items c.args.tag c.in-Some.slot.now (c.in-Some.ensures.variant.0 refl) ∙ ap Some (sym c.in-Some.ensures.value)));
      },
    )
