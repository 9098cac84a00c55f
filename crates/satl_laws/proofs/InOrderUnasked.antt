-- Events that ask nothing keep the order of arrival.
use Rattle.std.proofs.Common.{◌≡◌, sym, ap, ◌∙◌, ℕ, Bool, false, List, [], ◌∷◌, ◌++◌, arith}
use Rattle.std.proofs.lemmas.List.{append-nil}
use Rattle.satl_base.specs.Cells.{Cell}
use Rattle.satl_frame.specs.declared.frames.Frame.{Frame}
use Rattle.satl_frame.specs.Output.{Answer}
use Rattle.satl_line.specs.declared.entry.Entry.{Entry}
use Rattle.satl_laws.specs.OnceEach.{asks_by}
use Rattle.satl_laws.proofs.Cases.{how_many-append}
use Rattle.satl_laws.proofs.InOrder.{Begin, InOrder}
use Rattle.satl_laws.proofs.Names.{one}
use Rattle.satl_laws.proofs.Requests.{asked_in, requests-append, requests_of}

module _ (first : Begin) where
  -- an event that asks nothing
  pub unasking_in_order : (events : List Frame) (answers : List Answer) (cells : List Cell) (tasks : List Entry) (faithful : Bool) (event : Frame) → asked_in event ≡ [] → ((nexus tag : ℕ) → asks_by nexus tag event ≡ false)
      → InOrder first events answers cells tasks faithful → InOrder first (events ++ event ∷ []) answers cells tasks faithful
  unasking_in_order events answers cells tasks faithful event none never o = record {
    items = o.items;
    requests = o.requests ∙ sym (append-nil (requests_of events)) ∙ ap (λ l. requests_of events ++ l) (sym (append-nil (asked_in event) ∙ none)) ∙ sym (requests-append events (event ∷ []));
    tasks_are = o.tasks_are;
    size = o.size;
    counts = λ nexus tag. let more : one (asks_by nexus tag event) ≡ 0 = ap one (never nexus tag) in omega (arith, o.counts nexus tag, how_many-append (asks_by nexus tag) events (event ∷ []), more);
    well = o.well;
    sorted = o.sorted;
    stands = o.stands;
    sure = o.sure;
    only = o.only;
    aside = o.aside;
    right = o.right;
  }
