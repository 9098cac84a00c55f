-- Tasks that go, at a lost link or by a task management function, keep the order of arrival.
use Rattle.std.proofs.Common.{◌≡◌, refl, sym, ◌∙◌, subst, ℕ, ◌<◌, Bool, true, false, cond, List, [], ◌∷◌, ◌++◌, arith, map, append_assoc}
use Rattle.std.specs.Prelude.{◌&&◌, ◌||◌, ◌==◌, not, filter}
use Rattle.std.specs.List.{list_any}
use Rattle.std.proofs.lemmas.List.{append-nil}
use Rattle.std.proofs.lemmas.Bool.{both_ways}
use Rattle.satl_base.specs.declared.request.Request.{Request}
use Rattle.satl_base.specs.declared.reply.Reply.{Reply}
use Rattle.satl_base.specs.Cells.{Cell}
use Rattle.satl_base.specs.Lists.{how_many}
use Rattle.satl_frame.specs.declared.frames.Frame.{Frame}
use Rattle.satl_frame.specs.Output.{Answer}
use Rattle.satl_frame.specs.Output.Answer.{replied}
use Rattle.satl_line.specs.declared.entry.Entry.{Entry}
use Rattle.satl_direct.specs.Device.{Device}
use Rattle.satl_direct.specs.Ending.{task_check}
use Rattle.satl_laws.specs.ArrivalOrder.{is_done}
use Rattle.satl_laws.specs.OnceEach.{asks_by}
use Rattle.satl_direct.specs.Senses.{link_lost}
use Rattle.satl_direct.specs.Turn.{device_lost_replies}
use Rattle.satl_laws.proofs.InOrder.{Begin, InOrder}
use Rattle.satl_laws.proofs.InOrderPlace.{dropped_in_order}
use Rattle.satl_laws.proofs.InOrderSteps.{AreSteady, InOrderAt, lowered, not_both}

module _ (first : Begin) (exact : Bool) where
  module _ (events : List Frame) (cells : List Cell) (once : (nexus tag : ℕ) → how_many (asks_by nexus tag) events < 2) where
    -- all are answered that the link is lost
    pub lost_in_order : (s : Device) (answers : List Answer) (tasks : List Entry) (f : Bool) → InOrder first events answers cells tasks f
        → InOrder first events (answers ++ map replied (map (λ t. task_check s t link_lost) tasks)) cells [] false
    lost_in_order s answers [] f o = subst (λ a. InOrder first events a cells [] false) (sym (append-nil answers)) (lowered first exact events answers cells [] f false (λ h. absurd cc) o)
    lost_in_order s answers (t ∷ ts) f o =
        subst (λ a. InOrder first events a cells [] false) (append_assoc answers (replied (task_check s t link_lost) ∷ []) (map replied (map (λ u. task_check s u link_lost) ts)))
        (lost_in_order s (answers ++ replied (task_check s t link_lost) ∷ []) ts false
        (dropped_in_order first events answers cells (t ∷ ts) f o once [] ts t refl (replied (task_check s t link_lost) ∷ []) (λ nexus tag. omega arith) bad))
      where
        third : (p q : Bool) → ((p && q && false) || false) ≡ false
        third true true = refl
        third _ _ = refl

        bad : (r : Request) → list_any (is_done r) (replied (task_check s t link_lost) ∷ []) ≡ false
        bad r = third (t.nexus == r.nexus) ((t.tag).0 == (r.tag).0)

    -- some go without an answer
    pub filtered_in_order : (goes : Entry → Bool) (answers : List Answer) (before rest : List Entry) (f : Bool) → InOrder first events answers cells (before ++ rest) f
        → InOrder first events answers cells (before ++ filter (λ t. not (goes t)) rest) false
    filtered_in_order goes answers before [] f o = lowered first exact events answers cells (before ++ []) f false (λ h. absurd cc) o
    filtered_in_order goes answers before (t ∷ ts) f o =
        elim (goes t) as (λ b. InOrder first events answers cells (before ++ cond (not b) (t ∷ filter (λ u. not (goes u)) ts) (filter (λ u. not (goes u)) ts)) false) [
          | true ↦ filtered_in_order goes answers before ts false
              (subst (λ a. InOrder first events a cells (before ++ ts) false) (append-nil answers)
              (dropped_in_order first events answers cells (before ++ t ∷ ts) f o once before ts t refl [] (λ nexus tag. omega arith) (λ r. refl)))
          | false ↦ subst (λ l. InOrder first events answers cells l false) (append_assoc before (t ∷ []) (filter (λ u. not (goes u)) ts))
              (filtered_in_order goes answers (before ++ t ∷ []) ts f (subst (λ l. InOrder first events answers cells l f) (sym (append_assoc before (t ∷ []) ts)) o))
        ]

  -- a lost link
  pub lost_at : (events : List Frame) (answers : List Answer) (s new : Device) (said : List Reply) → ((nexus tag : ℕ) → how_many (asks_by nexus tag) events < 2)
      → said ≡ device_lost_replies s → new.cells ≡ s.cells → new.tasks ≡ [] → new.down ≡ true → new.identity ≡ s.identity → InOrderAt first exact events answers s → InOrderAt first exact events (answers ++ map replied said) new
  lost_at events answers s new said once is cells tasks down identity o = record {
    identity = identity ∙ o.identity;
    order = subst (λ c. InOrder first events (answers ++ map replied said) c new.tasks (exact && not new.down)) (sym cells)
        (subst (λ ts. InOrder first events (answers ++ map replied said) s.cells ts (exact && not new.down)) (sym tasks)
        (subst (λ l. InOrder first events (answers ++ map replied l) s.cells [] (exact && not new.down)) (sym is)
        (lowered first exact events (answers ++ map replied (device_lost_replies s)) s.cells [] false (exact && not new.down) (λ f. absurd (not_both exact new.down down f))
        (lost_in_order events s.cells once s answers s.tasks (exact && not s.down) o.order))));
    calm = λ x up. absurd (both_ways new.down up down);
    steady = λ x. subst (AreSteady first exact) (sym tasks) tt;
  }
