-- Steps that the sectors go along with are those of a run.
use Rattle.std.proofs.Common.{arith, ◌≡◌, refl, sym, ap, ◌∙◌, subst, ℕ, ◌+◌, true, List, [], ◌∷◌, ◌++◌}
use Rattle.std.specs.Prelude.{max}
use Rattle.satl_base.specs.Cells.{Cell}
use Rattle.satl_frame.specs.declared.frames.Frame.{Frame}
use Rattle.satl_frame.specs.Output.{Answer}
use Rattle.satl_direct.specs.Device.{Device}
use Rattle.satl_direct.specs.Run.{RunDeep, joined, losses_in}
use Rattle.satl_direct.specs.Run.RunDeep.{start, next_event}
use Rattle.satl_direct.proofs.Quieting.{quiet_none, joined-push}
use Rattle.satl_audit.specs.Deeds.{Deed, DoneBy, Walks}
use Rattle.satl_cover.specs.Known.{is_known_frame}
use Rattle.satl_audit.specs.Skeleton.{Skeleton, Stepped, bare}
use Rattle.satl_audit.specs.Skeleton.Skeleton.{begin, further}
use Rattle.satl_audit.proofs.Keeping.{IsSane}
use Rattle.satl_audit.proofs.Running.{event_made}
use Rattle.satl_audit.proofs.Stepping.{walks_split}
use Rattle.satl_audit.proofs.Identities.{all_front, all_last, AllKnown, stepped_same}

pub record RunMade (first : Device) (all : List Frame) (answers : List Answer) (cells : List Cell) (bared : Device) : Type 0 where
  pub last : Device
  pub groups : List (List Answer)
  pub losses : ℕ
  pub deep : ℕ
  pub run : RunDeep first all groups losses last deep
  pub none : losses ≡ 0
  pub answers_are : answers ≡ joined groups
  pub bared_is : bare last ≡ bared
  pub cells_are : last.cells ≡ cells
  pub sane : IsSane last
  pub same : last.identity ≡ first.identity

run_more : (first : Device) (all : List Frame) (answers now : List Answer) (cells new_cells : List Cell) (s new : Device) (event : Frame) (deeds : List Deed) → is_known_frame first.identity.trim event ≡ true →
    Stepped event s now deeds new → Walks DoneBy deeds cells new_cells → RunMade first all answers cells s → RunMade first (all ++ event ∷ []) (answers ++ now) new_cells new
run_more first all answers now cells new_cells s new event deeds k e w m =
    let known : is_known_frame m.last.identity.trim event ≡ true = ap (λ i. is_known_frame i.trim event) m.same ∙ k in
    let x = event_made m.last new now new_cells m.sane event deeds known (subst (λ d. Stepped event d now deeds new) (sym m.bared_is) e) (subst (λ l. Walks DoneBy deeds l new_cells) (sym m.cells_are) w) in
    record {
      last = x.new;
      groups = m.groups ++ now ∷ [];
      losses = m.losses + losses_in event m.last x.new;
      deep = max m.deep x.deep;
      run = next_event event now x.deep m.run x.does;
      none = omega (arith, m.none, x.no_loss);
      answers_are = ap (λ l. l ++ now) m.answers_are ∙ sym (joined-push m.groups now);
      bared_is = x.bared_is;
      cells_are = x.cells_are;
      sane = x.sane;
      same = ap (λ (d : Device). d.identity) x.bared_is ∙ stepped_same event s new now deeds e ∙ ap (λ (d : Device). d.identity) (sym m.bared_is) ∙ m.same;
    }

pub run_made : (first : Device) → IsSane first → {all : List Frame} {answers : List Answer} {deeds : List Deed} {last : Device} → Skeleton (bare first) all answers deeds last → AllKnown first.identity.trim all → (cells : List Cell) → Walks DoneBy deeds first.cells cells → RunMade first all answers cells last
run_made first h begin k cells w = record { last = first; groups = []; losses = 0; deep = 0; run = start (quiet_none first); none = refl; answers_are = refl; bared_is = refl; cells_are = w; sane = h; same = refl }
run_made first h {last = last} (further {all = all} {answers = answers} {deeds = deeds} {s = s} event now more so_far e) k cells w =
    let r = walks_split deeds more first.cells cells w in
    run_more first all answers now r.mid cells s last event more (all_last (λ f. is_known_frame first.identity.trim f ≡ true) all event k) e r.after
    (run_made first h so_far (all_front (λ f. is_known_frame first.identity.trim f ≡ true) all event k) r.mid r.before)
