-- A run without losses has steps.
use Rattle.std.proofs.Common.{arith, ◌≡◌, refl, sym, ap, ◌∙◌, subst, ℕ, true, List, [], ◌∷◌, ◌++◌}
use Rattle.satl_frame.specs.declared.frames.Frame.{Frame}
use Rattle.satl_frame.specs.Output.{Answer}
use Rattle.satl_direct.specs.Device.{Device}
use Rattle.satl_direct.specs.Run.{RunDeep, joined}
use Rattle.satl_direct.specs.Run.RunDeep.{start, next_event}
use Rattle.satl_direct.proofs.Quieting.{joined-push}
use Rattle.satl_cover.specs.Known.{is_known_frame}
use Rattle.satl_audit.specs.Skeleton.{Skeleton, bare}
use Rattle.satl_audit.specs.Skeleton.Skeleton.{begin, further}
use Rattle.satl_audit.proofs.Keeping.{IsSane}
use Rattle.satl_audit.proofs.EventSteps.{event_split}
use Rattle.satl_audit.proofs.Stepping.{behind_now, quiet_bare, quiet_behind, quiet_sane}
use Rattle.satl_audit.proofs.Identities.{all_front, all_last, AllKnown, RunSplit, stepped_same}

pub run_split : {first last : Device} {all : List Frame} {groups : List (List Answer)} {losses deep : ℕ} → RunDeep first all groups losses last deep → losses ≡ 0 → AllKnown first.identity.trim all → IsSane first → RunSplit first last all (joined groups)
run_split {first = first} {last = last} (start quiet) z k h = record {
  deeds = [];
  skeleton = subst (Skeleton (bare first) [] [] []) (sym (quiet_bare first last quiet)) begin;
  behind = quiet_behind first.cells [] first last h quiet (behind_now first.cells [] first refl);
  sane = quiet_sane first last h quiet;
  same = ap (λ (d : Device). d.identity) (quiet_bare first last quiet);
}
run_split {first = first} {last = last} (next_event {events = all} {groups = groups} {losses = losses} {s = s} event now d so_far does) z k h =
    let r = run_split so_far (omega (arith, z)) (all_front (λ f. is_known_frame first.identity.trim f ≡ true) all event k) h in
    let known : is_known_frame s.identity.trim event ≡ true = ap (λ i. is_known_frame i.trim event) r.same ∙ all_last (λ f. is_known_frame first.identity.trim f ≡ true) all event k in
    let e = event_split first.cells r.deeds s last now r.sane r.behind event d known does (omega (arith, z)) in
    record {
      deeds = r.deeds ++ e.deeds;
      skeleton = subst (λ l. Skeleton (bare first) (all ++ event ∷ []) l (r.deeds ++ e.deeds) (bare last)) (sym (joined-push groups now)) (further event now e.deeds r.skeleton e.stepped);
      behind = e.behind;
      sane = e.sane;
      same = stepped_same event (bare s) (bare last) now e.deeds e.stepped ∙ r.same;
    }
