-- The law of sectors: runs are put together from sectors.
use Rattle.std.proofs.Common.{refl, sym, ap, ◌∙◌, subst, List, length}
use Rattle.std.specs.List.{AllByRecursion}
use Rattle.satl_frame.specs.declared.frames.Frame.{Frame}
use Rattle.satl_frame.specs.Output.{out}
use Rattle.satl_direct.specs.Device.{Device}
use Rattle.satl_direct.specs.Run.{RunDeep, joined}
use Rattle.satl_audit.specs.Laws.{IsAudited, PiecesAreRuns, RunsArePieced}
use Rattle.satl_audit.specs.Skeleton.{bare}
use Rattle.satl_audit.proofs.Coming.{IsKnown}
use Rattle.satl_audit.proofs.Keeping.{IsSane}
use Rattle.satl_audit.proofs.Walking.{AllLie, alone_of_walk, walk_all, walk_each, walk_of_alone}
use Rattle.satl_audit.proofs.RunSteps.{run_split}
use Rattle.satl_audit.proofs.StepRuns.{run_made}
use Rattle.satl_audit.proofs.Lying.{skeleton_within}

pub sane_of : (first : Device) (all : List Frame) → IsAudited first all → IsSane first
sane_of first all a = record {
  up = a.fresh.up;
  started = a.fresh.started;
  glitches = a.fresh.no_glitches;
  flawless = a.fresh.no_flaws;
  sound = a.valid.sound;
  size = a.valid.cells;
  known = subst (AllByRecursion (IsKnown first.identity.capacity)) (sym a.fresh.no_tasks) tt;
}

pub runs_are_pieced : RunsArePieced
runs_are_pieced first all output a e =
    let r = run_split (e.run).run refl a.known (sane_of first all a) in
    record {
      answers = joined (e.run).groups;
      deeds = r.deeds;
      last = bare e.last;
      skeleton = r.skeleton;
      same = e.same ∙ ap out (e.run).answer;
      alone = alone_of_walk r.deeds 0 first.cells r.behind.mid (walk_each r.deeds first.cells r.behind.mid r.behind.walk);
    }

pub pieces_are_runs : PiecesAreRuns
pieces_are_runs first all output a p =
    let h = sane_of first all a in
    let w = walk_of_alone p.deeds 0 first.cells p.alone in
    let lie : AllLie p.deeds (length first.cells) = subst (AllLie p.deeds) (sym a.valid.cells) ((skeleton_within p.skeleton a.known h.known).within.lie) in
    let r = run_made first h p.skeleton a.known w.0 (walk_all p.deeds first.cells w.0 h.sound lie w.1) in
    record {
      answers = p.answers;
      last = r.last;
      run = record { groups = r.groups; deep = r.deep; answer = r.answers_are; run = subst (λ n. RunDeep first all r.groups n r.last r.deep) r.none r.run };
      same = p.same;
    }
