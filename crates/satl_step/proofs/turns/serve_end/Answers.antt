use Rattle.std.proofs.Common.{refl}
use Rattle.std.proofs.lemmas.Result.{on_err_weaker}
use Rattle.satl_base.proofs.OutcomeLemmas.{on_both}
use Rattle.satl_step.proofs.EventLemmas.{all_ended, end_cut, end_done, end_in_part}
use Rattle.satl_step.proofs.ServingLemmas.{ends_in_part, leaves_all, leaves_some}
use Rattle.satl_step.proofs.turns.serve_end.Goals as goal

pub serve_turns-requires : goal.serve_turns-requires
serve_turns-requires g c = record { can = record { tied = c.requires.can.tied; can = c.requires.can.can; none = c.requires.can.none } }

pub returns-clause-done : goal.returns-clause-done
returns-clause-done g c =
    let empty = all_ended _ c.args.satl.now c.serve_turns.new.satl c.pending-count.ensures.count c.in_ok-serve_turns.ensures.fewer in
    record {
      whole = on_both c.tell_end.result _ _ _ (λ wrote next. end_done g.T.Teller.told g.T.Teller.behind c.pending-count.result _ _ _ refl empty c.in_ok-serve_turns.ensures.turns.whole wrote next) c.tell_end.ensures.all c.tell_end.ensures.next;
      part = on_err_weaker c.tell_end.result (λ part. end_in_part g.T.Teller.told g.T.Teller.behind c.pending-count.result _ _ _ refl empty c.in_ok-serve_turns.ensures.turns.whole part) c.tell_end.ensures.part;
    }

pub returns-in_err-serve_turns-clause-done : goal.returns-in_err-serve_turns-clause-done
returns-in_err-serve_turns-clause-done g c = ends_in_part _ _ _ _ c.from_residual.result _ c.from_residual.ensures.1 (end_cut g.T.Teller.told g.T.Teller.behind c.pending-count.result _ _ c.in_err-serve_turns.ensures.turns.part)

pub returns-clause-leaves : goal.returns-clause-leaves
returns-clause-leaves g c = leaves_all _ _ _ c.tell_end.result c.serve_turns.ensures.leaves.tied c.in_ok-serve_turns.ensures.leaves.all_in c.in_ok-serve_turns.ensures.leaves.none

pub returns-in_err-serve_turns-clause-leaves : goal.returns-in_err-serve_turns-clause-leaves
returns-in_err-serve_turns-clause-leaves g c = leaves_some _ _ _ c.from_residual.result _ c.from_residual.ensures.1 c.serve_turns.ensures.leaves.tied c.in_err-serve_turns.ensures.leaves.kept c.in_err-serve_turns.ensures.leaves.writable
