-- Where no rule is broken.
use Rattle.std.proofs.Common.{◌≡◌, ◌∙◌, cond, refl, sym, subst, ℕ, true, false, List, [], ◌∷◌}
use Rattle.std.specs.Prelude.{Some, Result, Ok, Err, IfNone, IfOk}
use Rattle.std.specs.Option.{option_map_or}
use Rattle.std.specs.Result.{result_err}
use Rattle.satl_cdb.specs.declared.command.Illegal.{Illegal}
use Rattle.satl_cdb.specs.Rows.{Rule, broken_rule, unless_broken}
use Rattle.satl_pass.specs.declared.pass.Pass.{Pass}
use Rattle.satl_pass.specs.Fields.{form_of, pass_in}
use Rattle.satl_pass.specs.Reading.{CanGoToDrive, pass_says, rules}
use Rattle.satl_direct.specs.Tasks.{pass_of}

-- what is said where no rule is broken
pub unbroken : {A : Type 0} (rules : List Rule) (cdb : List ℕ) (c d : A) → unless_broken rules cdb c ≡ Ok d → c ≡ d
unbroken [] cdb c d e = cc
unbroken {A = A} (rule ∷ rules) cdb c d e =
    (elim (rule.breaks cdb) as (λ b. option_map_or (λ (r : Rule). Err r.refusal) (cond b (Some rule) (broken_rule rules cdb)) (Ok c) ≡ Ok d → c ≡ d) [
      | true ↦ λ f. absurd cc
      | false ↦ λ f. unbroken rules cdb c d f
    ]) e

-- where nothing is refused, what is said is what the fields say
says_fields : (cdb : List ℕ) (pass : Pass) → pass_says cdb ≡ Ok pass → pass_of cdb ≡ pass
unfolding pass_says
says_fields cdb pass e = unbroken (rules (form_of cdb)) cdb (pass_in (form_of cdb) cdb) pass e

-- so it can be run
can_run : (cdb : List ℕ) (pass : Pass) (found : Result Pass Illegal) → found ≡ Ok pass → found ≡ pass_says cdb → IfOk found CanGoToDrive → CanGoToDrive (pass_of cdb)
can_run cdb pass found is says can = subst CanGoToDrive (sym (says_fields cdb pass (sym says ∙ is))) (subst (λ f. IfOk f CanGoToDrive) is can)

-- so it can be run where nothing is refused
pub can_unless_refused : (cdb : List ℕ) (found : Result Pass Illegal) → found ≡ pass_says cdb → IfOk found CanGoToDrive → IfNone (result_err found) (CanGoToDrive (pass_of cdb))
can_unless_refused cdb (Ok pass) says can = can_run cdb pass (Ok pass) refl says can
can_unless_refused cdb (Err why) says can = tt
