-- An ATA PASS-THROUGH that comes without data-out writes nothing.
use Rattle.std.proofs.Common.{◌≡◌, refl, sym, ◌∙◌, cond, ℕ, true, false, List, [], ◌∷◌, Option, Some, None, Result, Ok, Err}
use Rattle.std.specs.List.{AllByRecursion}
use Rattle.std.specs.Option.{option_map_or}
use Rattle.satl_base.specs.declared.block.Block.{Block}
use Rattle.satl_cdb.specs.declared.command.Command.{Command}
use Rattle.satl_cdb.specs.declared.command.Command.TheVariants as commands
use Rattle.satl_cdb.specs.declared.command.Illegal.{Illegal}
use Rattle.satl_cdb.specs.Rows.{Rule, broken_rule, unless_broken}
use Rattle.satl_regs.specs.Commands.{command_in}
use Rattle.satl_regs.specs.Effects.{Medium, pairs_of}
use Rattle.satl_pass.specs.Fields.{form_of, pass_in}
use Rattle.satl_pass.specs.Reading.{pass_says, rules}
use Rattle.satl_direct.specs.Tasks.{asks, fault_in, pass_of}
use Rattle.satl_direct.proofs.Passing.{writes_none}

-- an ATA PASS-THROUGH without data-out writes nothing, whatever is handed in
abbrev pub WritesItsOwn : Command → Type 0
WritesItsOwn (commands.Pass cdb) = (pass_of cdb).out ≡ false → (m : Medium) (given : List Block) → pairs_of (command_in (pass_of cdb).regs) m given ≡ []
WritesItsOwn _ = Unit {0}

-- no rule is broken where nothing is refused
unbroken : {A : Type 0} (all : List Rule) (cdb : List ℕ) (value : A) (of : Result A Illegal → Option Illegal) → ((why : Illegal) → of (Err why) ≡ Some why) → of (unless_broken all cdb value) ≡ None → AllByRecursion (λ rule. rule.breaks cdb ≡ false) all
unbroken [] cdb value of errs h = tt
unbroken (rule ∷ all) cdb value of errs h =
    (elim (rule.breaks cdb) as (λ b. rule.breaks cdb ≡ b → of (option_map_or (λ (r : Rule). Err r.refusal) (cond b (Some rule) (broken_rule all cdb)) (Ok value)) ≡ None → (rule.breaks cdb ≡ false) × AllByRecursion (λ r. r.breaks cdb ≡ false) all)
    [ true ↦ λ is e. absurd (let clash : Some rule.refusal ≡ None = sym (errs rule.refusal) ∙ e in cc) | false ↦ λ is e. (is, unbroken all cdb value of errs e) ]) refl h

-- where no rule is broken, length and direction are the command's own
pass_own : (cdb : List ℕ) → fault_in (pass_says cdb) ≡ None → WritesItsOwn (commands.Pass cdb)
unfolding pass_says
pass_own cdb h =
    let good = unbroken (rules (form_of cdb)) cdb (pass_in (form_of cdb) cdb) fault_in (λ why. refl) h in
    writes_none (command_in (pass_of cdb).regs) (pass_of cdb) good.1.1.1.1.1.0 good.1.1.1.1.1.1.0

-- a command whose fields are good
pub fields_own : (c : Command) → (asks c).fields_fault ≡ None → WritesItsOwn c
fields_own (commands.Pass cdb) h = pass_own cdb h
fields_own _ h = tt
