-- What ATA PASS-THROUGH says, and which values it is refused for, in their order (SAT-3 12.2; the refusals: profile).
use Rattle.std.specs.Prelude.{ℕ, ◌*◌, ◌==◌, ◌&&◌, ◌≤◌, ◌<◌, ◌^◌, not, Bool, List, [], ◌∷◌, Result, IsFalse, if◌then◌else◌}
use Rattle.satl_base.specs.Limits.{longest_data}
use Rattle.satl_base.specs.Lists.{is_in}
use Rattle.satl_cdb.specs.declared.command.Illegal.{Illegal}
use Rattle.satl_cdb.specs.Rows.{Rule, at, is, is_above, is_none_of, unless_broken}
use Rattle.satl_regs.specs.declared.values.AtaCommand.{AtaCommand}
use Rattle.satl_regs.specs.Commands.{command_in}
use Rattle.satl_regs.specs.Effects.{own_blocks}
use Rattle.satl_regs.specs.QueuedCommands.{queued_codes}
use Rattle.satl_pass.specs.declared.pass.Pass.{Pass}
use Rattle.satl_pass.specs.Fields.{PassForm, form_of, pass_in, protocol, t_length, transfer_length}
use Rattle.satl_pass.specs.Transfers.{protocols, own_protocols, is_writing, is_other}

-- a queued command: the layer keeps the queue for itself
abbrev pub is_queued : Pass → Bool
is_queued pass = is_in pass.regs.command queued_codes

-- a protocol that does not carry the command
abbrev pub has_other_protocol : AtaCommand → Pass → Bool
has_other_protocol command pass = not (is_in pass.protocol (own_protocols command))

-- a length that is not the command's
abbrev pub has_other_length : AtaCommand → Pass → Bool
has_other_length command pass = not (is_other command) && not (pass.length == 512 * own_blocks command)

-- data that go the other way than the command's
abbrev pub has_other_direction : AtaCommand → Pass → Bool
has_other_direction command pass =
    not (is_other command) && not (pass.length == 0) && (if pass.out then not (is_writing command) else is_writing command)

-- the rules of a form, in the order in which they are judged
abbrev pub rules : PassForm → List Rule
rules form =
    at 1 (is_none_of protocols protocol)
    ∷ at 2 (is 3 t_length)
    ∷ at 2 (is_above longest_data (transfer_length form))
    ∷ at form.command_place (λ cdb. is_queued (pass_in form cdb))
    ∷ at 1 (λ cdb. has_other_protocol (command_in (form.registers cdb)) (pass_in form cdb))
    ∷ at 2 (λ cdb. has_other_length (command_in (form.registers cdb)) (pass_in form cdb))
    ∷ at 2 (λ cdb. has_other_direction (command_in (form.registers cdb)) (pass_in form cdb))
    ∷ []

-- what the command says, or the refusal of the first rule that is broken
unfoldable pub pass_says : List ℕ → Result Pass Illegal
pass_says cdb = unless_broken (rules (form_of cdb)) cdb (pass_in (form_of cdb) cdb)

-- what a layer may rely on: it can be run as it stands
pub record CanGoToDrive (pass : Pass) : Type 0 where
  pub length : pass.length ≤ longest_data
  pub lba : pass.regs.lba < 2 ^ 48
  pub not_queued : IsFalse (is_queued pass)
  pub own_length : IsFalse (has_other_length (command_in pass.regs) pass)
  pub own_direction : IsFalse (has_other_direction (command_in pass.regs) pass)
