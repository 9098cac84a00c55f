use Rattle.std.proofs.Common.{ap, ◌∙◌, None}
use Rattle.std.specs.Prelude.{if◌then◌else◌, slice_get}
use Rattle.satl_base.specs.Lists.{is_in}
use Rattle.satl_direct.specs.Arrival.{codes_before_attentions}
use Rattle.satl_direct.specs.Device.{attentions_of}
use Rattle.satl_direct.proofs.laws.three_commands_come_before_a_unit_attention.Goals as goal

pub returns-clause-inquiry : goal.returns-clause-inquiry
returns-clause-inquiry c = λ s r is. ap (λ code. if is_in code codes_before_attentions then None else slice_get (attentions_of r.nexus s) 0) is

pub returns-clause-report_luns : goal.returns-clause-report_luns
returns-clause-report_luns c = λ s r is. ap (λ code. if is_in code codes_before_attentions then None else slice_get (attentions_of r.nexus s) 0) is

pub returns-clause-request_sense : goal.returns-clause-request_sense
returns-clause-request_sense c = λ s r is. ap (λ code. if is_in code codes_before_attentions then None else slice_get (attentions_of r.nexus s) 0) is

pub returns-clause-others : goal.returns-clause-others
returns-clause-others c = λ s r what rest other posted.
    ap (λ among. if among then None else slice_get (attentions_of r.nexus s) 0) other ∙ ap (λ conditions. slice_get conditions 0) posted
