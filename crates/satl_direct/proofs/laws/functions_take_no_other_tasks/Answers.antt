use Rattle.std.proofs.Common.{◌≡◌, ap, ◌∙◌, Bool, true, false, Some}
use Rattle.std.specs.Prelude.{◌&&◌, not, if◌then◌else◌, filter}
use Rattle.satl_base.specs.declared.request.Manage.{Manage}
use Rattle.satl_base.specs.declared.reply.Response.{Response}
use Rattle.satl_base.specs.declared.reply.Response.TheVariants.{IncorrectLun}
use Rattle.satl_unit.specs.declared.function.Function.{Function}
use Rattle.satl_unit.specs.declared.function.Function.TheVariants as functions
use Rattle.satl_unit.specs.Functions.{function_of}
use Rattle.satl_direct.specs.Arrival.{is_unit_0}
use Rattle.satl_direct.specs.Device.{Device}
use Rattle.satl_direct.specs.Management.{Effect, IsManaged, effect_of, effect_or_none, has_unit, nothing_but}
use Rattle.satl_direct.proofs.Steps.{filter_all}
use Rattle.satl_direct.proofs.laws.functions_take_no_other_tasks.Goals as goal

-- the device after an effect
abbrev after : Device → Effect → Device
after s e = record s { tasks = filter (λ t. not (e.goes t)) s.tasks; attentions = e.attentions }

-- the device after a function, where the LUN is judged or not
abbrev managed_by : Function → Bool → Manage → Device → Device
managed_by f wrong m s = after s (if has_unit (Some f) && wrong then nothing_but IncorrectLun s else effect_of f m s)

managed_is : (s new : Device) (m : Manage) (response : Response) (f : Function) → function_of m.function ≡ Some f → IsManaged m s response new → new ≡ managed_by f (not (is_unit_0 m.lun)) m s
managed_is s new m response f is managed = managed.stays ∙ ap (λ g. after s (if has_unit g && not (is_unit_0 m.lun) then nothing_but IncorrectLun s else effect_or_none g m s)) is

-- a function that takes no task and posts nothing
queried : (wrong : Bool) (m : Manage) (s : Device) → managed_by functions.QueryTask wrong m s ≡ s
queried true m s = ap (λ tasks. record s { tasks = tasks }) (filter_all s.tasks)
queried false m s = ap (λ tasks. record s { tasks = tasks }) (filter_all s.tasks)

queried_set : (wrong : Bool) (m : Manage) (s : Device) → managed_by functions.QueryTaskSet wrong m s ≡ s
queried_set true m s = ap (λ tasks. record s { tasks = tasks }) (filter_all s.tasks)
queried_set false m s = ap (λ tasks. record s { tasks = tasks }) (filter_all s.tasks)

pub returns-clause-query : goal.returns-clause-query
returns-clause-query c = λ s new m response is managed. managed_is s new m response functions.QueryTask is managed ∙ queried (not (is_unit_0 m.lun)) m s

pub returns-clause-query_set : goal.returns-clause-query_set
returns-clause-query_set c = λ s new m response is managed. managed_is s new m response functions.QueryTaskSet is managed ∙ queried_set (not (is_unit_0 m.lun)) m s

pub returns-clause-abort_one : goal.returns-clause-abort_one
returns-clause-abort_one c = λ s new m response is unit managed.
    ap (λ d. d.tasks) (managed_is s new m response functions.AbortTask is managed) ∙ ap (λ zero. (managed_by functions.AbortTask (not zero) m s).tasks) unit

pub returns-clause-reset : goal.returns-clause-reset
returns-clause-reset c = λ s new m response is managed. ap (λ d. d.tasks) (managed_is s new m response functions.NexusReset is managed)

pub returns-clause-abort : goal.returns-clause-abort
returns-clause-abort c = λ s new m response is unit managed.
    ap (λ d. d.tasks) (managed_is s new m response functions.AbortTaskSet is managed) ∙ ap (λ zero. (managed_by functions.AbortTaskSet (not zero) m s).tasks) unit
