-- Task management functions (SAM-5 7; their codes and the order of the tests: profile).
use Rattle.std.specs.Prelude.{◌≡◌, ◌==◌, ◌&&◌, not, Bool, true, false, if◌then◌else◌, List, Option, Some, None, filter}
use Rattle.std.specs.List.{list_any}
use Rattle.satl_base.specs.declared.request.Manage.{Manage}
use Rattle.satl_base.specs.declared.reply.Response.{Response}
use Rattle.satl_base.specs.declared.reply.Response.TheVariants.{Complete, Rejected, Succeeded, IncorrectLun}
use Rattle.satl_unit.specs.declared.attention.Attention.{Attention}
use Rattle.satl_unit.specs.declared.attention.Attention.TheVariants as conditions
use Rattle.satl_unit.specs.declared.function.Function.{Function}
use Rattle.satl_unit.specs.declared.function.Function.TheVariants.{AbortTask, AbortTaskSet, ClearTaskSet, UnitReset, NexusReset, QueryTask, QueryTaskSet}
use Rattle.satl_unit.specs.Functions.{function_of}
use Rattle.satl_line.specs.declared.entry.Entry.{Entry}
use Rattle.satl_direct.specs.Device.{Device, is_called, is_of}
use Rattle.satl_direct.specs.Attentions.{post}
use Rattle.satl_direct.specs.Arrival.{is_unit_0}

-- what a function does: which tasks go, without an answer; the conditions of all nexuses after it; and its response (SAM-5 7)
pub record Effect : Type 0 where
  pub goes : Entry → Bool
  pub attentions : List (List Attention)
  pub response : Response

-- whether there is a task that passes a test, as a response (SAM-5 7.8, 7.9)
abbrev pub found : Bool → Response
found true = Succeeded
found false = Complete

-- the effect of a function that was asked for by a nexus with a tag. ABORT TASK: the task of this nexus and tag goes. ABORT
-- TASK SET: all tasks of the nexus go. CLEAR TASK SET: all tasks go, and COMMANDS CLEARED BY ANOTHER INITIATOR is posted for
-- each other nexus that had one. LOGICAL UNIT RESET: all tasks go, and BUS DEVICE RESET FUNCTION OCCURRED is posted for each
-- nexus; mode values, and whether the unit is started, stay (that they do: profile). I_T NEXUS RESET: all tasks of the nexus
-- go, and I_T NEXUS LOSS OCCURRED is posted for it. These five answer FUNCTION COMPLETE, also where no task went. QUERY TASK
-- and QUERY TASK SET change nothing, and answer FUNCTION SUCCEEDED where there is a task of this nexus and tag, or for QUERY
-- TASK SET any task of the nexus, else FUNCTION COMPLETE (SAM-5 7.2 to 7.9)
abbrev pub effect_of : Function → Manage → Device → Effect
effect_of AbortTask m s = record { goes = is_called m.nexus (m.tag).0; attentions = s.attentions; response = Complete }
effect_of AbortTaskSet m s = record { goes = is_of m.nexus; attentions = s.attentions; response = Complete }
effect_of ClearTaskSet m s = record {
  goes = λ t. true;
  attentions = post (λ nexus. not (nexus == m.nexus) && list_any (is_of nexus) s.tasks) conditions.Cleared s.attentions;
  response = Complete;
}
effect_of UnitReset m s =
    record { goes = λ t. true; attentions = post (λ nexus. true) conditions.UnitReset s.attentions; response = Complete }
effect_of NexusReset m s =
    record {
      goes = is_of m.nexus;
      attentions = post (λ nexus. nexus == m.nexus) conditions.NexusLoss s.attentions;
      response = Complete;
    }
effect_of QueryTask m s =
    record { goes = λ t. false; attentions = s.attentions; response = found (list_any (is_called m.nexus (m.tag).0) s.tasks) }
effect_of QueryTaskSet m s =
    record { goes = λ t. false; attentions = s.attentions; response = found (list_any (is_of m.nexus) s.tasks) }

-- nothing happens but this response (profile)
abbrev pub nothing_but : Response → Device → Effect
nothing_but response s = record { goes = λ t. false; attentions = s.attentions; response = response }

-- whether the LUN of a function is judged: with every code, also an unknown one, but I_T NEXUS RESET, which names no logical
-- unit (SAM-5 7.6; profile)
abbrev pub has_unit : Option Function → Bool
has_unit (Some NexusReset) = false
has_unit _ = true

-- the effect of a function; a code without one has the response FUNCTION REJECTED (SAM-5 7; profile)
abbrev pub effect_or_none : Option Function → Manage → Device → Effect
effect_or_none None m s = nothing_but Rejected s
effect_or_none (Some function) m s = effect_of function m s

-- another logical unit is judged first, then the function (profile)
abbrev pub effect : Manage → Device → Effect
effect m s =
    if has_unit (function_of m.function) && not (is_unit_0 m.lun) then nothing_but IncorrectLun s
    else effect_or_none (function_of m.function) m s

-- a task management function is carried out: the tasks that go have no answer (SAM-5 7)
pub record IsManaged (m : Manage) (s : Device) (response : Response) (new : Device) : Type 0 where
  pub response_is : response ≡ (effect m s).response
  pub stays : new ≡ record s { tasks = filter (λ t. not ((effect m s).goes t)) s.tasks; attentions = (effect m s).attentions }
