-- What task management functions do to the layer (SAM-5 7; their codes and the order of the tests: profile).
use Rattle.std.specs.Prelude.{ℕ, ◌==◌, ◌&&◌, not, Bool, true, if◌then◌else◌, List, [], Option, Some, None, slice_index_or, slice_set}
use Rattle.std.specs.List.{list_any}
use Rattle.satl_base.specs.declared.request.Manage.{Manage}
use Rattle.satl_base.specs.declared.reply.Response.{Response}
use Rattle.satl_base.specs.declared.reply.Response.TheVariants.{Complete, Rejected, IncorrectLun}
use Rattle.satl_unit.specs.declared.attention.Attention.{Attention}
use Rattle.satl_unit.specs.declared.attention.Attention.TheVariants as attentions
use Rattle.satl_unit.specs.declared.function.Function.{Function}
use Rattle.satl_unit.specs.declared.function.Function.TheVariants.{AbortTask, AbortTaskSet, ClearTaskSet, UnitReset, NexusReset, QueryTask, QueryTaskSet}
use Rattle.satl_unit.specs.Conditions.{posted}
use Rattle.satl_unit.specs.Functions.{function_of}
use Rattle.satl_line.specs.Tasks.{Held, entries_of}
use Rattle.satl_direct.specs.Arrival.{is_unit_0}
use Rattle.satl_direct.specs.Attentions.{post}
use Rattle.satl_direct.specs.Management.{found, has_unit}
use Rattle.satl_core.specs.declared.leaving.Scope.{Scope}
use Rattle.satl_core.specs.declared.leaving.Scope.TheVariants as scopes
use Rattle.satl_core.specs.declared.managing.Effect.{Effect}
use Rattle.satl_core.specs.declared.managing.Posting.{Posting}
use Rattle.satl_core.specs.declared.managing.Posting.TheVariants as postings
use Rattle.satl_core.specs.Leaving.{is_within}

-- ---- what a function does

-- a function that is complete: these tasks go, and this is posted (SAM-5 7.2 to 7.6)
abbrev pub complete : Scope → Option Posting → Effect
complete goes posts = record { goes = goes; posts = posts; response = Complete }

-- nothing but a response (SAM-5 7)
abbrev pub response_alone : Response → Effect
response_alone response = record { goes = scopes.Nothing; posts = None; response = response }

-- the effect of a function that was asked for by a nexus with a tag (SAM-5 7.2 to 7.9)
abbrev pub effect_of : Function → Manage → List Held → Effect
effect_of AbortTask m tasks = complete (scopes.OneTask m.nexus m.tag) None
effect_of AbortTaskSet m tasks = complete (scopes.OfNexus m.nexus) None
effect_of ClearTaskSet m tasks = complete scopes.All (Some (postings.ClearedBy m.nexus))
effect_of UnitReset m tasks = complete scopes.All (Some postings.UnitReset)
effect_of NexusReset m tasks = complete (scopes.OfNexus m.nexus) (Some (postings.NexusLoss m.nexus))
effect_of QueryTask m tasks = response_alone (found (list_any (is_within (scopes.OneTask m.nexus m.tag)) (entries_of tasks)))
effect_of QueryTaskSet m tasks = response_alone (found (list_any (is_within (scopes.OfNexus m.nexus)) (entries_of tasks)))

-- the effect of a function, and that of a code without one (profile)
abbrev pub effect_or_none : Option Function → Manage → List Held → Effect
effect_or_none None m tasks = response_alone Rejected
effect_or_none (Some function) m tasks = effect_of function m tasks

-- another logical unit is judged first, then the function (profile)
abbrev pub effect : Manage → List Held → Effect
effect m tasks =
    if has_unit (function_of m.function) && not (is_unit_0 m.lun) then response_alone IncorrectLun
    else effect_or_none (function_of m.function) m tasks

-- ---- what it posts

-- COMMANDS CLEARED BY ANOTHER INITIATOR, BUS DEVICE RESET FUNCTION OCCURRED, I_T NEXUS LOSS OCCURRED, MODE PARAMETERS CHANGED
-- (SAM-5 7, SPC-4 4.5.6)
abbrev pub condition_of : Posting → Attention
condition_of (postings.ClearedBy asker) = attentions.Cleared
condition_of postings.UnitReset = attentions.UnitReset
condition_of (postings.NexusLoss lost) = attentions.NexusLoss
condition_of (postings.ModesChanged by) = attentions.ModeChanged

-- whether a nexus is told: each other one that has a task, all, the one that was reset, or each other one (SAM-5 7.3 to 7.6;
-- SPC-4, MODE SELECT commands)
abbrev pub is_told : Posting → List Held → ℕ → Bool
is_told (postings.ClearedBy asker) tasks nexus =
    not (nexus == asker) && list_any (is_within (scopes.OfNexus nexus)) (entries_of tasks)
is_told postings.UnitReset tasks nexus = true
is_told (postings.NexusLoss lost) tasks nexus = nexus == lost
is_told (postings.ModesChanged by) tasks nexus = not (nexus == by)

-- the conditions once one nexus has its own, where it is told (SAM-5 5.14)
abbrev pub with_posted : Posting → List Held → ℕ → List (List Attention) → List (List Attention)
with_posted posting tasks nexus attentions =
    if is_told posting tasks nexus
    then slice_set attentions nexus (posted (condition_of posting) (slice_index_or attentions nexus []))
    else attentions

-- the conditions once all that is to be posted is (SAM-5 5.14)
abbrev pub once_posted : Option Posting → List Held → List (List Attention) → List (List Attention)
once_posted None tasks attentions = attentions
once_posted (Some posting) tasks attentions = post (is_told posting tasks) (condition_of posting) attentions
