-- Tasks that go without an answer (SAM-5 7; SAM-5, overlapped commands).
use Rattle.std.specs.Prelude.{◌≡◌, not, Bool, true, false, List, filter}
use Rattle.std.specs.List.{AllByRecursion}
use Rattle.satl_line.specs.declared.entry.Entry.{Entry}
use Rattle.satl_line.specs.Tasks.{Held}
use Rattle.satl_flight.specs.declared.flight.Flying.{Flying}
use Rattle.satl_flight.specs.Flown.{is_outstanding}
use Rattle.satl_direct.specs.Device.{is_called, is_of}
use Rattle.satl_core.specs.declared.leaving.Scope.{Scope}
use Rattle.satl_core.specs.declared.leaving.Scope.TheVariants as scopes

-- whether a task is that of a name, or of a nexus, or one of all, or of none (SAM-5 7)
abbrev pub is_within : Scope → Entry → Bool
is_within (scopes.OneTask nexus tag) t = is_called nexus tag.0 t
is_within (scopes.OfNexus nexus) t = is_of nexus t
is_within scopes.All t = true
is_within scopes.Nothing t = false

-- the tasks that stay where those that pass a test go (SAM-5 7)
abbrev pub left_by : (Entry → Bool) → List Held → List Held
left_by goes tasks = filter (λ h. not (goes h.entry)) tasks

-- none of those that pass a test is outstanding (profile)
abbrev pub AreWaiting : (Entry → Bool) → List Flying → List Held → Type 0
AreWaiting goes flying tasks = AllByRecursion (λ h. goes h.entry ≡ true → is_outstanding flying h.slot ≡ false) tasks
