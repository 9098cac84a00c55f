-- The names of tasks.
use Rattle.std.specs.Prelude.{ℕ, ◌==◌, ◌&&◌, Bool}

-- whether this nexus and tag are those of a task: its nexus and its tag come last (SAM-5 4.7, I_T_L_Q nexus)
abbrev pub is_name : ℕ → ℕ → ℕ → ℕ → Bool
is_name nexus tag its_nexus its_tag = (its_nexus == nexus) && (its_tag == tag)
