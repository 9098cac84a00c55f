-- A known command whose range and data-out are good, and the conditions of a nexus.
use Rattle.std.proofs.Common.{arith, ◌≡◌, refl, ◌∙◌, ℕ, ◌+◌, true, false}
use Rattle.std.specs.Prelude.{Option, None, Result, Ok, Err, IfOk, ◌≤◌, if◌then◌else◌, nat_lt}
use Rattle.satl_base.specs.declared.request.Request.{Request}
use Rattle.satl_cdb.specs.declared.command.Command.{Command}
use Rattle.satl_cdb.specs.declared.command.Command.TheVariants as commands
use Rattle.satl_cdb.specs.declared.command.Illegal.{Illegal}
use Rattle.satl_direct.specs.Device.{Device}
use Rattle.satl_direct.specs.Arrival.{Arrival, becomes, check, command_arrival, unless_refused}
use Rattle.satl_direct.specs.Arrival.Arrival.{answered}
use Rattle.satl_direct.specs.Senses.{out_of_range, short_data}
use Rattle.satl_direct.specs.Tasks.{needed, range_of}
use Rattle.satl_cover.specs.Known.{is_known}
use Rattle.satl_audit.specs.Waiting.{IsTransfer, MayWait}

module _ (s : Device) (r : Request) where
  through : (c : Command) (o p : Option Illegal) → o ≡ None → p ≡ None → nat_lt s.identity.capacity ((range_of c).lba + (range_of c).count) ≡ false → nat_lt r.data_len (needed c) ≡ false →
      (if nat_lt s.identity.capacity ((range_of c).lba + (range_of c).count) then answered (check s r out_of_range) else unless_refused o s r (if nat_lt r.data_len (needed c) then answered (check s r short_data) else unless_refused p s r (becomes s r c))) ≡ becomes s r c
  through c o p e f g h = rw (e, f, g, h) refl

  pub passes : (c : Command) (x : Arrival) → is_known (Ok c) ≡ true → nat_lt s.identity.capacity ((range_of c).lba + (range_of c).count) ≡ false → nat_lt r.data_len (needed c) ≡ false → becomes s r c ≡ x → command_arrival s r c ≡ x
  passes commands.TestUnitReady x k g h e = through commands.TestUnitReady None None refl refl g h ∙ e
  passes (commands.Read form lba count fua) x k g h e = through (commands.Read form lba count fua) None None refl refl g h ∙ e
  passes (commands.Write form lba count fua) x k g h e = through (commands.Write form lba count fua) None None refl refl g h ∙ e
  passes (commands.Flush form lba count) x k g h e = through (commands.Flush form lba count) None None refl refl g h ∙ e
  passes _ x k g h e = absurd cc

-- commands that may wait
pub may_wait : (capacity bytes : ℕ) (c : Command) → IsTransfer c → (range_of c).lba + (range_of c).count ≤ capacity → needed c ≤ bytes → MayWait capacity bytes c
may_wait capacity bytes (commands.Read form lba count fua) t le enough = le
may_wait capacity bytes (commands.Write form lba count fua) t le enough = (le, enough)
may_wait capacity bytes (commands.Flush form lba count) t le enough = tt
may_wait capacity bytes _ t le enough = t

pub waits_known : (capacity bytes : ℕ) (c : Command) → MayWait capacity bytes c → (is_known (Ok c) ≡ true) × (needed c ≤ bytes)
waits_known capacity bytes (commands.Read form lba count fua) w = (refl, omega arith)
waits_known capacity bytes (commands.Write form lba count fua) w = (refl, w.1)
waits_known capacity bytes (commands.Flush form lba count) w = (refl, omega arith)
waits_known capacity bytes _ w = absurd w

pub if_ok_both : {T E : Type 0} (r : Result T E) (P Q R : T → Type 0) → IfOk r P → IfOk r Q → ((x : T) → P x → Q x → R x) → IfOk r R
if_ok_both (Ok x) P Q R h g f = f x h g
if_ok_both (Err e) P Q R h g f = tt
