-- What a request that changes no block but as a WRITE does becomes when it arrives.
use Rattle.std.proofs.Common.{◌≡◌, refl, sym, ◌∙◌, ℕ, ◌+◌, ◌≤◌, Bool, true, false, [], Option, Some, None, arith, take, eqb-true}
use Rattle.std.specs.Prelude.{◌-◌, if◌then◌else◌, not, ◌==◌, ◌||◌, slice_get, get_or, Result, Ok}
use Rattle.std.specs.List.{list_any}
use Rattle.std.proofs.lemmas.List.{get_or-take, length-take}
use Rattle.satl_base.specs.declared.block.Block.{Block}
use Rattle.satl_base.specs.declared.request.Request.{Request}
use Rattle.satl_base.specs.declared.reply.Reply.{Reply}
use Rattle.satl_cdb.specs.declared.command.Command.{Command}
use Rattle.satl_cdb.specs.declared.command.Command.TheVariants as commands
use Rattle.satl_cdb.specs.declared.command.Illegal.{Illegal}
use Rattle.satl_unit.specs.declared.attention.Attention.{Attention}
use Rattle.satl_direct.specs.Device.{Device, attentions_of, is_called}
use Rattle.satl_direct.specs.Tasks.{is_full, range_of, task_for}
use Rattle.satl_direct.specs.Arrival.{Arrival, becomes, placed, placed_unless, ready_reply, sense_told}
use Rattle.satl_direct.specs.Arrival.Arrival.{waits}
use Rattle.satl_laws.specs.ArrivalOrder.{writes_plainly}
use Rattle.satl_laws.proofs.Cases.{chosen}
use Rattle.satl_laws.proofs.Transferring.{brings, gives}
use Rattle.satl_base.specs.Blocks.{lies_in}
use Rattle.satl_laws.proofs.Seen.{by_test, within_from}
use Rattle.satl_laws.proofs.Bringing.{Answers, Gets, none_brought, refused, silent}

module _ (s : Device) (r : Request) where
  -- how many sectors there are
  abbrev n : ℕ
  n = s.identity.capacity

  -- whether a task has the nexus and tag
  abbrev has : Bool
  has = list_any (is_called r.nexus (r.tag).0) s.tasks

  -- of two arrivals, one that a test chooses
  pub either_gets : (said : Result Command Illegal) (b : Bool) (x y : Arrival) → (b ≡ true → Gets n has said r.body x) → (b ≡ false → Gets n has said r.body y) → Gets n has said r.body (if b then x else y)
  either_gets said b x y p q = by_test (λ t. Gets n has said r.body (if t then x else y)) b p q

  -- TEST UNIT READY has no data
  ready_empty : (ready_reply s r).body ≡ []
  ready_empty = chosen (λ (reply : Reply). reply.body ≡ []) s.down refl (chosen (λ (reply : Reply). reply.body ≡ []) (not s.started) refl refl)

  -- a READ of no block
  idle_read : (form : _) (lba count : ℕ) (fua : Bool) → count ≡ 0 → Answers (Ok (commands.Read form lba count fua)) r.body (ready_reply s r)
  idle_read form lba count fua none = record { writes_none = λ good x v. refl; reads_none = λ good from number is. (sym is.1 ∙ none, ready_empty) }

  -- a WRITE of no block
  idle_write : (form : _) (lba count : ℕ) (fua : Bool) → count ≡ 0 → Answers (Ok (commands.Write form lba count fua)) r.body (ready_reply s r)
  idle_write form lba count fua none = record {
    writes_none = λ good x v. by_test (λ b. (if b then get_or r.body (x - lba) v else v) ≡ v) (lies_in lba count x)
        (λ t. absurd (let k = within_from lba count x t in omega (arith, k.0, k.1, none)))
        (λ f. refl);
    reads_none = λ good from number is. absurd is;
  }

  -- the first blocks of the data-out are those of the range
  first_blocks : (lba count x : ℕ) (v : Block) → (if lies_in lba count x then get_or (take count r.body) (x - lba) v else v) ≡ (if lies_in lba count x then get_or r.body (x - lba) v else v)
  first_blocks lba count x v =
      by_test (λ b. (if b then get_or (take count r.body) (x - lba) v else v) ≡ (if b then get_or r.body (x - lba) v else v)) (lies_in lba count x)
      (λ t. let k = within_from lba count x t in get_or-take count r.body (x - lba) v (omega (arith, k.0, k.1)))
      (λ f. refl)

  -- a command that makes a task where the set has room
  placed_gets : (c : Command) → Gets n has (Ok c) r.body (waits (task_for s.identity.queued_trim r c)) → Gets n has (Ok c) r.body (placed s r c)
  placed_gets c task = either_gets (Ok c) (is_full s.tasks c) _ _ (λ full. refused _ r.body _ refl) (λ room. task)

  -- a READ or a WRITE in range
  read_gets : (form : _) (lba count : ℕ) (fua : Bool) → lba + count ≤ n → Gets n has (Ok (commands.Read form lba count fua)) r.body (becomes s r (commands.Read form lba count fua))
  read_gets form lba count fua inside =
      either_gets (Ok (commands.Read form lba count fua)) (count == 0) _ _
      (λ none. idle_read form lba count fua (eqb-true count 0 none))
      (λ some. placed_gets (commands.Read form lba count fua) (record {
        says_it = refl;
        fits = λ h. record { either = refl; kind = refl; ranges = refl; inside = inside; fits = omega arith };
        leaves = λ x v. refl;
      }))

  write_gets : (form : _) (lba count : ℕ) (fua : Bool) → lba + count ≤ n → Gets n has (Ok (commands.Write form lba count fua)) r.body (becomes s r (commands.Write form lba count fua))
  write_gets form lba count fua inside =
      either_gets (Ok (commands.Write form lba count fua)) (count == 0) _ _
      (λ none. idle_write form lba count fua (eqb-true count 0 none))
      (λ some. placed_gets (commands.Write form lba count fua) (record {
        says_it = refl;
        fits = λ h. record { either = refl; kind = refl; ranges = refl; inside = inside; fits = omega (arith, length-take count r.body) };
        leaves = λ x v. first_blocks lba count x v;
      }))

  -- another command that makes a task
  other_gets : (c : Command) → gives c || brings c ≡ false → Gets n has (Ok c) r.body (placed s r c)
  other_gets c h =
      placed_gets c (record {
        says_it = refl;
        fits = λ some. absurd (let no : true ≡ false = sym some ∙ h in cc);
        leaves = λ x v. none_brought c h (task_for s.identity.queued_trim r c).body x v ∙ sym (none_brought c h r.body x v);
      })

  unless_idle : (c : Command) (idle : Bool) → gives c || brings c ≡ false → Gets n has (Ok c) r.body (placed_unless idle s r c)
  unless_idle c idle h = either_gets (Ok c) idle _ _ (λ none. silent c h r.body _) (λ some. other_gets c h)

  -- REQUEST SENSE tells the first condition, if there is one
  sense_gets : (o : Option Attention) (descriptor : Bool) (alloc : ℕ) → Gets n has (Ok (commands.RequestSense descriptor alloc)) r.body (sense_told o r descriptor alloc)
  sense_gets None descriptor alloc = silent _ refl r.body _
  sense_gets (Some what) descriptor alloc = silent _ refl r.body _

  pub becomes_gets : (c : Command) → writes_plainly (Ok c) ≡ true → (range_of c).lba + (range_of c).count ≤ n → Gets n has (Ok c) r.body (becomes s r c)
  becomes_gets (commands.RequestSense descriptor alloc) h inside = sense_gets (slice_get (attentions_of r.nexus s) 0) descriptor alloc
  becomes_gets (commands.ModeSelect ten size) h inside = unless_idle (commands.ModeSelect ten size) (size == 0) refl
  becomes_gets (commands.StartStop start no_flush) h inside = other_gets (commands.StartStop start no_flush) refl
  becomes_gets (commands.Read form lba count fua) h inside = read_gets form lba count fua inside
  becomes_gets (commands.Write form lba count fua) h inside = write_gets form lba count fua inside
  becomes_gets (commands.Verify form lba count compare) h inside = unless_idle (commands.Verify form lba count compare) (count == 0) refl
  becomes_gets (commands.Flush form lba count) h inside = other_gets (commands.Flush form lba count) refl
  becomes_gets (commands.WriteSame form lba count unmap) h inside = absurd cc
  becomes_gets (commands.Unmap size) h inside = absurd cc
  becomes_gets (commands.Pass cdb) h inside = absurd cc
  becomes_gets _ h inside = silent _ refl r.body _
