-- Where WRITE alone changes blocks, what a task brings is what a WRITE of the input brings.
use Rattle.std.proofs.Common.{◌≡◌, sym, ap, ◌∙◌, subst, ℕ, Bool, true, List}
use Rattle.std.specs.Prelude.{◌||◌, Result}
use Rattle.std.specs.List.{list_any}
use Rattle.std.proofs.Math.Bool.{or-true}
use Rattle.satl_base.specs.declared.block.Block.{Block}
use Rattle.satl_base.specs.declared.request.Request.{Request}
use Rattle.satl_base.specs.Lists.{IsIn}
use Rattle.satl_cdb.specs.declared.command.Command.{Command}
use Rattle.satl_cdb.specs.declared.command.Illegal.{Illegal}
use Rattle.satl_cdb.specs.Table.{says}
use Rattle.satl_frame.specs.declared.frames.Frame.{Frame}
use Rattle.satl_direct.specs.Arrival.{Arrival, arrival}
use Rattle.satl_direct.specs.Arrival.Arrival.{answered, attended, overlaps, waits}
use Rattle.satl_direct.specs.Device.{Device, is_called}
use Rattle.satl_laws.specs.ArrivalOrder.{brought, writes_plainly}
use Rattle.satl_laws.proofs.Arriving.{arrival_gets}
use Rattle.satl_laws.proofs.Bringing.{Gets}
use Rattle.satl_laws.proofs.PlainTasks.{none_written}
use Rattle.satl_laws.proofs.Seen.{by_test}
use Rattle.satl_laws.proofs.Transferring.{brings, gives, pair_of}
use Rattle.satl_origins.specs.Origins.{BringsAtArrival, OnlyWritten, OnlyWrittenIsRead, changes_plainly}
use Rattle.satl_origins.proofs.Alike.{pair_at}
use Rattle.satl_origins.proofs.Reading.{nothing_invented_is_read}
use Rattle.satl_origins.proofs.Requested.{Each, by_input}
use Rattle.satl_origins.proofs.Runs.{nothing_invented}

-- what the task of an arrival brings, its request brings
arrival_brings : (a : Arrival) (s : Device) (said : Result Command Illegal) (body : List Block) (n : ℕ) (has : Bool) → Gets n has said body a → writes_plainly said ≡ true
    → (x : ℕ) (block : Block) → BringsAtArrival s a x block → (was : Block) → brought said body x was ≡ block
arrival_brings (answered reply) s said body n has gets plain x block h was = absurd h
arrival_brings (attended reply) s said body n has gets plain x block h was = absurd h
arrival_brings (overlaps reply) s said body n has gets plain x block h was = absurd h
arrival_brings (waits task) s said body n has gets plain x block h was =
    by_test (λ b. brought said body x was ≡ block) (brings task.command)
    (λ yes. let fits = gets.fits (ap (λ q. gives task.command || q) yes ∙ or-true (gives task.command)) in sym (gets.leaves x was) ∙ (pair_of n s task (pair_at x block h.0) fits h.1).leaves_it was)
    (λ no. absurd (subst (IsIn (pair_at x block h.0)) (none_written task.command s task (subst (λ k. writes_plainly k ≡ true) gets.says_it plain) no) h.1))

-- what a WRITE of the input brings
abbrev WriteBrings : Bool → Request → ℕ → Block → Type 0
WriteBrings trim r x block = (was : Block) → brought (says r.cdb trim) r.body x was ≡ block

module _ (first : Device) where
  abbrev IsPlain : Frame → Type 0
  IsPlain f = changes_plainly first.identity.trim f ≡ true

  -- what comes is brought by its WRITE
  plain_each : Each first IsPlain (WriteBrings first.identity.trim)
  plain_each r s alike plain x block h was =
      let same : first.identity.trim ≡ s.identity.trim = ap (λ i. i.trim) (sym alike.identity) in
      let here : writes_plainly (says r.cdb s.identity.trim) ≡ true = subst (λ b. writes_plainly (says r.cdb b) ≡ true) same plain in
      ap (λ b. brought (says r.cdb b) r.body x was) same
      ∙ arrival_brings (arrival s r) s (says r.cdb s.identity.trim) r.body s.identity.capacity (list_any (is_called r.nexus (r.tag).0) s.tasks) (arrival_gets s r here) here x block h was

-- the laws of origins by WRITEs
pub only_written : OnlyWritten
only_written first last all groups losses deep run x block valid plain there =
    by_input first (IsPlain first) (WriteBrings first.identity.trim) (plain_each first) valid run plain x block (nothing_invented first last all groups losses deep run x block valid there)

pub only_written_is_read : OnlyWrittenIsRead
only_written_is_read first last all groups losses deep run x block valid plain free read =
    by_input first (IsPlain first) (WriteBrings first.identity.trim) (plain_each first) valid run plain x block (nothing_invented_is_read first last all groups losses deep run x block valid free read)
