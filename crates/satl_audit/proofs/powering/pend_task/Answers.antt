use Rattle.std.proofs.Common.{arith, refl, sym, ap, ◌∙◌, ◌++◌, length}
use Rattle.std.specs.Prelude.{◌&&◌, not, slice_get}
use Rattle.std.proofs.lemmas.Result.{on_ok_weaker}
use Rattle.satl_line.specs.declared.entry.Entry.{Entry}
use Rattle.satl_audit.specs.Guesses.{blocks_at}
use Rattle.satl_audit.specs.Kept.{known_sector_at}
use Rattle.satl_audit.specs.Waiting.{Fits, Placed}
use Rattle.satl_audit.proofs.EndWithin.{both_at, write_within}
use Rattle.satl_audit.proofs.NextLemmas.{all_at}
use Rattle.satl_audit.proofs.PendingPlaces.{moved, still}
use Rattle.satl_audit.proofs.PendingLemmas.{placed_of, some_at, write_pairs, writes_none}
use Rattle.satl_audit.proofs.powering.pend_task.Goals as goal

pub returns-then-not-eligible-clause-pends : goal.returns-then-not-eligible-clause-pends
returns-then-not-eligible-clause-pends c = λ identity input.
    let a = some_at c.args.waiting.now c.args.place c.requires.within in
    still identity input c.args.waiting.now c.args.place a.0 _ c.args.sectors.now a.1 (sym c.eligible.ensures ∙ c.if-not-eligible.true) (λ e. absurd cc)

pub pend_blocks-requires-clause-within : goal.pend_blocks-requires-clause-within
pend_blocks-requires-clause-within c =
    let p : Placed = record { entry = c.entry.result.now; at = c.data_at.result } in
    let at = both_at (slice_get c.args.waiting.now c.args.place) c.entry.result.now c.data_at.result c.entry.ensures c.data_at.ensures in
    let f = all_at (Fits (length c.args.sectors.now) c.requires.fit.0) c.args.waiting.now c.args.place p c.requires.fit.2 at in
    (write_within _ _ p f c.in-Write.form c.in-Write.lba c.in-Write.count c.in-Write.fua c.in-Write.is).0

pub pend_blocks-requires-clause-small : goal.pend_blocks-requires-clause-small
pend_blocks-requires-clause-small c =
    let p : Placed = record { entry = c.entry.result.now; at = c.data_at.result } in
    let at = both_at (slice_get c.args.waiting.now c.args.place) c.entry.result.now c.data_at.result c.entry.ensures c.data_at.ensures in
    let f = all_at (Fits (length c.args.sectors.now) c.requires.fit.0) c.args.waiting.now c.args.place p c.requires.fit.2 at in
    let within = (write_within _ _ p f c.in-Write.form c.in-Write.lba c.in-Write.count c.in-Write.fua c.in-Write.is).0 in
    (omega (arith, within, c.requires.capacity))

pub pend_blocks-requires-clause-room : goal.pend_blocks-requires-clause-room
pend_blocks-requires-clause-room c =
    let p : Placed = record { entry = c.entry.result.now; at = c.data_at.result } in
    let at = both_at (slice_get c.args.waiting.now c.args.place) c.entry.result.now c.data_at.result c.entry.ensures c.data_at.ensures in
    let f = all_at (Fits (length c.args.sectors.now) c.requires.fit.0) c.args.waiting.now c.args.place p c.requires.fit.2 at in
    let within = (write_within _ _ p f c.in-Write.form c.in-Write.lba c.in-Write.count c.in-Write.fua c.in-Write.is).1 in
    (omega (arith, within, c.requires.fit.1))

pub returns-in-Write-clause-pends : goal.returns-in-Write-clause-pends
returns-in-Write-clause-pends c = λ identity input.
    let p : Placed = record { entry = c.entry.result.now; at = c.data_at.result } in
    let at = both_at (slice_get c.args.waiting.now c.args.place) c.entry.result.now c.data_at.result c.entry.ensures c.data_at.ensures in
    let f = all_at (Fits (length c.args.sectors.now) c.requires.fit.0) c.args.waiting.now c.args.place p c.requires.fit.2 at in
    on_ok_weaker c.pend_blocks.result
    (λ pends. moved identity input c.args.waiting.now c.args.place p c.args.sectors.now c.pend_blocks.new.sectors at (sym c.eligible.ensures ∙ c.if-not-eligible.false)
    (λ x less. pends (identity.cache && not c.in-Write.fua) x less
    ∙ ap (λ l. (known_sector_at input c.args.sectors.now x).may ++ blocks_at x l) (sym (write_pairs identity input c.args.waiting.now p c.in-Write.form c.in-Write.lba c.in-Write.count c.in-Write.fua c.in-Write.is f.held))))
    (c.pend_blocks.ensures.pends input)

pub returns-in_default : goal.returns-in_default
returns-in_default c = record {
  length = refl;
  pends = λ identity input.
      let a = placed_of (slice_get c.args.waiting.now c.args.place) c.entry.result.now c.entry.ensures in
      let f = all_at (Fits (length c.args.sectors.now) c.requires.fit.0) c.args.waiting.now c.args.place a.placed c.requires.fit.2 a.at in
      still identity input c.args.waiting.now c.args.place a.placed _ c.args.sectors.now a.at (sym c.eligible.ensures ∙ c.if-not-eligible.false)
      (λ _. writes_none identity input c.args.waiting.now _ f.bytes a.placed f.waits (λ form lba count fua e. c.in_default.not-Write form lba count fua (ap (λ (t : Entry). t.command) (sym a.is) ∙ e)));
}
