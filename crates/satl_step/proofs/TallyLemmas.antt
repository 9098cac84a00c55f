-- What one event counts.
use Rattle.std.proofs.Common.{◌≡◌, refl, sym, ap, subst, ◌∙◌, arith, ℕ, ◌+◌, ◌*◌, ◌≤◌, true, length}
use Rattle.satl_io.specs.Causes.{RoseBy}
use Rattle.satl_frame.specs.declared.frames.Frame.{Frame}
use Rattle.satl_frame.specs.declared.frames.Frame.TheVariants as frames
use Rattle.satl_drive.specs.State.{DriveState}
use Rattle.satl_direct.specs.Run.{depth, losses_in}
use Rattle.satl_direct.specs.Valid.{IsValid}
use Rattle.satl_flight.specs.Flown.{IsInFlight}
use Rattle.satl_flight.specs.Settled.{Deepens}
use Rattle.satl_core.specs.Layer.{IsUsed, Layer, Tied, view}
use Rattle.satl_core.specs.Turning.{turn_calls}
use Rattle.satl_core.proofs.AgreeingLemmas.{agrees_by}
use Rattle.satl_core.proofs.CountedLemmas.{counted_more, counted_same, tasks_seen}
use Rattle.satl_step.specs.Events.{CallsNone, IsTallied, unplugs_behind}
use Rattle.satl_step.specs.Runs.{Stand, calls_of, orders_behind, stand_of}
use Rattle.satl_step.proofs.RunLemmas.{covers_more, covers_same}

-- ---- the layer and free pages

-- the device is the same however many pages are free
pub view_same : (l l' : Layer) (d : DriveState) → l' ≡ record l { free = l'.free; out = l'.out } → view l' d ≡ view l d
view_same l l' d same = ap (λ x. view x d) same

-- the tie does not see pages
pub tied_lent : (l l' : Layer) (d : DriveState) → record l' { free = 0; out = 0 } ≡ record l { free = 0; out = 0 } → Tied l d → Tied l' d
tied_lent l l' d same t = record {
  agrees = agrees_by l l' d d (ap (λ (x : Layer). x.down) same) (ap (λ (x : Layer). x.modes) same) (ap (λ (x : Layer). x.identity) same) (record { down = refl; cache = refl; look = refl; identify = refl })
      (subst (λ (x : Layer). IsInFlight x.flying x.tasks d) (sym same) t.agrees.queue) t.agrees.fit (subst IsValid (sym (ap (λ (x : Layer). view x d) same)) t.agrees.valid) t.agrees;
  used = subst IsUsed (sym same) t.used;
}

-- nor recycled ones
pub tied_same : (l l' : Layer) (d : DriveState) → l' ≡ record l { free = l'.free; out = l'.out } → Tied l d → Tied l' d
tied_same l l' d same t = tied_lent l l' d (ap (λ (x : Layer). record x { free = 0; out = 0 }) same) t

-- recycled pages change no other part of the layer
pub stays_on : (a b c : Layer) (n m : ℕ) → b ≡ record a { free = b.free; out = b.out } → c ≡ record b { free = n; out = m } → c ≡ record a { free = c.free; out = c.out }
stays_on a b c n m p q =
    q ∙ (ap (λ (s : Layer). record s { free = n; out = m }) p
    ∙ (ap (λ x. record a { free = x; out = m }) (sym (ap (λ (l : Layer). l.free) q)) ∙ ap (λ x. record a { free = c.free; out = x }) (sym (ap (λ (l : Layer). l.out) q))))

-- ---- tallies

-- what an event counts, once its replies were told
pub tallied : (event : Frame) (l mid l' : Layer) (d d' : DriveState) (calls calls' : ℕ) → l' ≡ record mid { free = l'.free; out = l'.out } → RoseBy (losses_in event (view l d) (view mid d')) d.faults d'.faults → d'.unplugs ≡ unplugs_behind event d.unplugs → d'.orders ≡ orders_behind event d.orders →
    calls' + turn_calls * length mid.tasks ≤ calls + turn_calls * length l.tasks + calls_of event → (CallsNone event (view l d) → calls' ≡ calls) → Deepens d d' → IsTallied event (stand_of l d calls) (stand_of l' d' calls')
tallied event l mid l' d d' calls calls' stays faults unplugs orders few unasked deep =
    let tasks = ap (λ (x : Layer). length x.tasks) stays in
    record {
      faults = subst (λ s. RoseBy (losses_in event (view l d) s) d.faults d'.faults) (sym (view_same mid l' d' stays)) faults;
      unplugs = unplugs;
      orders = orders;
      calls = omega (arith, few, tasks, tasks_seen l.tasks, tasks_seen l'.tasks);
      uncalled = unasked;
      queue = record { rises = deep.rises; covers = deep.covers };
    }

-- the deepest queue covers what the device lets the drive have, once replies were told
pub depth_covered : (l mid l' : Layer) (d d' : DriveState) → l' ≡ record mid { free = l'.free; out = l'.out } → Deepens d d' → depth (view mid d') ≤ length d'.outstanding → length d.outstanding ≤ d.deepest → depth (view l' d') ≤ d'.deepest
depth_covered l mid l' d d' stays deepens deep covered = let same = ap depth (view_same mid l' d' stays) in omega (arith, deep, same, deepens.covers covered)

-- no turn
pub turns_start : (a : Stand) → IsTallied (frames.Turn 0) a a
turns_start a = record { faults = counted_same a.device a.device _ _ refl refl; unplugs = refl; orders = refl; calls = omega arith; uncalled = λ lost. refl; queue = covers_same a }

-- one turn more
pub turns_on : (n m k : ℕ) (a b c : Stand) → (a.device.down ≡ true → b.device.down ≡ true) → IsTallied (frames.Turn n) a b → IsTallied (frames.Turn m) b c → IsTallied (frames.Turn k) a c
turns_on n m k a b c stays p q = record {
  faults = counted_more a.device b.device c.device _ _ _ p.faults q.faults;
  unplugs = q.unplugs ∙ p.unplugs;
  orders = q.orders ∙ p.orders;
  calls = omega (arith, p.calls, q.calls);
  uncalled = λ lost. q.uncalled (stays lost) ∙ p.uncalled lost;
  queue = covers_more a b c p.queue q.queue;
}

-- turns of END
pub end_tallied : (n : ℕ) (a b : Stand) → IsTallied (frames.Turn n) a b → IsTallied frames.End a b
end_tallied n a b p = record { faults = p.faults; unplugs = p.unplugs; orders = p.orders; calls = p.calls; uncalled = p.uncalled; queue = p.queue }
