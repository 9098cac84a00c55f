-- The laws of endurance.
use Rattle.std.proofs.Common.{◌≡◌, ⊎_elim, inl, inr, refl, sym, ap, ◌∙◌, subst, ℕ, suc, true, List, [], ◌∷◌, ◌++◌, Some}
use Rattle.std.specs.Prelude.{length, drop, take}
use Rattle.std.specs.List.{AllByRecursion}
use Rattle.satl_base.specs.declared.block.Block.{Block}
use Rattle.satl_base.specs.declared.request.Request.{Request}
use Rattle.satl_base.proofs.ListsLemmas.{All-weaken, in_left, in_right}
use Rattle.satl_frame.specs.declared.frames.Frame.{Frame}
use Rattle.satl_frame.specs.declared.frames.Frame.TheVariants as frames
use Rattle.satl_frame.specs.Output.{Answer}
use Rattle.satl_direct.specs.Device.{Device}
use Rattle.satl_direct.specs.Run.{RunDeep, joined}
use Rattle.satl_direct.specs.Run.RunDeep.{start, next_event}
use Rattle.satl_direct.specs.Valid.{IsValid}
use Rattle.satl_laws.specs.ArrivalOrder.{was_done}
use Rattle.satl_laws.specs.Untouched.{now_at}
use Rattle.satl_laws.proofs.Addresses.{alike_on}
use Rattle.satl_laws.proofs.Coming.{WritesItsOwn}
use Rattle.satl_laws.proofs.Rows.{in_all}
use Rattle.satl_renaming.specs.UsedAgain.{how_many_before, names_are_free}
use Rattle.satl_origins.specs.Origins.{BringsIn, ComesWith, HasOrigin, MayHold, WasRead}
use Rattle.satl_origins.proofs.Reading.{Chain, begun, drop_behind, reached, read_so}
use Rattle.satl_origins.proofs.Runs.{all_own, blocks_alone, first_so, run_so}
use Rattle.satl_origins.proofs.Steps.{TaskSo, quiet_goes}
use Rattle.satl_endurance.specs.Endurance.{FlushedEndures, FlushedIsRead, NoneAsksFor, WasFlushed}
use Rattle.satl_endurance.proofs.Flushing.{brings_none, flushed}
use Rattle.satl_endurance.proofs.Stepping.{After, Anything, OnlyThis, same_now}

-- ---- up to the end of the first run

pub settled_after : {first mid : Device} {earlier : List Frame} {groups : List (List Answer)} {losses deep : ℕ} (run : RunDeep first earlier groups losses mid deep) (x : ℕ)
    → IsValid first → names_are_free run ≡ true → (w : WasFlushed first earlier groups x) → After first w.request x mid
settled_after {first = first} {mid = mid} {earlier = earlier} {groups = groups} run x valid free w =
    let r : Request = w.request in
    let b = begun Anything run (λ y v h. tt) free in
    let q = quiet_goes (blocks_alone Anything) first b.begin b.quiet (first_so Anything first (all_own first valid) (λ y v h. tt)) in
    let m = reached Anything w.before (frames.Request r ∷ w.after) (subst (λ l. Chain Anything b.begin l groups mid) w.input b.chain) q.device in
    let behind : drop (suc (length w.before)) earlier ≡ w.after = ap (drop (suc (length w.before))) w.input ∙ drop_behind w.before (frames.Request r) w.after in
    flushed first r x w.after m.chain (alike_on first b.begin m.mid q.alike m.alike) m.device w.flush w.none_behind
    (subst (λ l. was_done (joined (take (suc (how_many_before r.nexus (r.tag).0 l)) (drop (length w.before) groups))) r ≡ true) behind w.done)

-- ---- from there on

module _ (first : Device) (x : ℕ) (mid : Device) where
  -- a block of the sector is the one that it had
  abbrev pub AsBefore : ℕ → Block → Type 0
  AsBefore = OnlyThis x (now_at mid.cells x)

  module _ (r : Request) (a : After first r x mid) where
    came_with : (y : ℕ) (block : Block) → ComesWith mid y block → AsBefore y block
    came_with y block (inl there) same = (a.device).cells.each y block there same ∙ sym a.now
    came_with y block (inr waits) same =
        (in_all (TaskSo (blocks_alone (OnlyThis x a.block)) mid) mid.tasks waits.0 (a.device).tasks waits.1).brings y block waits.2 same ∙ sym a.now

    own : AllByRecursion (λ t. WritesItsOwn t.command) mid.tasks
    own = All-weaken (TaskSo (blocks_alone (OnlyThis x a.block)) mid) (λ t. WritesItsOwn t.command) (λ t k. k.own) mid.tasks (a.device).tasks

    origins_before : {last : Device} {later : List Frame} {more : List (List Answer)} {others depth : ℕ} (on : RunDeep mid later more others last depth)
        → NoneAsksFor first later x → (y : ℕ) (block : Block) → HasOrigin y block on → AsBefore y block
    origins_before (start quiet) none y block h = came_with y block h
    origins_before (next_event {events = events} {s = s} event now d so_far does) none y block h =
        ⊎_elim
        (λ earlier. origins_before so_far (λ v k. none v (k.0, in_left (frames.Request k.0) events (event ∷ []) k.1, k.2)) y block earlier)
        (λ here same. absurd (brings_none first x (events ++ event ∷ []) none event (in_right event events (event ∷ []) (inl refl)) s
        (alike_on first mid s a.alike (run_so Anything so_far (λ z v k. tt) own).alike) block (subst (λ k. BringsIn event s k block) same here)))
        h

-- the law of endurance
pub flushed_endures : FlushedEndures
flushed_endures first mid last earlier later groups more losses others deep depth run on x valid free w none =
    let a = settled_after run x valid free w in
    let k = run_so (AsBefore first x mid) on (origins_before first x mid w.request a on none) (own first x mid w.request a) in
    let each : (block : Block) → MayHold last.cells x block → Some block ≡ now_at mid.cells x = λ block there. (k.device).cells.each x block there refl in
    record { same = same_now mid.cells last.cells x (k.alike).size each; no_other = each }

-- the law of endurance of what is read
pub flushed_is_read : FlushedIsRead
flushed_is_read first mid last earlier later groups more losses others deep depth run on x block valid free w none free_on read =
    let a = settled_after run x valid free w in
    read_so (AsBefore first x mid) on (origins_before first x mid w.request a on none) (own first x mid w.request a) free_on x block
    (subst (λ i. WasRead i.trim later more x block) (sym (a.alike).identity) read) refl
