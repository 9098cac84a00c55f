-- What pending WRITEs may have left, place by place.
use Rattle.std.proofs.Common.{arith, ◌≡◌, refl, sym, ap, ◌∙◌, ℕ, zero, suc, ◌+◌, Bool, true, false, List, [], ◌∷◌, ◌++◌, length, take, drop, append_assoc}
use Rattle.std.specs.Prelude.{◌<◌, ◌≤◌, ◌==◌, ◌||◌, filter, if◌then◌else◌, not, Option, Some, slice_get, unwrap_or}
use Rattle.std.specs.List.{list_any}
use Rattle.std.specs.Option.{option_map}
use Rattle.std.proofs.lemmas.List.{length-map, drop_all}
use Rattle.satl_base.specs.declared.block.Block.{Block}
use Rattle.satl_base.specs.Cells.{Pair}
use Rattle.satl_identify.specs.declared.identity.Identity.{Identity}
use Rattle.satl_line.specs.declared.entry.Entry.{Entry}
use Rattle.satl_line.specs.Conflict.{conflicts}
use Rattle.satl_line.specs.Eligible.{eligible_at, is_clear_by}
use Rattle.satl_direct.specs.Device.{Device}
use Rattle.satl_direct.specs.Quiet.{writes}
use Rattle.satl_direct.specs.Run.{eligibles}
use Rattle.satl_audit.specs.Arriving.{device_without_sectors}
use Rattle.satl_audit.specs.Guesses.{blocks_at}
use Rattle.satl_audit.specs.Kept.{Keeping, known_sector_at}
use Rattle.satl_audit.specs.Powering.{PendsUpTo, picks, shown_from}
use Rattle.satl_audit.specs.Skeleton.{pairs_of_tasks, pairs_shown}
use Rattle.satl_audit.specs.Waiting.{Placed, device_tasks, entries_in, task_in}
use Rattle.satl_audit.proofs.NextLemmas.{eligible_same}

blocks-append : (x : ℕ) (ps qs : List Pair) → blocks_at x (ps ++ qs) ≡ blocks_at x ps ++ blocks_at x qs
blocks-append x [] qs = refl
blocks-append x (p ∷ ps) qs = by (p.lba == x) (blocks-append x ps qs)
  where
    by : (b : Bool) → blocks_at x (ps ++ qs) ≡ blocks_at x ps ++ blocks_at x qs → (if b then p.block ∷ blocks_at x (ps ++ qs) else blocks_at x (ps ++ qs)) ≡ (if b then p.block ∷ blocks_at x ps else blocks_at x ps) ++ blocks_at x qs
    by true rest = ap (λ (l : List Block). p.block ∷ l) rest
    by false rest = rest

-- ---- eligible tasks by their places

dropped : (n : ℕ) (ts us : List Entry) (u : Entry) → u ∷ us ≡ drop n ts → (slice_get ts n ≡ Some u) × (us ≡ drop (suc n) ts)
dropped zero [] us u h = absurd cc
dropped zero (t ∷ ts) us u h =
    let head : u ≡ t = cc in
    let tail : us ≡ ts = cc in
    (ap (λ (x : Entry). Some x) (sym head), tail)
dropped (suc n) [] us u h = absurd cc
dropped (suc n) (t ∷ ts) us u h = dropped n ts us u h

clear_at : (ts : List Entry) (n : ℕ) (u : Entry) → slice_get ts n ≡ Some u → eligible_at ts n ≡ is_clear_by conflicts (take n ts) u
clear_at ts n u h = ap (λ (o : Option Entry). unwrap_or (option_map (is_clear_by conflicts (take n ts)) o) false) h

later_picks : (t : Entry) (ts : List Entry) (n : ℕ) (us : List Entry) → us ≡ drop n ts → picks (eligible_at (t ∷ ts)) (suc n) us ≡ filter (λ u. not (conflicts t u)) (picks (eligible_at ts) n us)
later_picks t ts n [] h = refl
later_picks t ts n (u ∷ us) h =
    let d = dropped n ts us u h in
    ap (λ (b : Bool). if b then u ∷ picks (eligible_at (t ∷ ts)) (suc (suc n)) us else picks (eligible_at (t ∷ ts)) (suc (suc n)) us) (clear_at (t ∷ ts) (suc n) u d.0)
    ∙ by (conflicts t u) (list_any (λ o. conflicts o u) (take n ts)) refl (later_picks t ts (suc n) us d.1)
    ∙ sym (ap (λ (b : Bool). filter (λ v. not (conflicts t v)) (if b then u ∷ picks (eligible_at ts) (suc n) us else picks (eligible_at ts) (suc n) us)) (clear_at ts n u d.0))
  where
    by : (c e : Bool) → conflicts t u ≡ c → picks (eligible_at (t ∷ ts)) (suc (suc n)) us ≡ filter (λ v. not (conflicts t v)) (picks (eligible_at ts) (suc n) us) →
        (if not (c || e) then u ∷ picks (eligible_at (t ∷ ts)) (suc (suc n)) us else picks (eligible_at (t ∷ ts)) (suc (suc n)) us)
        ≡ filter (λ v. not (conflicts t v)) (if not e then u ∷ picks (eligible_at ts) (suc n) us else picks (eligible_at ts) (suc n) us)
    by true true is rest = rest
    by true false is rest = rest ∙ sym (ap (λ (b : Bool). if not b then u ∷ filter (λ v. not (conflicts t v)) (picks (eligible_at ts) (suc n) us) else filter (λ v. not (conflicts t v)) (picks (eligible_at ts) (suc n) us)) is)
    by false true is rest = rest
    by false false is rest = ap (λ (l : List Entry). u ∷ l) rest ∙ sym (ap (λ (b : Bool). if not b then u ∷ filter (λ v. not (conflicts t v)) (picks (eligible_at ts) (suc n) us) else filter (λ v. not (conflicts t v)) (picks (eligible_at ts) (suc n) us)) is)

eligibles_are : (ts : List Entry) → eligibles ts ≡ picks (eligible_at ts) 0 ts
eligibles_are [] = refl
eligibles_are (t ∷ ts) = ap (λ (l : List Entry). t ∷ l) (ap (filter (λ u. not (conflicts t u))) (eligibles_are ts) ∙ sym (later_picks t ts 0 ts refl))

picks_same : (f g : ℕ → Bool) → ((n : ℕ) → f n ≡ g n) → (n : ℕ) (ts : List Entry) → picks f n ts ≡ picks g n ts
picks_same f g same n [] = refl
picks_same f g same n (t ∷ ts) = ap (λ (b : Bool). if b then t ∷ picks f (suc n) ts else picks f (suc n) ts) (same n) ∙ ap (λ (l : List Entry). if g n then t ∷ l else l) (picks_same f g same (suc n) ts)

module _ (identity : Identity) (input : List ℕ) (waiting : List Placed) where
  pub shown_all : pairs_shown (device_without_sectors identity input waiting []) ≡ shown_from identity input waiting 0
  shown_all =
      ap (pairs_of_tasks (device_without_sectors identity input waiting []))
      (eligibles_are (device_tasks input waiting) ∙ picks_same (eligible_at (device_tasks input waiting)) (eligible_at (entries_in waiting)) (eligible_same input waiting) 0 (device_tasks input waiting))

  pub shown_none : (n : ℕ) → length waiting ≤ n → shown_from identity input waiting n ≡ []
  shown_none n le = ap (λ (l : List Entry). pairs_of_tasks (device_without_sectors identity input waiting []) (picks (eligible_at (entries_in waiting)) n l)) (drop_all n (device_tasks input waiting) (omega (arith, le, length-map waiting (task_in input))))

  drop_at : (ps : List Placed) (n : ℕ) (p : Placed) → slice_get ps n ≡ Some p → drop n (device_tasks input ps) ≡ task_in input p ∷ drop (n + 1) (device_tasks input ps)
  drop_at [] n p h = absurd cc
  drop_at (q ∷ ps) zero p h = let same : q ≡ p = cc in ap (λ (x : Placed). task_in input x ∷ device_tasks input ps) same
  drop_at (q ∷ ps) (suc n) p h = drop_at ps n p h ∙ ap (λ k. task_in input p ∷ k) (later n)
    where
      later : (n : ℕ) → drop (n + 1) (device_tasks input ps) ≡ drop (suc n + 1) (device_tasks input (q ∷ ps))
      later n = let e : suc n + 1 ≡ suc (n + 1) = omega arith in sym (ap (λ k. drop k (device_tasks input (q ∷ ps))) e)

  step_of : (b : Bool) (n : ℕ) (p : Placed) → slice_get waiting n ≡ Some p → eligible_at (entries_in waiting) n ≡ b →
      shown_from identity input waiting n ≡ (if b then writes (device_without_sectors identity input waiting []) (task_in input p) ++ shown_from identity input waiting (n + 1) else shown_from identity input waiting (n + 1))
  step_of b n p at is =
      let next : suc n ≡ n + 1 = omega arith in
      ap (λ (l : List Entry). pairs_of_tasks d (picks (eligible_at (entries_in waiting)) n l)) (drop_at waiting n p at)
      ∙ ap (λ (c : Bool). pairs_of_tasks d (if c then task_in input p ∷ picks (eligible_at (entries_in waiting)) (suc n) rest else picks (eligible_at (entries_in waiting)) (suc n) rest)) is
      ∙ ap (λ k. pairs_of_tasks d (if b then task_in input p ∷ picks (eligible_at (entries_in waiting)) k rest else picks (eligible_at (entries_in waiting)) k rest)) next
      ∙ either b
    where
      d : Device
      d = device_without_sectors identity input waiting []

      rest : List Entry
      rest = drop (n + 1) (device_tasks input waiting)

      either : (c : Bool) → pairs_of_tasks d (if c then task_in input p ∷ picks (eligible_at (entries_in waiting)) (n + 1) rest else picks (eligible_at (entries_in waiting)) (n + 1) rest) ≡ (if c then writes d (task_in input p) ++ shown_from identity input waiting (n + 1) else shown_from identity input waiting (n + 1))
      either true = refl
      either false = refl

  -- a task that is not eligible, or writes nothing
  pub still : (n : ℕ) (p : Placed) (b : Bool) (ks : List Keeping) → slice_get waiting n ≡ Some p → eligible_at (entries_in waiting) n ≡ b → (b ≡ true → writes (device_without_sectors identity input waiting []) (task_in input p) ≡ []) → PendsUpTo input (shown_from identity input waiting n) (shown_from identity input waiting (n + 1)) ks ks
  still n p false ks at is none = λ x less. ap (λ l. (known_sector_at input ks x).may ++ blocks_at x l) (step_of false n p at is)
  still n p true ks at is none = λ x less. ap (λ l. (known_sector_at input ks x).may ++ blocks_at x l) (step_of true n p at is ∙ ap (λ l. l ++ shown_from identity input waiting (n + 1)) (none refl))

  -- a WRITE that is eligible
  pub moved : (n : ℕ) (p : Placed) (ks ms : List Keeping) → slice_get waiting n ≡ Some p → eligible_at (entries_in waiting) n ≡ true →
      ((x : ℕ) → x < length ks → (known_sector_at input ms x).may ≡ (known_sector_at input ks x).may ++ blocks_at x (writes (device_without_sectors identity input waiting []) (task_in input p))) → PendsUpTo input (shown_from identity input waiting n) (shown_from identity input waiting (n + 1)) ks ms
  moved n p ks ms at is h = λ x less.
      ap (λ l. (known_sector_at input ks x).may ++ blocks_at x l) (step_of true n p at is)
      ∙ ap (λ l. (known_sector_at input ks x).may ++ l) (blocks-append x (writes (device_without_sectors identity input waiting []) (task_in input p)) (shown_from identity input waiting (n + 1)))
      ∙ sym (append_assoc (known_sector_at input ks x).may (blocks_at x (writes (device_without_sectors identity input waiting []) (task_in input p))) (blocks_at x (shown_from identity input waiting (n + 1))))
      ∙ ap (λ l. l ++ blocks_at x (shown_from identity input waiting (n + 1))) (sym (h x less))
