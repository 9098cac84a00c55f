-- The requests of an input, as items with their names.
use Rattle.std.proofs.Common.{◌≡◌, refl, sym, ap, ◌∙◌, ℕ, ◌+◌, ◌<◌, Bool, true, false, List, [], ◌∷◌, ◌++◌, map, arith, append_assoc}
use Rattle.std.specs.Prelude.{if◌then◌else◌}
use Rattle.std.specs.List.{AllByRecursion}
use Rattle.satl_base.specs.declared.block.Block.{Block}
use Rattle.satl_base.specs.declared.request.Request.{Request}
use Rattle.satl_base.specs.Lists.{how_many}
use Rattle.satl_base.specs.Names.{is_name}
use Rattle.satl_base.proofs.ListsLemmas.{All-in, none_counted}
use Rattle.satl_cdb.specs.Table.{says}
use Rattle.satl_frame.specs.declared.frames.Frame.{Frame}
use Rattle.satl_frame.specs.declared.frames.Frame.TheVariants as frames
use Rattle.satl_laws.specs.ArrivalOrder.{brought, content}
use Rattle.satl_laws.specs.OnceEach.{asks_by}
use Rattle.satl_laws.proofs.Cases.{how_many-append}
use Rattle.satl_laws.proofs.Items.{Item, held, left}
use Rattle.satl_laws.proofs.Names.{none_in, one}

-- the request of an event, if it is one
abbrev pub asked_in : Frame → List Request
asked_in (frames.Request r) = r ∷ []
asked_in _ = []

-- the requests of an input
abbrev pub requests_of : List Frame → List Request
requests_of [] = []
requests_of (event ∷ events) = asked_in event ++ requests_of events

pub requests-append : (events more : List Frame) → requests_of (events ++ more) ≡ requests_of events ++ requests_of more
requests-append [] more = refl
requests-append (event ∷ events) more = ap (λ l. asked_in event ++ l) (requests-append events more) ∙ sym (append_assoc (asked_in event) (requests_of events) (requests_of more))

-- whether a request has this nexus and tag
abbrev pub has_name : ℕ → ℕ → Request → Bool
has_name nexus tag r = is_name nexus tag r.nexus (r.tag).0

-- as often as its events
pub asked_as_often : (nexus tag : ℕ) (events : List Frame) → how_many (has_name nexus tag) (requests_of events) ≡ how_many (asks_by nexus tag) events
asked_as_often nexus tag [] = refl
asked_as_often nexus tag (frames.Request r ∷ events) = ap (λ k. (if has_name nexus tag r then 1 else 0) + k) (asked_as_often nexus tag events)
asked_as_often nexus tag (_ ∷ events) = omega (arith, asked_as_often nexus tag events)

-- a test of what is at the place is a test of the item
pub how_many-map : {X Y : Type 0} (f : X → Y) (p : Y → Bool) (xs : List X) → how_many p (map f xs) ≡ how_many (λ x. p (f x)) xs
how_many-map f p [] = refl
how_many-map f p (x ∷ xs) = ap (λ k. (if p (f x) then 1 else 0) + k) (how_many-map f p xs)

-- where none is counted, none passes
pub none_pass : {X : Type 0} (p : X → Bool) (xs : List X) → how_many p xs ≡ 0 → AllByRecursion (λ x. p x ≡ false) xs
none_pass p xs h = All-in (λ x. p x ≡ false) xs (λ x among. none_in p xs x (none_counted p xs h) among)

-- the others have other names
pub record AreApart {X : Type 0} (p : X → Bool) (front back : List X) : Type 0 where
  pub fronts : AllByRecursion (λ x. p x ≡ false) front
  pub backs : AllByRecursion (λ x. p x ≡ false) back

pub are_apart : {X : Type 0} (p : X → Bool) (front back : List X) (i : X) → p i ≡ true → how_many p (front ++ i ∷ back) < 2 → AreApart p front back
are_apart p front back i is few =
    let self : one (p i) ≡ 1 = ap one is in
    let all = how_many-append p front (i ∷ back) in
    record { fronts = none_pass p front (omega (arith, few, all, self)); backs = none_pass p back (omega (arith, few, all, self)) }

-- an item of the request at a place
pub record PlacedAt (items : List Item) (before : List Request) (r : Request) (after : List Request) : Type 0 where
  pub front : List Item
  pub item : Item
  pub back : List Item
  pub split : items ≡ front ++ item ∷ back
  pub is : item.request ≡ r
  pub fronts : map (λ i. i.request) front ≡ before
  pub backs : map (λ i. i.request) back ≡ after

pub placed_at : (items : List Item) (before : List Request) (r : Request) (after : List Request) → map (λ i. i.request) items ≡ before ++ r ∷ after → PlacedAt items before r after
placed_at (i ∷ is) [] r after h = record { front = []; item = i; back = is; split = refl; is = cc; fronts = refl; backs = cc }
placed_at (i ∷ is) (b ∷ before) r after h =
    let same : i.request ≡ b = cc in
    let rest : map (λ k. k.request) is ≡ before ++ r ∷ after = cc in
    let k = placed_at is before r after rest in
    record {
      front = i ∷ k.front;
      item = k.item;
      back = k.back;
      split = ap (λ l. i ∷ l) k.split;
      is = k.is;
      fronts = ap (λ l. i.request ∷ l) k.fronts ∙ ap (λ q. q ∷ before) same;
      backs = k.backs;
    }
placed_at [] [] r after h = absurd cc
placed_at [] (b ∷ before) r after h = absurd cc

module _ (trim : Bool) (x : ℕ) (acted : Request → Bool) where
  -- a sector's block after requests that have acted
  abbrev content_of : List Request → Block → Block
  content_of [] v = v
  content_of (r ∷ rs) v = content_of rs (if acted r then brought (says r.cdb trim) r.body x v else v)

  -- is that after their events
  content_events : (events : List Frame) (v : Block) → content acted trim x events v ≡ content_of (requests_of events) v
  content_events [] v = refl
  content_events (frames.Request r ∷ events) v = content_events events (if acted r then brought (says r.cdb trim) r.body x v else v)
  content_events (_ ∷ events) v = content_events events v

  content_items : (items : List Item) (v : Block) → AllByRecursion (λ i. acted i.request ≡ i.acted x) items → content_of (map (λ i. i.request) items) v ≡ held trim x v items
  content_items [] v h = refl
  content_items (i ∷ is) v h =
      ap (λ b. content_of (map (λ k. k.request) is) (if b then brought (says i.request.cdb trim) i.request.body x v else v)) h.0 ∙ content_items is (left trim i x v) h.1

  -- and after their items
  pub content_held : (events : List Frame) (items : List Item) (v : Block) → map (λ i. i.request) items ≡ requests_of events → AllByRecursion (λ i. acted i.request ≡ i.acted x) items
      → content acted trim x events v ≡ held trim x v items
  content_held events items v same h = content_events events v ∙ ap (λ l. content_of l v) (sym same) ∙ content_items items v h
