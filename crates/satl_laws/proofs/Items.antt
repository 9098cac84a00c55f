-- The requests of an input, each a task that waits or settled, and what a sector holds by them.
use Rattle.std.proofs.Common.{◌≡◌, refl, ap, ◌∙◌, subst, ℕ, Bool, true, false, List, [], ◌∷◌, ◌++◌, Option, Some, None}
use Rattle.std.specs.Prelude.{if◌then◌else◌, ◌&&◌, ◌||◌, Ok}
use Rattle.satl_base.specs.declared.block.Block.{Block}
use Rattle.satl_base.specs.declared.request.Request.{Request}
use Rattle.satl_cdb.specs.Table.{says}
use Rattle.satl_line.specs.declared.entry.Entry.{Entry}
use Rattle.satl_laws.specs.ArrivalOrder.{brought, writes_plainly}
use Rattle.satl_laws.proofs.Transferring.{Transfers, after, brings, gives, spans}

-- a request, the task that it is while it waits, and on which sectors it has acted
pub record Item : Type 0 where
  pub request : Request
  pub task : Option Entry
  pub acted : ℕ → Bool

-- one more task, if it waits
abbrev pub before_all : Option Entry → List Entry → List Entry
before_all None tasks = tasks
before_all (Some t) tasks = t ∷ tasks

-- the tasks that wait
abbrev pub waiting : List Item → List Entry
waiting [] = []
waiting (i ∷ is) = before_all i.task (waiting is)

-- whether a task that waits reads or writes a sector
abbrev pub covers : Option Entry → ℕ → Bool
covers None x = false
covers (Some t) x = (gives t.command || brings t.command) && spans t.command x

-- whether one that waits is still to write it
abbrev pub is_to_write : Option Entry → ℕ → Bool
is_to_write None x = false
is_to_write (Some t) x = brings t.command && spans t.command x

pub waiting-append : (xs ys : List Item) → waiting (xs ++ ys) ≡ waiting xs ++ waiting ys
waiting-append [] ys = refl
waiting-append (i ∷ is) ys = one i.task (waiting (is ++ ys)) (waiting is) (waiting ys) (waiting-append is ys)
  where
    one : (o : Option Entry) (all bs cs : List Entry) → all ≡ bs ++ cs → before_all o all ≡ before_all o bs ++ cs
    one None all bs cs h = h
    one (Some t) all bs cs h = ap (λ l. t ∷ l) h

-- a task that waits, by its place
pub record PlaceOf (items : List Item) (before : List Entry) (t : Entry) (later : List Entry) : Type 0 where
  pub front : List Item
  pub item : Item
  pub back : List Item
  pub split : items ≡ front ++ item ∷ back
  pub is : item.task ≡ Some t
  pub fronts : waiting front ≡ before
  pub backs : waiting back ≡ later

pub place_of : (items : List Item) (before : List Entry) (t : Entry) (later : List Entry) → waiting items ≡ before ++ t ∷ later → PlaceOf items before t later
place_of [] [] t later h = absurd cc
place_of [] (b ∷ before) t later h = absurd cc
place_of (i ∷ is) before t later h = of i.task refl before h (λ b k. place_of is b t later k)
  where
    of : (o : Option Entry) → i.task ≡ o → (before : List Entry) → before_all o (waiting is) ≡ before ++ t ∷ later
        → ((b : List Entry) → waiting is ≡ b ++ t ∷ later → PlaceOf is b t later) → PlaceOf (i ∷ is) before t later
    of None none before h next =
        let r = next before h in
        record { front = i ∷ r.front; item = r.item; back = r.back; split = ap (λ l. i ∷ l) r.split; is = r.is; fronts = ap (λ o. before_all o (waiting r.front)) none ∙ r.fronts; backs = r.backs }
    of (Some u) some [] h next =
        let same : u ≡ t = cc in
        record { front = []; item = i; back = is; split = refl; is = subst (λ k. i.task ≡ Some k) same some; fronts = refl; backs = cc }
    of (Some u) some (b ∷ before) h next =
        let same : u ≡ b = cc in
        let rest : waiting is ≡ before ++ t ∷ later = cc in
        let r = next before rest in
        record {
          front = i ∷ r.front;
          item = r.item;
          back = r.back;
          split = ap (λ l. i ∷ l) r.split;
          is = r.is;
          fronts = ap (λ o. before_all o (waiting r.front)) some ∙ ap (λ l. u ∷ l) r.fronts ∙ ap (λ k. k ∷ before) same;
          backs = r.backs;
        }

module _ (trim : Bool) where
  -- what an item leaves in a sector
  abbrev pub left : Item → ℕ → Block → Block
  left i x v = if i.acted x then brought (says i.request.cdb trim) i.request.body x v else v

  -- and many
  abbrev pub held : ℕ → Block → List Item → Block
  held x v [] = v
  held x v (i ∷ is) = held x (left i x v) is

  pub held-append : (x : ℕ) (v : Block) (xs ys : List Item) → held x v (xs ++ ys) ≡ held x (held x v xs) ys
  held-append x v [] ys = refl
  held-append x v (i ∷ is) ys = held-append x (left i x v) is ys

  -- where a task that waits reads or writes the sector, no later request has acted on it
  abbrev pub AreSorted : ℕ → List Item → Type 0
  AreSorted x [] = Unit {0}
  AreSorted x (i ∷ is) = (covers i.task x ≡ true → (v : Block) → held x v is ≡ v) × AreSorted x is

  -- a task that waits is that of its request, which has not acted yet
  pub record Awaits (n : ℕ) (i : Item) (t : Entry) : Type 0 where
    pub idle : (x : ℕ) → i.acted x ≡ false
    pub nexus : t.nexus ≡ i.request.nexus
    pub tag : t.tag ≡ i.request.tag
    pub says_it : says i.request.cdb trim ≡ Ok t.command
    pub leaves : (x : ℕ) (v : Block) → after t x v ≡ brought (says i.request.cdb trim) i.request.body x v
    pub plain : writes_plainly (Ok t.command) ≡ true
    pub fits : gives t.command || brings t.command ≡ true → Transfers n t

  abbrev pub AwaitsIf : ℕ → Item → Option Entry → Type 0
  AwaitsIf n i None = Unit {0}
  AwaitsIf n i (Some t) = Awaits n i t

  pub record IsWell (n : ℕ) (i : Item) : Type 0 where
    pub waits : AwaitsIf n i i.task
