-- A READ that shows one of the blocks that a sector may have, or none.
use Rattle.std.proofs.Common.{◌≡◌, refl, sym, ap, ◌∙◌, ℕ, Bool, true, false, List, [], ◌∷◌, map, Option, Some, None}
use Rattle.std.specs.Prelude.{◌||◌, if◌then◌else◌, is_some, nat_eq}
use Rattle.std.specs.Cmp.Lexicographic.{pointwise}
use Rattle.std.specs.List.{list_any}
use Rattle.satl_base.specs.declared.block.Block.{Block}
use Rattle.satl_audit.specs.declared.content.Content.{Content}
use Rattle.satl_audit.specs.Kept.{Keeping, block_of, known_sector, or_alone}
use Rattle.satl_audit.specs.Sectors.{KnownSector, sector_show}
use Rattle.satl_audit.proofs.GuessLists.{bytes_same}

-- whether bytes are those of a content
abbrev pub shows_as : List ℕ → List ℕ → Content → Bool
shows_as input given c = pointwise nat_eq given (block_of input c).bytes

any_block : (input given : List ℕ) (cs : List Content) → list_any (λ (w : Block). pointwise nat_eq given w.bytes) (map (block_of input) cs) ≡ list_any (shows_as input given) cs
any_block input given [] = refl
any_block input given (c ∷ cs) = ap (λ (b : Bool). shows_as input given c || b) (any_block input given cs)

-- a sector whose block is not known
unknown : (k : Keeping) (now : Option Content) (items : List Content) → k ≡ record { now = now; may = or_alone now items } → now ≡ None → k ≡ record { now = None; may = items }
unknown k now items is none = is ∙ ap (λ (n : Option Content). record { now = n; may = or_alone n items }) none ∙ ap (λ (cs : List Content). record { now = None; may = cs }) (listed items)
  where
    listed : (cs : List Content) → or_alone None cs ≡ cs
    listed [] = refl
    listed (c ∷ cs) = refl

shown : (input given : List ℕ) (k : Keeping) (now : Option Content) (items : List Content) (b : Bool) → k ≡ record { now = now; may = or_alone now items } → now ≡ None → list_any (shows_as input given) items ≡ b →
    sector_show (record { bytes = given }) (known_sector input k) ≡ (if b then Some (record { now = Some (record { bytes = given }); may = record { bytes = given } ∷ [] }) else None)
shown input given k now items b is none any =
    ap (λ (x : Keeping). sector_show (record { bytes = given }) (known_sector input x)) (unknown k now items is none)
    ∙ ap (λ (t : Bool). if t then Some (record { now = Some (record { bytes = given }); may = record { bytes = given } ∷ [] }) else None) (any_block input given items ∙ any)

pub shows_none : (input given : List ℕ) (k : Keeping) (now : Option Content) (items : List Content) → k ≡ record { now = now; may = or_alone now items } → now ≡ None → list_any (shows_as input given) items ≡ false →
    is_some (sector_show (record { bytes = given }) (known_sector input k)) ≡ false
shows_none input given k now items is none any = ap (λ (o : Option KnownSector). is_some o) (shown input given k now items false is none any)

pub shows_some : (input given : List ℕ) (k : Keeping) (now : Option Content) (items : List Content) (c : Content) → k ≡ record { now = now; may = or_alone now items } → now ≡ None →
    list_any (shows_as input given) items ≡ true → shows_as input given c ≡ true → sector_show (record { bytes = given }) (known_sector input k) ≡ Some (known_sector input (record { now = Some c; may = c ∷ [] }))
shows_some input given k now items c is none any same =
    let block : ◌≡◌ {A = Block} (record { bytes = given }) (block_of input c) = ap (λ (bs : List ℕ). record { bytes = bs }) (sym (bytes_same (block_of input c).bytes given same)) in
    shown input given k now items true is none any ∙ ap (λ (v : Block). Some (record { now = Some v; may = v ∷ [] })) block
