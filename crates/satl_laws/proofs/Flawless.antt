-- Sectors without flaws.
use Rattle.std.proofs.Common.{◌≡◌, refl, ap, ◌∙◌, ℕ, zero, suc, ◌+◌, Bool, false, List, [], ◌∷◌, Some, None, map}
use Rattle.std.specs.Prelude.{get_or, if◌then◌else◌, slice_index_or}
use Rattle.std.specs.List.{AllByRecursion}
use Rattle.satl_base.specs.declared.block.Block.{Block}
use Rattle.satl_base.specs.declared.bench.Which.{Which}
use Rattle.satl_base.specs.declared.bench.Which.TheVariants as flaws
use Rattle.satl_base.specs.Blocks.{no_block}
use Rattle.satl_base.specs.Cells.{Cell, Pair, first_flaw, first_set, has_flaw, put, put_at, whole}
use Rattle.satl_base.specs.Losses.{Loses}
use Rattle.satl_base.specs.Lists.{change_at}
use Rattle.satl_base.proofs.ListsLemmas.{All-weaken}
use Rattle.satl_base.proofs.LossesLemmas.{loses-nows}
use Rattle.satl_laws.specs.ArrivalOrder.{read_at}

-- a sector without flaws
abbrev pub IsClean : Cell → Type 0
IsClean c = (c.read_flaw ≡ false) × (c.write_flaw ≡ false)

-- a put leaves no flaw where there was none
put_clean : (cells : List Cell) (lba : ℕ) (v : Block) (cached : Bool) → AllByRecursion IsClean cells → AllByRecursion IsClean (change_at cells lba (λ c. put c v cached))
put_clean [] lba v cached all = all
put_clean (c ∷ cs) zero v cached all = ((refl, all.0.1), all.1)
put_clean (c ∷ cs) (suc lba) v cached all = (all.0, put_clean cs lba v cached all.1)

pub pair_clean : (cells : List Cell) (p : Pair) → AllByRecursion IsClean cells → AllByRecursion IsClean (put_at cells p)
pair_clean cells p all = put_clean cells p.lba p.block p.cached all

-- nor do many
pub whole_clean : (ps : List Pair) (cells : List Cell) → AllByRecursion IsClean cells → AllByRecursion IsClean (whole cells ps)
whole_clean [] cells all = all
whole_clean (p ∷ ps) cells all = whole_clean ps (put_at cells p) (pair_clean cells p all)

-- nor do losses of entries
pub loses_clean : (a b : List Cell) → Loses a b → AllByRecursion IsClean a → AllByRecursion IsClean b
loses_clean [] [] h all = tt
loses_clean (c ∷ cs) (d ∷ ds) h all = ((h.0.read_flaw ∙ all.0.0, h.0.write_flaw ∙ all.0.1), loses_clean cs ds h.1 all.1)
loses_clean _ _ h all = absurd h

-- which leave what is read
pub loses_seen : (a b : List Cell) (x : ℕ) → Loses a b → read_at b x ≡ read_at a x
loses_seen a b x h = ap (λ blocks. get_or blocks x no_block) (loses-nows a b h)

-- no flag of sectors none of which has it
no_flag : (f : Cell → Bool) (cells : List Cell) (x : ℕ) → AllByRecursion (λ c. f c ≡ false) cells → slice_index_or (map f cells) x false ≡ false
no_flag f [] x all = refl
no_flag f (c ∷ cs) zero all = all.0
no_flag f (c ∷ cs) (suc x) all = no_flag f cs x all.1

none_set : (f : Cell → Bool) (cells : List Cell) (n x : ℕ) → AllByRecursion (λ c. f c ≡ false) cells → first_set (map f cells) x n ≡ None
none_set f cells zero x all = refl
none_set f cells (suc n) x all = ap (λ b. if b then Some x else first_set (map f cells) (x + 1) n) (no_flag f cells x all) ∙ none_set f cells n (x + 1) all

-- no flaw is met
pub no_flaw : (which : Which) (cells : List Cell) (lba count : ℕ) → AllByRecursion IsClean cells → first_flaw which cells lba count ≡ None
no_flaw flaws.Read cells lba count all = none_set (has_flaw flaws.Read) cells count lba (All-weaken IsClean (λ c. c.read_flaw ≡ false) (λ c h. h.0) cells all)
no_flaw flaws.Write cells lba count all = none_set (has_flaw flaws.Write) cells count lba (All-weaken IsClean (λ c. c.write_flaw ≡ false) (λ c h. h.1) cells all)
