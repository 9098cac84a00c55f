-- What is kept of a task beside it, to be asked before it (profile, all of it).
use Rattle.std.specs.Prelude.{◌≡◌, ℕ, ◌+◌, ◌-◌, ◌^◌, ◌<◌, ◌≤◌, min, Bool, false, not, ◌&&◌, ◌||◌, nat_lt, List, length, map, slice_index_or}
use Rattle.std.specs.List.{AllByRecursion}
use Rattle.satl_base.specs.declared.block.Range.{Range}
use Rattle.satl_base.specs.declared.request.Tag.{Tag}
use Rattle.satl_base.specs.Names.{is_name}
use Rattle.satl_line.specs.declared.entry.Entry.{Entry}
use Rattle.satl_line.specs.declared.outline.Outline.{Outline}
use Rattle.satl_line.specs.declared.outline.Span.{Span}
use Rattle.satl_line.specs.Conflict.{is_alone, is_write}
use Rattle.satl_line.specs.Blank.{no_entry}

-- the range has no block, or it begins and ends within the span; where it goes past the last address of 64 bits, the span ends
-- at that address
abbrev pub LiesIn : Span → Range → Type 0
LiesIn span range = 0 < range.count →
    (span.first ≤ range.lba) × (range.lba ≤ span.last) × (min (range.lba + range.count) (2 ^ 64) ≤ span.last + 1)

-- the second span has all that the first has
pub record Widens (old new : Span) : Type 0 where
  pub first : new.first ≤ old.first
  pub last : old.last ≤ new.last

-- whether some block lies in both spans
abbrev pub spans_meet : Span → Span → Bool
spans_meet a b = not (nat_lt b.last a.first) && not (nat_lt a.last b.first)

-- the outline has the name of the task and its access, and each of its ranges lies in the span
pub record IsOutline (entry : Entry) (outline : Outline) : Type 0 where
  pub nexus : outline.nexus ≡ entry.nexus
  pub tag : outline.tag ≡ entry.tag
  pub alone : outline.alone ≡ is_alone entry.kind entry.ordered
  pub write : outline.write ≡ is_write entry.kind
  pub within : AllByRecursion (LiesIn outline.span) entry.ranges.items
  pub small : outline.span.last < 2 ^ 64

-- what stands for an outline where no task has come yet
abbrev pub no_outline : Outline
no_outline = record {
  nexus = 0;
  tag = record { 0 = 0 };
  alone = false;
  write = false;
  span = record { first = 2 ^ 64 - 1; last = 0 };
}

-- whether it is the outline of a task that stands alone
abbrev pub is_of_alone : Outline → Bool
is_of_alone outline = outline.alone

-- whether it is the outline of a task that writes or stands alone: two tasks of which neither does so do not conflict
abbrev pub is_active : Outline → Bool
is_active outline = outline.alone || outline.write

-- whether one of the two writes, and their spans meet
abbrev pub may_meet : Outline → Outline → Bool
may_meet a b = (a.write || b.write) && spans_meet a.span b.span

-- the outline in a slot
abbrev pub outline_in : List Outline → ℕ → Outline
outline_in outlines slot = slice_index_or outlines slot no_outline

-- the outlines in these slots
abbrev pub outlines_in : List Outline → List ℕ → List Outline
outlines_in outlines order = map (outline_in outlines) order

-- whether it is the outline of a task of this nexus and tag
abbrev pub is_of_name : ℕ → Tag → Outline → Bool
is_of_name nexus tag outline = is_name nexus tag.0 outline.nexus outline.tag.0

-- there are 64 outlines, and the one in each of these slots is that of the task there
pub record AreOutlines (slots : List Entry) (outlines : List Outline) (order : List ℕ) : Type 0 where
  pub room : length outlines ≡ 64
  pub each : AllByRecursion (λ slot. IsOutline (slice_index_or slots slot no_entry) (outline_in outlines slot)) order
