-- Which tasks conflict.
use Rattle.std.specs.Prelude.{◌+◌, min, max, Bool, true, false, ◌&&◌, ◌||◌, nat_lt, List}
use Rattle.std.specs.List.{list_any}
use Rattle.satl_base.specs.declared.block.Range.{Range}
use Rattle.satl_line.specs.declared.entry.Kind.{Kind}
use Rattle.satl_line.specs.declared.entry.Kind.TheVariants.{Ranged, Barrier}
use Rattle.satl_line.specs.declared.entry.Entry.{Entry}

-- whether some block lies in both ranges (SBC-3, logical block addresses and transfer lengths)
abbrev pub ranges_meet : Range → Range → Bool
ranges_meet a b = nat_lt (max a.lba b.lba) (min (a.lba + a.count) (b.lba + b.count))

-- whether a range of one meets a range of the other (SBC-3)
abbrev pub any_meet : List Range → List Range → Bool
any_meet ranges others = list_any (λ other. list_any (λ range. ranges_meet range other) ranges) others

-- whether no task may pass it, and it may pass none: a barrier, or ORDERED (SAM-5 8.6, task attributes; profile)
abbrev pub is_alone : Kind → Bool → Bool
is_alone (Ranged write) ordered = ordered
is_alone Barrier ordered = true

-- whether a ranged task writes its ranges (profile)
abbrev pub is_write : Kind → Bool
is_write (Ranged write) = write
is_write Barrier = false

-- how a task goes about the medium, which is all that conflicts turn on (profile)
pub record Access : Type 0 where
  pub alone : Bool
  pub write : Bool
  pub ranges : List Range

-- the access of a task (profile)
abbrev pub access_of : Entry → Access
access_of entry = record { alone = is_alone entry.kind entry.ordered; write = is_write entry.kind; ranges = entry.ranges.items }

-- one of the two is a barrier or ORDERED, or a range of one meets a range of the other and one of them writes (profile)
unfoldable pub accesses_conflict : Access → Access → Bool
accesses_conflict a b = a.alone || b.alone || ((a.write || b.write) && any_meet a.ranges b.ranges)

-- whether two tasks conflict (profile)
abbrev pub conflicts : Entry → Entry → Bool
conflicts a b = accesses_conflict (access_of a) (access_of b)
