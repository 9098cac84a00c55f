-- The input of the bridge: commands as they stand on the wire, each with the data that is sent with it (USB Mass Storage Class,
-- Bulk-Only Transport 1.0, 5.3).
use Rattle.std.specs.Prelude.{◌≡◌, ◌⊎◌, ℕ, ◌+◌, ◌<◌, ◌≤◌, Bool, false, nat_lt, List, [], ◌∷◌, ◌++◌, length, take, Option, None, Some, IfSome, if◌then◌else◌}
use Rattle.std.specs.List.{flat_map}
use Rattle.satl_io.specs.Known.{Took}
use Rattle.satl_bot.specs.declared.command.Cbw.{Cbw}
use Rattle.satl_bot.specs.Wrappers.{cbw_of}

-- an item: the 31 bytes of a wrapper, what they say, and the data behind them
pub record Item : Type 0 where
  pub head : List ℕ
  pub command : Cbw
  pub body : List ℕ

-- how many bytes the host sends behind a wrapper (5.3)
abbrev pub sent_length : Cbw → ℕ
sent_length c = if c.is_in then 0 else c.length

-- an item is what its bytes say (6.2)
pub record IsItem (i : Item) : Type 0 where
  pub size : length i.head ≡ 31
  pub says : cbw_of i.head ≡ Some i.command
  pub sent : length i.body ≡ sent_length i.command

abbrev pub item_bytes : Item → List ℕ
item_bytes i = i.head ++ i.body

abbrev pub bytes_of_items : List Item → List ℕ
bytes_of_items items = flat_map item_bytes items

-- each is an item that ends within the limit, and the first one begins at the offset (profile)
abbrev pub AreItems : ℕ → ℕ → List Item → Type 0
AreItems limit offset [] = Unit {0}
AreItems limit offset (i ∷ items) =
    IsItem i × (offset + length (item_bytes i) ≤ limit) × AreItems limit (offset + length (item_bytes i)) items

-- an item that ends within the limit stands at the offset, before these bytes (profile)
pub record ItemStands (limit offset : ℕ) (bytes : List ℕ) : Type 0 where
  pub item : Item
  pub rest : List ℕ
  pub is_item : IsItem item
  pub split : bytes ≡ item_bytes item ++ rest
  pub within : offset + length (item_bytes item) ≤ limit

-- what stands at the offset is refused: there is a byte, and no item (profile)
abbrev pub HasNoItem : ℕ → ℕ → Option (List ℕ) → Type 0
HasNoItem limit offset left = IfSome left (λ bytes. (bytes ≡ [] → ⊥) × (ItemStands limit offset bytes → ⊥))

-- how many bytes are asked for behind the wrapper of an item that begins at the offset: the data that a good one tells, unless
-- the item would end past the limit (5.3; the limit: profile)
abbrev pub asked_behind : ℕ → ℕ → Option Cbw → ℕ
asked_behind limit offset None = 0
asked_behind limit offset (Some c) = if nat_lt limit (offset + 31 + sent_length c) then 0 else sent_length c

-- how many bytes of what stands at the offset are asked for: 31 of a wrapper, and those behind it (profile)
abbrev pub asked_of_item : ℕ → ℕ → List ℕ → ℕ
asked_of_item limit offset bytes = 31 + asked_behind limit offset (cbw_of (take 31 bytes))

-- as many bytes were taken as are asked for, or all where there are fewer (profile)
abbrev pub TookAsked : ℕ → ℕ → Option (List ℕ) → Option (List ℕ) → Type 0
TookAsked limit offset left left' = IfSome left (λ bytes. Took left left' (take (asked_of_item limit offset bytes) bytes))

-- no byte was waited for behind those that are asked for, or fewer stand there (profile)
abbrev pub AwaitsNoMore : ℕ → ℕ → Option (List ℕ) → Bool → Type 0
AwaitsNoMore limit offset left waited =
    (waited ≡ false) ⊎ IfSome left (λ bytes. length bytes < asked_of_item limit offset bytes)
