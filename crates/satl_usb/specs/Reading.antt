-- What reading one item gives (profile).
use Rattle.std.specs.Prelude.{◌≡◌, ◌≤◌, ◌+◌, ℕ, Bool, List, [], length, take, Option, None, Some, Result, IsErrOf}
use Rattle.std.specs.Io.KnownBytes.{IsAtEnd}
use Rattle.satl_bot.specs.declared.command.Cbw.{Cbw}
use Rattle.satl_bot.specs.Wrappers.{cbw_of}
use Rattle.satl_frame.specs.DataPages.{pages_of}
use Rattle.satl_frame.specs.Pulls.{FewerThan}
use Rattle.satl_io.specs.Causes.{Rose}
use Rattle.satl_io.specs.Known.{Took}
use Rattle.satl_usb.specs.declared.items.ItemFault.{ItemFault}
use Rattle.satl_usb.specs.declared.items.ItemFault.TheVariants as faults
use Rattle.satl_usb.specs.declared.items.Taken.{Taken}
use Rattle.satl_usb.specs.Items.{AwaitsNoMore, HasNoItem, IsItem, Item, TookAsked, asked_of_item, item_bytes}

-- nothing was left to take
pub record WasAtEnd (left left' : Option (List ℕ)) : Type 0 where
  pub took : Took left left' []
  pub end : IsAtEnd left'

-- a wrapper was taken
pub record TookHead (left left' : Option (List ℕ)) (command : Cbw) : Type 0 where
  pub head : List ℕ
  pub took : Took left left' head
  pub size : length head ≡ 31
  pub says : cbw_of head ≡ Some command

-- an item was taken that ends within the limit, and this many of its pages were free
pub record TookItem (limit offset room : ℕ) (left left' : Option (List ℕ)) (taken : Taken) : Type 0 where
  pub item : Item
  pub is_item : IsItem item
  pub within : offset + length (item_bytes item) ≤ limit
  pub took : Took left left' (item_bytes item)
  pub command : taken.command ≡ item.command
  pub body : taken.body ≡ take room (pages_of item.body)

-- a wrapper, or the end of the source
abbrev pub HeadRead : Option (List ℕ) → Option (List ℕ) → Option Cbw → Type 0
HeadRead left left' None = WasAtEnd left left'
HeadRead left left' (Some command) = TookHead left left' command

-- no wrapper: what is left is refused, wherever it stands, and what is asked for was taken; or a read failed within 31 bytes
abbrev pub HeadMissed : Option (List ℕ) → Option (List ℕ) → ItemFault → Type 0
HeadMissed left left' faults.Bad = (limit offset : ℕ) → HasNoItem limit offset left × TookAsked limit offset left left'
HeadMissed left left' faults.Failed = FewerThan left left' (λ _. 31)

-- no wrapper: no byte behind the 31 was waited for, or fewer stand there; of a failed read nothing is said
abbrev pub HeadAwaits : Option (List ℕ) → Bool → ItemFault → Type 0
HeadAwaits left waited faults.Bad = (limit offset : ℕ) → AwaitsNoMore limit offset left waited
HeadAwaits left waited faults.Failed = Unit {0}

-- an item, or the end of the source
abbrev pub ItemRead : ℕ → ℕ → ℕ → Option (List ℕ) → Option (List ℕ) → Option Taken → Type 0
ItemRead limit offset room left left' None = WasAtEnd left left'
ItemRead limit offset room left left' (Some taken) = TookItem limit offset room left left' taken

-- no item: what stands there is refused, and what is asked for was taken; or a read failed, and less was taken than that
abbrev pub ItemMissed : ℕ → ℕ → Option (List ℕ) → Option (List ℕ) → ItemFault → Type 0
ItemMissed limit offset left left' faults.Bad = HasNoItem limit offset left × TookAsked limit offset left left'
ItemMissed limit offset left left' faults.Failed = FewerThan left left' (asked_of_item limit offset)

-- no item: no byte behind what is asked for was waited for, or fewer stand there; of a failed read nothing is said
abbrev pub ItemAwaits : ℕ → ℕ → Option (List ℕ) → Bool → ItemFault → Type 0
ItemAwaits limit offset left waited faults.Bad = AwaitsNoMore limit offset left waited
ItemAwaits limit offset left waited faults.Failed = Unit {0}

-- a read failed only where the count rose, which has not fallen
pub record ItemCauses {T : Type 0} (before now : ℕ) (result : Result T ItemFault) : Type 0 where
  pub later : before ≤ now
  pub failed : IsErrOf result faults.Failed → Rose before now

-- the pages of an item that was read
abbrev pub pages_read : Option Taken → ℕ
pages_read None = 0
pages_read (Some taken) = length taken.body
