-- That an input of items is bridged whole where all goes well.
use Rattle.std.proofs.Common.{◌≡◌, sym, ap, subst, arith, ◌∙◌, append_assoc, ℕ, ◌+◌, List, [], ◌∷◌, ◌++◌, length}
use Rattle.std.specs.Prelude.{Option, None, Some, Ok, Err, Result, IfErr, OnOk, MatchResult}
use Rattle.std.proofs.lemmas.List.{length-append}
use Rattle.std.specs.Io.KnownBytes.{Consumes, IsAtEnd}
use Rattle.satl_io.specs.Known.{Took}
use Rattle.satl_bot.specs.Wrappers.{cbw_of}
use Rattle.satl_serve.specs.Completeness.{GoesWell}
use Rattle.satl_serve.specs.Moments.{Moment, Spot}
use Rattle.satl_usb.specs.Bridge.{BridgedWhole, HasTaken}
use Rattle.satl_usb.specs.Headline.{HasStreamCause, IsItemInput, MayStop, RanTo}
use Rattle.satl_usb.specs.Items.{AreItems, HasNoItem, IsItem, Item, ItemStands, bytes_of_items, item_bytes, sent_length}
use Rattle.satl_usb.specs.declared.fault.UsbFault.{UsbFault}
use Rattle.satl_usb.specs.declared.fault.UsbFault.TheVariants as faults
use Rattle.satl_usb.proofs.ItemsLemmas.{fronts, rests}

-- ---- items are read in one way

-- two items with which the same bytes begin
module _ (x y : Item) (us vs : List ℕ) (is_x : IsItem x) (is_y : IsItem y) (same : item_bytes x ++ us ≡ item_bytes y ++ vs) where
  split : x.head ++ (x.body ++ us) ≡ y.head ++ (y.body ++ vs)
  split = sym (append_assoc x.head x.body us) ∙ (same ∙ append_assoc y.head y.body vs)

  heads : x.head ≡ y.head
  heads = fronts x.head y.head (x.body ++ us) (y.body ++ vs) (is_x.size ∙ sym is_y.size) split

  commands : x.command ≡ y.command
  commands = let both : Some x.command ≡ Some y.command = sym is_x.says ∙ (ap cbw_of heads ∙ is_y.says) in cc

  lengths : length (item_bytes x) ≡ length (item_bytes y)
  lengths =
      let sent = is_x.sent ∙ (ap sent_length commands ∙ sym is_y.sent) in
      let size = is_x.size ∙ sym is_y.size in
      let a = length-append x.head x.body in
      let b = length-append y.head y.body in
      omega (arith, sent, size, a, b)

  tails : us ≡ vs
  tails = rests (item_bytes x) (item_bytes y) us vs lengths same

-- what is left of items behind some
pub record ItemsLeft (limit offset : ℕ) (xs : List Item) (rest : List ℕ) : Type 0 where
  pub items : List Item
  pub spelled_so : rest ≡ bytes_of_items items
  pub each : AreItems limit (offset + length (bytes_of_items xs)) items

some_bytes : (x : Item) (l : List ℕ) → IsItem x → [] ≡ item_bytes x ++ l → ⊥
some_bytes x l is none =
    let a = length-append (item_bytes x) l in
    let b = length-append x.head x.body in
    let size = is.size in
    let no = ap length none in
    absurd (omega (arith, a, b, size, no))

items_left : (limit offset : ℕ) (xs ys : List Item) (rest : List ℕ) → AreItems limit offset xs → AreItems limit offset ys → bytes_of_items ys ≡ bytes_of_items xs ++ rest → ItemsLeft limit offset xs rest
items_left limit offset [] ys rest of_xs of_ys same = record { items = ys; spelled_so = sym same; each = subst (λ n. AreItems limit n ys) (omega arith) of_ys }
items_left limit offset (x ∷ xs) [] rest of_xs of_ys same = absurd (some_bytes x (bytes_of_items xs ++ rest) of_xs.0 (same ∙ append_assoc (item_bytes x) (bytes_of_items xs) rest))
items_left limit offset (x ∷ xs) (y ∷ ys) rest of_xs of_ys same =
    let split : item_bytes x ++ (bytes_of_items xs ++ rest) ≡ item_bytes y ++ bytes_of_items ys = sym (append_assoc (item_bytes x) (bytes_of_items xs) rest) ∙ sym same in
    let long = lengths x y (bytes_of_items xs ++ rest) (bytes_of_items ys) of_xs.0 of_ys.0 split in
    let left = items_left limit (offset + length (item_bytes x)) xs ys rest of_xs.2 (subst (λ n. AreItems limit (offset + n) ys) (sym long) of_ys.2) (sym (tails x y (bytes_of_items xs ++ rest) (bytes_of_items ys) of_xs.0 of_ys.0 split)) in
    record {
      items = left.items;
      spelled_so = left.spelled_so;
      each = subst (λ n. AreItems limit n left.items) (let all = length-append (item_bytes x) (bytes_of_items xs) in omega (arith, all)) left.each;
    }

-- what is left of them is not refused
not_refused : (limit offset : ℕ) (items : List Item) (rest : List ℕ) → rest ≡ bytes_of_items items → AreItems limit offset items → (rest ≡ [] → ⊥) → (ItemStands limit offset rest → ⊥) → ⊥
not_refused limit offset [] rest is each some none = some is
not_refused limit offset (z ∷ items) rest is (item, within, others) some none = none (record { item = z; rest = bytes_of_items items; is_item = item; split = is; within = within })

never_refused : (limit offset : ℕ) (left mid : Option (List ℕ)) (items taken : List Item) → IsItemInput limit left items → HasTaken limit left mid taken → offset ≡ length (bytes_of_items taken) → HasNoItem limit offset mid → ⊥
never_refused limit offset left mid items taken input has at refused = by_mid left mid input.told has.took.known refused
  where
    by_mid : (left mid : Option (List ℕ)) → left ≡ Some (bytes_of_items items) → Consumes left mid (bytes_of_items taken) → HasNoItem limit offset mid → ⊥
    by_mid None mid told known refused = absurd cc
    by_mid (Some bytes) None told known refused = absurd known
    by_mid (Some bytes) (Some rest) told known (some, none) =
        let same : bytes ≡ bytes_of_items items = cc in
        let left = items_left limit 0 taken items rest has.each input.each (sym same ∙ known) in
        not_refused limit offset left.items rest left.spelled_so (subst (λ n. AreItems limit n left.items) (omega (arith, at)) left.each) some none

-- the end of a source that tells its bytes
at_end : (left left' : Option (List ℕ)) (bytes taken : List ℕ) → left ≡ Some bytes → Took left left' taken → IsAtEnd left' → left' ≡ Some []
at_end None left' bytes taken told took end = absurd cc
at_end (Some l) None bytes taken told took end = absurd took.known
at_end (Some l) (Some rest) bytes taken told took end = ap Some end

module _ (limit : ℕ) (a b : Spot) (before after : Moment) (items : List Item) (input : IsItemInput limit a.left items) (well : GoesWell before after) where
  stops_complete : (fault : UsbFault) → HasStreamCause before.source after.source before.sink after.sink fault → RanTo limit a b fault → MayStop before.drive after.drive fault
  stops_complete (faults.Open opening) cause r = absurd r
  stops_complete (faults.BadInput offset) cause r = never_refused limit offset a.left r.mid items r.talk.items input r.bridged.taken r.offset_is r.refused
  stops_complete faults.Read cause r = well.reads cause
  stops_complete faults.Write cause r = well.writes cause

  pub all_complete : (r : Result (Unit {0}) UsbFault) → OnOk r (BridgedWhole limit a b) → IfErr r (RanTo limit a b) → IfErr r (HasStreamCause before.source after.source before.sink after.sink) → MatchResult r (λ _. b.left ≡ Some []) (MayStop before.drive after.drive)
  all_complete (Ok u) whole stopped cause = at_end a.left b.left (bytes_of_items items) (bytes_of_items whole.talk.items) input.told whole.bridged.taken.took whole.at_end
  all_complete (Err fault) whole stopped cause = stops_complete fault cause stopped
