-- What stands where a wrapper was taken.
use Rattle.std.proofs.Common.{◌≡◌, inr, refl, sym, ap, subst, arith, ◌∙◌, append_assoc, ℕ, ◌+◌, ◌-◌, ◌<◌, ◌≤◌, List, [], ◌++◌, length, take, drop}
use Rattle.std.specs.Prelude.{Bool, Option, None, Some}
use Rattle.std.proofs.Math.Seq.{take-append_seam, drop-append_seam}
use Rattle.std.proofs.lemmas.Bool.{le-ltb, lt-ltb}
use Rattle.std.proofs.lemmas.List.{length-append, take_all}
use Rattle.satl_bot.specs.declared.command.Cbw.{Cbw}
use Rattle.satl_bot.specs.Wrappers.{cbw_of}
use Rattle.satl_base.specs.declared.block.Block.{Block}
use Rattle.satl_frame.specs.Pulls.{FewerThan, Lacks, TookPages}
use Rattle.satl_frame.proofs.Stopping.{fewer_after}
use Rattle.satl_io.specs.Known.{Took}
use Rattle.satl_io.proofs.Joined.{Took-more}
use Rattle.satl_usb.specs.Items.{AwaitsNoMore, HasNoItem, ItemStands, TookAsked, asked_behind, asked_of_item, item_bytes, sent_length}
use Rattle.satl_usb.specs.Reading.{TookHead, TookItem}

-- fronts that are equally long are the same, and so are the rests
pub fronts : (a b c d : List ℕ) → length a ≡ length b → a ++ c ≡ b ++ d → a ≡ b
fronts a b c d long is = sym (take-append_seam a c) ∙ (ap (λ l. take (length a) l) is ∙ (ap (λ n. take n (b ++ d)) long ∙ take-append_seam b d))

pub rests : (a b c d : List ℕ) → length a ≡ length b → a ++ c ≡ b ++ d → c ≡ d
rests a b c d long is = sym (drop-append_seam a c) ∙ (ap (λ l. drop (length a) l) is ∙ (ap (λ n. drop n (b ++ d)) long ∙ drop-append_seam b d))

-- an item is as long as its wrapper and what this tells
pub spelled_length : (limit offset : ℕ) (bytes : List ℕ) (s : ItemStands limit offset bytes) → length (item_bytes s.item) ≡ 31 + sent_length s.item.command
spelled_length limit offset bytes s = let all = length-append s.item.head s.item.body in let size = s.is_item.size in let sent = s.is_item.sent in omega (arith, all, size, sent)

-- ---- how much is asked for

asked_past : (limit offset : ℕ) (c : Cbw) → limit < offset + 31 + sent_length c → asked_behind limit offset (Some c) ≡ 0
asked_past limit offset c far = rw (lt-ltb limit (offset + 31 + sent_length c) far) refl

asked_within : (limit offset : ℕ) (c : Cbw) → offset + 31 + sent_length c ≤ limit → asked_behind limit offset (Some c) ≡ sent_length c
asked_within limit offset c fits = rw (le-ltb limit (offset + 31 + sent_length c) fits) refl

-- bytes begin with a wrapper
module _ (limit offset : ℕ) (bytes head behind : List ℕ) (long : length head ≡ 31) (is : bytes ≡ head ++ behind) where
  -- and so does the item that stands there
  same_head : (s : ItemStands limit offset bytes) → head ≡ s.item.head
  same_head s = fronts head s.item.head behind (s.item.body ++ s.rest) (long ∙ sym s.is_item.size) (sym is ∙ (s.split ∙ append_assoc s.item.head s.item.body s.rest))

  same_rest : (s : ItemStands limit offset bytes) → behind ≡ s.item.body ++ s.rest
  same_rest s = rests head s.item.head behind (s.item.body ++ s.rest) (long ∙ sym s.is_item.size) (sym is ∙ (s.split ∙ append_assoc s.item.head s.item.body s.rest))

  not_empty : bytes ≡ [] → ⊥
  not_empty none = let all = ap length is ∙ length-append head behind in let no = ap length none in absurd (omega (arith, all, no, long))

  -- no item stands behind a wrapper that is none
  none_stands : cbw_of head ≡ None → ItemStands limit offset bytes → ⊥
  none_stands bad s = let both : None ≡ Some s.item.command = sym bad ∙ (ap cbw_of (same_head s) ∙ s.is_item.says) in absurd cc

  same_length : (command : Cbw) → cbw_of head ≡ Some command → (s : ItemStands limit offset bytes) → length (item_bytes s.item) ≡ 31 + sent_length command
  same_length command says s =
      let both : Some s.item.command ≡ Some command = sym s.is_item.says ∙ (ap cbw_of (sym (same_head s)) ∙ says) in
      let same : s.item.command ≡ command = cc in
      spelled_length limit offset bytes s ∙ ap (λ c. 31 + sent_length c) same

  front_is : take 31 bytes ≡ head
  front_is = ap (take 31) is ∙ (ap (λ n. take n (head ++ behind)) (sym long) ∙ take-append_seam head behind)

  asked_is : (o : Option Cbw) → cbw_of head ≡ o → asked_of_item limit offset bytes ≡ 31 + asked_behind limit offset o
  asked_is o says = ap (λ x. 31 + asked_behind limit offset x) (ap cbw_of front_is ∙ says)

  -- nothing is asked for behind it
  took_head : (o : Option Cbw) → cbw_of head ≡ o → asked_behind limit offset o ≡ 0 → Took (Some bytes) (Some behind) head → TookAsked limit offset (Some bytes) (Some behind)
  took_head o says none took =
      let asked : asked_of_item limit offset bytes ≡ 31 = asked_is o says ∙ ap (λ n. 31 + n) none in
      subst (Took (Some bytes) (Some behind)) (sym (ap (λ n. take n bytes) asked ∙ front_is)) took

-- a wrapper that is none was taken
pub bad_head : (left left' : Option (List ℕ)) (head : List ℕ) → length head ≡ 31 → Took left left' head → cbw_of head ≡ None → (limit offset : ℕ) → HasNoItem limit offset left × TookAsked limit offset left left'
bad_head None left' head long took bad limit offset = (tt, tt)
bad_head (Some bytes) None head long took bad limit offset = absurd took.known
bad_head (Some bytes) (Some behind) head long took bad limit offset =
    let is : bytes ≡ head ++ behind = took.known in (
      (not_empty limit offset bytes head behind long is, none_stands limit offset bytes head behind long is bad),
      took_head limit offset bytes head behind long is None bad refl took,
    )

-- the item that its wrapper tells ends past the limit
pub too_far : (limit offset : ℕ) (left left' : Option (List ℕ)) (command : Cbw) → offset ≤ limit → TookHead left left' command → limit - offset < 31 + sent_length command → HasNoItem limit offset left × TookAsked limit offset left left'
too_far limit offset None left' command near t far = (tt, tt)
too_far limit offset (Some bytes) None command near t far = absurd t.took.known
too_far limit offset (Some bytes) (Some behind) command near t far =
    let is : bytes ≡ t.head ++ behind = t.took.known in (
      (not_empty limit offset bytes t.head behind t.size is, λ s. let size = same_length limit offset bytes t.head behind t.size is command t.says s in absurd (omega (arith, size, s.within, far, near))),
      took_head limit offset bytes t.head behind t.size is (Some command) t.says (asked_past limit offset command (omega (arith, far, near))) t.took,
    )

-- fewer bytes stood behind a wrapper than it tells
pub too_short : (limit offset : ℕ) (left mid left' : Option (List ℕ)) (command : Cbw) → TookHead left mid command → Lacks mid left' (sent_length command) → offset ≤ limit → 31 + sent_length command ≤ limit - offset → HasNoItem limit offset left × TookAsked limit offset left left'
too_short limit offset None mid left' command t lacks near fits = (tt, tt)
too_short limit offset (Some bytes) None left' command t lacks near fits = absurd t.took.known
too_short limit offset (Some bytes) (Some behind) left' command t lacks near fits =
    let is : bytes ≡ t.head ++ behind = t.took.known in
    let few = lacks.known.0 in
    let all : length bytes ≡ 31 + length behind = let both = ap length is ∙ length-append t.head behind in let size = t.size in omega (arith, both, size) in
    let asked : asked_of_item limit offset bytes ≡ 31 + sent_length command = asked_is limit offset bytes t.head behind t.size is (Some command) t.says ∙ ap (λ n. 31 + n) (asked_within limit offset command (omega (arith, near, fits))) in
    let whole : take (asked_of_item limit offset bytes) bytes ≡ bytes = ap (λ n. take n bytes) asked ∙ take_all (31 + sent_length command) bytes (omega (arith, all, few)) in (
      (not_empty limit offset bytes t.head behind t.size is, λ s. let size = same_length limit offset bytes t.head behind t.size is command t.says s in let fits = ap length s.split ∙ length-append (item_bytes s.item) s.rest in absurd (omega (arith, size, fits, all, few))),
      subst (Took (Some bytes) left') (sym (whole ∙ is)) (Took-more t.took lacks.known.1),
    )

-- ---- what was waited for

-- fewer bytes stood behind a wrapper than it tells
pub short_awaits : (limit offset : ℕ) (left mid left' : Option (List ℕ)) (waited : Bool) (command : Cbw) → TookHead left mid command → Lacks mid left' (sent_length command) → offset ≤ limit → 31 + sent_length command ≤ limit - offset → AwaitsNoMore limit offset left waited
short_awaits limit offset None mid left' waited command t lacks near fits = inr tt
short_awaits limit offset (Some bytes) None left' waited command t lacks near fits = absurd t.took.known
short_awaits limit offset (Some bytes) (Some behind) left' waited command t lacks near fits =
    let is : bytes ≡ t.head ++ behind = t.took.known in
    let few = lacks.known.0 in
    let all : length bytes ≡ 31 + length behind = let both = ap length is ∙ length-append t.head behind in let size = t.size in omega (arith, both, size) in
    let asked : asked_of_item limit offset bytes ≡ 31 + sent_length command = asked_is limit offset bytes t.head behind t.size is (Some command) t.says ∙ ap (λ n. 31 + n) (asked_within limit offset command (omega (arith, near, fits))) in
    inr (omega (arith, asked, all, few))

-- a read failed within what a wrapper tells
pub cut_body : (limit offset : ℕ) (left mid left' : Option (List ℕ)) (command : Cbw) → TookHead left mid command → FewerThan mid left' (λ _. sent_length command) → offset ≤ limit → 31 + sent_length command ≤ limit - offset → FewerThan left left' (asked_of_item limit offset)
cut_body limit offset left mid left' command t fewer near fits =
    fewer_after (asked_of_item limit offset) t.took (λ behind. let asked = asked_is limit offset (t.head ++ behind) t.head behind t.size refl (Some command) t.says ∙ ap (λ n. 31 + n) (asked_within limit offset command (omega (arith, near, fits))) in no_more (sent_length command) t.size asked) fewer
  where
    no_more : {a b : ℕ} (n : ℕ) → a ≡ 31 → b ≡ 31 + n → a + n ≤ b
    no_more n is asked = omega arith

-- a wrapper was taken, and the data that it tells
pub took_item : (limit offset room : ℕ) (left mid left' : Option (List ℕ)) (command : Cbw) (body : List Block) → TookHead left mid command → TookPages mid left' (sent_length command) room body → offset ≤ limit → 31 + sent_length command ≤ limit - offset → TookItem limit offset room left left' (record { command = command; body = body })
took_item limit offset room left mid left' command body t pages near fits = record {
  item = record { head = t.head; command = command; body = pages.taken };
  is_item = record { size = t.size; says = t.says; sent = pages.size };
  within = let all = length-append t.head pages.taken in let size = t.size in let sent = pages.size in omega (arith, all, size, sent, fits, near);
  took = Took-more t.took pages.took;
  command = refl;
  body = pages.pages_are;
}
