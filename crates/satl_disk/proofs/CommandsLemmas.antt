-- Outstanding commands at the places of their tags.
use Rattle.std.proofs.Common.{◌≡◌, sym, ◌∙◌, ap, subst, ℕ, ◌<◌, false, List, [], ◌∷◌, ◌++◌, length, length-set, set, arith}
use Rattle.std.specs.Prelude.{◌==◌}
use Rattle.std.specs.List.{AllByRecursion, list_any}
use Rattle.std.proofs.lemmas.Bool.{eqb-false, or_parts}
use Rattle.std.proofs.lemmas.List.{get_or-set_same, get_or-set_other, length-append, length-map}
use Rattle.satl_base.proofs.ListsLemmas.{All-push_end}
use Rattle.satl_regs.specs.declared.values.Queued.{Queued}
use Rattle.satl_drive.specs.State.{Outstanding}
use Rattle.satl_drive.specs.Queue.{is_tagged}
use Rattle.satl_disk.specs.Queue.{AreByTag, command_at, in_order, no_command}

abbrev IsOwn : List Outstanding → ℕ → Type 0
IsOwn by_tag tag = (command_at by_tag tag).command.tag ≡ tag

-- a command comes to the place of a tag that none has: the others stay where they are
stays_at : (by_tag : List Outstanding) (tag : ℕ) (q : Outstanding) (t : ℕ) → IsOwn by_tag t → ((command_at by_tag t).command.tag == tag) ≡ false → command_at (set by_tag tag q) t ≡ command_at by_tag t
stays_at by_tag tag q t own other = get_or-set_other by_tag tag t q no_command (eqb-false t tag (subst (λ u. (u == tag) ≡ false) own other))

in_order_pushed : (by_tag : List Outstanding) (tag : ℕ) (q : Outstanding) (order : List ℕ) → tag < length by_tag → AllByRecursion (IsOwn by_tag) order → list_any (is_tagged tag) (in_order by_tag order) ≡ false → in_order (set by_tag tag q) (order ++ tag ∷ []) ≡ in_order by_tag order ++ q ∷ []
in_order_pushed by_tag tag q [] lt own free = ap (λ c. c ∷ []) (get_or-set_same by_tag tag q no_command lt)
in_order_pushed by_tag tag q (t ∷ ts) lt own free =
    let n = or_parts ((command_at by_tag t).command.tag == tag) _ free in
    ap (λ c. c ∷ in_order (set by_tag tag q) (ts ++ tag ∷ [])) (stays_at by_tag tag q t own.0 n.0)
    ∙ ap (λ r. command_at by_tag t ∷ r) (in_order_pushed by_tag tag q ts lt own.1 n.1)

own_pushed : (by_tag : List Outstanding) (tag : ℕ) (q : Outstanding) (order : List ℕ) → tag < length by_tag → q.command.tag ≡ tag → AllByRecursion (IsOwn by_tag) order → list_any (is_tagged tag) (in_order by_tag order) ≡ false → AllByRecursion (IsOwn (set by_tag tag q)) (order ++ tag ∷ [])
own_pushed by_tag tag q [] lt is own free = (ap (λ (c : Outstanding). c.command.tag) (get_or-set_same by_tag tag q no_command lt) ∙ is, tt)
own_pushed by_tag tag q (t ∷ ts) lt is own free =
    let n = or_parts ((command_at by_tag t).command.tag == tag) _ free in
    (ap (λ (c : Outstanding). c.command.tag) (stays_at by_tag tag q t own.0 n.0) ∙ own.0, own_pushed by_tag tag q ts lt is own.1 n.1)

-- a command is issued
module _ (by_tag : List Outstanding) (order : List ℕ) (q : Outstanding) (command : Queued) (now : List Outstanding) (kept : AreByTag by_tag order) (view : in_order by_tag order ≡ now) (is : command ≡ q.command) (free : list_any (is_tagged q.command.tag) now ≡ false) (small : q.command.tag < 32) where
  tag_is : command.tag ≡ q.command.tag
  tag_is = ap (λ (c : Queued). c.tag) is

  is_free : list_any (is_tagged command.tag) (in_order by_tag order) ≡ false
  is_free = ap (λ tag. list_any (is_tagged tag) (in_order by_tag order)) tag_is ∙ ap (list_any (is_tagged q.command.tag)) view ∙ free

  within : command.tag < length by_tag
  within = omega (arith, tag_is, small, kept.room)

  pub commands_pushed : (new : List ℕ) → new ≡ order ++ command.tag ∷ [] → in_order (set by_tag command.tag q) new ≡ now ++ q ∷ []
  commands_pushed new e = ap (in_order (set by_tag command.tag q)) e ∙ in_order_pushed by_tag command.tag q order within kept.own is_free ∙ ap (λ qs. qs ++ q ∷ []) view

  pub by_tag_pushed : length now < 32 → (new : List ℕ) → new ≡ order ++ command.tag ∷ []
      → AreByTag (set by_tag command.tag q) new
  by_tag_pushed few new e = subst (AreByTag (set by_tag command.tag q)) (sym e) (record {
    room = length-set by_tag command.tag q ∙ kept.room;
    few = omega (arith, few, ap length view, length-map order (command_at by_tag), length-append order (command.tag ∷ []));
    small = All-push_end (λ tag. tag < 32) order command.tag kept.small (omega (arith, tag_is, small));
    own = own_pushed by_tag command.tag q order within (sym tag_is) kept.own is_free;
  })
