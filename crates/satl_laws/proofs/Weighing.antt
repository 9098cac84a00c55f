-- Replies, and tasks that wait, of one nexus and tag: each end of a task, and each lost link, answers as many as it takes.
use Rattle.std.proofs.Common.{◌≡◌, ⊎_elim, refl, sym, ap, ◌∙◌, ℕ, ◌+◌, true, false, List, [], ◌∷◌, ◌++◌, arith, eqb-true, map}
use Rattle.std.specs.Prelude.{if◌then◌else◌, ◌==◌, ◌&&◌}
use Rattle.std.proofs.lemmas.List.{map-append}
use Rattle.std.proofs.lemmas.Bool.{and_parts}
use Rattle.satl_base.specs.declared.request.Tag.{Tag}
use Rattle.satl_base.specs.declared.reply.Reply.{Reply}
use Rattle.satl_base.specs.Lists.{how_many, IsIn}
use Rattle.satl_frame.specs.Output.Answer.{replied}
use Rattle.satl_line.specs.declared.entry.Entry.{Entry}
use Rattle.satl_direct.specs.Device.{Device, is_called, without}
use Rattle.satl_direct.specs.Ending.{task_check}
use Rattle.satl_direct.specs.Quiet.{Quiet}
use Rattle.satl_direct.specs.Senses.{link_lost}
use Rattle.satl_direct.specs.Turn.{OneEnds, Turn, device_lost_replies}
use Rattle.satl_direct.specs.Turn.Turn.{idle, ends, loses, ends_and_loses}
use Rattle.satl_direct.specs.Run.{TurnsOf}
use Rattle.satl_direct.specs.Run.TurnsOf.{none, more}
use Rattle.satl_direct.proofs.Naming.{called_self}
use Rattle.satl_direct.proofs.Quieting.{quiet_tasks}
use Rattle.satl_laws.specs.OnceEach.{answers_to}
use Rattle.satl_laws.proofs.Cases.{how_many-append}
use Rattle.satl_laws.proofs.Ends.{ends_leaves, may_end_in}

module _ (nexus tag : ℕ) where
  -- one of the nexus and tag counts 1, another 0
  abbrev pub weigh : ℕ → Tag → ℕ
  weigh n g = (if (n == nexus) && (g.0 == tag) then 1 else 0) + 0

  -- how many tasks have the nexus and tag
  abbrev pub mine : List Entry → ℕ
  mine tasks = how_many (is_called nexus tag) tasks

  -- how many replies do
  abbrev pub replies : List Reply → ℕ
  replies rs = how_many (answers_to nexus tag) (map replied rs)

  -- equal names count alike
  pub same_weight : (n m : ℕ) (g h : Tag) → n ≡ m → g ≡ h → weigh n g ≡ weigh m h
  same_weight n m g h p q = ap (λ k. weigh k g) p ∙ ap (weigh m) q

  -- of a task that goes and those that stay
  without_counts : (t : Entry) (tasks : List Entry) → IsIn t tasks → mine (without t tasks) + weigh t.nexus t.tag ≡ mine tasks
  without_counts t [] i = elim i [ ]
  without_counts t (u ∷ us) i =
      (elim (is_called t.nexus (t.tag).0 u) as (λ b. is_called t.nexus (t.tag).0 u ≡ b → mine (if b then us else u ∷ without t us) + weigh t.nexus t.tag ≡ mine (u ∷ us)) [
        | true ↦ λ h.
            let n : u.nexus ≡ t.nexus = eqb-true u.nexus t.nexus (and_parts (u.nexus == t.nexus) ((u.tag).0 == (t.tag).0) h).0 in
            let g : (u.tag).0 ≡ (t.tag).0 = eqb-true (u.tag).0 (t.tag).0 (and_parts (u.nexus == t.nexus) ((u.tag).0 == (t.tag).0) h).1 in
            let same : weigh u.nexus u.tag ≡ weigh t.nexus t.tag = ap (λ k. (if (k == nexus) && ((u.tag).0 == tag) then 1 else 0) + 0) n ∙ ap (λ k. (if (t.nexus == nexus) && (k == tag) then 1 else 0) + 0) g in
            omega (arith, same)
        | false ↦ λ h. ⊎_elim (λ same. absurd (apart (sym same) h)) (λ later. plus (if is_called nexus tag u then 1 else 0) _ _ _ (without_counts t us later)) i
      ]) refl
    where
      plus : (a b c d : ℕ) → b + c ≡ d → (a + b) + c ≡ a + d
      plus a b c d h = omega (arith, h)

      apart : u ≡ t → is_called t.nexus (t.tag).0 u ≡ false → ⊥
      apart same h = let no : true ≡ false = sym (called_self t) ∙ ap (is_called t.nexus (t.tag).0) (sym same) ∙ h in absurd cc

  -- each task is answered once at a lost link
  lost_counts : (s : Device) (tasks : List Entry) → replies (map (λ t. task_check s t link_lost) tasks) ≡ mine tasks
  lost_counts s [] = refl
  lost_counts s (t ∷ ts) = ap (λ n. (if is_called nexus tag t then 1 else 0) + n) (lost_counts s ts)

  -- quiet moves answer nothing and take nothing
  pub quiet_counts : (old new : Device) → Quiet old new → mine new.tasks ≡ mine old.tasks
  quiet_counts old new q = ap mine (quiet_tasks old new q)

  -- a task that ends goes, and is answered once
  pub one_counts : (s new : Device) (reply : Reply) → OneEnds s reply new → weigh reply.nexus reply.tag + mine new.tasks ≡ mine s.tasks
  one_counts s new reply e =
      let l = ends_leaves s new e.task reply e.ends in
      let to : weigh reply.nexus reply.tag ≡ weigh (e.task).nexus (e.task).tag = same_weight reply.nexus (e.task).nexus reply.tag (e.task).tag l.nexus l.tag in
      let gone : mine new.tasks ≡ mine (without e.task s.tasks) = ap mine l.tasks in
      omega (arith, to, gone, without_counts e.task s.tasks (may_end_in s e.task e.may))

  -- at a lost link: the answers are those to the tasks, and none is left
  pub loss_counts : (s new : Device) (answers : List Reply) → answers ≡ device_lost_replies s → new.tasks ≡ [] → replies answers + mine new.tasks ≡ mine s.tasks
  loss_counts s new answers a t = omega (arith, ap replies a, lost_counts s s.tasks, ap mine t)

  -- a turn answers as many as it takes
  pub turn_counts : {s new : Device} {answers : List Reply} → Turn s answers new → replies answers + mine new.tasks ≡ mine s.tasks
  turn_counts (idle h) = omega arith
  turn_counts {s = s} (ends {new = new} reply e) = omega (arith, one_counts s new reply e)
  turn_counts {s = s} (loses {new = new} {answers = answers} some l) = loss_counts s new answers l.answer (ap (λ d. d.tasks) l.stays)
  turn_counts {s = s} (ends_and_loses {mid = mid} {after = after} {new = new} {answers = answers} reply e q l) =
      omega (arith, one_counts s mid reply e, quiet_counts mid after q, loss_counts after new answers l.answer (ap (λ d. d.tasks) l.stays))

  -- replies after replies
  pub replies-append : (xs ys : List Reply) → replies (xs ++ ys) ≡ replies xs + replies ys
  replies-append xs ys = ap (how_many (answers_to nexus tag)) (map-append replied xs ys) ∙ how_many-append (answers_to nexus tag) (map replied xs) (map replied ys)

  -- so do many turns
  pub turns_count : {n deep : ℕ} {s new : Device} {answers : List Reply} → TurnsOf n s answers new deep → replies answers + mine new.tasks ≡ mine s.tasks
  turns_count none = omega arith
  turns_count {new = new} (more {mid = mid} {earlier = first} {rest = rest} so_far next) =
      omega (
        arith,
        turns_count so_far,
        replies-append first rest,
        quiet_counts mid next.before next.quiet_before,
        turn_counts next.step,
        quiet_counts next.after new next.quiet_after,
      )
