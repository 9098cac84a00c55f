-- Turns and lost links keep the order of arrival.
use Rattle.std.proofs.Common.{◌≡◌, sym, ap, ◌∙◌, subst, ℕ, ◌+◌, ◌<◌, Bool, List, [], ◌∷◌, ◌++◌, arith, map, append_assoc}
use Rattle.std.proofs.lemmas.List.{append-nil, map-append}
use Rattle.satl_base.specs.declared.reply.Reply.{Reply}
use Rattle.satl_base.specs.Lists.{how_many}
use Rattle.satl_frame.specs.declared.frames.Frame.{Frame}
use Rattle.satl_frame.specs.Output.{Answer}
use Rattle.satl_frame.specs.Output.Answer.{replied}
use Rattle.satl_direct.specs.Device.{Device}
use Rattle.satl_laws.specs.OnceEach.{asks_by}
use Rattle.satl_direct.specs.Turn.{Turn}
use Rattle.satl_direct.specs.Turn.Turn.{idle, ends, loses, ends_and_loses}
use Rattle.satl_direct.specs.Run.{MayLose, TurnsOf}
use Rattle.satl_direct.specs.Run.MayLose.{keeps, keeps_and_loses}
use Rattle.satl_direct.specs.Run.TurnsOf.{none, more}
use Rattle.satl_laws.proofs.InOrder.{Begin}
use Rattle.satl_laws.proofs.Cases.{how_many-append}
use Rattle.satl_laws.proofs.InOrderSteps.{InOrderAt, one_at, quiet_at}
use Rattle.satl_laws.proofs.InOrderDrops.{lost_at}

-- fewer events ask fewer times
pub fewer : (events : List Frame) (event : Frame) → ((nexus tag : ℕ) → how_many (asks_by nexus tag) (events ++ event ∷ []) < 2) → (nexus tag : ℕ) → how_many (asks_by nexus tag) events < 2
fewer events event once nexus tag = less _ _ _ (how_many-append (asks_by nexus tag) events (event ∷ [])) (once nexus tag)
  where
    less : (a b c : ℕ) → a ≡ b + c → a < 2 → b < 2
    less a b c h k = omega (arith, h, k)

module _ (first : Begin) (exact : Bool) where
  -- turns
  pub turn_at : (events : List Frame) (answers : List Answer) (s new : Device) (said : List Reply) → ((nexus tag : ℕ) → how_many (asks_by nexus tag) events < 2) → Turn s said new → InOrderAt first exact events answers s → InOrderAt first exact events (answers ++ map replied said) new
  turn_at events answers s new said once (idle h) o = subst (λ a. InOrderAt first exact events a s) (sym (append-nil answers)) o
  turn_at events answers s new said once (ends reply e) o = one_at first exact events answers s new reply once e o
  turn_at events answers s new said once (loses some l) o =
      lost_at first exact events answers s new said once l.answer (ap (λ d. d.cells) l.stays) (ap (λ d. d.tasks) l.stays) (ap (λ d. d.down) l.stays) (ap (λ d. d.identity) l.stays) o
  turn_at events answers s new said once (ends_and_loses {mid = mid} {after = after} {answers = rest} reply e q l) o =
      subst (λ a. InOrderAt first exact events a new) (append_assoc answers (replied reply ∷ []) (map replied rest))
      (lost_at first exact events (answers ++ replied reply ∷ []) after new rest once l.answer (ap (λ d. d.cells) l.stays) (ap (λ d. d.tasks) l.stays) (ap (λ d. d.down) l.stays) (ap (λ d. d.identity) l.stays)
      (quiet_at first exact events (answers ++ replied reply ∷ []) mid after q (one_at first exact events answers s mid reply once e o)))

  pub turns_at : (events : List Frame) (answers : List Answer) → ((nexus tag : ℕ) → how_many (asks_by nexus tag) events < 2) → {n deep : ℕ} {s new : Device} {said : List Reply} → TurnsOf n s said new deep
      → InOrderAt first exact events answers s → InOrderAt first exact events (answers ++ map replied said) new
  turns_at events answers once {s = s} none o = subst (λ a. InOrderAt first exact events a s) (sym (append-nil answers)) o
  turns_at events answers once {new = new} (more {mid = mid} {earlier = some} {rest = rest} so_far next) o =
      subst (λ a. InOrderAt first exact events a new) (append_assoc answers (map replied some) (map replied rest) ∙ ap (λ l. answers ++ l) (sym (map-append replied some rest)))
      (quiet_at first exact events ((answers ++ map replied some) ++ map replied rest) next.after new next.quiet_after
      (turn_at events (answers ++ map replied some) next.before next.after rest once next.step
      (quiet_at first exact events (answers ++ map replied some) mid next.before next.quiet_before (turns_at events answers once so_far o))))

  -- a step, and maybe a lost link
  pub may_lose_at : (events : List Frame) (Step : Device → List Reply → Device → Type 0) (answers : List Answer) (s new : Device) (said : List Reply) → ((nexus tag : ℕ) → how_many (asks_by nexus tag) events < 2)
      → ((mid : Device) (now : List Reply) → Step s now mid → InOrderAt first exact events (answers ++ map replied now) mid) → MayLose Step s said new → InOrderAt first exact events (answers ++ map replied said) new
  may_lose_at events Step answers s new said once h (keeps k) = h new said k
  may_lose_at events Step answers s new said once h (keeps_and_loses {answers = now} {more = rest} {mid = mid} {after = after} k q l) =
      subst (λ a. InOrderAt first exact events a new) (append_assoc answers (map replied now) (map replied rest) ∙ ap (λ l. answers ++ l) (sym (map-append replied now rest)))
      (lost_at first exact events (answers ++ map replied now) after new rest once l.answer (ap (λ d. d.cells) l.stays) (ap (λ d. d.tasks) l.stays) (ap (λ d. d.down) l.stays) (ap (λ d. d.identity) l.stays)
      (quiet_at first exact events (answers ++ map replied now) mid after q (h mid now k)))
