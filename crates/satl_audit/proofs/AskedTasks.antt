-- Tasks under way that are formed, called as no other and asked for.
use Rattle.std.proofs.Common.{arith, ◌≡◌, refl, sym, subst, ℕ, Bool, true, false, List, [], ◌∷◌, ◌++◌, append_assoc}
use Rattle.std.specs.Prelude.{◌≤◌, ◌==◌, ◌||◌}
use Rattle.std.proofs.lemmas.List.{append-nil}
use Rattle.std.proofs.lemmas.Bool.{eqb-true, and_parts}
use Rattle.std.specs.List.{AllByRecursion, list_any}
use Rattle.satl_base.specs.declared.request.Request.{Request}
use Rattle.satl_base.specs.declared.reply.Reply.{Reply}
use Rattle.satl_base.specs.Cells.{Cell}
use Rattle.satl_base.specs.Lists.{how_many}
use Rattle.satl_base.proofs.ListsLemmas.{All-remove_first, All-weaken, how_many-push}
use Rattle.satl_frame.specs.declared.frames.Frame.{Frame}
use Rattle.satl_frame.specs.declared.frames.Frame.TheVariants as frames
use Rattle.satl_line.specs.declared.entry.Entry.{Entry}
use Rattle.satl_direct.specs.Device.{Device, is_called}
use Rattle.satl_laws.specs.OnceEach.{asks_by}
use Rattle.satl_direct.specs.Valid.{AreOwn}
use Rattle.satl_audit.specs.Deeds.{Deed}
use Rattle.satl_audit.specs.Deeds.Deed.{shows}
use Rattle.satl_audit.specs.Skeleton.{TurnsDone, pairs_shown}
use Rattle.satl_audit.proofs.Each.{is_same}
use Rattle.satl_audit.proofs.Forming.{IsFormed}
use Rattle.satl_audit.proofs.Naming.{own_removed}
use Rattle.satl_audit.proofs.FewReach.{Follows, follow_done}

-- the tasks, each formed, called as no other and asked for
abbrev pub Asked : List Frame → Entry → Type 0
Asked all t = 1 ≤ how_many (asks_by t.nexus (t.tag).0) all

pub asked_on : (all : List Frame) (event : Frame) (ts : List Entry) → AllByRecursion (Asked all) ts → AllByRecursion (Asked (all ++ event ∷ [])) ts
asked_on all event ts h = All-weaken (Asked all) (Asked (all ++ event ∷ [])) (λ t k. omega (arith, k, how_many-push (asks_by t.nexus (t.tag).0) all event)) ts h

-- no task is called as a request that asks once
pub none_called : (r : Request) (all : List Frame) (ts : List Entry) → AllByRecursion (Asked all) ts → how_many (asks_by r.nexus (r.tag).0) all ≡ 0 → list_any (is_called r.nexus (r.tag).0) ts ≡ false
none_called r all [] h z = refl
none_called r all (t ∷ ts) h z =
    (elim (is_called r.nexus (r.tag).0 t) as (λ b. is_called r.nexus (r.tag).0 t ≡ b → (b || list_any (is_called r.nexus (r.tag).0) ts) ≡ false) [
      | true ↦ λ e. absurd (clash e)
      | false ↦ λ e. none_called r all ts h.1 z
    ]) refl
  where
    clash : is_called r.nexus (r.tag).0 t ≡ true → ⊥
    clash e =
        let nexus : t.nexus ≡ r.nexus = eqb-true t.nexus r.nexus (and_parts (t.nexus == r.nexus) ((t.tag).0 == (r.tag).0) e).0 in
        let tag : (t.tag).0 ≡ (r.tag).0 = eqb-true (t.tag).0 (r.tag).0 (and_parts (t.nexus == r.nexus) ((t.tag).0 == (r.tag).0) e).1 in
        let some : 1 ≤ how_many (asks_by r.nexus (r.tag).0) all = subst (λ n. 1 ≤ how_many (asks_by r.nexus n) all) tag (subst (λ n. 1 ≤ how_many (asks_by n (t.tag).0) all) nexus h.0) in
        omega (arith, some, z)

-- its own count
pub asks_own : (r : Request) → how_many (asks_by r.nexus (r.tag).0) (frames.Request r ∷ []) ≡ 1
asks_own r = rw (is_same r.nexus, is_same (r.tag).0) refl

module _ (x : ℕ) where
  pub record Going (first : Cell) (all : List Frame) (ds : List Deed) (s : Device) : Type 0 where
    pub follows : Follows x first ds s
    pub formed : AllByRecursion IsFormed s.tasks
    pub own : AreOwn s.tasks
    pub asked : AllByRecursion (Asked all) s.tasks

  -- turns
  pub turns_going : (first : Cell) (all : List Frame) (ds : List Deed) (s : Device) → Going first all ds s → {n : ℕ} {replies : List Reply} {deeds : List Deed} {u : Device} → TurnsDone s n replies deeds u → Going first all (ds ++ deeds) u
  turns_going first all ds s g TurnsDone.none = record { follows = subst (λ l. Follows x first l s) (sym (append-nil ds)) g.follows; formed = g.formed; own = g.own; asked = g.asked }
  turns_going first all ds s g (TurnsDone.idle t e) = turns_going first all ds s g t
  turns_going first all ds s g {u = u} (TurnsDone.more {deeds = deeds} {mid = mid} reply deed t d) =
      let r = turns_going first all ds s g t in
      let f = follow_done x first (ds ++ deeds) mid u r.formed reply deed r.own d r.follows in
      let p : Entry → Bool = is_called (d.task).nexus ((d.task).tag).0 in
      record {
        follows = subst (λ l. Follows x first l u) (append_assoc ds deeds (shows (pairs_shown mid) ∷ deed ∷ [])) f;
        formed = subst (λ (y : Device). AllByRecursion IsFormed y.tasks) (sym d.stays) (All-remove_first IsFormed p mid.tasks r.formed);
        own = subst (λ (y : Device). AreOwn y.tasks) (sym d.stays) (own_removed p mid.tasks r.own);
        asked = subst (λ (y : Device). AllByRecursion (Asked all) y.tasks) (sym d.stays) (All-remove_first (Asked all) p mid.tasks r.asked);
      }
