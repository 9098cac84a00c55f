-- The nexus and tag of requests, tasks and answers.
use Rattle.std.proofs.Common.{◌≡◌, ⊎_elim, refl, sym, ap, ◌∙◌, ℕ, ◌+◌, ◌<◌, Bool, true, false, List, [], ◌∷◌, arith, eqb-true, eq-eqb}
use Rattle.std.specs.Prelude.{if◌then◌else◌, ◌==◌, ◌&&◌, ◌||◌}
use Rattle.std.specs.List.{list_any}
use Rattle.std.proofs.lemmas.Bool.{or_parts, and_parts}
use Rattle.satl_base.specs.declared.request.Request.{Request}
use Rattle.satl_base.specs.declared.reply.Reply.{Reply}
use Rattle.satl_base.specs.Lists.{IsIn, how_many}
use Rattle.satl_base.proofs.ListsLemmas.{none_counted}
use Rattle.satl_frame.specs.declared.frames.Frame.TheVariants as frames
use Rattle.satl_frame.specs.Output.{Answer}
use Rattle.satl_frame.specs.Output.Answer.{replied}
use Rattle.satl_line.specs.declared.entry.Entry.{Entry}
use Rattle.satl_direct.specs.Device.{is_called}
use Rattle.satl_laws.specs.ArrivalOrder.{is_done, is_good}
use Rattle.satl_laws.specs.OnceEach.{answers_to, asks_by}
use Rattle.satl_direct.specs.Valid.{AreOwn}
use Rattle.satl_direct.proofs.Naming.{called_self, each_of_none, own_more, own_none}
use Rattle.satl_laws.proofs.Seen.{by_test}

-- what holds of none holds of none of them
pub none_in : {X : Type 0} (p : X → Bool) (xs : List X) (y : X) → list_any p xs ≡ false → IsIn y xs → p y ≡ false
none_in p [] y h i = elim i [ ]
none_in p (x ∷ xs) y h i = ⊎_elim (λ same. ap p same ∙ (or_parts (p x) (list_any p xs) h).0) (λ later. none_in p xs y (or_parts (p x) (list_any p xs) h).1 later) i

-- ---- names

-- a request asks by its own nexus and tag
pub asks_self : (r : Request) → asks_by r.nexus (r.tag).0 (frames.Request r) ≡ true
asks_self r = ap (λ b. b && ((r.tag).0 == (r.tag).0)) (eq-eqb r.nexus r.nexus refl) ∙ eq-eqb (r.tag).0 (r.tag).0 refl

-- one of three that fails
pub and_three : (p q g : Bool) → (p && q) ≡ false → (p && q && g) ≡ false
and_three true true g h = absurd cc
and_three _ _ g h = refl

-- tests of numbers, the other way round
pub swapped : (a b c d : ℕ) → ((a == b) && (c == d)) ≡ false → ((b == a) && (d == c)) ≡ false
swapped a b c d h =
    by_test (λ t. t ≡ false) ((b == a) && (d == c))
    (λ yes_both. let p : a ≡ b = sym (eqb-true b a (and_parts (b == a) (d == c) yes_both).0) in
    let q : c ≡ d = sym (eqb-true d c (and_parts (b == a) (d == c) yes_both).1) in
    let both : ((a == b) && (c == d)) ≡ true = ap (λ t. t && (c == d)) (eq-eqb a b p) ∙ eq-eqb c d q in
    sym both ∙ h)
    (λ no. refl)

-- answers that are one are of one reply
pub one_reply : (a b : Reply) → replied a ≡ replied b → a ≡ b
one_reply a b h = cc

-- where nothing was answered to a nexus and tag, nothing is done
pub none_done : (r : Request) (answers : List Answer) → how_many (answers_to r.nexus (r.tag).0) answers ≡ 0 → list_any (is_done r) answers ≡ false
none_done r answers h = go answers (none_counted (answers_to r.nexus (r.tag).0) answers h)
  where
    go : (rest : List Answer) → list_any (answers_to r.nexus (r.tag).0) rest ≡ false → list_any (is_done r) rest ≡ false
    go [] h = refl
    go (replied reply ∷ rest) h =
        ap (λ b. b || list_any (is_done r) rest)
        (and_three (reply.nexus == r.nexus) ((reply.tag).0 == (r.tag).0) (is_good reply.status) (or_parts (answers_to r.nexus (r.tag).0 (replied reply)) (list_any (answers_to r.nexus (r.tag).0) rest) h).0)
        ∙ go rest (or_parts (answers_to r.nexus (r.tag).0 (replied reply)) (list_any (answers_to r.nexus (r.tag).0) rest) h).1
    go (_ ∷ rest) h = go rest h

-- 1 for a test that holds
abbrev pub one : Bool → ℕ
one b = if b then 1 else 0

-- where each name counts once at most, each task has a name of its own
pub own_counted : (tasks : List Entry) → ((nexus tag : ℕ) → how_many (is_called nexus tag) tasks < 2) → AreOwn tasks
own_counted [] h = own_none
own_counted (t ∷ ts) h =
    let self : one (is_called t.nexus (t.tag).0 t) ≡ 1 = ap one (called_self t) in
    own_more t ts (each_of_none (is_called t.nexus (t.tag).0) ts (none_counted (is_called t.nexus (t.tag).0) ts (omega (arith, self, h t.nexus (t.tag).0)))) (own_counted ts (λ nexus tag. less (one (is_called nexus tag t)) _ (h nexus tag)))
  where
    less : (a b : ℕ) → a + b < 2 → b < 2
    less a b h = omega (arith, h)
