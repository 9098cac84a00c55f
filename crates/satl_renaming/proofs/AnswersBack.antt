-- The answers to the tag of a place are those to its request, until its nexus and tag are used again.
use Rattle.std.proofs.Common.{◌≡◌, ⊎_elim, inl, inr, refl, sym, ap, ◌∙◌, subst, ℕ, suc, ◌+◌, ◌≤◌, Bool, true, false, List, [], ◌∷◌, ◌++◌, arith, map, length, eqb-true, eq-eqb}
use Rattle.std.specs.Prelude.{if◌then◌else◌, ◌==◌, ◌&&◌, ◌||◌, ◌≢◌, filter, take}
use Rattle.std.specs.List.{list_any}
use Rattle.std.proofs.lemmas.Bool.{and_parts}
use Rattle.std.proofs.lemmas.List.{length-map, map-append}
use Rattle.std.proofs.lemmas.List.Elements.{filter-append}
use Rattle.satl_base.specs.declared.request.Request.{Request}
use Rattle.satl_base.specs.declared.reply.Reply.{Reply}
use Rattle.satl_base.specs.Lists.{IsIn, how_many}
use Rattle.satl_frame.specs.declared.frames.Frame.{Frame}
use Rattle.satl_frame.specs.declared.frames.Frame.TheVariants as frames
use Rattle.satl_frame.specs.Output.{Answer}
use Rattle.satl_frame.specs.Output.Answer.{replied, managed, closed}
use Rattle.satl_direct.specs.Run.{joined}
use Rattle.satl_laws.specs.ArrivalOrder.{IsGoodReply, is_good, was_done}
use Rattle.satl_laws.specs.OnceEach.{answers_to, asks_by}
use Rattle.satl_laws.proofs.Seen.{by_test}
use Rattle.satl_renaming.specs.UsedAgain.{answers_from, how_many_before}
use Rattle.satl_renaming.proofs.Names.{AreApart, AreNames, Names, named_from, named_on, names_by_asked, next, own_named, own_tag}
use Rattle.satl_renaming.proofs.Renaming.{answer_by, answers_by, named_alike}
use Rattle.satl_renaming.proofs.RenamedRuns.{groups_by}

-- an answer with another tag
abbrev pub retagged : ℕ → Answer → Answer
retagged tag (replied reply) = replied (record reply { tag = record { 0 = tag } })
retagged tag (managed nexus function response named) = managed nexus function response named
retagged tag closed = closed

-- the answers to a nexus and tag
abbrev pub answers_of : ℕ → ℕ → List Answer → List Answer
answers_of nexus tag answers = filter (answers_to nexus tag) answers

of-append : (nexus tag : ℕ) (xs ys : List Answer) → answers_of nexus tag (xs ++ ys) ≡ answers_of nexus tag xs ++ answers_of nexus tag ys
of-append nexus tag xs ys = filter-append (answers_to nexus tag) xs ys

-- ---- one group

-- the answers to a name are those to its new tag
group_back : (names : Names) → AreApart names → (nexus tag own : ℕ) → names nexus tag ≡ own → (group : List Answer) → answers_of nexus own (answers_by names group) ≡ map (retagged own) (answers_of nexus tag group)
group_back names apart nexus tag own is [] = refl
group_back names apart nexus tag own is (replied reply ∷ group) =
    let rest = group_back names apart nexus tag own is group in
    let new : Answer = answer_by names (replied reply) in
    let same : answers_to nexus own new ≡ answers_to nexus tag (replied reply) =
    ap (λ n. answers_to nexus n new) (sym is) ∙ named_alike names apart nexus tag reply.nexus (reply.tag).0 in
    ap (λ b. if b then new ∷ answers_of nexus own (answers_by names group) else answers_of nexus own (answers_by names group)) same
    ∙ by_test (λ b. (if b then new ∷ answers_of nexus own (answers_by names group) else answers_of nexus own (answers_by names group)) ≡ map (retagged own) (if b then replied reply ∷ answers_of nexus tag group else answers_of nexus tag group)) (answers_to nexus tag (replied reply))
    (λ named.
    let parts = and_parts (reply.nexus == nexus) ((reply.tag).0 == tag) named in
    let tagged : names reply.nexus (reply.tag).0 ≡ own = ap (λ n. names n (reply.tag).0) (eqb-true reply.nexus nexus parts.0) ∙ ap (names nexus) (eqb-true (reply.tag).0 tag parts.1) ∙ is in
    ap (λ t. replied (record reply { tag = record { 0 = t } }) ∷ answers_of nexus own (answers_by names group)) tagged ∙ ap (λ l. retagged own (replied reply) ∷ l) rest)
    (λ other. rest)
group_back names apart nexus tag own is (managed from function response named ∷ group) = group_back names apart nexus tag own is group
group_back names apart nexus tag own is (closed ∷ group) = group_back names apart nexus tag own is group

-- a tag that stands for none is answered nowhere
group_none : (names : Names) (nexus own : ℕ) → ((tag : ℕ) → names nexus tag ≢ own) → (group : List Answer) → answers_of nexus own (answers_by names group) ≡ []
group_none names nexus own dead [] = refl
group_none names nexus own dead (replied reply ∷ group) =
    let new : Answer = answer_by names (replied reply) in
    by_test (λ b. (if b then new ∷ answers_of nexus own (answers_by names group) else answers_of nexus own (answers_by names group)) ≡ []) (answers_to nexus own new)
    (λ named.
    let parts = and_parts (reply.nexus == nexus) (names reply.nexus (reply.tag).0 == own) named in
    absurd (dead (reply.tag).0 (ap (λ n. names n (reply.tag).0) (sym (eqb-true reply.nexus nexus parts.0)) ∙ eqb-true (names reply.nexus (reply.tag).0) own parts.1)))
    (λ other. group_none names nexus own dead group)
group_none names nexus own dead (managed from function response named ∷ group) = group_none names nexus own dead group
group_none names nexus own dead (closed ∷ group) = group_none names nexus own dead group

-- ---- the groups

-- a tag that is given to no place from this one on
abbrev IsPast : ℕ → ℕ → Type 0
IsPast place own = (later : ℕ) → place ≤ later → own ≢ own_tag later

-- and that stands for none gets no answer any more
none_back : (place : ℕ) (names : Names) (events : List Frame) (groups : List (List Answer)) (nexus own : ℕ) → ((tag : ℕ) → names nexus tag ≢ own) → IsPast place own
    → answers_of nexus own (joined (groups_by place names events groups)) ≡ []
none_back place names [] groups nexus own dead past = refl
none_back place names (event ∷ events) [] nexus own dead past = refl
none_back place names (event ∷ events) (group ∷ groups) nexus own dead past =
    let now : Names = named_from place event names in
    of-append nexus own (answers_by now group) (joined (groups_by (suc place) now events groups))
    ∙ ap (λ l. l ++ answers_of nexus own (joined (groups_by (suc place) now events groups))) (group_none now nexus own still group)
    ∙ none_back (suc place) now events groups nexus own still (λ later h. past later (omega (arith, h)))
  where
    still : (tag : ℕ) → named_from place event names nexus tag ≢ own
    still tag =
        by_test (λ b. (if b then own_tag place else names nexus tag) ≡ own → ⊥) (asks_by nexus tag event) (λ asks e. past place (omega arith) (sym e)) (λ other e. dead tag e)

-- while the tag of a place stands for a name, the answers to the name are those to the tag
until_back : (place : ℕ) (names : Names) → AreNames place names → (events : List Frame) (groups : List (List Answer)) (nexus tag own : ℕ) → names nexus tag ≡ own → IsPast place own
    → answers_of nexus own (joined (groups_by place names events groups)) ≡ map (retagged own) (answers_of nexus tag (joined (take (how_many_before nexus tag events) groups)))
until_back place names good [] groups nexus tag own is past = refl
until_back place names good (event ∷ events) [] nexus tag own is past =
    by_test (λ b. [] ≡ map (retagged own) (answers_of nexus tag (joined (take (if b then 0 else suc (how_many_before nexus tag events)) [])))) (asks_by nexus tag event) (λ asks. refl) (λ other. refl)
until_back place names good (event ∷ events) (group ∷ groups) nexus tag own is past =
    let now : Names = named_from place event names in
    let rest : List Answer = joined (groups_by (suc place) now events groups) in
    let later : IsPast (suc place) own = λ later h. past later (omega (arith, h)) in
    let fine : AreNames (suc place) now = named_on place event names good in
    of-append nexus own (answers_by now group) rest
    ∙ by_test (λ b. answers_of nexus own (answers_by now group) ++ answers_of nexus own rest ≡ map (retagged own) (answers_of nexus tag (joined (take (if b then 0 else suc (how_many_before nexus tag events)) (group ∷ groups))))) (asks_by nexus tag event)
    (λ asks.
    let dead : (other : ℕ) → now nexus other ≢ own = names_by_asked place event names good nexus tag own is (past place (omega arith)) asks in
    ap (λ l. l ++ answers_of nexus own rest) (group_none now nexus own dead group) ∙ none_back (suc place) now events groups nexus own dead later)
    (λ other.
    let still : now nexus tag ≡ own = ap (λ b. if b then own_tag place else names nexus tag) other ∙ is in
    let last : List Answer = joined (take (how_many_before nexus tag events) groups) in
    ap (λ l. l ++ answers_of nexus own rest) (group_back now fine.apart nexus tag own still group)
    ∙ ap (λ l. map (retagged own) (answers_of nexus tag group) ++ l) (until_back (suc place) now fine events groups nexus tag own still later)
    ∙ sym (map-append (retagged own) (answers_of nexus tag group) (answers_of nexus tag last))
    ∙ ap (map (retagged own)) (sym (of-append nexus tag group last)))

-- the answers to the request at a place
pub answers_back : (place : ℕ) (names : Names) → AreNames place names → (before after : List Frame) (r : Request) (groups : List (List Answer)) (own : ℕ) → own ≡ own_tag (place + length before)
    → answers_of r.nexus own (joined (groups_by place names (before ++ frames.Request r ∷ after) groups)) ≡ map (retagged own) (answers_of r.nexus (r.tag).0 (answers_from r.nexus (r.tag).0 (before ++ frames.Request r ∷ after) groups (length before)))
answers_back place names good [] after r [] own is = refl
answers_back place names good [] after r (group ∷ groups) own is =
    let now : Names = named_from place (frames.Request r) names in
    let fine : AreNames (suc place) now = named_on place (frames.Request r) names good in
    let named : now r.nexus (r.tag).0 ≡ own = own_named place r names ∙ own_at place place (omega arith) ∙ sym is in
    let last : List Answer = joined (take (how_many_before r.nexus (r.tag).0 after) groups) in
    of-append r.nexus own (answers_by now group) (joined (groups_by (suc place) now after groups))
    ∙ ap (λ l. l ++ answers_of r.nexus own (joined (groups_by (suc place) now after groups))) (group_back now fine.apart r.nexus (r.tag).0 own named group)
    ∙ ap (λ l. map (retagged own) (answers_of r.nexus (r.tag).0 group) ++ l) (until_back (suc place) now fine after groups r.nexus (r.tag).0 own named (λ later h e. passed place later own is h e))
    ∙ sym (map-append (retagged own) (answers_of r.nexus (r.tag).0 group) (answers_of r.nexus (r.tag).0 last))
    ∙ ap (map (retagged own)) (sym (of-append r.nexus (r.tag).0 group last))
  where
    own_at : (a b : ℕ) → a ≡ b → own_tag a ≡ own_tag (b + 0)
    own_at a b e = omega (arith, e)

    passed : (a b own : ℕ) → own ≡ own_tag (a + 0) → suc a ≤ b → own ≡ own_tag b → ⊥
    passed a b own e h k = omega (arith, e, h, k)
answers_back place names good (event ∷ before) after r [] own is = refl
answers_back place names good (event ∷ before) after r (group ∷ groups) own is =
    let now : Names = named_from place event names in
    let fine : AreNames (suc place) now = named_on place event names good in
    let rest : List Answer = joined (groups_by (suc place) now (before ++ frames.Request r ∷ after) groups) in
    of-append r.nexus own (answers_by now group) rest
    ∙ ap (λ l. l ++ answers_of r.nexus own rest) (group_none now r.nexus own (λ tag e. fine.unused r.nexus tag (place + suc (length before)) (omega arith) (e ∙ is)) group)
    ∙ answers_back (suc place) now fine before after r groups own (is ∙ ap own_tag (sym (next place (length before))))

-- ---- what is told of them

-- whether an answer says GOOD
abbrev says_good : Answer → Bool
says_good (replied reply) = is_good reply.status
says_good (managed nexus function response named) = false
says_good closed = false

-- a request was done where an answer to it says GOOD
done_of : (answers : List Answer) (r : Request) → was_done answers r ≡ list_any says_good (answers_of r.nexus (r.tag).0 answers)
done_of [] r = refl
done_of (replied reply ∷ answers) r = by_name (reply.nexus == r.nexus) ((reply.tag).0 == (r.tag).0) (done_of answers r)
  where
    by_name : (a b : Bool) → was_done answers r ≡ list_any says_good (answers_of r.nexus (r.tag).0 answers)
        → ((a && b && is_good reply.status) || was_done answers r) ≡ list_any says_good (if a && b then replied reply ∷ answers_of r.nexus (r.tag).0 answers else answers_of r.nexus (r.tag).0 answers)
    by_name true true rest = ap (λ b. is_good reply.status || b) rest
    by_name true false rest = rest
    by_name false b rest = rest
done_of (managed nexus function response named ∷ answers) r = done_of answers r
done_of (closed ∷ answers) r = done_of answers r

any_retagged : (tag : ℕ) (answers : List Answer) → list_any says_good (map (retagged tag) answers) ≡ list_any says_good answers
any_retagged tag [] = refl
any_retagged tag (replied reply ∷ answers) = ap (λ b. is_good reply.status || b) (any_retagged tag answers)
any_retagged tag (managed nexus function response named ∷ answers) = any_retagged tag answers
any_retagged tag (closed ∷ answers) = any_retagged tag answers

in_filtered : {X : Type 0} (p : X → Bool) (xs : List X) (x : X) → p x ≡ true → IsIn x xs → IsIn x (filter p xs)
in_filtered p [] x h i = i
in_filtered p (y ∷ ys) x h i =
    by_test (λ b. IsIn x (if b then y ∷ filter p ys else filter p ys)) (p y)
    (λ passes. ⊎_elim (λ same. inl same) (λ later. inr (in_filtered p ys x h later)) i)
    (λ fails. ⊎_elim (λ same. let no : true ≡ false = sym h ∙ ap p same ∙ fails in absurd cc) (λ later. in_filtered p ys x h later) i)

of_filtered : {X : Type 0} (p : X → Bool) (xs : List X) (x : X) → IsIn x (filter p xs) → IsIn x xs
of_filtered p [] x i = i
of_filtered p (y ∷ ys) x i =
    by_test (λ b. IsIn x (if b then y ∷ filter p ys else filter p ys) → IsIn x (y ∷ ys)) (p y)
    (λ passes j. ⊎_elim (λ same. inl same) (λ later. inr (of_filtered p ys x later)) j)
    (λ fails j. inr (of_filtered p ys x j)) i

in_map : {X Y : Type 0} (f : X → Y) (xs : List X) (x : X) → IsIn x xs → IsIn (f x) (map f xs)
in_map f [] x i = elim i [ ]
in_map f (y ∷ ys) x i = ⊎_elim (λ same. inl (ap f same)) (λ later. inr (in_map f ys x later)) i

counted : {X : Type 0} (p : X → Bool) (xs : List X) → how_many p xs ≡ length (filter p xs)
counted p [] = refl
counted p (x ∷ xs) = by_test (λ b. (if b then 1 else 0) + how_many p xs ≡ length (if b then x ∷ filter p xs else filter p xs)) (p x) (λ passes. omega (arith, counted p xs)) (λ fails. omega (arith, counted p xs))

-- a request whose answers are found again under another tag
module _ (r : Request) (own : ℕ) (renamed answers : List Answer) (back : answers_of r.nexus own renamed ≡ map (retagged own) (answers_of r.nexus (r.tag).0 answers)) where
  pub done_back : was_done answers r ≡ was_done renamed (record r { tag = record { 0 = own } })
  done_back = done_of answers r ∙ sym (any_retagged own (answers_of r.nexus (r.tag).0 answers)) ∙ ap (list_any says_good) (sym back) ∙ sym (done_of renamed (record r { tag = record { 0 = own } }))

  pub good_back : (reply : Reply) → IsGoodReply r reply answers → IsGoodReply (record r { tag = record { 0 = own } }) (record reply { tag = record { 0 = own } }) renamed
  good_back reply good =
      let named = and_parts ((reply.nexus == r.nexus) && ((reply.tag).0 == (r.tag).0)) (is_good reply.status) good.done in
      let nexus = and_parts (reply.nexus == r.nexus) ((reply.tag).0 == (r.tag).0) named.0 in
      record {
        among = of_filtered (answers_to r.nexus own) renamed _ (subst (IsIn (retagged own (replied reply))) (sym back) (in_map (retagged own) (answers_of r.nexus (r.tag).0 answers) (replied reply) (in_filtered (answers_to r.nexus (r.tag).0) answers (replied reply) named.0 good.among)));
        done = ap (λ b. b && (own == own) && is_good reply.status) nexus.0 ∙ ap (λ b. b && is_good reply.status) (eq-eqb own own refl) ∙ named.1;
      }

  pub counted_back : how_many (answers_to r.nexus own) renamed ≡ how_many (answers_to r.nexus (r.tag).0) answers
  counted_back = counted (answers_to r.nexus own) renamed ∙ ap length back ∙ length-map (answers_of r.nexus (r.tag).0 answers) (retagged own) ∙ sym (counted (answers_to r.nexus (r.tag).0) answers)
