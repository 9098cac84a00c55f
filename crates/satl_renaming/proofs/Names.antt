-- Tags that stand for tags: each request of a run gets one of its own.
use Rattle.std.proofs.Common.{◌≡◌, sym, ap, ◌∙◌, subst, ℕ, suc, ◌+◌, ◌≤◌, true, false, List, [], ◌∷◌, ◌++◌, arith, length, eqb-true}
use Rattle.std.specs.Prelude.{if◌then◌else◌, ◌==◌, ◌≢◌}
use Rattle.std.proofs.lemmas.Bool.{and_parts}
use Rattle.satl_base.specs.declared.request.Request.{Request}
use Rattle.satl_base.specs.Names.{is_name}
use Rattle.satl_frame.specs.declared.frames.Frame.{Frame}
use Rattle.satl_frame.specs.declared.frames.Frame.TheVariants as frames
use Rattle.satl_laws.specs.OnceEach.{asks_by}
use Rattle.satl_laws.proofs.Names.{asks_self}
use Rattle.satl_laws.proofs.Seen.{by_test}

-- the tag that stands for a tag of a nexus
abbrev pub Names : Type 0
Names = ℕ → ℕ → ℕ

-- different tags of a nexus stay different
abbrev pub AreApart : Names → Type 0
AreApart names = (nexus a b : ℕ) → names nexus a ≡ names nexus b → a ≡ b

-- a place and one more
pub next : (place n : ℕ) → suc place + n ≡ place + suc n
next place n = omega arith

-- at first each tag has an odd number
abbrev pub at_first : Names
at_first nexus tag = suc (tag + tag)

-- the tag of the request at a place: even, and used nowhere else
abbrev pub own_tag : ℕ → ℕ
own_tag place = place + place

-- from an event on, the name of its request has the tag of its place
abbrev pub named_from : ℕ → Frame → Names → Names
named_from place event names nexus tag = if asks_by nexus tag event then own_tag place else names nexus tag

-- the tags of places from this one on are not used yet
pub record AreNames (place : ℕ) (names : Names) : Type 0 where
  pub apart : AreApart names
  pub unused : (nexus tag later : ℕ) → place ≤ later → names nexus tag ≢ own_tag later

pub names_at_first : AreNames 0 at_first
names_at_first = record {
  apart = λ nexus a b h. omega (arith, h);
  unused = λ nexus tag later some h. odd tag later h;
}
  where
    odd : (a b : ℕ) → suc (a + a) ≡ b + b → ⊥
    odd a b h = omega (arith, h)

-- an event asks by one tag of a nexus
asked_once : (event : Frame) (nexus a b : ℕ) → asks_by nexus a event ≡ true → asks_by nexus b event ≡ true → a ≡ b
asked_once (frames.Request r) nexus a b h k = sym (tag_of a h) ∙ tag_of b k
  where
    tag_of : (tag : ℕ) → is_name nexus tag r.nexus (r.tag).0 ≡ true → (r.tag).0 ≡ tag
    tag_of tag h = eqb-true (r.tag).0 tag (and_parts (r.nexus == nexus) ((r.tag).0 == tag) h).1
asked_once _ nexus a b h k = absurd cc

-- and names stay apart
pub named_on : (place : ℕ) (event : Frame) (names : Names) → AreNames place names → AreNames (suc place) (named_from place event names)
named_on place event names old = record { apart = apart; unused = unused }
  where
    apart : AreApart (named_from place event names)
    apart nexus a b =
        by_test (λ p. (if p then own_tag place else names nexus a) ≡ named_from place event names nexus b → a ≡ b) (asks_by nexus a event)
        (λ asks_a. by_test (λ q. own_tag place ≡ (if q then own_tag place else names nexus b) → a ≡ b) (asks_by nexus b event)
        (λ asks_b e. asked_once event nexus a b asks_a asks_b)
        (λ other e. absurd (old.unused nexus b place (omega arith) (sym e))))
        (λ other. by_test (λ q. names nexus a ≡ (if q then own_tag place else names nexus b) → a ≡ b) (asks_by nexus b event)
        (λ asks_b e. absurd (old.unused nexus a place (omega arith) e))
        (λ neither e. old.apart nexus a b e))

    unused : (nexus tag later : ℕ) → suc place ≤ later → named_from place event names nexus tag ≢ own_tag later
    unused nexus tag later h =
        by_test (λ p. (if p then own_tag place else names nexus tag) ≡ own_tag later → ⊥) (asks_by nexus tag event)
        (λ asks e. absurd (omega (arith, h, e)))
        (λ other e. old.unused nexus tag later (omega (arith, h)) e)

-- once its name is used again, a tag of an earlier place stands for none
pub names_by_asked : (place : ℕ) (event : Frame) (names : Names) → AreNames place names → (nexus tag own : ℕ) → names nexus tag ≡ own → own ≢ own_tag place → asks_by nexus tag event ≡ true
    → (other : ℕ) → named_from place event names nexus other ≢ own
names_by_asked place event names good nexus tag own is past asks other =
    by_test (λ b. (if b then own_tag place else names nexus other) ≡ own → ⊥) (asks_by nexus other event)
    (λ too e. past (sym e))
    (λ never e. let no : true ≡ false = sym asks ∙ ap (λ t. asks_by nexus t event) (good.apart nexus tag other (is ∙ sym e)) ∙ never in absurd cc)

-- the name of a request has the tag of its place
pub own_named : (place : ℕ) (r : Request) (names : Names) → named_from place (frames.Request r) names r.nexus (r.tag).0 ≡ own_tag place
own_named place r names = ap (λ b. if b then own_tag place else names r.nexus (r.tag).0) (asks_self r)

-- ---- behind some events, of which the first has this place

abbrev pub names_after : ℕ → Names → List Frame → Names
names_after place names [] = names
names_after place names (event ∷ events) = names_after (suc place) (named_from place event names) events

pub named_after : (place : ℕ) (names : Names) (events : List Frame) → AreNames place names → AreNames (place + length events) (names_after place names events)
named_after place names [] old = subst (λ p. AreNames p names) (omega arith) old
named_after place names (event ∷ events) old =
    subst (λ p. AreNames p (names_after (suc place) (named_from place event names) events)) (next place (length events)) (named_after (suc place) (named_from place event names) events (named_on place event names old))

pub names_after-push : (place : ℕ) (names : Names) (events : List Frame) (event : Frame) → names_after place names (events ++ event ∷ []) ≡ named_from (place + length events) event (names_after place names events)
names_after-push place names [] event = ap (λ p. named_from p event names) (omega arith)
names_after-push place names (e ∷ events) event =
    names_after-push (suc place) (named_from place e names) events event
    ∙ ap (λ p. named_from p event (names_after (suc place) (named_from place e names) events)) (next place (length events))
