-- Reads after reads and writes after writes, where the bytes are known.
use Rattle.std.proofs.Common.{◌≡◌, List, [], ◌++◌, ℕ, refl, sym, subst, ◌∙◌, ap, append_assoc, Some, None, IfSome, length, take, min, ◌+◌, ◌≤◌, take-take, take-append-drop, arith, inl, inr}
use Rattle.std.proofs.lemmas.List.{append-nil}
use Rattle.std.specs.declared.option.Option.{Option}
use Rattle.std.specs.Io.{StartsWith}
use Rattle.std.specs.Io.BufRead.{DropsConsumable}
use Rattle.std.specs.Io.KnownBytes.{Keeps, Consumes, Appends}
use Rattle.std.proofs.Math.Seq.{take-append-add, take-length}
use Rattle.std.proofs.lemmas.List.{take-append-le, take_all}
use Rattle.std.proofs.lemmas.Bool.{cases_lt}
use Rattle.satl_io.specs.Known.{Took, Wrote, WrotePart}

consumes_more : (a b c : Option (List ℕ)) (xs ys : List ℕ) → Consumes a b xs → Consumes b c ys → Consumes a c (xs ++ ys)
consumes_more None b c xs ys p q = tt
consumes_more (Some l) None c xs ys p q = absurd p
consumes_more (Some l) (Some m) None xs ys p q = absurd q
consumes_more (Some l) (Some m) (Some n) xs ys p q = p ∙ ap (λ zs. xs ++ zs) q ∙ sym (append_assoc xs ys n)

appends_more : (a b c : Option (List ℕ)) (xs ys : List ℕ) → Appends a b xs → Appends b c ys → Appends a c (xs ++ ys)
appends_more None b c xs ys p q = tt
appends_more (Some l) None c xs ys p q = absurd p
appends_more (Some l) (Some m) None xs ys p q = absurd q
appends_more (Some l) (Some m) (Some n) xs ys p q = q ∙ ap (λ zs. zs ++ ys) p ∙ append_assoc l xs ys

consumes_none : (a : Option (List ℕ)) → Consumes a a []
consumes_none None = tt
consumes_none (Some l) = refl

appends_none : (a : Option (List ℕ)) → Appends a a []
appends_none None = tt
appends_none (Some l) = sym (append-nil l)

-- a read after a read
pub Took-more : {a b c : Option (List ℕ)} {xs ys : List ℕ} → Took a b xs → Took b c ys → Took a c (xs ++ ys)
Took-more {a} {b} {c} {xs} {ys} p q = record { known = consumes_more a b c xs ys p.known q.known }

-- a read after a call that takes nothing
pub Took-kept : {a b c : Option (List ℕ)} {xs : List ℕ} → Keeps a b → Took b c xs → Took a c xs
Took-kept {a = None} kept took = record { known = tt }
Took-kept {a = Some l} {b = None} kept took = absurd kept
Took-kept {a = Some l} {b = Some m} {c} {xs} kept took = record { known = subst (λ bytes. Consumes (Some bytes) c xs) kept took.known }

-- no read
pub Took-none : (a : Option (List ℕ)) → Took a a []
Took-none a = record { known = consumes_none a }

consumes_front : (a b : Option (List ℕ)) (front : List ℕ) (n : ℕ) → n ≤ length front → IfSome a (λ bytes. StartsWith bytes front)
    → DropsConsumable a b (Some (length front)) n → Consumes a b (take n front)
consumes_front None b front n within starts dropped = tt
consumes_front (Some l) b front n within starts dropped =
    rw (dropped within, sym starts, take-take n (length front) l within) (sym (take-append-drop n l))

-- a read of a part of what was read ahead
pub Took-front : (a b : Option (List ℕ)) (front : List ℕ) (n : ℕ) → n ≤ length front → IfSome a (λ bytes. StartsWith bytes front)
    → DropsConsumable a b (Some (length front)) n → Took a b (take n front)
Took-front a b front n within starts dropped = record { known = consumes_front a b front n within starts dropped }

-- a write after a write
pub Wrote-more : {a b c : Option (List ℕ)} {xs ys : List ℕ} → Wrote a b xs → Wrote b c ys → Wrote a c (xs ++ ys)
Wrote-more {a} {b} {c} {xs} {ys} p q = record { known = appends_more a b c xs ys p.known q.known }

-- no write
pub Wrote-none : (a : Option (List ℕ)) → Wrote a a []
Wrote-none a = record { known = appends_none a }

-- a part of what follows
pub WrotePart-more : {a b c : Option (List ℕ)} {xs ys : List ℕ} → Wrote a b xs → WrotePart b c ys → WrotePart a c (xs ++ ys)
WrotePart-more {a} {b} {c} {xs} {ys} p q = record {
  count = length xs + q.count;
  wrote = rw (take-append-add xs ys q.count) (Wrote-more p q.wrote);
}

-- a part of the front is a part of all
pub WrotePart-front : {a b : Option (List ℕ)} {xs : List ℕ} (ys : List ℕ) → WrotePart a b xs → WrotePart a b (xs ++ ys)
WrotePart-front {a} {b} {xs} ys p = record {
  count = min p.count (length xs);
  wrote = rw (take-append-le (min p.count (length xs)) xs ys (omega arith), shorter xs p.count) p.wrote;
}
  where
    shorter : (xs : List ℕ) (n : ℕ) → take (min n (length xs)) xs ≡ take n xs
    shorter xs n = elim (cases_lt (length xs) n) [
      | inl l ↦ let e : min n (length xs) ≡ length xs = omega arith in rw (e, take-length xs) (sym (take_all n xs (omega arith)))
      | inr g ↦ let e : min n (length xs) ≡ n = omega arith in rw e refl
    ]
