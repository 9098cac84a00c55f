-- What follows of two facts where all went well, or did not, and what holds in any case.
use Rattle.std.specs.Prelude.{Result, Ok, Err, OnErr, OnOk}

pub on_both : {A E : Type 0} (r : Result A E) (P P' Q : Type 0) → (P → P' → Q) → OnOk r P → OnOk r P' → OnOk r Q
on_both (Ok x) P P' Q f p q = f p q
on_both (Err e) P P' Q f p q = tt

pub on_both_err : {A E : Type 0} (r : Result A E) (P P' Q : Type 0) → (P → P' → Q) → OnErr r P → OnErr r P' → OnErr r Q
on_both_err (Ok x) P P' Q f p q = tt
on_both_err (Err e) P P' Q f p q = f p q

pub any_err : {A E : Type 0} (r : Result A E) (P : Type 0) → P → OnErr r P
any_err (Ok x) P p = tt
any_err (Err e) P p = p
