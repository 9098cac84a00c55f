use Rattle.std.proofs.Common.{◌≡◌, ◌∷◌, ◌∙◌, ◌-◌, ap, arith, sym, drop, length, ℕ, List}
use Rattle.std.proofs.lemmas.List.{length-drop, take_all}
use Rattle.satl_frame.proofs.FieldBytes.{first_of}
use Rattle.satl_frame.proofs.payloads.order_of.Goals as goal

pub returns-clause-found : goal.returns-clause-found
returns-clause-found c =
    let p = c.args.payload.now in
    let size = length-drop 1 p in
    let all : c.new.result ≡ drop 1 p = c.new.ensures ∙ take_all (length p - 1) (drop 1 p) (omega (arith, size)) in
    record {
      is_event = (omega (arith, size, ap length all), omega (arith, size, ap length all));
      fields_are = ap (λ (bytes : List ℕ). 4 ∷ bytes) all ∙ ap (λ (x : ℕ). x ∷ drop 1 p) (sym c.requires.event) ∙ first_of p c.requires.some;
    }
