-- What an answer that is not left out is told as.
use Rattle.std.proofs.Common.{◌≡◌, refl, sym, subst, ℕ, Bool, false, List, [], ◌++◌}
use Rattle.std.specs.Prelude.{Option, if◌then◌else◌}
use Rattle.satl_io.specs.Known.{WrotePart}
use Rattle.satl_io.proofs.Joined.{WrotePart-front}
use Rattle.satl_frame.specs.Output.{Answer, answer_bytes}
use Rattle.satl_fleet.specs.Output.{is_left_out, told_one, unit_bytes}

told_named : (k : ℕ) (named : Bool) (answer : Answer) → is_left_out k answer ≡ false → told_one k named answer ≡ (if named then [] else unit_bytes k) ++ answer_bytes answer
told_named k named answer e = rw e refl

-- a front of the unit's name and of the answer
pub front_of_both : (k : ℕ) (named : Bool) (answer : Answer) (a c : Option (List ℕ)) → is_left_out k answer ≡ false → WrotePart a c ((if named then [] else unit_bytes k) ++ answer_bytes answer) → WrotePart a c (told_one k named answer)
front_of_both k named answer a c e part = subst (WrotePart a c) (sym (told_named k named answer e)) part

-- a front of the unit's name
pub front_of_name : (k : ℕ) (named : Bool) (answer : Answer) (a c : Option (List ℕ)) → is_left_out k answer ≡ false → WrotePart a c (if named then [] else unit_bytes k) → WrotePart a c (told_one k named answer)
front_of_name k named answer a c e part = front_of_both k named answer a c e (WrotePart-front (answer_bytes answer) part)
