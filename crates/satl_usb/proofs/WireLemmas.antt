-- What is gathered and written for an answer.
use Rattle.std.proofs.Common.{◌≡◌, sym, ap, subst, arith, ◌∙◌, append_assoc, ℕ, ◌-◌, ◌≤◌, min, List, [], ◌++◌, take, replicate, inl, inr}
use Rattle.std.specs.Prelude.{Option}
use Rattle.std.proofs.lemmas.Bool.{cases_lt}
use Rattle.std.proofs.lemmas.List.{replicate-append-replicate, take_all, take-take, length-take}
use Rattle.satl_base.specs.declared.reply.Scsi.{Scsi}
use Rattle.satl_bot.specs.declared.command.Cbw.{Cbw}
use Rattle.satl_bot.specs.declared.status.CswStatus.{CswStatus}
use Rattle.satl_bot.specs.Wrappers.{csw_of}
use Rattle.satl_frame.specs.Gathering.{Gathers}
use Rattle.satl_frame.proofs.GatheringLemmas.{Gathers-more, gathers_end, gathers_end_part, gathers_part, part_of_front}
use Rattle.satl_io.specs.Known.{Wrote, WrotePart}
use Rattle.satl_io.proofs.Joined.{Wrote-more}
use Rattle.satl_usb.specs.Wire.{csw_status, residue, status_on_wire, taken_length, told_on_wire}

-- ---- zeros

module _ (count left some : ℕ) (few : left ≤ count) (fewer : some ≤ left) where
  zeros_more : replicate {A = ℕ} (count - left) 0 ++ replicate some 0 ≡ replicate (count - (left - some)) 0
  zeros_more = replicate-append-replicate (count - left) some 0 ∙ ap (λ n. replicate {A = ℕ} n 0) (omega (arith, few, fewer))

  zeros_all : (replicate {A = ℕ} (count - left) 0 ++ replicate some 0) ++ replicate (left - some) 0 ≡ replicate count 0
  zeros_all = ap (λ l. l ++ replicate (left - some) 0) zeros_more ∙ (replicate-append-replicate (count - (left - some)) (left - some) 0 ∙ ap (λ n. replicate {A = ℕ} n 0) (omega (arith, few, fewer)))

  -- some more were gathered
  pub zeros_gathered : (a b c : Option (List ℕ)) (g g' g'' piece : List ℕ) → piece ≡ replicate some 0 → Gathers a b g g' (replicate (count - left) 0) → Gathers b c g' g'' piece → Gathers a c g g'' (replicate (count - (left - some)) 0)
  zeros_gathered a b c g g' g'' piece is p q = subst (Gathers a c g g'') (ap (λ l. replicate (count - left) 0 ++ l) is ∙ zeros_more) (Gathers-more p q)

  -- or not
  pub zeros_failed : (a b c : Option (List ℕ)) (g g' piece : List ℕ) → piece ≡ replicate some 0 → Gathers a b g g' (replicate (count - left) 0) → WrotePart b c (g' ++ piece) → WrotePart a c (g ++ replicate count 0)
  zeros_failed a b c g g' piece is p part =
      part_of_front (replicate (left - some) 0)
      (append_assoc g (replicate (count - left) 0 ++ replicate some 0) (replicate (left - some) 0) ∙ ap (λ l. g ++ l) zeros_all)
      (subst (λ l. WrotePart a c (g ++ (replicate (count - left) 0 ++ l))) is (gathers_part piece p part))

-- ---- zeros, and the wrapper of a status

module _ (c : Cbw) (status : Scsi) (size missing : ℕ) (code : CswStatus) (wrapper : List ℕ) (zeros_are : missing ≡ residue c size) (code_is : code ≡ csw_status c status size) (wrapper_is : wrapper ≡ csw_of c.tag missing code) where
  behind_is : replicate missing 0 ++ wrapper ≡ status_on_wire c status size
  behind_is = ap (λ l. replicate missing 0 ++ l) wrapper_is ∙ (ap (λ n. replicate n 0 ++ csw_of c.tag n code) zeros_are ∙ ap (λ n. replicate (residue c size) 0 ++ csw_of c.tag (residue c size) n) code_is)

  pub zeros_in_part : (x y : Option (List ℕ)) (g : List ℕ) → WrotePart x y (g ++ replicate missing 0) → WrotePart x y (g ++ status_on_wire c status size)
  zeros_in_part x y g part = part_of_front wrapper (append_assoc g (replicate missing 0) wrapper ∙ ap (λ l. g ++ l) behind_is) part

  pub wrapper_in_part : (x y z : Option (List ℕ)) (g g' : List ℕ) → Gathers x y g g' (replicate missing 0) → WrotePart y z (g' ++ wrapper) → WrotePart x z (g ++ status_on_wire c status size)
  wrapper_in_part x y z g g' zeros part = subst (λ l. WrotePart x z (g ++ l)) behind_is (gathers_part wrapper zeros part)

  pub all_written : (x y z w : Option (List ℕ)) (g g' g'' : List ℕ) → Gathers x y g g' (replicate missing 0) → Gathers y z g' g'' wrapper → Wrote z w g'' → Wrote x w (g ++ status_on_wire c status size)
  all_written x y z w g g' g'' zeros last wrote = subst (λ l. Wrote x w (g ++ l)) behind_is (gathers_end (Gathers-more zeros last) wrote)

  pub all_in_part : (x y z w : Option (List ℕ)) (g g' g'' : List ℕ) → Gathers x y g g' (replicate missing 0) → Gathers y z g' g'' wrapper → WrotePart z w g'' → WrotePart x w (g ++ status_on_wire c status size)
  all_in_part x y z w g g' g'' zeros last part = subst (λ l. WrotePart x w (g ++ l)) behind_is (gathers_end_part (Gathers-more zeros last) part)

-- ---- data before it

pub take_twice : (m n : ℕ) (xs : List ℕ) → take (min m n) xs ≡ take m (take n xs)
take_twice m n xs = elim (cases_lt m n) [
  | inl l ↦ ap (λ k. take k xs) (omega (arith, l)) ∙ sym (take-take m n xs (omega (arith, l)))
  | inr g ↦ ap (λ k. take k xs) (omega (arith, g)) ∙ sym (take_all m (take n xs) (let few = length-take n xs in omega (arith, few, g)))
]

-- an answer whose data were gathered
module _ (c : Cbw) (status : Scsi) (size : ℕ) (data_in sent : List ℕ) (sent_is : sent ≡ take (taken_length c) data_in) where
  pub data_in_part : (x y : Option (List ℕ)) → WrotePart x y sent → WrotePart x y (told_on_wire c status size data_in)
  data_in_part x y part = part_of_front (status_on_wire c status size) (ap (λ l. l ++ status_on_wire c status size) sent_is) part

  pub answer_in_part : (x y z : Option (List ℕ)) (g g' : List ℕ) → g ≡ [] → Gathers x y g g' sent → WrotePart y z (g' ++ status_on_wire c status size) → WrotePart x z (told_on_wire c status size data_in)
  answer_in_part x y z g g' none p part = subst (WrotePart x z) (ap (λ l. l ++ (sent ++ status_on_wire c status size)) none ∙ ap (λ l. l ++ status_on_wire c status size) sent_is) (gathers_part (status_on_wire c status size) p part)

  pub answer_written : (x y z : Option (List ℕ)) (g g' : List ℕ) → g ≡ [] → Gathers x y g g' sent → Wrote y z (g' ++ status_on_wire c status size) → Wrote x z (told_on_wire c status size data_in)
  answer_written x y z g g' none p wrote = subst (Wrote x z) (sym (append_assoc p.gone g' (status_on_wire c status size)) ∙ (ap (λ l. l ++ status_on_wire c status size) (p.split ∙ (ap (λ l. l ++ sent) none ∙ sent_is)))) (Wrote-more p.wrote wrote)
