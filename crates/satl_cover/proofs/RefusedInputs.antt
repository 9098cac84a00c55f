-- What a reader refuses is a bad input.
use Rattle.std.proofs.Common.{arith, ◌≡◌, refl, sym, ap, ◌∙◌, subst, ℕ, Bool, true, false, List, [], ◌∷◌, ◌++◌, length, take, drop, Option, Some, None}
use Rattle.std.specs.Prelude.{◌≤◌, ◌==◌, ◌||◌, not, nat_eq, nat_lt, slice_index, if◌then◌else◌}
use Rattle.std.specs.List.{starts_with}
use Rattle.std.specs.Option.{option_or}
use Rattle.std.proofs.lemmas.Bool.{eqb-true, ltb-false, not-false}
use Rattle.std.proofs.lemmas.Option.{same_Some}
use Rattle.std.proofs.Math.Bool.{or-false}
use Rattle.std.proofs.lemmas.Bool.Decides.{Decides-eqb}
use Rattle.std.proofs.lemmas.Slice.Eq.{starts_is}
use Rattle.satl_base.specs.Limits.{input_limit}
use Rattle.satl_frame.specs.declared.frames.Frame.{Frame}
use Rattle.satl_frame.specs.declared.frames.FrameFault.TheVariants.{Bad}
use Rattle.satl_frame.specs.declared.frames.Place.{Place}
use Rattle.satl_frame.specs.declared.frames.Reason.{Reason}
use Rattle.satl_frame.specs.declared.frames.Reason.TheVariants.{BadMagic, Truncated}
use Rattle.satl_frame.specs.declared.frames.Version.{Version}
use Rattle.satl_frame.specs.declared.frames.Version.TheVariants.{One, Two}
use Rattle.satl_frame.specs.Faults.{frame_fault}
use Rattle.satl_frame.specs.Inputs.{NoneEnds, Reads}
use Rattle.satl_frame.specs.Magic.{magic, magic_fault, magic_name, names_version, version_code, version_of}
use Rattle.satl_frame.specs.Progress.{HasRead, ReadUpTo}
use Rattle.satl_frame.specs.Reading.{Blames, Reading, at_offset, where_refused}
use Rattle.satl_frame.proofs.ProgressLemmas.{has_read_all}
use Rattle.satl_cover.specs.Covered.{IsBadInput}
use Rattle.satl_cover.specs.Covered.IsBadInput.{bad_magic, bad_frame}

-- a test that refuses was passed
passed : (b : Bool) (r : Reason) (later : Option Reason) → (if b then Some r else later) ≡ None → (b ≡ false) × (later ≡ None)
passed true r later e = absurd cc
passed false r later e = (refl, e)

-- the byte of the version
code_is : (v : ℕ) → ((v == 0x31) || (v == 0x32)) ≡ true → v ≡ version_code (if v == 0x32 then Two else One)
code_is v h =
    (elim (v == 0x32) as (λ b. (v == 0x32) ≡ b → ((v == 0x31) || b) ≡ true → v ≡ version_code (if b then Two else One)) [
      | true ↦ λ e g. eqb-true v 0x32 e
      | false ↦ λ e g. eqb-true v 0x31 (sym (or-false (v == 0x31)) ∙ g)
    ]) refl h

-- a good magic stands in front
begins : (input : List ℕ) → magic_fault Two (take 8 input) ≡ None → input ≡ magic (version_of input) ++ drop 8 input
begins input e =
    let first = passed (not (starts_with nat_eq magic_name (take 7 (take 8 input)))) BadMagic _ e in
    let second = passed (nat_lt (length (take 8 input)) 8) Truncated _ first.1 in
    let third = passed (not (names_version Two (slice_index (take 8 input) 7))) BadMagic None second.1 in
    eight input (ltb-false _ _ second.0) (not-false _ first.0) (not-false _ third.0)
  where
    eight : (input : List ℕ) → 8 ≤ length (take 8 input) → starts_with nat_eq magic_name (take 7 (take 8 input)) ≡ true → names_version Two (slice_index (take 8 input) 7) ≡ true → input ≡ magic (version_of input) ++ drop 8 input
    eight [] l n v = absurd (omega arith)
    eight (a ∷ []) l n v = absurd (omega arith)
    eight (a ∷ b ∷ []) l n v = absurd (omega arith)
    eight (a ∷ b ∷ c ∷ []) l n v = absurd (omega arith)
    eight (a ∷ b ∷ c ∷ d ∷ []) l n v = absurd (omega arith)
    eight (a ∷ b ∷ c ∷ d ∷ f ∷ []) l n v = absurd (omega arith)
    eight (a ∷ b ∷ c ∷ d ∷ f ∷ g ∷ []) l n v = absurd (omega arith)
    eight (a ∷ b ∷ c ∷ d ∷ f ∷ g ∷ h ∷ []) l n v = absurd (omega arith)
    eight (a ∷ b ∷ c ∷ d ∷ f ∷ g ∷ h ∷ k ∷ input) l n v =
        let name : a ∷ b ∷ c ∷ d ∷ f ∷ g ∷ h ∷ [] ≡ magic_name = sym ((starts_is Decides-eqb magic_name (a ∷ b ∷ c ∷ d ∷ f ∷ g ∷ h ∷ []) true (sym n)).0 refl) in
        ap (λ (l : List ℕ). l ++ k ∷ input) name ∙ ap (λ (m : ℕ). magic_name ++ m ∷ input) (code_is k v)

-- what a reader refuses is a bad input
pub refused_is_bad : (r : Reading) (input left : List ℕ) (left' : Option (List ℕ)) (given : List Frame) (reason : Reason) (offset : ℕ) → r.limit ≡ input_limit → r.newest ≡ Two →
    HasRead r (Some input) (Some left) given → NoneEnds given → Blames r (Some left) left' (Bad reason offset) → IsBadInput input reason offset
refused_is_bad r input left left' given reason offset is_limit is_newest read none blames = by_place r.limit r.newest r.place is_limit is_newest read blames.0
  where
    at_offset_is : (o : Option Reason) (m : ℕ) → at_offset m o ≡ Some (reason, offset) → (o ≡ Some reason) × (offset ≡ m)
    at_offset_is None m e = absurd cc
    at_offset_is (Some x) m e =
        let both : ◌≡◌ {A = Reason × ℕ} (x, m) (reason, offset) = same_Some (x, m) (reason, offset) e in
        (ap (λ (p : Reason × ℕ). Some p.0) both, ap (λ (p : Reason × ℕ). p.1) (sym both))

    by_magic : (o : Option Reason) → magic_fault Two (take 8 input) ≡ o → option_or (at_offset 0 o) (at_offset 8 (frame_fault (version_of input) input_limit 8 (drop 8 input))) ≡ Some (reason, offset) → IsBadInput input reason offset
    by_magic None e refused =
        let x = at_offset_is (frame_fault (version_of input) input_limit 8 (drop 8 input)) 8 refused in
        bad_frame [] (record { split = begins input e; each = tt }) tt x.0 x.1
    by_magic (Some w) e refused = let x = at_offset_is (Some w) 0 refused in bad_magic (e ∙ x.0) x.1

    by_place : (l : ℕ) (newest : Version) (at : Option Place) → l ≡ input_limit → newest ≡ Two → ReadUpTo l newest at (Some input) (Some left) given → where_refused l newest at left ≡ Some (reason, offset) → IsBadInput input reason offset
    by_place l newest None is_limit is_newest (nothing, same) refused =
        by_magic (magic_fault Two (take 8 input)) refl
        (subst (λ (i : List ℕ). where_refused input_limit Two None i ≡ Some (reason, offset)) (same_Some left input same)
        (subst (λ (v : Version). where_refused input_limit v None left ≡ Some (reason, offset)) is_newest (subst (λ (n : ℕ). where_refused n newest None left ≡ Some (reason, offset)) is_limit refused)))
    by_place l newest (Some p) is_limit is_newest read refused =
        let x = at_offset_is (frame_fault p.version l p.offset left) p.offset refused in
        let reads : Reads input_limit input p.version given left = subst (λ (n : ℕ). Reads n input p.version given left) is_limit (has_read_all l newest p input left given read) in
        bad_frame given reads none (subst (λ (o : ℕ). frame_fault p.version input_limit o left ≡ Some reason) read.offset_is (subst (λ (n : ℕ). frame_fault p.version n p.offset left ≡ Some reason) is_limit x.0)) (x.1 ∙ read.offset_is)
