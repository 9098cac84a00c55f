-- Where a text and the form of what it says differ first.
use Rattle.std.proofs.Common.{◌≡◌, ℕ, ◌+◌, List, take, sym, ap, ◌∙◌}
use Rattle.std.specs.Prelude.{◌≢◌}
use Rattle.satl_base.specs.Fields.{IsBytes}
use Rattle.satl_sense.specs.declared.sense.Sense.{Sense}
use Rattle.satl_sense.specs.Descriptor.{descriptor_form}
use Rattle.satl_sense.specs.Fields.{sense_in}
use Rattle.satl_sense.specs.Reading.{IsDescriptorForm, IsFirstFault}
use Rattle.satl_sense.proofs.Nearest.{told, says_fits, begins_alike}

module _ (text form : List ℕ) (place : ℕ) (is : form ≡ descriptor_form (sense_in text)) (ne : take (place + 1) text ≢ take (place + 1) form) where
  -- then the text is no sense data
  pub not_whole : (s : Sense) → IsDescriptorForm text s → ⊥
  not_whole s r = ne (ap (take (place + 1)) (r.1 ∙ sym (is ∙ ap descriptor_form (ap sense_in r.1 ∙ told s r.0))))

  pub is_fault : IsBytes text → take place text ≡ take place form → IsFirstFault text place
  is_fault bs same = record {
    begins = (sense_in text, (says_fits text bs, same ∙ ap (take place) is));
    breaks = λ s b. ne (b.1 ∙ sym (begins_alike (place + 1) text s bs b.0 b.1) ∙ sym (ap (take (place + 1)) is));
  }
