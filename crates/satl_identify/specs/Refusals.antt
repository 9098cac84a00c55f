-- What IDENTIFY DEVICE data say, and which of them are refused (ACS-3 7.12.7; the refusals and their order: profile).
use Rattle.std.specs.Prelude.{◌≡◌, ℕ, not, Bool, List, [], ◌∷◌, Result, Ok, Err}
use Rattle.std.specs.List.{find}
use Rattle.std.specs.Option.{option_map_or}
use Rattle.satl_base.specs.Identify.{is_not_ata, has_bad_sum, has_lba48, has_queue, has_capacity, is_other_block, capacity, exponent, has_trim, has_queued_trim, has_cache, has_look, cache_is_on, look_is_on}
use Rattle.satl_identify.specs.declared.identity.Identity.{Identity}
use Rattle.satl_identify.specs.declared.identity.IdentityFault.{IdentityFault}
use Rattle.satl_identify.specs.declared.identity.IdentityFault.TheVariants.{NotAta, BadIntegrity, NoLba48, NoNcq, NoCapacity, NotBlock512}

-- a refusal, and the data that call for it
pub record IdentityRule : Type 0 where
  pub fault : IdentityFault
  pub breaks : List ℕ → Bool

-- the refusals, in the order in which they are judged
abbrev pub identity_rules : List IdentityRule
identity_rules =
    record { fault = NotAta; breaks = is_not_ata }
    ∷ record { fault = BadIntegrity; breaks = has_bad_sum }
    ∷ record { fault = NoLba48; breaks = λ d. not (has_lba48 d) }
    ∷ record { fault = NoNcq; breaks = λ d. not (has_queue d) }
    ∷ record { fault = NoCapacity; breaks = λ d. not (has_capacity d) }
    ∷ record { fault = NotBlock512; breaks = is_other_block }
    ∷ []

-- the first refusal that the data call for, else the identity
abbrev pub first_refused : List IdentityRule → List ℕ → Identity → Result Identity IdentityFault
first_refused rules d identity = option_map_or (λ rule. Err rule.fault) (find (λ rule. rule.breaks d) rules) (Ok identity)

-- what the data say
abbrev pub identity_in : List ℕ → Identity
identity_in d = record {
  bytes = d;
  capacity = capacity d;
  exponent = exponent d;
  trim = has_trim d;
  queued_trim = has_queued_trim d;
  cache = has_cache d;
  look = has_look d;
  cache_on = cache_is_on d;
  look_on = look_is_on d;
}

-- the identity of a drive with these data, or the first refusal
unfoldable pub identity_of : List ℕ → Result Identity IdentityFault
identity_of d = first_refused identity_rules d (identity_in d)

-- an identity that data give
abbrev pub IsIdentity : Identity → Type 0
IsIdentity i = identity_of i.bytes ≡ Ok i
