-- Why nothing was read, from what a part was refused for.
use Rattle.std.proofs.Common.{◌≡◌, ℕ, List, Option, Err, inl, inr, refl, sym, subst}
use Rattle.asn1_der.specs.declared.error.Unsupported.{Unsupported}
use Rattle.std.specs.declared.io.ErrorKind.TheVariants.{UnexpectedEof}
use Rattle.asn1_der.specs.Seen.{Seen}
use Rattle.asn1_codec.specs.Reads.{ReadsWhole}
use Rattle.asn1_codec.proofs.ReadsLemmas.{gives-none}
use Rattle.asn1_der.specs.declared.error.Asn1DerError.{Asn1DerError}
use Rattle.asn1_der.specs.declared.error.Asn1DerError.TheVariants as der
use Rattle.gss_contexts.specs.declared.message_tokens.error.GssApiMessageError.{GssApiMessageError}
use Rattle.gss_contexts.specs.declared.message_tokens.error.GssApiMessageError.TheVariants.{InvalidId, InvalidMechanismOid, IoError, InvalidMicFiller, InvalidWrapFiller, Asn1Error, Memory}
use Rattle.gss_contexts.specs.Fronts.{IsMissing}
use Rattle.picky_asn1.specs.declared.wrapper.ObjectIdentifierAsn1.{ObjectIdentifierAsn1}
use Rattle.gss_contexts.specs.ContextTokens.{IsOfMechanism}
use Rattle.gss_contexts.specs.Faults.{of_der_fault}
use Rattle.gss_contexts.specs.ContextTokenRefusals.{IsUnread, EndsEarly, IsTokenRefusal, IsOtherMechanism, IsProxyRefusal, IsUnwritten, HasOtherMechanism, HasOtherId}

none_of : {T : Type 0} (fits : T → Type 0) (fault : Asn1DerError) → (fault ≡ der.Memory → ⊥) → IsMissing fits fault → (v : T) → fits v → ⊥
none_of fits fault other (inl memory) = absurd (other memory)
none_of fits fault other (inr none) = none

pub unread-of : {T : Type 0} (fits : T → Type 0) (fault : Asn1DerError) → IsMissing fits fault → IsUnread fits (of_der_fault fault)
unread-of fits der.Memory missing = tt
unread-of fits der.TruncatedData missing = none_of fits der.TruncatedData (λ e. cc (e)) missing
unread-of fits der.InvalidData missing = none_of fits der.InvalidData (λ e. cc (e)) missing
unread-of fits der.UnsupportedValue missing = none_of fits der.UnsupportedValue (λ e. cc (e)) missing
unread-of fits der.UnsupportedType missing = none_of fits der.UnsupportedType (λ e. cc (e)) missing
unread-of fits der.InvalidSink missing = none_of fits der.InvalidSink (λ e. cc (e)) missing
unread-of fits (der.Message rule) missing = none_of fits (der.Message rule) (λ e. cc (e)) missing
unread-of fits (der.Other kind) missing = none_of fits (der.Other kind) (λ e. cc (e)) missing

-- what would have to be read first isn't there
pub unread-as : {T U : Type 0} (fits : T → Type 0) (first : U → Type 0) (fault : GssApiMessageError) → IsUnread first fault
    → ((v : T) → fits v → (u : U) × first u) → IsUnread fits fault
unread-as fits first Memory unread leads = tt
unread-as fits first (Asn1Error fault) unread leads = λ v fit. let part = leads v fit in unread part.0 part.1
unread-as fits first (IoError kind) unread leads = absurd unread
unread-as fits first (InvalidId wanted there) unread leads = absurd unread
unread-as fits first (InvalidMechanismOid wanted there) unread leads = absurd unread
unread-as fits first (InvalidMicFiller there) unread leads = absurd unread
unread-as fits first (InvalidWrapFiller there) unread leads = absurd unread

-- all of the bytes are read as no value
pub unread-whole : {T : Type 0} (seen : Seen T) (reads : T → List ℕ → Type 0) (bytes : List ℕ) (fault : Asn1DerError) → ReadsWhole seen reads bytes (Err fault)
    → IsUnread (λ v. reads v bytes) (of_der_fault fault)
unread-whole seen reads bytes fault (inl memory) = unread-of (λ v. reads v bytes) fault (inl (cc (memory)))
unread-whole seen reads bytes fault (inr read) = unread-of (λ v. reads v bytes) fault (inr (λ v is. gives-none seen fault v ((read v).1 is)))

-- the same of a message
pub token-as : {T U : Type 0} (fits : T → Type 0) (first : U → Type 0) (bytes : List ℕ) (fault : GssApiMessageError) → IsUnread first fault
    → ((v : T) → fits v → (u : U) × first u) → IsTokenRefusal fits bytes fault
token-as fits first bytes Memory unread leads = tt
token-as fits first bytes (Asn1Error fault) unread leads = λ v fit. let part = leads v fit in unread part.0 part.1
token-as fits first bytes (IoError kind) unread leads = absurd unread
token-as fits first bytes (InvalidId wanted there) unread leads = absurd unread
token-as fits first bytes (InvalidMechanismOid wanted there) unread leads = absurd unread
token-as fits first bytes (InvalidMicFiller there) unread leads = absurd unread
token-as fits first bytes (InvalidWrapFiller there) unread leads = absurd unread

-- a token's content ends before its message
pub token-ended : {T : Type 0} (fits : T → Type 0) (bytes : List ℕ) (fault : GssApiMessageError) → fault ≡ IoError UnexpectedEof → ((v : T) → fits v → ⊥)
    → EndsEarly bytes → IsTokenRefusal fits bytes fault
token-ended fits bytes fault is none ends = subst (IsTokenRefusal fits bytes) (sym is) (none, refl, ends)

-- the same of a message of IAKERB, where neither mechanism nor id is another
pub proxy-unread : {T U : Type 0} (fits : T → Type 0) (first : U → Type 0) (bytes : List ℕ) (fault : GssApiMessageError) → IsUnread first fault
    → ((v : T) → fits v → (u : U) × first u) → (HasOtherMechanism bytes → (u : U) × first u) → (HasOtherId bytes → (u : U) × first u)
    → IsProxyRefusal fits bytes fault
proxy-unread fits first bytes Memory unread leads mechanism id = tt
proxy-unread fits first bytes (Asn1Error fault) unread leads mechanism id = (
  λ v fit. let part = leads v fit in unread part.0 part.1,
  λ other. let part = mechanism other in unread part.0 part.1,
  λ other. let part = id other in unread part.0 part.1,
)
proxy-unread fits first bytes (IoError kind) unread leads mechanism id = absurd unread
proxy-unread fits first bytes (InvalidId wanted there) unread leads mechanism id = absurd unread
proxy-unread fits first bytes (InvalidMechanismOid wanted there) unread leads mechanism id = absurd unread
proxy-unread fits first bytes (InvalidMicFiller there) unread leads mechanism id = absurd unread
proxy-unread fits first bytes (InvalidWrapFiller there) unread leads mechanism id = absurd unread

-- if what precedes a message was refused, so is the message
pub proxy-as : {T U : Type 0} (fits : T → Type 0) (first : U → Type 0) (bytes : List ℕ) (fault : GssApiMessageError) → IsProxyRefusal first bytes fault
    → ((v : T) → fits v → (u : U) × first u) → IsProxyRefusal fits bytes fault
proxy-as fits first bytes Memory refused leads = tt
proxy-as fits first bytes (Asn1Error fault) (none, mechanism, id) leads = (λ v fit. let part = leads v fit in none part.0 part.1, mechanism, id)
proxy-as fits first bytes (IoError kind) (none, mechanism, id, kind_is, ended) leads =
    (λ v fit. let part = leads v fit in none part.0 part.1, mechanism, id, kind_is, ended)
proxy-as fits first bytes (InvalidId wanted there) refused leads = refused
proxy-as fits first bytes (InvalidMechanismOid wanted there) refused leads = refused
proxy-as fits first bytes (InvalidMicFiller there) refused leads = absurd refused
proxy-as fits first bytes (InvalidWrapFiller there) refused leads = absurd refused

-- the mechanism is another
pub proxy-other : {T : Type 0} (fits : T → Type 0) (bytes inner : List ℕ) (mechanism : ObjectIdentifierAsn1) (fault : GssApiMessageError)
    → IsOfMechanism bytes mechanism inner → IsOtherMechanism mechanism fault → IsProxyRefusal fits bytes fault
proxy-other fits bytes inner mechanism Memory of other = tt
proxy-other fits bytes inner mechanism (Asn1Error fault) of other = absurd other
proxy-other fits bytes inner mechanism (IoError kind) of other = absurd other
proxy-other fits bytes inner mechanism (InvalidId wanted there) of other = absurd other
proxy-other fits bytes inner mechanism (InvalidMechanismOid wanted there) of other = (mechanism, inner, of, other)
proxy-other fits bytes inner mechanism (InvalidMicFiller there) of other = absurd other
proxy-other fits bytes inner mechanism (InvalidWrapFiller there) of other = absurd other

pub proxy-fault : {T : Type 0} (fits : T → Type 0) (bytes : List ℕ) (fault told : GssApiMessageError) → fault ≡ told → IsProxyRefusal fits bytes told → IsProxyRefusal fits bytes fault
proxy-fault fits bytes fault told is refused = subst (IsProxyRefusal fits bytes) (sym is) refused

-- memory may run out whatever the type refuses
pub unwritten-memory : (refusal : Option Unsupported) (fault : GssApiMessageError) → fault ≡ Memory → IsUnwritten refusal fault
unwritten-memory refusal fault is = subst (IsUnwritten refusal) (sym is) tt
