-- The parts of what logins by certificate are answered by.
use Rattle.std.proofs.Common.{◌≡◌, ◌⊎◌, ◌==◌, ℕ, Bool, true, false, [], ◌∷◌, length, Option, Some, Result, Ok, Err, MatchResult, inl, inr, refl, sym, ap, subst, ◌∙◌, arith}
use Rattle.std.proofs.lemmas.Bool.{eqb-true}
use Rattle.picky_asn1.specs.Bytes.{Bytes}
use Rattle.picky_asn1_der.specs.Raw.{Raw}
use Rattle.picky_asn1_der.specs.Splits.{SplitsInto, raw_bytes}
use Rattle.x509_certificates.specs.contracts.certificate.CertificateSpelled.TheImpl as certificate_impl
use Rattle.x509_keys.specs.declared.rsa_private_key.RsaPrivateKey.{RsaPrivateKey}
use Rattle.x509_spelling.specs.declared.fault.X509Fault.{X509Fault}
use Rattle.x509_spelling.specs.declared.fault.X509Fault.TheVariants as x509
use Rattle.pkinit_validation.specs.Anchors.{AnchorRecord, ReadsMade, anchor_of}
use Rattle.rsa_keys.specs.Functions.{IsPublicPart}
use Rattle.rsa_keys.specs.OwnKeys.{key_refusal}
use Rattle.rsa_keys.specs.PrivateKeys.{IsOwnKeyOf, public_part}
use Rattle.rsa_keys.specs.declared.own_key.OwnKey.{OwnKey}
use Rattle.rsa_keys.specs.declared.refusal.RsaKeyRefusal.{RsaKeyRefusal}
use Rattle.krb_realm_files.specs.Means.{AreParts, IsHolder, IsNoHolder, IsNoMeans, IsNoOwnIn, IsNoPair, IsOwnIn, IsPair, IsPrivateKey, IsUnusable}
use Rattle.krb_realm_files.specs.declared.pkinit_fault.PkinitFault.{PkinitFault}
use Rattle.krb_realm_files.specs.declared.pkinit_fault.PkinitFault.TheVariants.{NotThree, Certificate as NoCertificate, Key, Refused, OtherKey, Anchor, Memory}

pub holder_is : (bytes : Bytes) (holder : AnchorRecord) → ReadsMade certificate_impl.ghosts.spells anchor_of bytes (Ok holder) → IsHolder bytes holder
unfolding IsHolder
holder_is bytes holder (inl memory) = absurd (cc (memory))
holder_is bytes holder (inr reads) = (reads holder).0 refl

pub no_holder : (bytes : Bytes) (fault : X509Fault) → (fault ≡ x509.Memory → ⊥) → ReadsMade certificate_impl.ghosts.spells anchor_of bytes (Err fault) → IsNoHolder bytes
unfolding IsNoHolder
no_holder bytes fault other (inl memory) certificate count s = other (cc (memory))
no_holder bytes fault other (inr reads) certificate count s =
    let made : Err fault ≡ Ok (anchor_of certificate) = (reads (anchor_of certificate)).1 (certificate, count, s, refl) in
    cc (made)

-- Whether octets are left.
pub not_empty : (octets : Bytes) (b : Bool) → b ≡ (length octets == 0) → b ≡ false → octets ≡ [] → ⊥
not_empty octets b is isnt e =
    let empty : (length octets == 0) ≡ true = ap (λ (l : Bytes). length l == 0) e in
    let both : false ≡ true = sym isnt ∙ is ∙ empty in
    absurd (cc (both))

none_in : (octets : Bytes) → length octets ≡ 0 → octets ≡ []
none_in [] e = refl
none_in (octet ∷ octets) e = absurd (omega (arith, e))

pub is_nothing : (octets : Bytes) (b : Bool) → b ≡ (length octets == 0) → b ≡ true → octets ≡ []
is_nothing octets b is empty = none_in octets (eqb-true (length octets) 0 (sym is ∙ empty))

-- A row of three elements.
pub parts_are : (octets behind last rest certificate key anchor : Bytes) (first second third : Raw) → SplitsInto octets first behind → SplitsInto behind second last → SplitsInto last third rest
    → rest ≡ [] → certificate ≡ raw_bytes first → key ≡ raw_bytes second → anchor ≡ raw_bytes third → AreParts octets certificate key anchor
parts_are octets behind last rest certificate key anchor first second third a b c ended is_first is_second is_third = record {
  first = first;
  second = second;
  third = third;
  row = (behind, a, (last, b, (rest, c, ended)));
  certificate_is = is_first;
  key_is = is_second;
  anchor_is = is_third;
}

-- What is refused as a part is refused as the whole.
pub no_own_pair : (certificate key : Bytes) (fault : PkinitFault) → IsNoOwnIn key fault → IsNoPair certificate key fault
no_own_pair certificate key NotThree is = absurd is
no_own_pair certificate key NoCertificate is = absurd is
no_own_pair certificate key Key is = is
no_own_pair certificate key (Refused why) is = is
no_own_pair certificate key OtherKey is = absurd is
no_own_pair certificate key Anchor is = absurd is
no_own_pair certificate key Memory is = is

pub no_pair_means : (certificate key anchor : Bytes) (fault : PkinitFault) → IsNoPair certificate key fault → IsNoMeans certificate key anchor fault
no_pair_means certificate key anchor NotThree is = absurd is
no_pair_means certificate key anchor NoCertificate is = is
no_pair_means certificate key anchor Key is = is
no_pair_means certificate key anchor (Refused why) is = is
no_pair_means certificate key anchor OtherKey is = is
no_pair_means certificate key anchor Anchor is = absurd is
no_pair_means certificate key anchor Memory is = is

pub no_means_in : (octets certificate key anchor : Bytes) (fault : PkinitFault) → AreParts octets certificate key anchor → IsNoMeans certificate key anchor fault → IsUnusable octets fault
no_means_in octets certificate key anchor NotThree are is = absurd is
no_means_in octets certificate key anchor NoCertificate are is = (certificate, key, anchor, are, is)
no_means_in octets certificate key anchor Key are is = (certificate, key, anchor, are, is)
no_means_in octets certificate key anchor (Refused why) are is = (certificate, key, anchor, are, is)
no_means_in octets certificate key anchor OtherKey are is = (certificate, key, anchor, are, is)
no_means_in octets certificate key anchor Anchor are is = (certificate, key, anchor, are, is)
no_means_in octets certificate key anchor Memory are is = (certificate, key, anchor, are, is)

-- A part that is no certificate.
pub no_certificate : (certificate key : Bytes) (fault : PkinitFault) → (fault ≡ Memory) ⊎ ((fault ≡ NoCertificate) × IsNoHolder certificate) → IsNoPair certificate key fault
no_certificate certificate key fault (inl memory) = subst (IsNoPair certificate key) (sym memory) tt
no_certificate certificate key fault (inr none) = subst (IsNoPair certificate key) (sym none.0) none.1

pub no_anchor : (certificate key anchor : Bytes) (fault : PkinitFault) → (fault ≡ Memory) ⊎ ((fault ≡ Anchor) × IsNoHolder anchor) → IsNoMeans certificate key anchor fault
no_anchor certificate key anchor fault (inl memory) = subst (IsNoMeans certificate key anchor) (sym memory) tt
no_anchor certificate key anchor fault (inr none) = subst (IsNoMeans certificate key anchor) (sym none.0) none.1

-- The key beside its certificate.
pub pair_of : (certificate key : Bytes) (holder : AnchorRecord) (own result : Result OwnKey PkinitFault) → IsHolder certificate holder → MatchResult own (IsOwnIn key) (IsNoOwnIn key)
    → MatchResult result (λ pair. (own ≡ Ok pair) × IsPublicPart pair holder.key)
    (λ refusal. (own ≡ Err refusal) ⊎ ((refusal ≡ OtherKey) × ((other : OwnKey) × (own ≡ Ok other) × (IsPublicPart other holder.key → ⊥))))
    → MatchResult result (IsPair certificate key) (IsNoPair certificate key)
pair_of certificate key holder own (Ok pair) is in_key (same, part) = record {
  holder = holder;
  is_holder = is;
  is_own = subst (λ (o : Result OwnKey PkinitFault). MatchResult o (IsOwnIn key) (IsNoOwnIn key)) same in_key;
  is_part = part;
}
pair_of certificate key holder own (Err refusal) is in_key (inl same) =
    no_own_pair certificate key refusal (subst (λ (o : Result OwnKey PkinitFault). MatchResult o (IsOwnIn key) (IsNoOwnIn key)) same in_key)
pair_of certificate key holder own (Err refusal) is in_key (inr (other_key, (other, same, not_part))) =
    subst (IsNoPair certificate key) (sym other_key) (record {
      holder = holder;
      own = other;
      is_holder = is;
      is_own = subst (λ (o : Result OwnKey PkinitFault). MatchResult o (IsOwnIn key) (IsNoOwnIn key)) same in_key;
      is_other = not_part;
    })

-- The key of the private key that was read.
pub own_is : (bytes : Bytes) (private : RsaPrivateKey) (result : Result OwnKey PkinitFault) → IsPrivateKey bytes private
    → MatchResult result (IsOwnKeyOf private) (λ refusal. (refusal ≡ Memory) ⊎ ((why : RsaKeyRefusal) × (refusal ≡ Refused why) × (key_refusal (public_part private) ≡ Some why)))
    → MatchResult result (IsOwnIn bytes) (IsNoOwnIn bytes)
own_is bytes private (Ok own) read is = (private, read, is)
own_is bytes private (Err refusal) read (inl memory) = subst (IsNoOwnIn bytes) (sym memory) tt
own_is bytes private (Err refusal) read (inr (why, same, refused)) = subst (IsNoOwnIn bytes) (sym same) (private, read, refused)
