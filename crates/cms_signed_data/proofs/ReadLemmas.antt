-- What was read is the one signed content that the bytes are.
use Rattle.std.proofs.Common.{◌≡◌, ℕ, Bool, true, false, List, Result, Ok, Err, refl, sym, ap, ◌∙◌, subst, inl, inr}
use Rattle.std.specs.Prelude.{IsErrAnd, IsTrue}
use Rattle.asn1_der.specs.Length.{element}
use Rattle.asn1_der.proofs.Elements.{element-content}
use Rattle.picky_asn1_der.specs.Parts.{IsPart}
use Rattle.picky_asn1_der.specs.PartLaws.{part-one}
use Rattle.x509_codec.specs.Answers.{ReadsSpelling}
use Rattle.x509_spelling.specs.declared.fault.X509Fault.{X509Fault}
use Rattle.x509_spelling.specs.declared.fault.X509Fault.TheVariants as x509
use Rattle.cms_signed_data.specs.Parts.{certificate_place, attributes_place}
use Rattle.cms_signed_data.specs.contracts.content_info.ContentInfoSpelled.TheImpl as content_info
use Rattle.cms_signed_data.specs.declared.content_info.ContentInfo.{ContentInfo}
use Rattle.cms_signed_data.specs.Faults.{fault_of}
use Rattle.cms_signed_data.specs.SignedContents.{IsOfForm, IsSignedContent, Reads}
use Rattle.cms_signed_data.specs.SignedLaws.{read_is}
use Rattle.cms_signed_data.specs.SignedParts.{SignedParts}
use Rattle.cms_signed_data.specs.declared.fault.SignedFault.{SignedFault}
use Rattle.cms_signed_data.specs.declared.fault.SignedFault.TheVariants.{Unreadable, Memory}

-- a fault that was handed on
pub exit_as : {T E : Type 0} (r : Result T E) (e : E) (P : Result T E → Type 0) → IsErrAnd r (λ told. told ≡ e) → P (Err e) → P r
exit_as (Ok x) e P is p = absurd is
exit_as (Err y) e P is p = subst (λ f. P (Err f)) (sym is) p

pub refused_form : (bytes : List ℕ) (fault : SignedFault) → Reads (IsOfForm bytes) (Err fault) → Reads (IsSignedContent bytes) (Err fault)
refused_form bytes fault (inl memory) = let same : fault ≡ Memory = cc (memory) in inl (ap Err same)
refused_form bytes fault (inr none) =
    inr (λ parts. (λ e. absurd (cc (e)), λ is. let found : Err fault ≡ Ok parts.info = (none parts.info).1 is.form in absurd (cc (found))))

pub told_form : (bytes : List ℕ) (info : ContentInfo) → Reads (IsOfForm bytes) (Ok info) → IsOfForm bytes info
told_form bytes info reads = read_is (IsOfForm bytes) info reads

pub one_form : (bytes : List ℕ) (info other : ContentInfo) → Reads (IsOfForm bytes) (Ok info) → IsOfForm bytes other → other ≡ info
one_form bytes info other (inl memory) is = absurd (cc (memory))
one_form bytes info other (inr reads) is = let same : Ok info ≡ Ok other = (reads other).1 is in let found : info ≡ other = cc (same) in sym found

-- bytes of which no value is a spelling are no signed content
pub no_content : (bytes : List ℕ) (fault : SignedFault) → ((info : ContentInfo) (n : ℕ) → content_info.ghosts.spells info bytes n → ⊥) → Reads (IsSignedContent bytes) (Err fault)
no_content bytes fault none =
    inr (λ parts. (λ e. absurd (cc (e)), λ is. absurd (none parts.info is.form.0.0 is.form.0.1)))

pub reads_parts : (bytes : List ℕ) (info : ContentInfo) (certificate attributes : List ℕ) → Reads (IsOfForm bytes) (Ok info)
    → IsPart bytes certificate_place certificate → IsPart bytes attributes_place attributes
    → (made : SignedParts) → made ≡ record { info = info; certificate = certificate; signed_attributes = attributes } → Reads (IsSignedContent bytes) (Ok made)
reads_parts bytes info certificate attributes reads at_certificate at_attributes made same =
    let wanted : SignedParts = record { info = info; certificate = certificate; signed_attributes = attributes } in
    let is_wanted : IsSignedContent bytes wanted = record { form = told_form bytes info reads; certificate_at = at_certificate; attributes_at = at_attributes } in
    inr (λ parts. (
      λ e. let is_made : made ≡ parts = cc (e) in subst (λ (p : SignedParts). IsSignedContent bytes p) (sym same ∙ is_made) is_wanted,
      λ is.
          let infos : parts.info ≡ info = one_form bytes info parts.info reads is.form in
          let certificates : parts.certificate ≡ certificate = part-one certificate_place bytes parts.certificate certificate is.certificate_at at_certificate in
          let all : parts.signed_attributes ≡ attributes = part-one attributes_place bytes parts.signed_attributes attributes is.attributes_at at_attributes in
          let equal : wanted ≡ parts = λ i. record { info = sym infos i; certificate = sym certificates i; signed_attributes = sym all i } in
          ap Ok (same ∙ equal),
    ))

-- reading the value first, of whatever type
abbrev pub IsRead : {T : Type 0} → (T → List ℕ → ℕ → Type 0) → (T → Bool) → List ℕ → T → Type 0
IsRead {T} spells has bytes value = ((n : ℕ) × spells value bytes n) × IsTrue (has value)

pub spelling_refused : {T : Type 0} (spells : T → List ℕ → ℕ → Type 0) (has : T → Bool) (bytes : List ℕ) (fault : X509Fault)
    → ReadsSpelling spells bytes (Err fault) → Reads (IsRead spells has bytes) (Err (fault_of fault))
spelling_refused spells has bytes fault (inl memory) = let same : fault ≡ x509.Memory = cc (memory) in inl (ap (λ f. Err (fault_of f)) same)
spelling_refused {T} spells has bytes fault (inr none) =
    inr (λ value. (λ e. absurd (cc (e)), λ is. let found : Err fault ≡ Ok value = (none value).1 is.0 in absurd (cc (found))))

both : (b : Bool) → b ≡ true → b ≡ false → ⊥
both b is isnt = cc

pub other_form : {T : Type 0} (spells : T → List ℕ → ℕ → Type 0) (has : T → Bool) (bytes : List ℕ) (value : T)
    → ReadsSpelling spells bytes (Ok value) → has value ≡ false → Reads (IsRead spells has bytes) (Err Unreadable)
other_form spells has bytes value (inl memory) isnt = absurd (cc (memory))
other_form {T} spells has bytes value (inr reads) isnt =
    inr (λ other. (
      λ e. absurd (cc (e)),
      λ is.
          let found : Ok value ≡ Ok other = (reads other).1 is.0 in
          let same : value ≡ other = cc (found) in
          absurd (both (has other) is.1 (subst (λ (v : T). has v ≡ false) same isnt)),
    ))

pub right_form : {T : Type 0} (spells : T → List ℕ → ℕ → Type 0) (has : T → Bool) (bytes : List ℕ) (value : T)
    → ReadsSpelling spells bytes (Ok value) → has value ≡ true → Reads (IsRead spells has bytes) (Ok value)
right_form spells has bytes value (inl memory) is = absurd (cc (memory))
right_form {T} spells has bytes value (inr reads) is =
    inr (λ other. (
      λ e. let same : value ≡ other = cc (e) in subst (λ (v : T). IsRead spells has bytes v) same ((reads value).0 refl, is),
      λ also. let found : Ok value ≡ Ok other = (reads other).1 also.0 in let same : value ≡ other = cc (found) in ap Ok same,
    ))

-- an OCTET STRING at a path has one content
pub same_octets : (path bytes octets other : List ℕ) → IsPart bytes path (element 4 octets) → IsPart bytes path (element 4 other) → octets ≡ other
same_octets path bytes octets other at also = element-content 4 octets other (part-one path bytes (element 4 octets) (element 4 other) at also)
