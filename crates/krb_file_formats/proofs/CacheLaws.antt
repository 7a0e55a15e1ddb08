-- A cache that is laid out is read, and one that is read is laid out.
use Rattle.std.proofs.Common.{◌≡◌, ◌⊎◌, ℕ, ◌≤◌, List, [], ◌++◌, length, Ok, Err, nat_lt, nat_eq, inl, inr, refl, ap, ◌∙◌, arith}
use Rattle.std.proofs.lemmas.Bool.Decides.{Decides-eqb}
use Rattle.std.proofs.lemmas.List.{length-append}
use Rattle.byte_streams.specs.Numbers.{be16, be16_at}
use Rattle.byte_streams.proofs.NumberLaws.{AreBytes, length-be16}
use Rattle.krb_file_formats.proofs.NumberLaws.{be16-first}
use Rattle.krb_file_formats.proofs.PlaceLaws.{IsFrom, behind, passes, holds, not-below, are-equal, enough}
use Rattle.krb_file_formats.proofs.AgainLaws.{step}
use Rattle.krb_file_formats.proofs.FoundLaws.{then-ok, as-read, if-ok, if-not, be16-ahead}
use Rattle.krb_file_formats.specs.Formats.{all_from, both, exactly, list_bytes, repeated, text, within}
use Rattle.krb_file_formats.specs.Caches.{Cache, Credential, IsCredentialCache, IsWritable, Principal, Tag, Typed, cache_at, cache_bytes, credential, credential_of, header, header_tag, moments, parts_of, principal, typed, version_at}
use Rattle.krb_file_formats.specs.declared.credential_caches.fault.CacheFault.{CacheFault}
use Rattle.krb_file_formats.specs.declared.credential_caches.fault.CacheFault.TheVariants.{Memory}
use Rattle.krb_file_formats.specs.declared.credential_caches.times.CredentialTimes.{CredentialTimes}
use Rattle.krb_file_formats.proofs.FormatLaws.{HasLaws, both-laws, made-laws, counted-laws, data32-laws, exactly-laws, number8-laws, number16-laws, number32-laws, text-laws}
use Rattle.krb_file_formats.proofs.ListLaws.{all-again, all-found, listed-laws, repeated-laws, within-laws}

tag-laws : HasLaws Tag header_tag 4
tag-laws =
    made-laws (λ v. record { kind = v.0; octets = v.1 }) (λ t. (t.kind, t.octets)) (λ t. refl) (λ v. refl)
    (both-laws number16-laws (counted-laws (λ t. length t) exactly (λ n t fits. fits) number16-laws exactly-laws))

header-laws : HasLaws (List Tag) header 2
header-laws = counted-laws (λ tags. length (list_bytes header_tag tags [])) (within header_tag) (λ n tags fits. fits.0) number16-laws (within-laws header_tag 4 tag-laws (omega arith))

principal-laws : HasLaws Principal principal 8
principal-laws =
    made-laws (λ v. record { name_type = v.0; realm = v.1.0; components = v.1.1 }) (λ p. (p.name_type, (p.realm, p.components))) (λ p. refl) (λ v. refl)
    (both-laws number32-laws (counted-laws (λ v. length v.1) (λ n. both text (repeated text n)) (λ n v fits. fits.1.0) number32-laws
    (λ n. both-laws text-laws (repeated-laws text 4 text-laws n))))

typed-laws : HasLaws Typed typed 6
typed-laws = made-laws (λ v. record { kind = v.0; octets = v.1 }) (λ t. (t.kind, t.octets)) (λ t. refl) (λ v. refl) (both-laws number16-laws data32-laws)

moments-laws : HasLaws CredentialTimes moments 16
moments-laws =
    made-laws (λ v. record { authtime = v.0; starttime = v.1.0; endtime = v.1.1.0; renew_till = v.1.1.1 })
    (λ t. (t.authtime, (t.starttime, (t.endtime, t.renew_till)))) (λ t. refl) (λ v. refl)
    (both-laws number32-laws (both-laws number32-laws (both-laws number32-laws number32-laws)))

credential-laws : HasLaws Credential credential 59
credential-laws =
    made-laws credential_of parts_of (λ c. refl) (λ v. refl)
    (both-laws (both-laws principal-laws (both-laws principal-laws typed-laws))
    (both-laws (both-laws moments-laws (both-laws number8-laws number32-laws))
    (both-laws (listed-laws typed 6 typed-laws) (both-laws (listed-laws typed 6 typed-laws) (both-laws data32-laws data32-laws)))))

pub cache-again : (c : Cache) (whole : List ℕ) → IsCredentialCache c whole → cache_at whole ≡ Ok c
cache-again c whole is =
    let rest = header.bytes c.tags (principal.bytes c.default_principal (list_bytes credential c.credentials [])) in
    let size = ap length is.bytes in
    let begins : IsFrom 0 (be16 1284 ++ rest) whole = record { rest = is.bytes; inside = omega (arith, size) } in
    let read : be16_at 0 whole ≡ 1284 = be16-first 0 1284 rest whole is.bytes (omega arith) in
    let two = length-be16 1284 in
    let long : 2 ≤ length whole = omega (arith, size, length-append (be16 1284) rest, two) in
    let version : version_at whole ≡ Ok tt =
    passes (nat_lt (length whole) 2) _ _ (not-below 2 (length whole) long) ∙ holds (nat_eq (be16_at 0 whole) 1284) _ _ (are-equal (be16_at 0 whole) 1284 read) in
    let from = behind 0 2 (be16 1284) rest whole (omega (arith, two)) begins in
    let (at, tags, behind_tags) = header-laws.again c.tags 2 (principal.bytes c.default_principal (list_bytes credential c.credentials [])) whole from is.fits.tags in
    let (end, owner, behind_owner) = principal-laws.again c.default_principal at (list_bytes credential c.credentials []) whole behind_tags is.fits.default_principal in
    let all : all_from credential end whole ≡ Ok c.credentials =
    all-again credential 59 credential-laws (omega arith) c.credentials (length whole) end whole behind_owner is.fits.credentials (omega arith) in
    step (version_at whole) tt _ version
    ∙ step (header.read 2 whole) (c.tags, at) _ tags
    ∙ step (principal.read at whole) (c.default_principal, end) _ owner
    ∙ step (all_from credential end whole) c.credentials _ all

pub cache-found : (c : Cache) (whole : List ℕ) → AreBytes whole → cache_at whole ≡ Ok c → IsCredentialCache c whole
cache-found c whole bytes is =
    let (t, is_version, later) = then-ok (version_at whole) _ c is in
    let (test, told) = if-ok (nat_lt (length whole) 2) _ _ t is_version in
    let (version, _) = if-not (nat_eq (be16_at 0 whole) 1284) _ _ t told in
    let ahead = be16-ahead 0 2 1284 whole bytes refl (enough _ _ test) ((Decides-eqb (be16_at 0 whole) 1284).0 version) in
    let (tags, is_tags, next) = then-ok (header.read 2 whole) _ c later in
    let (owner, is_owner, last) = then-ok (principal.read tags.1 whole) _ c next in
    let (credentials, are, made) = then-ok (all_from credential owner.1 whole) _ c last in
    let one = header-laws.found tags 2 whole bytes ahead.inside is_tags in
    let two = principal-laws.found owner tags.1 whole bytes one.inside is_owner in
    let all = all-found credential 59 credential-laws (omega arith) (length whole) credentials owner.1 whole bytes two.inside (omega arith) are in
    as-read (λ d. IsCredentialCache d whole) _ c made record {
      bytes =
          ahead.rest ∙ ap (λ (l : List ℕ). be16 1284 ++ l)
          (one.rest ∙ ap (header.bytes tags.0) (two.rest ∙ ap (principal.bytes owner.0) all.0));
      fits = record { tags = one.fits; default_principal = two.fits; credentials = all.1 };
    }

pub written-again : (c : Cache) → IsWritable c → cache_at (cache_bytes c) ≡ Ok c
written-again c fits = cache-again c (cache_bytes c) (record { bytes = refl; fits = fits })

-- octets are laid out as one cache alone
pub one-cache : (c d : Cache) (whole : List ℕ) → IsCredentialCache c whole → IsCredentialCache d whole → c ≡ d
one-cache c d whole is also =
    let one : cache_at whole ≡ Ok c = cache-again c whole is in
    let other : cache_at whole ≡ Ok d = cache-again d whole also in
    cc (one, other)

-- octets that are laid out are refused for memory alone
pub refused-cache : (c : Cache) (whole : List ℕ) (e : CacheFault) → IsCredentialCache c whole → (e ≡ Memory) ⊎ (cache_at whole ≡ Err e) → e ≡ Memory
refused-cache c whole e is (inl memory) = memory
refused-cache c whole e is (inr wrong) = absurd (let again : cache_at whole ≡ Ok c = cache-again c whole is in cc (again, wrong))

pub same-cache : (read c : Cache) (whole : List ℕ) → IsCredentialCache c whole → cache_at whole ≡ Ok read → read ≡ c
same-cache read c whole is told = let again : cache_at whole ≡ Ok c = cache-again c whole is in cc (again, told)
