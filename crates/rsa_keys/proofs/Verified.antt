-- What a key signs is valid under its public key.
use Rattle.std.proofs.Common.{◌≡◌, ℕ, ◌^◌, ◌%◌, ◌&&◌, nat_eq, nat_lt, Bool, true, false, cond, List, length, Option, None, Some, Ok, Err, refl, sym, ap, ◌∙◌}
use Rattle.std.proofs.lemmas.Slice.Eq.{bytes_eq-Decides}
use Rattle.std.specs.Option.{is_none, option_map}
use Rattle.std.specs.Str.{bytes_eq}
use Rattle.asn1_leaves.specs.ObjectIdentifier.{oid_content}
use Rattle.picky_asn1.specs.Bytes.{Bytes}
use Rattle.picky_asn1.specs.Integer.{unsigned_octets}
use Rattle.x509_oids.specs.Identifiers as oids
use Rattle.x509_algorithms.specs.Arcs.{octet_behind}
use Rattle.x509_algorithms.specs.AlgorithmClasses.{pkcs1}
use Rattle.x509_keys.specs.declared.subject_public_key_info.SubjectPublicKeyInfo.{SubjectPublicKeyInfo}
use Rattle.modular_arithmetic.specs.Naturals.{i2osp, os2ip}
use Rattle.public_key_cryptography.specs.Keys.{refusal_of}
use Rattle.public_key_cryptography.specs.Pkcs1.{IsKeyOf, encoded, signature_of, verifies}
use Rattle.public_key_cryptography.specs.declared.hash.HashFunction.{HashFunction}
use Rattle.public_key_cryptography.specs.declared.hash.HashFunction.TheVariants.{Sha256}
use Rattle.public_key_cryptography.specs.declared.public_key.KeyRefusal.{KeyRefusal}
use Rattle.public_key_cryptography.specs.declared.public_key.PublicKey.{PublicKey}
use Rattle.x509_keys.specs.SignedBy.{signed_by}
use Rattle.x509_keys.specs.declared.functions.Signed.{Signed}
use Rattle.x509_keys.specs.declared.signature_algorithm.SignatureAlgorithm.{SignatureAlgorithm}
use Rattle.rsa_keys.specs.Functions.{IsPublicPart, signed_by_own}
use Rattle.rsa_keys.specs.Signatures.{Numbers, by_hash, by_key, by_numbers, by_refusal, checked, hash_behind, hash_of, is_valid, refusal_named, sha256_named, verdict}
use Rattle.rsa_keys.specs.declared.refusal.SignatureRefusal.TheVariants.{Key}
use Rattle.rsa_keys.specs.declared.refusal.RsaKeyRefusal.TheVariants.{NegativeNumber}
use Rattle.rsa_keys.specs.declared.own_key.OwnKey.{OwnKey}

-- a key verifies by its numbers
pub by_its_numbers : (key : PublicKey) (n e : List ℕ) (hash : HashFunction) (message signature : Bytes) → key.len ≡ length n → key.exponent ≡ os2ip e → key.modulus.value ≡ os2ip n
    → verifies key hash message signature ≡ is_valid n e hash message signature
unfolding verifies
by_its_numbers key n e hash message signature len exponent value =
    λ i. nat_eq (length signature) (len i) && nat_lt (os2ip signature) (value i)
    && bytes_eq (i2osp (len i) (os2ip signature ^ exponent i % value i)) (encoded (len i) hash message)

-- the answer to a signature under numbers that aren't refused
pub answered : (key : PublicKey) (numbers : Numbers) (hash : HashFunction) (message signature : Bytes) → IsKeyOf key numbers.0 numbers.1
    → verdict (verifies key hash message signature) ≡ by_numbers hash numbers message signature
answered key numbers hash message signature k =
    ap verdict (by_its_numbers key numbers.0 numbers.1 hash message signature k.len k.exponent k.modulus.value)
    ∙ ap (λ refusal. by_refusal refusal hash numbers message signature) (sym k.taken)

-- the answer under numbers that are refused
pub answered_refusal : (numbers : Numbers) (hash : HashFunction) (message signature : Bytes) (refusal : KeyRefusal) → refusal_of numbers.0 numbers.1 ≡ Some refusal
    → Err (Key (refusal_named refusal)) ≡ by_numbers hash numbers message signature
answered_refusal numbers hash message signature refusal e = sym (ap (λ given. by_refusal given hash numbers message signature) e)

-- the parts of a signature that was made
record IsMadeBy (named : SignatureAlgorithm) (verified : Bool) (signature : Bytes) (made : Signed) : Type 0 where
  pub verifies : verified ≡ true
  pub is : signed_by named signature ≡ made

made_by : (named : SignatureAlgorithm) (verified : Bool) (signature : Bytes) (made : Signed) → option_map (λ octets. signed_by named octets) (cond verified (Some signature) None) ≡ Some made → IsMadeBy named verified signature made
made_by named true signature made e = record { verifies = refl; is = cc (e) }
made_by named false signature made e = absurd (cc (e))

is_no_refusal : (refusal : Option KeyRefusal) → is_none refusal ≡ true → refusal ≡ None
is_no_refusal None e = refl
is_no_refusal (Some refusal) e = absurd (cc (e))

own_valid : (own : OwnKey) (key : SubjectPublicKeyInfo) (text signature : Bytes) → IsPublicPart own key → verifies own.private.public Sha256 text signature ≡ true → checked key own.algorithm.algorithm text signature ≡ Ok tt
unfolding checked hash_of
own_valid own key text signature part verified =
    let n : List ℕ = unsigned_octets own.public.modulus in
    let e : List ℕ = unsigned_octets own.public.public_exponent in
    let numbers : Numbers = (n, e) in
    ap (λ arcs. by_hash (hash_behind (octet_behind pkcs1 (oid_content arcs))) key.subject_public_key text signature) ((bytes_eq-Decides own.algorithm.algorithm.algorithm.0 oids.sha256_with_rsa_encryption).0 own.sha256)
    ∙ ap (λ hash. by_hash hash key.subject_public_key text signature) sha256_named
    ∙ ap (λ k. by_hash (Ok Sha256) k text signature) part
    ∙ ap (λ b. by_key Sha256 (cond b (Ok numbers) (Err NegativeNumber)) text signature) own.naturals
    ∙ ap (λ refusal. by_refusal refusal Sha256 numbers text signature) (is_no_refusal (refusal_of n e) own.taken)
    ∙ ap verdict (sym (by_its_numbers own.private.public n e Sha256 text signature own.len own.exponent own.value) ∙ verified)

pub signed_valid : (own : OwnKey) (key : SubjectPublicKeyInfo) (text : Bytes) (made : Signed) → IsPublicPart own key → signed_by_own own text ≡ Some made → checked key made.algorithm text made.signature ≡ Ok tt
signed_valid own key text made part e =
    let signature : Bytes = signature_of own.private Sha256 text in
    let parts = made_by own.algorithm (verifies own.private.public Sha256 text signature) signature made e in
    sym (ap (λ (m : Signed). checked key m.algorithm text m.signature) parts.is) ∙ own_valid own key text signature part parts.verifies
