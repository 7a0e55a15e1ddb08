-- Files of certificates and private keys.
use Rattle.std.proofs.Common.{◌≡◌, ◌≢◌, ◌⊎◌, inl, inr, ℕ, List, Result, Ok, Err, MatchResult, refl, sym, ◌∙◌, subst}
use Rattle.std.specs.Global.{Global}
use Rattle.std.specs.Prelude.{Vec}
use Rattle.x509_codec.specs.Answers.{CountsSpelling}
use Rattle.x509_spelling.specs.declared.fault.X509Fault.{X509Fault}
use Rattle.x509_spelling.specs.declared.fault.X509Fault.TheVariants as x509
use Rattle.x509_certificates.specs.Files.{Holds, HoldsNone, IsGivenOr, IsIn, IsKeyFound, IsNoKeyFound, IsNoPkcs1Found, IsNoPlainKey, IsNotIn, IsSpelled, IsUnspelled, Lacks}
use Rattle.x509_certificates.specs.Pem.{IsFound, IsNotFound, IsPem}
use Rattle.x509_certificates.specs.declared.fault.FileFault.{FileFault}
use Rattle.x509_certificates.specs.declared.fault.FileFault.TheVariants.{NotFound, NotEnded, NotBase64, Encrypted, NotRead, NotRsa, Memory}
use Rattle.x509_certificates.specs.declared.pem.Found.{Found}
use Rattle.x509_certificates.specs.declared.pem.Label.{Label}
use Rattle.x509_certificates.specs.declared.pem.Label.TheVariants.{PrivateKey, RsaPrivateKey}

pub in_pem : (label : Label) (file : List ℕ) (r : Result Found FileFault) → IsPem file
    → MatchResult r (IsFound label file) (IsNotFound label file) → MatchResult r (IsIn label file) (IsNotIn label file)
in_pem label file (Ok found) pem h = inl (pem, h)
in_pem label file (Err fault) pem h = inr (pem, h)

pub in_whole : (label : Label) (file : List ℕ) (r : Result Found FileFault) → (IsPem file → ⊥)
    → MatchResult r (λ found. (found.der.items ≡ file) × (found.place ≡ 0)) (λ fault. fault ≡ Memory) → MatchResult r (IsIn label file) (IsNotIn label file)
in_whole label file (Ok found) none h = inr (record { is_no_pem = none; whole = h.0; placed = h.1 })
in_whole label file (Err fault) none h = inl h

-- the value that some DER is a spelling of
pub counted : {T : Type 0} (spells : T → List ℕ → ℕ → Type 0) (found : Found) (bytes : List ℕ) (n : ℕ) → bytes ≡ found.der.items → CountsSpelling spells bytes (Ok n) → IsSpelled spells found found.der.items
unfolding IsSpelled
counted spells found bytes n e (inl memory) = absurd (cc (memory))
counted spells found bytes n e (inr each) =
    let value = (each n).0 refl in (refl, (value.0, n, subst (λ octets. spells value.0 octets n) e value.1))

uncounted : {T : Type 0} (spells : T → List ℕ → ℕ → Type 0) (bytes : List ℕ) (fault : X509Fault) → CountsSpelling spells bytes (Err fault) → fault ≢ x509.Memory
    → (value : T) (count : ℕ) → spells value bytes count → ⊥
uncounted spells bytes fault (inl memory) other value count s = other (cc (memory))
uncounted spells bytes fault (inr each) other value count s = let made = (each count).1 (value, s) in absurd (cc (made))

pub unspelled : {T : Type 0} (spells : T → List ℕ → ℕ → Type 0) (found : Found) (bytes : List ℕ) (fault : X509Fault) (named : FileFault) → bytes ≡ found.der.items → CountsSpelling spells bytes (Err fault)
    → ((fault ≡ x509.Memory) × (named ≡ Memory)) ⊎ ((fault ≢ x509.Memory) × (named ≡ NotRead found.place)) → IsUnspelled spells found named
unfolding IsUnspelled
unspelled spells found bytes fault named e h (inl memory) = inl memory.1
unspelled spells found bytes fault named e h (inr other) =
    inr (other.1, λ value count s. uncounted spells bytes fault h other.0 value count (subst (λ octets. spells value octets count) (sym e) s))

-- what is said of DER that was found is said of the file
pub held : {T : Type 0} (spells : T → List ℕ → ℕ → Type 0) (label : Label) (file : List ℕ) (found : Found) (r : Result (Vec ℕ Global) FileFault) → IsIn label file found
    → MatchResult r (λ der. IsSpelled spells found der.items) (IsUnspelled spells found) → MatchResult r (λ der. Holds spells label file der.items) (HoldsNone spells label file)
held spells label file found (Ok der) is h = (found, is, h)
held spells label file found (Err fault) is h = inr (found, is, h)

-- a boundary that isn't found is absent
pub lacks : (label : Label) (file : List ℕ) (fault : FileFault) → IsNotIn label file fault → fault ≡ NotFound → Lacks label file
lacks label file NotFound (inl memory) e = absurd (cc (memory))
lacks label file NotFound (inr (pem, inl none)) e = (pem, none)
lacks label file NotFound (inr (pem, inr (place, body, encloses, inl memory))) e = absurd (cc (memory))
lacks label file NotFound (inr (pem, inr (place, body, encloses, inr (none, inl other)))) e = absurd (cc (other.1))
lacks label file NotFound (inr (pem, inr (place, body, encloses, inr (none, inr other)))) e = absurd (cc (other.1))
lacks label file (NotEnded place) none e = absurd (cc (e))
lacks label file (NotBase64 place) none e = absurd (cc (e))
lacks label file (Encrypted place) none e = absurd (cc (e))
lacks label file (NotRead place) none e = absurd (cc (e))
lacks label file (NotRsa place) none e = absurd (cc (e))
lacks label file Memory none e = absurd (cc (e))

pub key_found : (file : List ℕ) (fault : FileFault) (r : Result Found FileFault) → IsNotIn PrivateKey file fault
    → MatchResult r (λ found. (fault ≡ NotFound) × IsIn RsaPrivateKey file found) (IsGivenOr fault (IsNoPkcs1Found file)) → MatchResult r (IsKeyFound file) (IsNoKeyFound file)
key_found file fault (Ok found) none h = inr (lacks PrivateKey file fault none h.0, h.1)
key_found file fault (Err other) none (inl same) =
    inl ((λ is. same.0 (sym same.1 ∙ is)), subst (λ f. IsNotIn PrivateKey file f) (sym same.1) none)
key_found file fault (Err other) none (inr further) = inr (lacks PrivateKey file fault none further.0, further.1)

-- a key of PKCS#1 isn't there by a fault, in place of which there may be that of an encrypted one
pub pkcs1_found : (file : List ℕ) (given fault : FileFault) → IsNotIn RsaPrivateKey file given → IsGivenOr given (IsNoPlainKey file) fault → IsNoPkcs1Found file fault
pkcs1_found file given fault none (inl same) =
    inl ((λ is. same.0 (sym same.1 ∙ is)), subst (λ f. IsNotIn RsaPrivateKey file f) (sym same.1) none)
pkcs1_found file given fault none (inr further) = inr (lacks RsaPrivateKey file given none further.0, further.1)
