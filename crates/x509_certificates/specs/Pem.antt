-- DER in text between boundaries (RFC 7468).
use Rattle.std.specs.Prelude.{◌≡◌, ◌≢◌, ◌⊎◌, ◌<◌, ℕ, Bool, not, ◌&&◌, ◌||◌, ◌==◌, nat_le, List, ◌++◌, length}
use Rattle.std.specs.List.{filter}
use Rattle.std.specs.Str.{IsUtf8}
use Rattle.std.specs.Str.Iter.{HasSubslice}
use Rattle.std.specs.Str.Pattern.{LacksTextAt}
use Rattle.base64.specs.Engines.{standard}
use Rattle.base64.specs.GeneralPurpose.{IsBytes, encode_of}
use Rattle.x509_certificates.specs.declared.fault.FileFault.{FileFault}
use Rattle.x509_certificates.specs.declared.fault.FileFault.TheVariants.{NotFound, NotEnded, NotBase64, Encrypted, NotRead, NotRsa, Memory}
use Rattle.x509_certificates.specs.declared.pem.Found.{Found}
use Rattle.x509_certificates.specs.declared.pem.Label.{Label}
use Rattle.x509_certificates.specs.declared.pem.Label.TheVariants as label
use Rattle.x509_certificates.specs.declared.pem.TheConstants.{BEGIN, BEGIN_CERTIFICATE, BEGIN_PRIVATE_KEY, BEGIN_ENCRYPTED_PRIVATE_KEY, BEGIN_RSA_PRIVATE_KEY, ENCRYPTED, END_CERTIFICATE, END_PRIVATE_KEY, END_ENCRYPTED_PRIVATE_KEY, END_RSA_PRIVATE_KEY}

-- the boundary in front of what a label encloses
abbrev pub begin_of : Label → List ℕ
begin_of label.Certificate = BEGIN_CERTIFICATE.now
begin_of label.PrivateKey = BEGIN_PRIVATE_KEY.now
begin_of label.EncryptedPrivateKey = BEGIN_ENCRYPTED_PRIVATE_KEY.now
begin_of label.RsaPrivateKey = BEGIN_RSA_PRIVATE_KEY.now

-- the boundary behind it
abbrev pub end_of : Label → List ℕ
end_of label.Certificate = END_CERTIFICATE.now
end_of label.PrivateKey = END_PRIVATE_KEY.now
end_of label.EncryptedPrivateKey = END_ENCRYPTED_PRIVATE_KEY.now
end_of label.RsaPrivateKey = END_RSA_PRIVATE_KEY.now

-- A file is PEM if a BEGIN line begins in it, whatever octets its comments have, or if it is text in UTF-8 (RFC 7468, section 2).
abbrev pub IsPem : List ℕ → Type 0
IsPem file = HasSubslice file BEGIN.now ⊎ IsUtf8 file

-- the first occurrence of a boundary in the text is between front and back
pub record Divides (boundary text front back : List ℕ) : Type 0 where
  pub is : text ≡ front ++ (boundary ++ back)
  pub first : (i : ℕ) → i < length front → LacksTextAt boundary text i

-- the boundary isn't in the text
abbrev pub IsAbsent : List ℕ → List ℕ → Type 0
IsAbsent boundary text = (front back : List ℕ) → text ≢ front ++ (boundary ++ back)

-- the first boundary that ends what a label encloses is behind the body
abbrev pub IsEnded : Label → List ℕ → List ℕ → Type 0
IsEnded label rest body = (behind : List ℕ) × Divides (end_of label) rest body behind

-- The first boundaries of a label enclose the body. In front of them are so many octets (RFC 7468, section 2).
pub record Encloses (label : Label) (text : List ℕ) (place : ℕ) (body : List ℕ) : Type 0 where
  pub front : List ℕ
  pub rest : List ℕ
  pub begins : Divides (begin_of label) text front rest
  pub ends : IsEnded label rest body
  pub placed : place ≡ length front

-- why the boundaries of a label enclose nothing
abbrev pub HasNone : Label → List ℕ → FileFault → Type 0
HasNone label text NotFound = IsAbsent (begin_of label) text
HasNone label text (NotEnded place) = (front : List ℕ) × (rest : List ℕ) × Divides (begin_of label) text front rest × IsAbsent (end_of label) rest × (place ≡ length front)
HasNone label text (NotBase64 place) = ⊥
HasNone label text (Encrypted place) = ⊥
HasNone label text (NotRead place) = ⊥
HasNone label text (NotRsa place) = ⊥
HasNone label text Memory = ⊥

-- a tab, a line feed, a vertical tab, a form feed, a carriage return or a space (RFC 7468, section 3, `W`)
abbrev pub is_white_space : ℕ → Bool
is_white_space octet = (nat_le 9 octet && nat_le octet 13) || (octet == 32)

-- the octets that aren't white space
abbrev pub visible : List ℕ → List ℕ
visible text = filter (λ octet. not (is_white_space octet)) text

-- the text is the base64 text of the octets, with white space anywhere (RFC 4648, section 4)
abbrev pub IsDecoded : List ℕ → List ℕ → Type 0
IsDecoded body octets = visible body ≡ encode_of standard octets

-- the fault of a text that is no base64: a key is encrypted where the text has the word ENCRYPTED (RFC 1421, section 4.6.1.1)
abbrev pub IsNoBase64 : ℕ → List ℕ → FileFault → Type 0
IsNoBase64 place body fault =
    (HasSubslice body ENCRYPTED.now × (fault ≡ Encrypted place)) ⊎ ((HasSubslice body ENCRYPTED.now → ⊥) × (fault ≡ NotBase64 place))

-- memory ran out, or the text is the base64 text of no octets
abbrev pub IsUndecoded : ℕ → List ℕ → FileFault → Type 0
IsUndecoded place body fault = (fault ≡ Memory) ⊎ (((octets : List ℕ) → IsBytes octets → visible body ≢ encode_of standard octets) × IsNoBase64 place body fault)

-- the DER that the first boundaries of a label enclose in a text
pub record IsFound (label : Label) (text : List ℕ) (found : Found) : Type 0 where
  pub body : List ℕ
  pub encloses : Encloses label text found.place body
  pub decoded : IsDecoded body found.der.items

-- why there is none
abbrev pub IsNotFound : Label → List ℕ → FileFault → Type 0
IsNotFound label text fault = HasNone label text fault ⊎ ((place : ℕ) × (body : List ℕ) × Encloses label text place body × IsUndecoded place body fault)
