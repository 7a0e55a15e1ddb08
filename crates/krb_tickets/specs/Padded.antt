-- A value whose encoding, as a suite pads it, is a text.
use Rattle.std.specs.Prelude.{◌≡◌, ◌⊎◌, Result, MatchResult}
use Rattle.asn1_der.specs.declared.error.Asn1DerError.{Asn1DerError}
use Rattle.asn1_der.specs.declared.error.Asn1DerError.TheVariants.{Memory}
use Rattle.asn1_der.specs.Tree.{Tree, Writes}
use Rattle.krb_crypto.specs.Sealing.{cipher_padded}
use Rattle.krb_crypto.specs.declared.suite.CipherSuite.{CipherSuite}
use Rattle.picky_asn1.specs.Bytes.{Bytes}

-- What triple DES decrypts still has its padding: a value's encoding and fewer than eight zeros up to whole blocks (RFC 3961,
-- sections 5.3 and 6.3). What AES decrypts is the encoding alone. Test: `tgs 3DES authenticator and 8 zeros`,
-- `tgs authenticator and zeros` of `kdc_exchanges.txt`.
abbrev pub IsPaddedBy : {T : Type 0} → (T → Tree) → CipherSuite → Bytes → T → Type 0
IsPaddedBy tree suite text value = (encoding : Bytes) × Writes tree value encoding × (cipher_padded suite encoding ≡ text)

-- the result is a value whose padded encoding the text is; or there is no such value, unless memory ran out
abbrev pub ReadsPadded : {T : Type 0} → (T → Tree) → CipherSuite → Bytes → Result T Asn1DerError → Type 0
ReadsPadded {T} tree suite text result =
    MatchResult result (IsPaddedBy tree suite text) (λ fault. (fault ≡ Memory) ⊎ ((value : T) → IsPaddedBy tree suite text value → ⊥))
