-- Sealed parts of messages (RFC 3961, section 5.3).
use Rattle.std.specs.Prelude.{◌≡◌, ◌⊎◌, ℕ, Result, Ok, Err}
use Rattle.std.proofs.Common.{sym, ◌∙◌}
use Rattle.picky_asn1.specs.Bytes.{Bytes}
use Rattle.asn1_der.specs.Tree.{Tree, Writes}
use Rattle.asn1_der.specs.Seen.{Seen, Alike}
use Rattle.asn1_der.proofs.Spelling.{IsInjective, one_spelling}
use Rattle.block_ciphers.specs.declared.error.KerberosCryptoError.{KerberosCryptoError}
use Rattle.block_ciphers.specs.declared.error.KerberosCryptoError.TheVariants as crypto
use Rattle.krb_crypto.specs.Sealing.{IsSealed}
use Rattle.krb_crypto.specs.declared.suite.CipherSuite.{CipherSuite}
use Rattle.krb_crypto.proofs.SealingLemmas.{padded_front, one_sealed}
use Rattle.asn1_der.specs.declared.error.Asn1DerError.{Asn1DerError}
use Rattle.asn1_der.specs.declared.error.Asn1DerError.TheVariants as der_fault
use Rattle.krb_tickets.specs.declared.open.OpenFault.{OpenFault}
use Rattle.krb_tickets.specs.declared.open.OpenFault.TheVariants.{Crypto, Der}

-- some confounder seals the value's encoding to these bytes under the key, for the usage, by the suite that has the
-- number
pub record Opens {T : Type 0} (tree : T → Tree) (number : ℕ) (key : Bytes) (usage : ℕ) (bytes : Bytes) (value : T) : Type 0 where
  pub conf : Bytes
  pub plain : Bytes
  pub writes : Writes tree value plain
  pub sealed : IsSealed number key usage conf plain bytes

-- the fault says that memory ran out
abbrev pub IsWantOfMemory : OpenFault → Type 0
IsWantOfMemory (Crypto fault) = fault ≡ crypto.Memory
IsWantOfMemory (Der fault) = fault ≡ der_fault.Memory

-- the one value with the property, but for values that show the same; or there is none, or memory ran out
abbrev pub IsOpened : {T : Type 0} → Seen T → (T → Type 0) → Result T OpenFault → Type 0
IsOpened {T} seen P (Ok value) = P value × ((other : T) → P other → Alike seen other value)
IsOpened {T} seen P (Err fault) = IsWantOfMemory fault ⊎ ((other : T) → P other → ⊥)

-- at most one value is sealed to the bytes: an encoding says where it ends, so no other has the same padded form
pub sole_opens : {T : Type 0} (tree : T → Tree) → IsInjective {T = T} tree → (number : ℕ) (key : Bytes) (usage : ℕ) (bytes : Bytes) (v w : T)
    → Opens {T = T} tree number key usage bytes v → Opens {T = T} tree number key usage bytes w → v ≡ w
sole_opens {T} tree injective number key usage bytes v w x y =
    let suite : CipherSuite = x.sealed.0 in
    let text = (one_sealed number key usage x.conf x.plain y.conf y.plain bytes x.sealed y.sealed).1 in
    let first = padded_front suite x.plain in
    let second = padded_front suite y.plain in
    (one_spelling {T = T} tree injective v w x.plain y.plain first.0 second.0 x.writes y.writes (sym first.1 ∙ text ∙ second.1)).0
