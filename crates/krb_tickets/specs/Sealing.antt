-- Sealed data and keys of messages (RFC 4120, section 5.2.9), as they are made.
use Rattle.std.specs.Prelude.{◌≡◌, ℕ, ℤ, true, Option, None, Some, pos, refl}
use Rattle.std.proofs.Common.{ap, subst, sym, ◌∙◌}
use Rattle.std.proofs.lemmas.Bool.{eq-eqb}
use Rattle.asn1_der.specs.Tree.{Tree, Writes}
use Rattle.picky_asn1_der.specs.declared.wrapper.ExplicitContextTag.{ExplicitContextTag}
use Rattle.krb_crypto.specs.declared.suite.CipherSuite.{CipherSuite}
use Rattle.krb_crypto.specs.Suites.{cipher_number}
use Rattle.krb_crypto.specs.Sealing.{IsSealedBy}
use Rattle.krb_crypto.proofs.SealingLemmas.{one_string}
use Rattle.krb_messages.specs.declared.data_types.encrypted_data.EncryptedData.{EncryptedData}
use Rattle.krb_messages.specs.declared.data_types.encryption_key.EncryptionKey.{EncryptionKey}
use Rattle.krb_tickets.specs.SealedData.{IsSealedIn}
use Rattle.picky_asn1.specs.Numbers.{is_number}
use Rattle.picky_asn1.specs.Bytes.{Bytes}

-- a key with the number of its suite
abbrev pub encryption_key : CipherSuite → Bytes → EncryptionKey
encryption_key suite key = record {
  key_type = record { 0 = pos (cipher_number suite) };
  key_value = record { 0 = key };
}

-- the kvno, if there is one
abbrev pub tagged_kvno : Option ℕ → Option (ExplicitContextTag 1 ℤ)
tagged_kvno None = None
tagged_kvno (Some kvno) = Some (record { 0 = pos kvno })

-- ciphertext with the number of its suite and the kvno, if there is one
abbrev pub encrypted_by : CipherSuite → Option ℕ → Bytes → EncryptedData
encrypted_by suite kvno cipher = record {
  etype = record { 0 = pos (cipher_number suite) };
  kvno = record { 0 = tagged_kvno kvno };
  cipher = record { 0 = cipher };
}

-- the data is the text, sealed under the key, for the usage, behind the confounder
pub record Seals (suite : CipherSuite) (key : Bytes) (kvno : Option ℕ) (usage : ℕ) (confounder plain : Bytes) (sealed : EncryptedData) : Type 0 where
  pub cipher : Bytes
  pub seals : IsSealedBy suite key usage confounder plain cipher
  pub told : sealed ≡ encrypted_by suite kvno cipher

-- there is one such at most
pub sole_seals : (suite : CipherSuite) (key : Bytes) (kvno : Option ℕ) (usage : ℕ) (confounder plain : Bytes) (a b : EncryptedData)
    → Seals suite key kvno usage confounder plain a → Seals suite key kvno usage confounder plain b → a ≡ b
sole_seals suite key kvno usage confounder plain a b x y =
    let same = one_string suite key usage confounder plain x.cipher y.cipher x.seals y.seals in
    x.told ∙ ap (encrypted_by suite kvno) same ∙ sym y.told

-- a suite's number is its own
pub is_own_number : (suite : CipherSuite) → is_number (cipher_number suite) (pos (cipher_number suite)) ≡ true
is_own_number suite = eq-eqb (cipher_number suite) (cipher_number suite) refl

-- what is sealed opens, as it was sealed
pub sealed_opens : {T : Type 0} (tree : T → Tree) (value : T) (suite : CipherSuite) (key : Bytes) (kvno : Option ℕ) (usage : ℕ) (confounder plain : Bytes) (sealed : EncryptedData)
    → Writes tree value plain → Seals suite key kvno usage confounder plain sealed → IsSealedIn {T = T} tree suite key usage sealed value
sealed_opens {T} tree value suite key kvno usage confounder plain sealed writes it =
    subst (λ e. IsSealedIn {T = T} tree suite key usage e value) (sym it.told)
    (record { numbered = is_own_number suite; opens = record { conf = confounder; plain = plain; writes = writes; sealed = (suite, refl, it.seals) } })
