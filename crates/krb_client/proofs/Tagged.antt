-- What is sealed under a tag is what the tag stands around.
use Rattle.std.proofs.Common.{ℕ, List}
use Rattle.asn1_der.specs.Tree.{Tree}
use Rattle.krb_crypto.specs.declared.suite.CipherSuite.{CipherSuite}
use Rattle.krb_messages.specs.declared.data_types.encrypted_data.EncryptedData.{EncryptedData}
use Rattle.krb_tickets.specs.SealedData.{IsSealedIn}

pub sealed-inside : {T V : Type 0} (inner : T → V) (tree : V → Tree) (suite : CipherSuite) (key : List ℕ) (usage : ℕ) (sealed : EncryptedData) (value : T)
    → IsSealedIn {T = T} (λ v. tree (inner v)) suite key usage sealed value → IsSealedIn {T = V} tree suite key usage sealed (inner value)
sealed-inside inner tree suite key usage sealed value s = record {
  numbered = s.numbered;
  opens = record { conf = s.opens.conf; plain = s.opens.plain; writes = s.opens.writes; sealed = s.opens.sealed };
}

pub sealed-around : {T V : Type 0} (inner : T → V) (tree : V → Tree) (suite : CipherSuite) (key : List ℕ) (usage : ℕ) (sealed : EncryptedData) (value : T)
    → IsSealedIn {T = V} tree suite key usage sealed (inner value) → IsSealedIn {T = T} (λ v. tree (inner v)) suite key usage sealed value
sealed-around inner tree suite key usage sealed value s = record {
  numbered = s.numbered;
  opens = record { conf = s.opens.conf; plain = s.opens.plain; writes = s.opens.writes; sealed = s.opens.sealed };
}
