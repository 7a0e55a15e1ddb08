-- What is sealed under a party's key is opened by the same key, as the realm's account has it, and the other way round.
use Rattle.std.proofs.Common.{◌≡◌, ℕ, subst}
use Rattle.asn1_der.specs.Tree.{Tree}
use Rattle.picky_asn1.specs.Bytes.{Bytes}
use Rattle.krb_crypto.specs.declared.suite.CipherSuite.{CipherSuite}
use Rattle.krb_messages.specs.declared.data_types.encrypted_data.EncryptedData.{EncryptedData}
use Rattle.krb_tickets.specs.SealedData.{IsSealedIn}

pub opened_by : {T : Type 0} (tree : T → Tree) (suite other : CipherSuite) (key known : Bytes) (usage : ℕ) (encrypted : EncryptedData) (value : T)
    → suite ≡ other → key ≡ known → IsSealedIn {T = T} tree suite key usage encrypted value → IsSealedIn {T = T} tree other known usage encrypted value
opened_by {T} tree suite other key known usage encrypted value same_suite same_key sealed =
    subst (λ s. IsSealedIn {T = T} tree s known usage encrypted value) same_suite
    (subst (λ k. IsSealedIn {T = T} tree suite k usage encrypted value) same_key sealed)
