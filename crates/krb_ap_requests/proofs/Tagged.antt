-- A value under a tag and the value have one tree, so what seals one seals the other.
use Rattle.std.proofs.Common.{◌≡◌, ℕ, List, subst}
use Rattle.asn1_der.specs.Tree.{Tree, IsWhole, der}
use Rattle.krb_crypto.specs.declared.suite.CipherSuite.{CipherSuite}
use Rattle.krb_messages.specs.declared.data_types.encrypted_data.EncryptedData.{EncryptedData}
use Rattle.krb_tickets.specs.SealedData.{IsSealedIn}

pub same_sealed : {T U : Type 0} (t : T → Tree) (u : U → Tree) (suite : CipherSuite) (key : List ℕ) (usage : ℕ) (encrypted : EncryptedData) (v : T) (w : U) → t v ≡ u w
    → IsSealedIn {T = T} t suite key usage encrypted v → IsSealedIn {T = U} u suite key usage encrypted w
same_sealed t u suite key usage encrypted v w same x = record {
  numbered = x.numbered;
  opens = record {
    conf = x.opens.conf;
    plain = x.opens.plain;
    writes = subst (λ tree. IsWhole tree × (x.opens.plain ≡ der tree)) same x.opens.writes;
    sealed = x.opens.sealed;
  };
}
