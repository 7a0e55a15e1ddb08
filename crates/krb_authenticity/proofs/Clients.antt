-- A named client's authenticator can be written.
use Rattle.std.proofs.Common.{ℕ, Option}
use Rattle.asn1_der.specs.Tree.{IsWhole}
use Rattle.asn1_leaves.specs.declared.date.GeneralizedTime.{GeneralizedTime}
use Rattle.krb_messages.specs.declared.data_types.checksum.Checksum.{Checksum}
use Rattle.krb_messages.specs.declared.data_types.encryption_key.EncryptionKey.{EncryptionKey}
use Rattle.krb_messages.specs.Messages.{authenticator_tree}
use Rattle.krb_client.specs.Authenticators.{authenticator_parts_of, authenticator_with}
use Rattle.krb_client.specs.Client.{ClientRecord}
use Rattle.krb_logins.proofs.Names.{component_texts, realm_text}
use Rattle.krb_logins.proofs.WholePresented.{whole_authenticator}
use Rattle.krb_authenticity.specs.Parties.{IsClient}

pub whole_of_client : (client : ClientRecord) (micros : ℕ) (second : GeneralizedTime) (checksum : Option Checksum) (subkey : Option EncryptionKey) → IsClient client
    → IsWhole (authenticator_tree (authenticator_with (authenticator_parts_of client micros) second checksum subkey))
whole_of_client client micros second checksum subkey named =
    whole_authenticator client micros second checksum subkey (realm_text client.realm named.realm) (component_texts client.components named.name)
