-- The encrypted parts of an AP-REQ: its ticket's enc-part and its authenticator (RFC 4120, sections 5.3, 5.5.1).
use Rattle.std.specs.Prelude.{ℕ}
use Rattle.std.specs.Int.{cast_unsigned, w32}
use Rattle.picky_asn1.specs.Bytes.{Bytes}
use Rattle.krb_constants.specs.declared.key_usages.TheConstants.{TICKET_REP}
use Rattle.krb_crypto.specs.declared.suite.CipherSuite.{CipherSuite}
use Rattle.krb_messages.specs.declared.data_types.encrypted_data.EncryptedData.{EncryptedData}
use Rattle.krb_messages.specs.declared.data_types.enc_ticket_part.EncTicketPartInner.{EncTicketPartInner}
use Rattle.krb_messages.specs.declared.data_types.authenticator.AuthenticatorInner.{AuthenticatorInner}
use Rattle.decision_tables.specs.One.{IsSole}
use Rattle.krb_tickets.specs.SealedData.{IsSealedIn, sole_sealed}
use Rattle.krb_messages.specs.Messages.{authenticator-injective, authenticator_tree, enc_ticket_part-injective, enc_ticket_part_tree}

-- The ticket's enc-part is encrypted under the service's key, for key usage 2 (RFC 4120, sections 5.3 and 7.5.1). Test: `wrong usage` of
-- `admissions.txt`.
abbrev pub IsTicketPart : CipherSuite → Bytes → EncryptedData → EncTicketPartInner → Type 0
IsTicketPart suite key encrypted part = IsSealedIn {T = EncTicketPartInner} enc_ticket_part_tree suite key (cast_unsigned w32 TICKET_REP) encrypted part

pub sole_ticket_part : (suite : CipherSuite) (key : Bytes) (encrypted : EncryptedData) → IsSole (IsTicketPart suite key encrypted)
sole_ticket_part suite key encrypted =
    sole_sealed enc_ticket_part_tree enc_ticket_part-injective suite key (cast_unsigned w32 TICKET_REP) encrypted

-- the data is the authenticator under the session key, for this usage
abbrev pub IsAuthenticator : CipherSuite → Bytes → ℕ → EncryptedData → AuthenticatorInner → Type 0
IsAuthenticator suite key usage encrypted part = IsSealedIn {T = AuthenticatorInner} authenticator_tree suite key usage encrypted part

pub sole_authenticator : (suite : CipherSuite) (key : Bytes) (usage : ℕ) (encrypted : EncryptedData) → IsSole (IsAuthenticator suite key usage encrypted)
sole_authenticator suite key usage encrypted =
    sole_sealed authenticator_tree authenticator-injective suite key usage encrypted
