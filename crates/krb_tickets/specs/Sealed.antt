-- The encodings of the parts of a ticket and of its reply, and their encryption under an account's key or the reply key (RFC 4120,
-- sections 5.2.9, 5.3, 5.4.2).
use Rattle.std.specs.Prelude.{◌≡◌, ℕ, Some}
use Rattle.picky_asn1.specs.Bytes.{Bytes}
use Rattle.asn1_der.specs.Tree.{Tree, der}
use Rattle.krb_realm_accounts.specs.Account.{AccountRecord}
use Rattle.krb_messages.specs.declared.data_types.enc_ticket_part.EncTicketPartInner.{EncTicketPartInner}
use Rattle.krb_messages.specs.declared.data_types.encrypted_data.EncryptedData.{EncryptedData}
use Rattle.krb_messages.specs.declared.messages.kdc_rep.KdcRep.{KdcRep}
use Rattle.krb_messages.specs.declared.messages.enc_kdc_rep_part.EncKdcRepPart.{EncKdcRepPart}
use Rattle.krb_messages.specs.Messages.{as_rep_tree, tgs_rep_tree, enc_as_rep_part_tree, enc_tgs_rep_part_tree, enc_ticket_part_tree}
use Rattle.krb_tickets.specs.Sealing.{Seals, sole_seals}
use Rattle.krb_tickets.specs.declared.reply.Exchange.{Exchange}
use Rattle.krb_tickets.specs.declared.reply.Exchange.TheVariants.{As, Tgs}
use Rattle.krb_tickets.specs.ReplyKeys.{ReplyKeyRecord}

-- the encoding of the ticket's part
unfoldable pub ticket_part_bytes : EncTicketPartInner → Bytes
ticket_part_bytes part = der (enc_ticket_part_tree part)

-- the reply's own part as a tree: EncASRepPart or EncTGSRepPart
abbrev pub reply_part_tree : Exchange → EncKdcRepPart → Tree
reply_part_tree As = enc_as_rep_part_tree
reply_part_tree Tgs = enc_tgs_rep_part_tree

-- the encoding of the reply's own part
unfoldable pub reply_part_bytes : Exchange → EncKdcRepPart → Bytes
reply_part_bytes exchange part = der (reply_part_tree exchange part)

-- the reply as a tree: AS-REP or TGS-REP
abbrev pub kdc_reply_tree : Exchange → KdcRep → Tree
kdc_reply_tree As = as_rep_tree
kdc_reply_tree Tgs = tgs_rep_tree

-- the encoding of the reply
unfoldable pub kdc_reply_bytes : Exchange → KdcRep → Bytes
kdc_reply_bytes exchange reply = der (kdc_reply_tree exchange reply)

-- the data is the encryption of the plaintext under the account's key for the key usage, with the confounder and the key's kvno
abbrev pub IsSealedData : AccountRecord → ℕ → Bytes → Bytes → EncryptedData → Type 0
IsSealedData account = Seals account.suite account.key (Some account.kvno)

-- a plaintext has one encryption with this confounder at most
pub sole_sealed_data : (account : AccountRecord) (usage : ℕ) (confounder plain : Bytes) (a b : EncryptedData)
    → IsSealedData account usage confounder plain a → IsSealedData account usage confounder plain b → a ≡ b
sole_sealed_data account = sole_seals account.suite account.key (Some account.kvno)

-- the data is the encryption of the plaintext under the reply key, with the confounder
abbrev pub IsSealedReply : ReplyKeyRecord → Bytes → Bytes → EncryptedData → Type 0
IsSealedReply under = Seals under.suite under.key under.kvno under.usage

-- a plaintext has one encryption with this confounder at most
pub sole_sealed_reply : (under : ReplyKeyRecord) (confounder plain : Bytes) (a b : EncryptedData)
    → IsSealedReply under confounder plain a → IsSealedReply under confounder plain b → a ≡ b
sole_sealed_reply under = sole_seals under.suite under.key under.kvno under.usage
