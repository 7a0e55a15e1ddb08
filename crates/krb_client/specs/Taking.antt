-- What a client takes as a reply (RFC 4120, sections 3.1.5, 3.2.5, 3.3.4): the rules that its kinds have in common. The first
-- case that holds counts.
use Rattle.std.specs.Prelude.{ℕ, ℤ, Bool, not, ◌&&◌, List, Option, Result, Ok, Err}
use Rattle.std.specs.Option.{option_map, option_map_or}
use Rattle.asn1_leaves.specs.declared.date.GeneralizedTime.{GeneralizedTime}
use Rattle.krb_crypto.specs.declared.suite.CipherSuite.{CipherSuite}
use Rattle.krb_messages.specs.declared.data_types.encrypted_data.EncryptedData.{EncryptedData}
use Rattle.krb_messages.specs.declared.messages.enc_kdc_rep_part.EncKdcRepPart.{EncKdcRepPart}
use Rattle.krb_messages.specs.declared.messages.kdc_rep.KdcRep.{KdcRep}
use Rattle.krb_messages.specs.Messages.{enc_tgs_rep_part-injective, enc_tgs_rep_part_tree}
use Rattle.krb_constants.specs.declared.types.TheConstants.{KERBEROS_VERSION}
use Rattle.krb_tickets.specs.Keys.{suite_of}
use Rattle.krb_tickets.specs.SealedData.{IsSealedIn, sole_sealed}
use Rattle.picky_asn1.specs.Numbers.{is_number}
use Rattle.picky_asn1.specs.Bytes.{Bytes}
use Rattle.decision_tables.specs.One.{IsSole}
use Rattle.decision_tables.specs.Tables.{Table, ask, done, need, refuse}
use Rattle.krb_tickets.specs.Answers.{is_answer}
use Rattle.krb_client.specs.Client.{ClientRecord, CredentialRecord}
use Rattle.krb_client.specs.Messages.{IsErrorCode, sole_error_code}
use Rattle.krb_client.specs.declared.refusal.TakeRefusal.{TakeRefusal}
use Rattle.krb_client.specs.declared.refusal.TakeRefusal.TheVariants.{NotAsked, Refused, Unreadable}

-- the bytes as they come: they are an error, or a reply, which the following cases read
-- Not judged: the pvno and msg-type of a KRB-ERROR (RFC 4120, section 5.9.1). Test: `take_as_reply KRB-ERROR pvno`,
-- `take_as_reply KRB-ERROR msg-type` of `changed_replies.txt`.
abbrev pub takes_message : {A T : Type 0} (bytes : Bytes) (IsReply : A → Type 0) → IsSole IsReply → (A → Table (Result T TakeRefusal)) → Table (Result T TakeRefusal)
takes_message bytes IsReply sole rest =
    -- The bytes are the DER encoding of one KRB-ERROR, AS-REP, TGS-REP or AP-REP (RFC 4120, sections 5.4.2, 5.5.2, 5.9.1). Test:
    -- `cut_reply` of `logins.txt`.
    ask (IsErrorCode bytes) (sole_error_code bytes)
    -- A reply is of the type that the client asked for (RFC 4120, sections 3.1.5, 3.2.5, 3.3.4). Test: `e@R, first byte 6D` of
    -- `pkinit_steps.txt`.
    (ask IsReply sole (done (Err Unreadable)) rest)
    -- A KRB-ERROR is refused with its error-code (RFC 4120, section 3.1.6). Test: `take_as_reply KRB-ERROR` of `clients.txt`.
    (λ code. done (Err (Refused code)))

-- the message says that it is of version 5, and of this type (RFC 4120, section 5.10)
abbrev pub is_of_type : ℕ → ℤ → ℤ → Bool
is_of_type number version kind = is_number KERBEROS_VERSION version && is_number number kind

-- the data is an EncTGSRepPart, encrypted under the key for the usage (RFC 4120, section 5.4.2)
unfoldable pub IsTgsPart : CipherSuite → Bytes → ℕ → EncryptedData → EncKdcRepPart → Type 0
IsTgsPart suite key usage sealed part = IsSealedIn {T = EncKdcRepPart} enc_tgs_rep_part_tree suite key usage sealed part

pub sole_tgs_part : (suite : CipherSuite) (key : Bytes) (usage : ℕ) (sealed : EncryptedData) → IsSole (IsTgsPart suite key usage sealed)
unfolding IsTgsPart
sole_tgs_part suite key usage sealed = sole_sealed enc_tgs_rep_part_tree enc_tgs_rep_part-injective suite key usage sealed

-- what a KDC's reply grants, or the reason why the client doesn't take it
abbrev pub Taken : Type 0
Taken = Result CredentialRecord TakeRefusal

-- a ticket's start: its starttime, or its authtime where it has no starttime (RFC 4120, section 5.4.2)
abbrev pub starttime_of : EncKdcRepPart → GeneralizedTime
starttime_of part = option_map_or (λ tagged. tagged.0.0) part.start_time.0 part.auth_time.0.0

-- until when a renewable ticket may be renewed (RFC 4120, section 5.4.2)
abbrev pub renew_till_of : EncKdcRepPart → Option GeneralizedTime
renew_till_of part = option_map (λ tagged. tagged.0.0) part.renew_till.0

-- the reply's ticket, with the key, realm, service, times and flags of its opened part
abbrev pub credential_of : KdcRep → EncKdcRepPart → CipherSuite → CredentialRecord
credential_of reply part suite = record {
  ticket = reply.ticket.0.0;
  suite = suite;
  key = part.key.0.key_value.0;
  realm = part.srealm.0;
  service = part.sname.0;
  authtime = part.auth_time.0.0;
  starttime = starttime_of part;
  endtime = part.end_time.0.0;
  renew_till = renew_till_of part;
  flags = part.flags.0;
}

-- what the client takes of the decrypted part: it answers what the client asked for this service, with the nonce
-- Not judged: the reply's times, flags and addresses, and the ticket's own fields (RFC 4120, sections 3.1.5, 3.3.4). No test: the
-- contract alone covers it.
-- Ignored: the name types of the reply's cname and of the part's sname (RFC 4120, section 6.2). Test: `a@R, cname type`,
-- `a@R, sname type` of `pkinit_steps.txt`.
abbrev pub takes_part : ClientRecord → List Bytes → ℕ → KdcRep → EncKdcRepPart → Table Taken
takes_part client service nonce reply part =
    -- The part's nonce is the request's (RFC 4120, sections 3.1.5, 3.3.4). Test: `take_as_reply other nonce` of `logins.txt`.
    -- The reply's crealm and cname are the client's (RFC 4120, sections 3.1.5, 3.3.4). Test: `a@R loose, crealm`, `a@R loose, cname` of
    -- `pkinit_steps.txt`.
    -- The part's srealm is the client's realm, and its sname is the service that the client asked for (RFC 4120, sections 3.1.5, 3.3.4).
    -- Test: `e@R, srealm`, `e@R, sname` of `pkinit_steps.txt`.
    refuse (not (is_answer client.realm client.components service nonce reply part)) NotAsked
    -- The session key's type and length are a suite's (RFC 3961, section 3). Test: `take_tgs_reply key type`,
    -- `take_tgs_reply key length` of `changed_replies.txt`.
    (need (suite_of part.key.0) NotAsked (λ suite.
    done (Ok (credential_of reply part suite))))
