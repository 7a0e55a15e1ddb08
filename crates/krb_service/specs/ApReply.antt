-- The reply by which a service shows that it could open the ticket (RFC 4120, sections 3.2.4, 5.5.2).
use Rattle.std.specs.Prelude.{◌≡◌, ◌+◌, ◌%◌, ℕ, Bool, true, false, Option, None, Some, pos}
use Rattle.std.specs.Int.{cast_unsigned, from_be_bytes, w32}
use Rattle.std.proofs.Common.{ap, sym, ◌∙◌}
use Rattle.picky_asn1.specs.Bytes.{Bytes}
use Rattle.asn1_der.specs.Tree.{der}
use Rattle.krb_constants.specs.declared.key_usages.TheConstants.{AP_REP_ENC}
use Rattle.krb_constants.specs.declared.types.TheConstants.{AP_REP_MSG_TYPE, KERBEROS_VERSION}
use Rattle.krb_crypto.specs.Sealing.{seed_key_of}
use Rattle.krb_crypto.specs.Suites.{cipher_confounder_size, cipher_seed_size}
use Rattle.krb_crypto.specs.declared.suite.CipherSuite.{CipherSuite}
use Rattle.krb_messages.specs.declared.data_types.authenticator.AuthenticatorInner.{AuthenticatorInner}
use Rattle.krb_messages.specs.declared.data_types.enc_ap_rep_part.EncApRepPartInner.{EncApRepPartInner}
use Rattle.krb_messages.specs.declared.data_types.encrypted_data.EncryptedData.{EncryptedData}
use Rattle.krb_messages.specs.declared.messages.ap_rep.ApRepInner.{ApRepInner}
use Rattle.krb_tickets.specs.Keys.{suite_of}
use Rattle.decision_tables.specs.One.{IsSole}
use Rattle.krb_tickets.specs.Sealing.{Seals, encryption_key, sole_seals}
use Rattle.krb_messages.specs.RandomBytes.{Random, ap_reply_confounder, nonce_bytes, subkey_seed}
use Rattle.krb_messages.specs.Messages.{ap_rep_tree, enc_ap_rep_part_tree}
use Rattle.krb_ap_requests.specs.declared.presented.Presented.{Presented}
use Rattle.krb_service.specs.declared.reply.ReplyFields.{ReplyFields}
use Rattle.krb_service.specs.declared.reply.ReplyFields.TheVariants.{TimeAlone, SubkeyAndNumber}

-- how many of the random bytes count: the confounder's 16, and for a subkey and a number the 48 behind them
abbrev pub further_size : ReplyFields → ℕ
further_size TimeAlone = 0
further_size SubkeyAndNumber = 48

-- how many random bytes a reply with these fields takes: a confounder of 16, and those of its further fields
abbrev pub random_size : ReplyFields → ℕ
random_size fields = 16 + further_size fields

-- the service's subkey, of this suite, which the random bytes seed
abbrev pub reply_subkey : CipherSuite → Random → Bytes
reply_subkey suite words = seed_key_of suite (subkey_seed (cipher_seed_size suite) words)

-- the service's first sequence number: 31 bits of four of the random bytes, big-endian
abbrev pub reply_number : Random → ℕ
reply_number words = from_be_bytes w32 (nonce_bytes words) % 2147483648

-- the authenticator's time, and nothing optional
abbrev pub ap_rep_part : AuthenticatorInner → EncApRepPartInner
ap_rep_part authenticator = record {
  ctime = record { 0 = authenticator.ctime.0 };
  cusec = record { 0 = authenticator.cusec.0 };
  subkey = record { 0 = None };
  seq_number = record { 0 = None };
}

-- the authenticator's time with these fields, which are of the random bytes
abbrev pub ap_rep_part_with : ReplyFields → CipherSuite → Random → AuthenticatorInner → EncApRepPartInner
ap_rep_part_with TimeAlone suite words authenticator = ap_rep_part authenticator
ap_rep_part_with SubkeyAndNumber suite words authenticator = record {
  ctime = record { 0 = authenticator.ctime.0 };
  cusec = record { 0 = authenticator.cusec.0 };
  subkey = record { 0 = Some (record { 0 = encryption_key suite (reply_subkey suite words) }) };
  seq_number = record { 0 = Some (record { 0 = pos (reply_number words) }) };
}

-- the AP-REP with this encrypted part (RFC 4120, section 5.5.2)
abbrev pub ap_rep_of : EncryptedData → ApRepInner
ap_rep_of part = record {
  pvno = record { 0 = pos KERBEROS_VERSION };
  msg_type = record { 0 = pos AP_REP_MSG_TYPE };
  enc_part = record { 0 = part };
}

-- the bytes are the encoding of the reply, whose part is this, encrypted under the session key (RFC 4120, section 7.5.1)
pub record IsReplyOf (suite : CipherSuite) (key confounder : Bytes) (content : EncApRepPartInner) (bytes : Bytes) : Type 0 where
  pub part : EncryptedData
  pub sealed : Seals suite key None (cast_unsigned w32 AP_REP_ENC) confounder (der (enc_ap_rep_part_tree content)) part
  pub encoding : bytes ≡ der (ap_rep_tree (ap_rep_of part))

-- there is one at most
pub sole_reply_of : (suite : CipherSuite) (key confounder : Bytes) (content : EncApRepPartInner) → IsSole (IsReplyOf suite key confounder content)
sole_reply_of suite key confounder content a b x y =
    let same = sole_seals suite key None (cast_unsigned w32 AP_REP_ENC) confounder (der (enc_ap_rep_part_tree content)) x.part y.part x.sealed y.sealed in
    x.encoding ∙ ap (λ part. der (ap_rep_tree (ap_rep_of part))) same ∙ sym y.encoding

-- the part has the authenticator's time alone
abbrev pub IsReplyUnder : CipherSuite → Bytes → Bytes → AuthenticatorInner → Bytes → Type 0
IsReplyUnder suite key confounder authenticator bytes = IsReplyOf suite key confounder (ap_rep_part authenticator) bytes

-- this reply, if one is required
abbrev pub IsReplyBy : Bool → (Bytes → Type 0) → Option Bytes → Type 0
IsReplyBy false IsMade reply = reply ≡ None
IsReplyBy true IsMade None = ⊥
IsReplyBy true IsMade (Some bytes) = IsMade bytes

sole_reply_by : (wanted : Bool) (IsMade : Bytes → Type 0) → IsSole IsMade → IsSole (IsReplyBy wanted IsMade)
sole_reply_by false IsMade one a b p q = p ∙ sym q
sole_reply_by true IsMade one None b p q = absurd p
sole_reply_by true IsMade one (Some a) None p q = absurd q
sole_reply_by true IsMade one (Some a) (Some b) p q = ap Some (one a b p q)

-- the reply, if one is required, with the first of the random bytes as confounder
abbrev pub IsReply : Bool → Random → CipherSuite → Bytes → AuthenticatorInner → Option Bytes → Type 0
IsReply wanted words suite key authenticator reply =
    IsReplyBy wanted (IsReplyUnder suite key (ap_reply_confounder (cipher_confounder_size suite) words) authenticator) reply

-- by its type and its length the session key is one of the presented suite (RFC 4120, section 5.2.9)
abbrev pub HasSessionKey : Presented → Type 0
HasSessionKey p = suite_of p.part.key.0 ≡ Some p.suite

-- the reply with these fields to what was presented, under the session key
abbrev pub IsReplyWith : ReplyFields → Presented → Random → Option Bytes → Type 0
IsReplyWith fields p words reply =
    IsReplyBy p.wants_reply
    (IsReplyOf p.suite p.part.key.0.key_value.0 (ap_reply_confounder (cipher_confounder_size p.suite) words) (ap_rep_part_with fields p.suite words p.authenticator))
    reply

pub sole_reply_with : (fields : ReplyFields) (p : Presented) (words : Random) → IsSole (IsReplyWith fields p words)
sole_reply_with fields p words =
    sole_reply_by p.wants_reply
    (IsReplyOf p.suite p.part.key.0.key_value.0 (ap_reply_confounder (cipher_confounder_size p.suite) words) (ap_rep_part_with fields p.suite words p.authenticator))
    (sole_reply_of p.suite p.part.key.0.key_value.0 (ap_reply_confounder (cipher_confounder_size p.suite) words) (ap_rep_part_with fields p.suite words p.authenticator))

-- the reply with the time alone
abbrev pub IsReplyTo : Presented → Random → Option Bytes → Type 0
IsReplyTo p words reply = IsReply p.wants_reply words p.suite p.part.key.0.key_value.0 p.authenticator reply

abbrev pub sole_reply_to : (p : Presented) (words : Random) → IsSole (IsReplyTo p words)
sole_reply_to p words = sole_reply_with TimeAlone p words
