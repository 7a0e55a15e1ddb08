-- The reply to a request (RFC 3244, section 2): a frame of version 1 with a result code and a text. Behind an AP-REP they are in a KRB-PRIV, and
-- without one in the e-data of a KRB-ERROR.
use Rattle.std.specs.Prelude.{◌≡◌, ◌≤◌, ◌⊎◌, ◌%◌, ℕ, [], length, None, Some, Result, Ok, Err, pos}
use Rattle.std.specs.Int.{cast_unsigned, w32}
use Rattle.std.proofs.Common.{ap, sym, ◌∙◌}
use Rattle.asn1_der.specs.Tree.{der}
use Rattle.asn1_leaves.specs.declared.date.GeneralizedTime.{GeneralizedTime}
use Rattle.decision_tables.specs.One.{IsSole}
use Rattle.krb_constants.specs.declared.error_codes.TheConstants.{KRB_ERR_GENERIC}
use Rattle.krb_constants.specs.declared.key_usages.TheConstants as usages
use Rattle.krb_constants.specs.declared.types.TheConstants.{KERBEROS_VERSION, KRB_ERROR_MSG_TYPE, KRB_PRIV}
use Rattle.krb_crypto.specs.Suites.{cipher_confounder_size}
use Rattle.krb_crypto.specs.declared.suite.CipherSuite.{CipherSuite}
use Rattle.krb_messages.specs.Messages.{krb_error_tree}
use Rattle.krb_messages.specs.RandomBytes.{Random, random_part}
use Rattle.krb_messages.specs.declared.data_types.encrypted_data.EncryptedData.{EncryptedData}
use Rattle.krb_messages.specs.declared.data_types.host_address.HostAddress.{HostAddress}
use Rattle.krb_messages.specs.declared.messages.krb_error.KrbErrorInner.{KrbErrorInner}
use Rattle.krb_service.specs.Admission.{AdmissionRecord}
use Rattle.krb_tickets.specs.Keys.{suite_of}
use Rattle.krb_tickets.specs.Sealing.{Seals, sole_seals}
use Rattle.krb_time.specs.SecondOf.{IsSecondOf}
use Rattle.krb_time.specs.Units.{Micros}
use Rattle.krb_password_changes.specs.Frames.{IsFrame}
use Rattle.krb_password_changes.specs.ResultCodes.{result_number}
use Rattle.krb_password_changes.specs.Results.{result_octets}
use Rattle.krb_password_changes.specs.declared.messages.result_code.ResultCode.{ResultCode}
use Rattle.krb_password_changes.specs.declared.messages.result_code.ResultCode.TheVariants.{Success, HardError}
use Rattle.krb_password_changes.specs.declared.messages.version.Version.TheVariants.{ChangePassword}
use Rattle.microsoft_messages.specs.declared.enc_krb_priv_part.EncKrbPrivPartInner.{EncKrbPrivPartInner}
use Rattle.microsoft_messages.specs.declared.krb_priv.KrbPrivInner.{KrbPrivInner}
use Rattle.picky_asn1.specs.Bytes.{Bytes}
use Rattle.krb_password_changes.specs.Changes.{TargetRecord}
use Rattle.krb_password_changes.specs.Privates.{enc_krb_priv_part_tree, krb_priv_tree, private_key}
use Rattle.krb_password_changes.specs.declared.refusal.ChangeRefusal.{ChangeRefusal}
use Rattle.krb_password_changes.specs.declared.refusal.ChangeRefusal.TheVariants.{Refused, Memory}

-- As many random octets as a reply takes: a confounder of the AP-REP, and one of the KRB-PRIV.
abbrev pub AreEnoughForChange : Random → Type 0
AreEnoughForChange words = 32 ≤ length words

-- the confounder of the reply's KRB-PRIV, of so many octets
abbrev pub private_confounder : ℕ → Random → Bytes
private_confounder = random_part 16

-- The result code of an outcome. Missing memory is a hard error (RFC 3244, section 2).
abbrev pub code_of : {T : Type 0} → Result T ChangeRefusal → ResultCode
code_of (Ok granted) = Success
code_of (Err (Refused code)) = code
code_of (Err Memory) = HardError

-- The part of the KRB-PRIV of a reply: the data, and the service's address. Its seq-number is 0, since the AP-REP has none (RFC 4120, sections
-- 5.5.2 and 5.7.1). Test: `changed`, `changed, version 1` of `password_replies.txt`.
abbrev pub reply_part : Bytes → HostAddress → EncKrbPrivPartInner
reply_part data_octets address = record {
  user_data = record { 0 = data_octets };
  timestamp = record { 0 = None };
  usec = record { 0 = None };
  seq_number = record { 0 = Some (record { 0 = pos 0 }) };
  s_address = record { 0 = address };
  r_address = record { 0 = None };
}

-- the KRB-PRIV with this encrypted part (RFC 4120, section 5.7.1)
abbrev pub krb_priv_of : EncryptedData → KrbPrivInner
krb_priv_of part = record {
  pvno = record { 0 = pos KERBEROS_VERSION };
  msg_type = record { 0 = pos KRB_PRIV };
  enc_part = record { 0 = part };
}

-- The octets are the encoding of the KRB-PRIV whose part is this, encrypted under the key, for key usage 13 (RFC 4120, section 7.5.1).
pub record IsPrivateOf (suite : CipherSuite) (key confounder : Bytes) (content : EncKrbPrivPartInner) (bytes : Bytes) : Type 0 where
  pub part : EncryptedData
  pub sealed : Seals suite key None (cast_unsigned w32 usages.KRB_PRIV_ENC_PART) confounder (der (enc_krb_priv_part_tree content)) part
  pub encoding : bytes ≡ der (krb_priv_tree (krb_priv_of part))

-- there are such octets at most once
pub sole_private_of : (suite : CipherSuite) (key confounder : Bytes) (content : EncKrbPrivPartInner) → IsSole (IsPrivateOf suite key confounder content)
sole_private_of suite key confounder content a b x y =
    let same = sole_seals suite key None (cast_unsigned w32 usages.KRB_PRIV_ENC_PART) confounder (der (enc_krb_priv_part_tree content)) x.part y.part x.sealed y.sealed in
    x.encoding ∙ ap (λ part. der (krb_priv_tree (krb_priv_of part))) same ∙ sym y.encoding

-- The message is the frame of version 1 of an AP-REP and of the KRB-PRIV with these data, under the key (RFC 3244, section 2). Test: `changed`,
-- `changed, version 1`, `too short` of `password_replies.txt`.
pub record IsPrivateFrame (suite : CipherSuite) (key ap_rep octets : Bytes) (address : HostAddress) (words : Random) (message : Bytes) : Type 0 where
  pub krb_priv : Bytes
  pub is_private : IsPrivateOf suite key (private_confounder (cipher_confounder_size suite) words) (reply_part octets address) krb_priv
  pub frame : IsFrame ChangePassword ap_rep krb_priv message

-- The message is the frame of the admission's AP-REP and of the KRB-PRIV with these data, under the key of the request: the subkey of the
-- authenticator, or the session key (RFC 3244, section 2). Test: `changed, under the session key`, `changed, under a subkey of another suite`
-- of `password_replies.txt`.
pub record IsPrivateReply (admission : AdmissionRecord) (octets : Bytes) (address : HostAddress) (words : Random) (message : Bytes) : Type 0 where
  pub ap_rep : Bytes
  pub has_ap_rep : admission.reply ≡ Some ap_rep
  pub suite : CipherSuite
  pub has_key : suite_of (private_key admission) ≡ Some suite
  pub is_frame : IsPrivateFrame suite (private_key admission).key_value.0 ap_rep octets address words message

-- The KRB-ERROR of a service at a time, with this e-data. Its code is KRB_ERR_GENERIC (RFC 4120, section 5.9.1).
abbrev pub error_of : TargetRecord → GeneralizedTime → Micros → Bytes → KrbErrorInner
error_of service time microseconds octets = record {
  pvno = record { 0 = pos KERBEROS_VERSION };
  msg_type = record { 0 = pos KRB_ERROR_MSG_TYPE };
  ctime = record { 0 = None };
  cusec = record { 0 = None };
  stime = record { 0 = record { 0 = time } };
  susec = record { 0 = pos microseconds };
  error_code = record { 0 = KRB_ERR_GENERIC };
  crealm = record { 0 = None };
  cname = record { 0 = None };
  realm = record { 0 = service.realm };
  sname = record { 0 = service.name };
  e_text = record { 0 = None };
  e_data = record { 0 = Some (record { 0 = octets }) };
}

-- The message is the frame of version 1 of no AP message and of the KRB-ERROR with these data (RFC 3244, section 2). Test: `no AP-REQ`,
-- `changed, again`, `version 2` of `password_replies.txt`.
pub record IsErrorReply (service : TargetRecord) (moment : Micros) (octets message : Bytes) : Type 0 where
  pub time : GeneralizedTime
  pub is_now : IsSecondOf moment time
  pub frame : IsFrame ChangePassword [] (der (krb_error_tree (error_of service time (moment % 1000000) octets))) message

-- The reply to an admitted request is encrypted, unless its key is of no suite (RFC 3244, section 2). Test: `changed`, `subkey of no suite` of
-- `password_replies.txt`.
abbrev pub IsReply : TargetRecord → Micros → AdmissionRecord → Bytes → HostAddress → Random → Bytes → Type 0
IsReply service moment admission octets address words message =
    IsPrivateReply admission octets address words message
    ⊎ (((suite_of (private_key admission) ≡ None) ⊎ (admission.reply ≡ None)) × IsErrorReply service moment octets message)

-- what a reply carries
abbrev pub result_of : ResultCode → Bytes → Bytes
result_of code text = result_octets (result_number code) text
