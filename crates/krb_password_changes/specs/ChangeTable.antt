-- How a request is judged whose AP-REQ was admitted, in parts of one table: the first case that holds counts (RFC 3244, section 2).
use Rattle.std.specs.Prelude.{ℕ, Bool, not, nat_lt, is_none, List, length, Result, Ok, Err}
use Rattle.std.specs.List.{list_any}
use Rattle.std.specs.Cmp.Lexicographic.{pointwise}
use Rattle.std.specs.Bool.{nat_eq}
use Rattle.decision_tables.specs.Tables.{Table, done, ask, and_then, need, refuse}
use Rattle.krb_constants.specs.declared.ticket_flags.TheConstants.{INITIAL}
use Rattle.krb_constants.specs.declared.types.TheConstants.{KERBEROS_VERSION, KRB_PRIV}
use Rattle.krb_account_texts.specs.Edits.{is_name_spent, place_of}
use Rattle.krb_account_texts.specs.declared.line.Line.{Line}
use Rattle.krb_crypto.specs.declared.suite.CipherSuite.{CipherSuite}
use Rattle.krb_messages.specs.Names.{components, is_same_realm}
use Rattle.krb_messages.specs.declared.data_types.encrypted_data.EncryptedData.{EncryptedData}
use Rattle.krb_messages.specs.declared.data_types.encryption_key.EncryptionKey.{EncryptionKey}
use Rattle.krb_messages.specs.declared.data_types.principal_name.PrincipalName.{PrincipalName}
use Rattle.krb_service.specs.Admission.{AdmissionRecord}
use Rattle.krb_tickets.specs.Keys.{suite_of}
use Rattle.krb_password_changes.specs.declared.messages.result_code.ResultCode.{ResultCode}
use Rattle.krb_password_changes.specs.declared.messages.result_code.ResultCode.TheVariants.{Malformed, HardError, AuthError, SoftError, AccessDenied, InitialFlagNeeded}
use Rattle.krb_password_changes.specs.declared.messages.version.Version.{Version}
use Rattle.microsoft_messages.specs.declared.change_passwd_data.ChangePasswdData.{ChangePasswdData}
use Rattle.microsoft_messages.specs.declared.enc_krb_priv_part.EncKrbPrivPartInner.{EncKrbPrivPartInner}
use Rattle.microsoft_messages.specs.declared.krb_priv.KrbPrivInner.{KrbPrivInner}
use Rattle.picky_asn1.specs.BitString.{bit_of}
use Rattle.picky_asn1.specs.Bytes.{Bytes}
use Rattle.picky_asn1.specs.Numbers.{is_number}
use Rattle.krb_password_changes.specs.declared.judge.Granted.{Granted}
use Rattle.krb_password_changes.specs.Changes.{IsChange, TargetRecord, client_of, may_set, sole_change, target_of}
use Rattle.krb_password_changes.specs.Privates.{IsKrbPriv, IsPrivatePart, is_first, private_key, sole_krb_priv, sole_private_part}

-- A realm, its rules for passwords, and the names of its administrators. The rules are a least length, and words that are refused. New keys
-- are of the suite.
pub record RulesRecord : Type 0 where
  pub realm : Bytes
  pub suite : CipherSuite
  pub admins : List PrincipalName
  pub least : ℕ
  pub words : List Bytes

-- the KRB-PRIV that the octets are
abbrev pub krb_priv_in : Bytes → Table (Result KrbPrivInner ResultCode)
krb_priv_in octets =
    -- The octets are the one encoding of a KRB-PRIV (RFC 4120, section 5.7.1). Test: `version 1: no KRB-PRIV`, `version 1: AP-REQ in place
    -- of the KRB-PRIV` of `password_changes.txt`.
    ask (IsKrbPriv octets) (sole_krb_priv octets) (done (Err Malformed)) (λ message.
    done (Ok message))

-- its version and its type
abbrev pub headed : KrbPrivInner → Table (Result (Unit {0}) ResultCode)
headed message =
    -- The pvno of the KRB-PRIV is 5 (RFC 4120, section 5.7.1). Test: `version 1: KRB-PRIV of version 4` of `password_changes.txt`.
    refuse (not (is_number KERBEROS_VERSION message.pvno.0)) Malformed
    -- Its msg-type is KRB_PRIV (RFC 4120, section 5.7.1). Test: `version 1: KRB-PRIV of type 20` of `password_changes.txt`.
    (refuse (not (is_number KRB_PRIV message.msg_type.0)) Malformed
    (done (Ok tt)))

-- the KRB-PRIV of version 5 that the octets are
abbrev pub read_private : Bytes → Table (Result KrbPrivInner ResultCode)
read_private octets =
    and_then (krb_priv_in octets) (λ message.
    and_then (headed message) (λ _.
    done (Ok message)))

-- the part that is encrypted under a key
abbrev pub opened : EncryptionKey → EncryptedData → Table (Result EncKrbPrivPartInner ResultCode)
opened key encrypted =
    -- The key's type and length are a suite's (RFC 3961, section 3). Test: `subkey of an unknown suite` of `password_changes.txt`.
    need (suite_of key) AuthError (λ suite.
    -- The enc-part decrypts under the key, to an EncKrbPrivPart (RFC 4120, section 3.5.2). Test: `version 1: KRB-PRIV for key usage 12`,
    -- `version 1: octets behind the part` of `password_changes.txt`.
    ask (IsPrivatePart suite key.key_value.0 encrypted) (sole_private_part suite key.key_value.0 encrypted) (done (Err AuthError)) (λ part.
    done (Ok part)))

-- whether the part is the client's first message
-- Not judged: the addresses of the part, and its time, since the AP-REQ is admitted once (RFC 4120, section 3.5.2). Test:
-- `version 1: own password` of `password_changes.txt`.
abbrev pub numbered : AdmissionRecord → EncKrbPrivPartInner → Table (Result (Unit {0}) ResultCode)
numbered admission part =
    -- The seq-number of the KRB-PRIV is the authenticator's (RFC 4120, section 3.5.2). Test: `version 1: other sequence number`, `version
    -- 1: missing sequence number` of `password_changes.txt`.
    refuse (not (is_first admission part)) AuthError
    (done (Ok tt))

-- the part of the KRB-PRIV, under the key of the request
abbrev pub opened_private : AdmissionRecord → KrbPrivInner → Table (Result EncKrbPrivPartInner ResultCode)
opened_private admission message =
    and_then (opened (private_key admission) message.enc_part.0) (λ part.
    and_then (numbered admission part) (λ _.
    done (Ok part)))

-- the change that is asked for
abbrev pub asked_change : Version → EncKrbPrivPartInner → Table (Result ChangePasswdData ResultCode)
asked_change version part =
    -- The user-data are a ChangePasswdData, or in version 1 the password (RFC 3244, section 2). Test: `user-data that are no
    -- ChangePasswdData`, `user-data in version 1 that are a ChangePasswdData` of `password_changes.txt`.
    ask (IsChange version part.user_data.0) (sole_change version part.user_data.0) (done (Err Malformed)) (λ change.
    done (Ok change))

-- the target of a change that the client may make
abbrev pub allowed_target : RulesRecord → AdmissionRecord → ChangePasswdData → Table (Result TargetRecord ResultCode)
allowed_target rules admission change =
    -- A change names its target by name and realm, or not at all (RFC 3244, section 2). Test: `target without realm`, `realm without
    -- target` of `password_changes.txt`.
    need (target_of admission change) Malformed (λ target.
    -- The ticket's flag initial is set (RFC 3244, section 2). Test: `version 1: ticket isn't initial`, `administrator's ticket isn't
    -- initial` of `password_changes.txt`.
    refuse (not (bit_of admission.flags INITIAL)) InitialFlagNeeded
    -- The target is the client, or the client is an administrator (RFC 3244, section 2). Test: `other target`, `administrator sets
    -- another's` of `password_changes.txt`.
    (refuse (not (may_set rules.realm rules.admins (client_of admission) target)) AccessDenied
    -- The target is of the realm (RFC 3244, section 2). Test: `administrator in another realm's` of `password_changes.txt`.
    (refuse (not (is_same_realm target.realm rules.realm)) AccessDenied
    (done (Ok target)))))

-- The password is one of the words that are refused.
abbrev pub is_refused_word : RulesRecord → Bytes → Bool
is_refused_word rules password = list_any (λ word. pointwise nat_eq word password) rules.words

-- whether the realm takes the password
abbrev pub strong : RulesRecord → Bytes → Table (Result (Unit {0}) ResultCode)
strong rules password =
    -- The password isn't empty. Test: `version 1: no password` of `password_changes.txt`.
    refuse (nat_lt (length password) 1) SoftError
    -- The password has the least length of the realm (RFC 3244, section 2). Test: `version 1: too short`, `version 1: just long enough` of
    -- `password_changes.txt`.
    (refuse (nat_lt (length password) rules.least) SoftError
    -- The password is no word that the realm refuses (RFC 3244, section 2). Test: `version 1: refused word` of `password_changes.txt`.
    (refuse (is_refused_word rules password) SoftError
    (done (Ok tt))))

-- what is granted of a change
abbrev pub granted_change : RulesRecord → AdmissionRecord → ChangePasswdData → Table (Result Granted ResultCode)
granted_change rules admission change =
    and_then (allowed_target rules admission change) (λ target.
    and_then (strong rules change.new_passwd.0) (λ _.
    done (Ok (record { realm = target.realm; name = target.name; password = change.new_passwd.0 }))))

-- what is granted of the change that a part asks for
abbrev pub judged_part : RulesRecord → Version → AdmissionRecord → EncKrbPrivPartInner → Table (Result Granted ResultCode)
judged_part rules version admission part =
    and_then (asked_change version part) (λ change.
    granted_change rules admission change)

-- what is granted of a KRB-PRIV
abbrev pub judged_message : RulesRecord → Version → AdmissionRecord → KrbPrivInner → Table (Result Granted ResultCode)
judged_message rules version admission message =
    and_then (opened_private admission message) (λ part.
    judged_part rules version admission part)

-- what is granted of a request, by the octets of its KRB-PRIV
unfoldable pub judged_private : RulesRecord → Version → AdmissionRecord → Bytes → Table (Result Granted ResultCode)
judged_private rules version admission octets =
    and_then (read_private octets) (λ message.
    judged_message rules version admission message)

-- what is granted, if the target has an account that can get a key
abbrev pub settable : List Line → Granted → Table (Result Granted ResultCode)
settable lines granted =
    -- The target has an account (RFC 3244, section 2). Test: `administrator sets the password of no account`, `client without an account`
    -- of `password_changes.txt`.
    refuse (is_none (place_of (components granted.name) lines)) HardError
    -- The kvno of the account isn't the greatest (RFC 4120, section 5.2.9). Test: `account with the greatest kvno` of
    -- `password_changes.txt`.
    (refuse (is_name_spent (components granted.name) lines) HardError
    (done (Ok granted)))

-- The whole judgement of a request whose AP-REQ was admitted, with the octets of its KRB-PRIV.
unfoldable pub judged_change : RulesRecord → List Line → Version → AdmissionRecord → Bytes → Table (Result Granted ResultCode)
judged_change rules lines version admission octets =
    and_then (judged_private rules version admission octets) (λ granted.
    settable lines granted)
