-- What becomes of a granted change.
use Rattle.std.proofs.Common.{◌≡◌, ◌↔◌, ◌⊎◌, ℕ, Bool, true, false, is_none, List, Option, None, Some, Result, Ok, Err, ap, refl, sym, subst, inl, inr}
use Rattle.decision_tables.specs.One.{same_parts}
use Rattle.decision_tables.specs.Tables.{and_then, done, refuse}
use Rattle.krb_account_texts.specs.Edits.{HasChanged, guards_password, rekeyed}
use Rattle.krb_account_texts.specs.declared.edits.EditRefusal.{EditRefusal}
use Rattle.krb_account_texts.specs.declared.edits.EditRefusal.TheVariants.{Unknown, NumberSpent}
use Rattle.krb_account_texts.specs.declared.line.Line.{Line}
use Rattle.krb_crypto.specs.Keys.{KeyRecord}
use Rattle.krb_crypto.specs.Sealing.{password_key_of}
use Rattle.krb_crypto.specs.declared.suite.CipherSuite.{CipherSuite}
use Rattle.krb_messages.specs.Names.{components}
use Rattle.krb_service.specs.Admission.{AdmissionRecord}
use Rattle.krb_password_changes.specs.declared.messages.result_code.ResultCode.{ResultCode}
use Rattle.krb_password_changes.specs.declared.messages.result_code.ResultCode.TheVariants.{HardError}
use Rattle.krb_password_changes.specs.declared.messages.version.Version.{Version}
use Rattle.picky_asn1.specs.Bytes.{Bytes}
use Rattle.krb_password_changes.specs.declared.judge.Granted.{Granted}
use Rattle.krb_password_changes.specs.ChangeTable.{RulesRecord, allowed_target, granted_change, judged_change, judged_message, judged_private, numbered, opened, opened_private, read_private, settable, strong}
use Rattle.krb_password_changes.specs.Changes.{TargetRecord}
use Rattle.krb_password_changes.specs.NewPasswords.{Changes, HasPassword, salt_of}
use Rattle.krb_password_changes.specs.Refusals.{IsJudged}
use Rattle.krb_password_changes.specs.declared.refusal.ChangeRefusal.{ChangeRefusal}
use Rattle.krb_password_changes.specs.declared.refusal.ChangeRefusal.TheVariants.{Refused, Memory}
use Rattle.krb_password_changes.specs.Privates.{private_key}
use Rattle.krb_password_changes.proofs.Judged.{then_judged, then_kept, then_refused}
use Rattle.krb_messages.specs.declared.data_types.encryption_key.EncryptionKey.{EncryptionKey}
use Rattle.microsoft_messages.specs.declared.enc_krb_priv_part.EncKrbPrivPartInner.{EncKrbPrivPartInner}
use Rattle.microsoft_messages.specs.declared.change_passwd_data.ChangePasswdData.{ChangePasswdData}
use Rattle.microsoft_messages.specs.declared.krb_priv.KrbPrivInner.{KrbPrivInner}

abbrev pub Edited : Type 0
Edited = Result (Unit {0}) EditRefusal

abbrev pub err_of : EditRefusal → Edited
err_of refusal = Err refusal

abbrev pub done_of : Edited
done_of = Ok tt

-- where an account got its next key, it has a name and a kvno that another one follows
pub settled : (found : Option ℕ) (spent : Bool) (granted : Granted) → ((done_of ≡ err_of Unknown) ↔ (found ≡ None)) → ((done_of ≡ err_of NumberSpent) ↔ (spent ≡ true))
    → (refuse {T = Granted} {E = ResultCode} (is_none found) HardError (refuse spent HardError (done (Ok granted)))).gives (Ok granted)
settled None spent granted unknown numbered = absurd (same_parts done_of (err_of Unknown) (unknown.1 refl))
settled (Some place) true granted unknown numbered = absurd (same_parts done_of (err_of NumberSpent) (numbered.1 refl))
settled (Some place) false granted unknown numbered = refl

-- where none got one, it has none
pub unsettled : (found : Option ℕ) (spent : Bool) (granted : Granted) (refusal : EditRefusal) → ((err_of refusal ≡ err_of Unknown) ↔ (found ≡ None))
    → ((err_of refusal ≡ err_of NumberSpent) ↔ (spent ≡ true)) → (refusal ≡ Unknown) ⊎ (refusal ≡ NumberSpent)
    → (refuse {T = Granted} {E = ResultCode} (is_none found) HardError (refuse spent HardError (done (Ok granted)))).gives (Err HardError)
unsettled None spent granted refusal unknown numbered why = refl
unsettled (Some place) true granted refusal unknown numbered why = refl
unsettled (Some place) false granted refusal unknown numbered (inl why) = let none : Some place ≡ None = unknown.0 (ap err_of why) in absurd (cc (none))
unsettled (Some place) false granted refusal unknown numbered (inr why) = let spent : false ≡ true = numbered.0 (ap err_of why) in absurd (cc (spent))

-- an account that got the key of the password, under this name and salt, has the password
pub has-password : (suite : CipherSuite) (granted : Granted) (old new : List Line) (name : List Bytes) (key : KeyRecord) (salt : Bytes)
    → name ≡ components granted.name → salt ≡ salt_of granted → key ≡ record { suite = suite; bytes = password_key_of suite granted.password salt }
    → HasChanged name (rekeyed (guards_password name old) key.suite key.bytes (Some salt)) old new → HasPassword suite granted old new
has-password suite granted old new name key salt named salted keyed changed =
    let guards : Bool = guards_password (components granted.name) old in
    let by_name = subst (λ (own : List Bytes). HasChanged own (rekeyed (guards_password own old) key.suite key.bytes (Some salt)) old new) named changed in
    let by_key = subst (λ (own : KeyRecord). HasChanged (components granted.name) (rekeyed guards own.suite own.bytes (Some salt)) old new) keyed by_name in
    subst (λ (own : Bytes). HasChanged (components granted.name) (rekeyed guards suite (password_key_of suite granted.password own) (Some own)) old new) salted by_key

-- a change whose target may not be set is refused
pub target_refused : (rules : RulesRecord) (admission : AdmissionRecord) (change : ChangePasswdData) (code : ResultCode)
    → (allowed_target rules admission change).gives (Err code) → (granted_change rules admission change).gives (Err code)
target_refused rules admission change code given = inr (code, given, refl)

-- and one whose password the realm refuses
pub password_refused : (rules : RulesRecord) (admission : AdmissionRecord) (change : ChangePasswdData) (target : TargetRecord) (code : ResultCode)
    → (allowed_target rules admission change).gives (Ok target) → (strong rules change.new_passwd.0).gives (Err code)
    → (granted_change rules admission change).gives (Err code)
password_refused rules admission change target code given weak = inl (target, given, inr (code, weak, refl))

-- any other is granted
pub change_granted : (rules : RulesRecord) (admission : AdmissionRecord) (change : ChangePasswdData) (target : TargetRecord) (granted : Granted)
    (u : Unit {0}) → (allowed_target rules admission change).gives (Ok target) → (strong rules change.new_passwd.0).gives (Ok u)
    → granted ≡ record { realm = target.realm; name = target.name; password = change.new_passwd.0 }
    → (granted_change rules admission change).gives (Ok granted)
change_granted rules admission change target granted u given taken is =
    subst (λ (g : Granted). (granted_change rules admission change).gives (Ok g)) (sym is) (inl (target, given, inl (u, taken, refl)))

-- the judgement of a KRB-PRIV by its octets
pub private_refused : (rules : RulesRecord) (version : Version) (admission : AdmissionRecord) (octets : Bytes) (refusal : ChangeRefusal)
    → IsJudged {T = KrbPrivInner} (read_private octets).gives (Err refusal)
    → IsJudged {T = Granted} (judged_private rules version admission octets).gives (Err refusal)
unfolding judged_private
private_refused rules version admission octets refusal given =
    then_refused (read_private octets) (λ message. judged_message rules version admission message) refusal given

pub private_judged : (rules : RulesRecord) (version : Version) (admission : AdmissionRecord) (octets : Bytes) (message : KrbPrivInner)
    (judged : Result Granted ChangeRefusal) → (read_private octets).gives (Ok message)
    → IsJudged {T = Granted} (judged_message rules version admission message).gives judged
    → IsJudged {T = Granted} (judged_private rules version admission octets).gives judged
unfolding judged_private
private_judged rules version admission octets message judged read given =
    then_judged (read_private octets) (λ own. judged_message rules version admission own) message judged read given

-- a request that isn't granted changes nothing
pub unchanged : (rules : RulesRecord) (version : Version) (admission : AdmissionRecord) (octets : Bytes) (old new : List Line) (refusal : ChangeRefusal)
    → IsJudged {T = Granted} (judged_private rules version admission octets).gives (Err refusal) → new ≡ old
    → Changes rules version admission octets old (Err refusal) new
unfolding judged_change
unchanged rules version admission octets old new (Refused code) given same = (inr (code, given, refl), same)
unchanged rules version admission octets old new Memory given same = same

-- nor does one whose target has no such account
pub unset : (rules : RulesRecord) (version : Version) (admission : AdmissionRecord) (octets : Bytes) (old new : List Line) (granted : Granted) (refusal : ChangeRefusal)
    → (judged_private rules version admission octets).gives (Ok granted) → IsJudged {T = Granted} (settable old granted).gives (Err refusal) → new ≡ old
    → Changes rules version admission octets old (Err refusal) new
unfolding judged_change
unset rules version admission octets old new granted (Refused code) given set same = (inl (granted, given, set), same)
unset rules version admission octets old new granted Memory given set same = same

-- and what is granted changes one account
pub changed : (rules : RulesRecord) (version : Version) (admission : AdmissionRecord) (octets : Bytes) (old new : List Line) (granted : Granted)
    → (judged_private rules version admission octets).gives (Ok granted) → (settable old granted).gives (Ok granted) → HasPassword rules.suite granted old new
    → Changes rules version admission octets old (Ok granted) new
unfolding judged_change
changed rules version admission octets old new granted given set has = (inl (granted, given, set), has)

-- a KRB-PRIV that doesn't open under the key of the request is refused
pub unopened : (admission : AdmissionRecord) (message : KrbPrivInner) (key : EncryptionKey) (refusal : ChangeRefusal) → key ≡ private_key admission
    → IsJudged {T = EncKrbPrivPartInner} (opened key message.enc_part.0).gives (Err refusal)
    → IsJudged {T = EncKrbPrivPartInner} (opened_private admission message).gives (Err refusal)
unopened admission message key refusal same given =
    then_refused (opened (private_key admission) message.enc_part.0) (λ part. and_then (numbered admission part) (λ _. done (Ok part))) refusal
    (subst (λ (k : EncryptionKey). IsJudged {T = EncKrbPrivPartInner} (opened k message.enc_part.0).gives (Err refusal)) same given)

-- the part of one that opens is kept where it is the client's first message
pub opened_first : (admission : AdmissionRecord) (message : KrbPrivInner) (key : EncryptionKey) (part : EncKrbPrivPartInner) (judged : Result (Unit {0}) ChangeRefusal)
    (kept : Result EncKrbPrivPartInner ChangeRefusal) → key ≡ private_key admission → (opened key message.enc_part.0).gives (Ok part)
    → IsJudged {T = Unit {0}} (numbered admission part).gives judged
    → (judged ≡ Ok tt → kept ≡ Ok part) → ((refusal : ChangeRefusal) → judged ≡ Err refusal → kept ≡ Err refusal)
    → IsJudged {T = EncKrbPrivPartInner} (opened_private admission message).gives kept
opened_first admission message key part judged kept same given number passed refused =
    then_kept (opened (private_key admission) message.enc_part.0) (numbered admission) part judged kept
    (subst (λ (k : EncryptionKey). (opened k message.enc_part.0).gives (Ok part)) same given) number passed refused
