-- What is granted was asked for.
use Rattle.std.proofs.Common.{◌≡◌, Bool, true, false, not, is_none, List, Option, None, Some, Result, Ok, Err, ap, refl, sym, subst, inl, inr}
use Rattle.decision_tables.specs.One.{IsSole, same_parts}
use Rattle.decision_tables.specs.Tables.{Table, and_then, ask, done, need, refuse}
use Rattle.krb_account_texts.specs.Edits.{is_name_spent, place_of}
use Rattle.krb_account_texts.specs.declared.line.Line.{Line}
use Rattle.krb_constants.specs.declared.ticket_flags.TheConstants.{INITIAL}
use Rattle.krb_crypto.specs.declared.suite.CipherSuite.{CipherSuite}
use Rattle.krb_messages.specs.Names.{components, is_same_realm}
use Rattle.krb_service.specs.Admission.{AdmissionRecord}
use Rattle.krb_tickets.specs.Keys.{suite_of}
use Rattle.krb_password_changes.specs.declared.messages.result_code.ResultCode.{ResultCode}
use Rattle.krb_password_changes.specs.declared.messages.result_code.ResultCode.TheVariants.{Malformed, HardError, AuthError, AccessDenied, InitialFlagNeeded}
use Rattle.krb_password_changes.specs.declared.messages.version.Version.{Version}
use Rattle.microsoft_messages.specs.declared.change_passwd_data.ChangePasswdData.{ChangePasswdData}
use Rattle.microsoft_messages.specs.declared.enc_krb_priv_part.EncKrbPrivPartInner.{EncKrbPrivPartInner}
use Rattle.microsoft_messages.specs.declared.krb_priv.KrbPrivInner.{KrbPrivInner}
use Rattle.picky_asn1.specs.BitString.{bit_of}
use Rattle.picky_asn1.specs.Bytes.{Bytes}
use Rattle.krb_password_changes.specs.declared.judge.Granted.{Granted}
use Rattle.krb_password_changes.specs.ChangeTable.{RulesRecord, allowed_target, asked_change, granted_change, headed, judged_change, judged_message, judged_part, judged_private, krb_priv_in, numbered, opened, opened_private, read_private, settable, strong}
use Rattle.krb_password_changes.specs.Changes.{IsChange, TargetRecord, client_of, may_set, sole_change, target_of}
use Rattle.krb_password_changes.specs.Facts.{IsAskedFor, target_in}
use Rattle.krb_password_changes.specs.Privates.{IsKrbPriv, IsPrivatePart, is_first, private_key, sole_krb_priv, sole_private_part}

-- what the whole gives, the first part gives and the rest
then_ok : {A T : Type 0} (t : Table (Result A ResultCode)) (rest : A → Table (Result T ResultCode)) (value : T) → (and_then t rest).gives (Ok value)
    → (a : A) × t.gives (Ok a) × (rest a).gives (Ok value)
then_ok t rest value (inl x) = x
then_ok t rest value (inr x) = absurd (same_parts (Ok value) (Err x.0) x.2)

refuse_ok : {T : Type 0} (is : Bool) (code : ResultCode) (rest : Table (Result T ResultCode)) (value : T) → (refuse is code rest).gives (Ok value)
    → (is ≡ false) × rest.gives (Ok value)
refuse_ok true code rest value x = absurd (same_parts (Ok value) (Err code) x)
refuse_ok false code rest value x = (refl, x)

need_ok : {A T : Type 0} (found : Option A) (code : ResultCode) (rest : A → Table (Result T ResultCode)) (value : T) → (need found code rest).gives (Ok value)
    → (a : A) × (found ≡ Some a) × (rest a).gives (Ok value)
need_ok None code rest value x = absurd (same_parts (Ok value) (Err code) x)
need_ok (Some a) code rest value x = (a, refl, x)

ask_ok : {A T : Type 0} (P : A → Type 0) (sole : IsSole P) (code : ResultCode) (rest : A → Table (Result T ResultCode)) (value : T)
    → (ask P sole (done (Err code)) rest).gives (Ok value) → (a : A) × P a × (rest a).gives (Ok value)
ask_ok P sole code rest value (inl x) = x
ask_ok P sole code rest value (inr x) = absurd (same_parts (Ok value) (Err code) x.1)

done_ok : {T : Type 0} (own value : T) → ◌≡◌ {A = Result T ResultCode} (Ok value) (Ok own) → value ≡ own
done_ok {T} own value x = same_parts {A = T} {E = ResultCode} (Ok value) (Ok own) x

holds : (is : Bool) → not is ≡ false → is ≡ true
holds true e = refl
holds false e = sym e

unit_is : (u : Unit {0}) → u ≡ tt
unit_is u = refl

-- the value is kept whose check passed
kept_ok : {A : Type 0} (t : Table (Result A ResultCode)) (check : A → Table (Result (Unit {0}) ResultCode)) (value : A)
    → (and_then t (λ b. and_then (check b) (λ _. done (Ok b)))).gives (Ok value) → t.gives (Ok value) × (check value).gives (Ok tt)
kept_ok {A} t check value x =
    let first = then_ok t (λ b. and_then (check b) (λ _. done (Ok b))) value x in
    let second = then_ok (check first.0) (λ _. done (Ok first.0)) value first.2 in
    let same : first.0 ≡ value = sym (done_ok first.0 value second.2) in (
      subst (λ (b : A). t.gives (Ok b)) same first.1,
      subst (λ (b : A). (check b).gives (Ok tt)) same (subst (λ (u : Unit {0}). (check first.0).gives (Ok u)) (unit_is second.0) second.1),
    )

read_ok : (octets : Bytes) (message : KrbPrivInner) → (read_private octets).gives (Ok message) → IsKrbPriv octets message
read_ok octets message x =
    let read = kept_ok (krb_priv_in octets) headed message x in
    let found = ask_ok (IsKrbPriv octets) (sole_krb_priv octets) Malformed (λ own. done (Ok own)) message read.0 in
    subst (λ (own : KrbPrivInner). IsKrbPriv octets own) (sym (done_ok found.0 message found.2)) found.1

opened_ok : (admission : AdmissionRecord) (message : KrbPrivInner) (part : EncKrbPrivPartInner) → (opened_private admission message).gives (Ok part)
    → (suite : CipherSuite) × (suite_of (private_key admission) ≡ Some suite)
    × IsPrivatePart suite (private_key admission).key_value.0 message.enc_part.0 part × (is_first admission part ≡ true)
opened_ok admission message part x =
    let key = private_key admission in
    let encrypted = message.enc_part.0 in
    let kept = kept_ok (opened key encrypted) (numbered admission) part x in
    let under =
    need_ok (suite_of key) AuthError (λ suite. ask (IsPrivatePart suite key.key_value.0 encrypted) (sole_private_part suite key.key_value.0 encrypted) (done (Err AuthError)) (λ own. done (Ok own)))
    part kept.0 in
    let found = ask_ok (IsPrivatePart under.0 key.key_value.0 encrypted) (sole_private_part under.0 key.key_value.0 encrypted) AuthError (λ own. done (Ok own)) part under.2 in
    let first = refuse_ok (not (is_first admission part)) AuthError (done (Ok tt)) tt kept.1 in
    (under.0, under.1, subst (λ (own : EncKrbPrivPartInner). IsPrivatePart under.0 key.key_value.0 encrypted own) (sym (done_ok found.0 part found.2)) found.1, holds (is_first admission part) first.0)

asked_ok : (version : Version) (part : EncKrbPrivPartInner) (change : ChangePasswdData) → (asked_change version part).gives (Ok change) → IsChange version part.user_data.0 change
asked_ok version part change x =
    let found = ask_ok (IsChange version part.user_data.0) (sole_change version part.user_data.0) Malformed (λ own. done (Ok own)) change x in
    subst (λ (own : ChangePasswdData). IsChange version part.user_data.0 own) (sym (done_ok found.0 change found.2)) found.1

-- the client may set the password of the target
pub record IsAllowed (rules : RulesRecord) (admission : AdmissionRecord) (change : ChangePasswdData) (target : TargetRecord) : Type 0 where
  pub target_is : target_of admission change ≡ Some target
  pub is_initial : bit_of admission.flags INITIAL ≡ true
  pub is_allowed : may_set rules.realm rules.admins (client_of admission) target ≡ true
  pub is_of_realm : is_same_realm target.realm rules.realm ≡ true

allowed_ok : (rules : RulesRecord) (admission : AdmissionRecord) (change : ChangePasswdData) (target : TargetRecord)
    → (allowed_target rules admission change).gives (Ok target) → IsAllowed rules admission change target
allowed_ok rules admission change target x =
    let initial = bit_of admission.flags INITIAL in
    let named =
    need_ok (target_of admission change) Malformed (λ own. refuse (not initial) InitialFlagNeeded (refuse (not (may_set rules.realm rules.admins (client_of admission) own)) AccessDenied (refuse (not (is_same_realm own.realm rules.realm)) AccessDenied (done (Ok own)))))
    target x in
    let own = named.0 in
    let may = may_set rules.realm rules.admins (client_of admission) own in
    let within = is_same_realm own.realm rules.realm in
    let first = refuse_ok (not initial) InitialFlagNeeded (refuse (not may) AccessDenied (refuse (not within) AccessDenied (done (Ok own)))) target named.2 in
    let second = refuse_ok (not may) AccessDenied (refuse (not within) AccessDenied (done (Ok own))) target first.1 in
    let third = refuse_ok (not within) AccessDenied (done (Ok own)) target second.1 in
    subst (λ (t : TargetRecord). IsAllowed rules admission change t) (sym (done_ok own target third.1))
    (record { target_is = named.1; is_initial = holds initial first.0; is_allowed = holds may second.0; is_of_realm = holds within third.0 })

granted_ok : (rules : RulesRecord) (admission : AdmissionRecord) (change : ChangePasswdData) (granted : Granted)
    → (granted_change rules admission change).gives (Ok granted) → IsAllowed rules admission change (target_in granted) × (granted.password ≡ change.new_passwd.0)
granted_ok rules admission change granted x =
    let first =
    then_ok (allowed_target rules admission change) (λ target. and_then (strong rules change.new_passwd.0) (λ _. done (Ok (record { realm = target.realm; name = target.name; password = change.new_passwd.0 }))))
    granted x in
    let made : Granted = record { realm = first.0.realm; name = first.0.name; password = change.new_passwd.0 } in
    let second = then_ok (strong rules change.new_passwd.0) (λ _. done (Ok made)) granted first.2 in
    let same : granted ≡ made = done_ok made granted second.2 in (
      subst (λ (t : TargetRecord). IsAllowed rules admission change t) (sym (ap target_in same)) (allowed_ok rules admission change first.0 first.1),
      ap (λ (g : Granted). g.password) same,
    )

private_ok : (rules : RulesRecord) (version : Version) (admission : AdmissionRecord) (octets : Bytes) (granted : Granted)
    → (judged_private rules version admission octets).gives (Ok granted) → IsAskedFor rules version admission octets granted
unfolding judged_private
private_ok rules version admission octets granted x =
    let read = then_ok (read_private octets) (λ own. judged_message rules version admission own) granted x in
    let message = read.0 in
    let by_part = then_ok (opened_private admission message) (λ own. judged_part rules version admission own) granted read.2 in
    let part = by_part.0 in
    let by_change = then_ok (asked_change version part) (λ own. granted_change rules admission own) granted by_part.2 in
    let change = by_change.0 in
    let under = opened_ok admission message part by_part.1 in
    let is = granted_ok rules admission change granted by_change.2 in
    record {
      message = message;
      suite = under.0;
      part = part;
      change = change;
      is_message = read_ok octets message read.1;
      has_key = under.1;
      opens = under.2;
      is_numbered = under.3;
      asks = asked_ok version part change by_change.1;
      password = is.1;
      target = is.0.target_is;
      is_initial = is.0.is_initial;
      is_allowed = is.0.is_allowed;
      is_of_realm = is.0.is_of_realm;
    }

pub asked_for : (rules : RulesRecord) (lines : List Line) (version : Version) (admission : AdmissionRecord) (octets : Bytes) (granted : Granted)
    → (judged_change rules lines version admission octets).gives (Ok granted) → IsAskedFor rules version admission octets granted
unfolding judged_change
asked_for rules lines version admission octets granted x =
    let whole = then_ok (judged_private rules version admission octets) (λ own. settable lines own) granted x in
    let own = whole.0 in
    let first = refuse_ok (is_none (place_of (components own.name) lines)) HardError (refuse (is_name_spent (components own.name) lines) HardError (done (Ok own))) granted whole.2 in
    let second = refuse_ok (is_name_spent (components own.name) lines) HardError (done (Ok own)) granted first.1 in
    subst (λ (g : Granted). IsAskedFor rules version admission octets g) (sym (done_ok own granted second.1)) (private_ok rules version admission octets own whole.1)
