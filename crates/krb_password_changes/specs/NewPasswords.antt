-- What a granted change does to the lines of a realm's accounts.
use Rattle.std.specs.Prelude.{◌≡◌, Bool, List, Some, Result, Ok, Err}
use Rattle.krb_account_texts.specs.Edits.{HasChanged, guards_password, rekeyed}
use Rattle.krb_account_texts.specs.declared.line.Line.{Line}
use Rattle.krb_crypto.specs.Sealing.{password_key_of}
use Rattle.krb_crypto.specs.declared.suite.CipherSuite.{CipherSuite}
use Rattle.krb_messages.specs.Names.{components}
use Rattle.krb_realm_accounts.specs.Passwords.{password_salt}
use Rattle.krb_service.specs.Admission.{AdmissionRecord}
use Rattle.krb_password_changes.specs.declared.messages.version.Version.{Version}
use Rattle.picky_asn1.specs.Bytes.{Bytes}
use Rattle.krb_password_changes.specs.ChangeTable.{RulesRecord, judged_change}
use Rattle.krb_password_changes.specs.declared.judge.Granted.{Granted}
use Rattle.krb_password_changes.specs.declared.refusal.ChangeRefusal.{ChangeRefusal}
use Rattle.krb_password_changes.specs.declared.refusal.ChangeRefusal.TheVariants.{Refused, Memory}

-- the salt of the password: realm and name (RFC 4120, section 4)
abbrev pub salt_of : Granted → Bytes
salt_of granted = password_salt granted.realm (components granted.name)

-- The line with the next key: that of the password, with the salt of realm and name (RFC 4120, section 4), and the next kvno. The name
-- stays, and whether the account is disabled. Where the realm guards passwords, there is no ticket for the account as a service.
abbrev pub with_password : Bool → CipherSuite → Granted → Line → Line
with_password guards suite granted =
    rekeyed guards suite (password_key_of suite granted.password (salt_of granted)) (Some (salt_of granted))

-- The new lines are the old ones but for the line of the target's account, which has the next key, of the password. Test: `version 1: own
-- password`, `administrator sets another's` of `password_changes.txt`.
abbrev pub HasPassword : CipherSuite → Granted → List Line → List Line → Type 0
HasPassword suite granted old new = HasChanged (components granted.name) (with_password (guards_password (components granted.name) old) suite granted) old new

-- What an admitted request does to the lines: it is granted, and the target's account has the password; or it is refused, or memory ran
-- out, and they stay.
abbrev pub Changes : RulesRecord → Version → AdmissionRecord → Bytes → List Line → Result Granted ChangeRefusal → List Line → Type 0
Changes rules version admission octets old (Ok granted) new =
    (judged_change rules old version admission octets).gives (Ok granted) × HasPassword rules.suite granted old new
Changes rules version admission octets old (Err (Refused code)) new =
    (judged_change rules old version admission octets).gives (Err code) × (new ≡ old)
Changes rules version admission octets old (Err Memory) new = new ≡ old
