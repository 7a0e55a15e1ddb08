-- An account that is read can be written.
use Rattle.std.proofs.Common.{◌≡◌, ℕ, Bool, List, Result, Ok, subst}
use Rattle.picky_asn1.specs.Bytes.{Bytes}
use Rattle.krb_realm_accounts.specs.Account.{AccountRecord}
use Rattle.krb_account_texts.specs.Lines.{WrittenLine, account}
use Rattle.krb_account_texts.specs.Reading.{account_in, further_in, key_in, kvno_in, name_in, number_in, salt_in, suite_in, with_further}
use Rattle.krb_account_texts.specs.Writable.{IsAccount}
use Rattle.krb_account_texts.specs.declared.fault.LineFault.{LineFault}
use Rattle.krb_account_texts.proofs.FieldsRead.{bind-ok, key-ok, kvno-ok, name-ok, number-below, salt-ok}
use Rattle.krb_account_texts.proofs.FurtherRead.{further-ok}

abbrev read_as : WrittenLine → Result WrittenLine LineFault
read_as line = Ok line

same-account : (name : List Bytes) (own : AccountRecord) (is_off : Bool) (other : List Bytes) (another : AccountRecord) (is_out : Bool)
    → read_as (account name own is_off) ≡ read_as (account other another is_out) → (name ≡ other) × (own ≡ another)
same-account name own is_off other another is_out is = (cc (is), cc (is))

pub account-ok : (is_off : Bool) (name suite kvno salt key : List ℕ) (further : List (List ℕ)) (read : List Bytes) (own : AccountRecord)
    → account_in is_off name suite kvno salt key further ≡ Ok (account read own is_off) → IsAccount read own
unfolding account_in
account-ok is_off name suite kvno salt key further read own is =
    let at_name = bind-ok (name_in name) _ _ is in
    let at_suite = bind-ok (suite_in suite) _ _ at_name.2 in
    let at_kvno = bind-ok (kvno_in kvno) _ _ at_suite.2 in
    let at_salt = bind-ok (salt_in salt) _ _ at_kvno.2 in
    let at_key = bind-ok (key_in at_suite.0 key) _ _ at_salt.2 in
    let at_further = bind-ok (further_in at_kvno.0 further) _ _ at_key.2 in
    let made : AccountRecord = with_further at_suite.0 at_key.0 at_kvno.0 at_salt.0 at_further.0 in
    let same = same-account at_name.0 made is_off read own is_off at_further.2 in
    let behind = further-ok at_kvno.0 further at_further.0 at_further.1 in
    let number = kvno-ok (number_in kvno) at_kvno.0 at_kvno.1 in
    let sized = key-ok at_suite.0 key at_key.0 at_key.1 in
    let is_made : IsAccount at_name.0 made = record {
      name_is = name-ok name at_name.0 at_name.1;
      key_size = sized.0;
      key_bytes = sized.1;
      salt_is = salt-ok salt at_salt.0 at_salt.1;
      from_one = number.1;
      kvno_fits = number-below kvno at_kvno.0 number.0;
      before = behind.before;
      few = behind.few;
      bytes = behind.bytes;
      ends = behind.ends;
      lifetime = behind.lifetime;
    } in
    subst (λ (it : AccountRecord). IsAccount read it) same.1 (subst (λ (it : List Bytes). IsAccount it made) same.0 is_made)
