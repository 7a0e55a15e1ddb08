-- An account of a settings file: a table with a name, a suite, and a password or a key.
use Rattle.std.specs.Prelude.{ℕ, List, [], ◌∷◌, Option, None, Some, Result, Ok, Err}
use Rattle.toml.specs.Data.{Data, array, Items, Members, get_member}
use Rattle.toml.specs.Data as toml
use Rattle.krb_settings.specs.Steps.{◌>>=◌, each_from}
use Rattle.krb_settings.specs.Fields.{field_name, only, value_at, text_of, list_of, suite_at, bytes_of}
use Rattle.krb_settings.specs.Written.{WrittenAccount, WrittenSecret, password, key}
use Rattle.krb_settings.specs.declared.field.Field.{Field}
use Rattle.krb_settings.specs.declared.field.Field.TheVariants.{Account, Key, Name, Password, Suite}
use Rattle.krb_settings.specs.declared.fault.TableFault.{TableFault}
use Rattle.krb_settings.specs.declared.fault.TableFault.TheVariants.{BothSecrets, NeitherSecret}
use Rattle.krb_settings.specs.declared.fault.TableFault.TheVariants as table_fault
use Rattle.krb_settings.specs.declared.fault.SettingsFault.{SettingsFault}
use Rattle.krb_settings.specs.declared.fault.SettingsFault.TheVariants as fault
use Rattle.krb_settings.specs.declared.fault.TableFault.TheVariants.{WrongType}

abbrev pub account_fields : List Field
account_fields = Key ∷ Name ∷ Password ∷ Suite ∷ []

-- a name's components
abbrev pub texts_of : Items → Result (List (List ℕ)) TableFault
texts_of = each_from (λ _. text_of Name) 0

-- the components in the field `name` of an account's table
abbrev pub name_at : Members → Result (List (List ℕ)) TableFault
name_at document = value_at Name document >>= list_of Name >>= texts_of

-- the secret of an account whose field `password` holds this value
abbrev pub password_of : Data → Result WrittenSecret TableFault
password_of value = text_of Password value >>= (λ text. Ok (password text))

-- the secret of an account whose field `key` holds this value
abbrev pub key_of : Data → Result WrittenSecret TableFault
key_of value = text_of Key value >>= bytes_of >>= (λ bytes. Ok (key bytes))

-- the secret of an account, which has just one of a password and a key
abbrev pub secret_of : Option Data → Option Data → Result WrittenSecret TableFault
-- An account has a password or a key. Test: `neither password nor key`.
secret_of None None = Err NeitherSecret
secret_of (Some value) None = password_of value
secret_of None (Some value) = key_of value
-- An account hasn't both a password and a key. Test: `both password and key`.
secret_of (Some _) (Some _) = Err BothSecrets

-- the secret in the fields `password` and `key` of an account's table
abbrev pub secret_at : Members → Result WrittenSecret TableFault
secret_at document = secret_of (get_member (field_name Password) document) (get_member (field_name Key) document)

-- the account that a table writes, or the first of its faults
abbrev pub account_of : Members → Result WrittenAccount TableFault
-- Of an account's faults the first counts: an unknown key, the name, the suite, the secret. Test: `unknown key "pasword"` of `files.txt`.
account_of document =
    only account_fields document >>= (λ _. name_at document >>= (λ name. suite_at document >>= (λ suite.
    secret_at document >>= (λ secret. Ok (record { name = name; suite = suite; secret = secret })))))

-- the fault of a file whose own table has this fault
abbrev pub fault_in_file : TableFault → SettingsFault
fault_in_file table_fault.Memory = fault.Memory
fault_in_file e = fault.File e

-- the fault of a file whose account with this number has this fault. Accounts are numbered from 1
abbrev pub fault_in_account : ℕ → TableFault → SettingsFault
fault_in_account number table_fault.Memory = fault.Memory
fault_in_account number e = fault.Account number e

abbrev pub in_file : {A : Type 0} → Result A TableFault → Result A SettingsFault
in_file (Ok x) = Ok x
in_file (Err e) = Err (fault_in_file e)

abbrev pub in_account : {A : Type 0} → ℕ → Result A TableFault → Result A SettingsFault
in_account number (Ok x) = Ok x
in_account number (Err e) = Err (fault_in_account number e)

-- the account with this number that a list's value writes, or its first fault
abbrev pub numbered : ℕ → Data → Result WrittenAccount SettingsFault
numbered number (toml.table document) = in_account number (account_of document)
numbered number _ = Err (fault.File (WrongType Account))

-- the accounts of a list
abbrev pub accounts_in : Items → Result (List WrittenAccount) SettingsFault
accounts_in = each_from numbered 1

-- a file may have none
abbrev pub accounts_of : Option Data → Result (List WrittenAccount) SettingsFault
accounts_of None = Ok []
accounts_of (Some (array items)) = accounts_in items
accounts_of (Some _) = Err (fault.File (WrongType Account))

-- the accounts in the field `account` of a file's table
abbrev pub accounts_at : Members → Result (List WrittenAccount) SettingsFault
accounts_at document = accounts_of (get_member (field_name Account) document)
