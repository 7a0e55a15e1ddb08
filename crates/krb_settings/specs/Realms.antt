-- The realm that a settings file's own table writes.
use Rattle.std.specs.Prelude.{List, [], ◌∷◌, Result, Ok}
use Rattle.toml.specs.Data.{Members}
use Rattle.krb_settings.specs.Steps.{◌>>=◌}
use Rattle.krb_settings.specs.Fields.{only, text_at, natural_at, suite_at, key_at}
use Rattle.krb_settings.specs.Accounts.{accounts_at, in_file}
use Rattle.krb_settings.specs.Written.{WrittenAccount, WrittenRealm}
use Rattle.krb_settings.specs.declared.field.Field.{Field}
use Rattle.krb_settings.specs.declared.field.Field.TheVariants.{Account, Key, Lifetime, Realm, Skew, Suite}
use Rattle.krb_settings.specs.declared.fault.TableFault.{TableFault}
use Rattle.krb_settings.specs.declared.fault.SettingsFault.{SettingsFault}

abbrev pub realm_fields : List Field
realm_fields = Account ∷ Key ∷ Lifetime ∷ Realm ∷ Skew ∷ Suite ∷ []

-- the realm with these accounts, or the first of its own faults
abbrev pub realm_with : Members → List WrittenAccount → Result WrittenRealm TableFault
-- Of a realm's own faults the first counts: realm, suite, key, skew, lifetime. Test: `no realm`, `unknown suite` of `files.txt`.
realm_with document accounts =
    text_at Realm document >>= (λ name. suite_at document >>= (λ suite. key_at document >>= (λ key.
    natural_at Skew document >>= (λ skew. natural_at Lifetime document >>= (λ lifetime.
    Ok (record { name = name; suite = suite; key = key; skew = skew; lifetime = lifetime; accounts = accounts }))))))

-- an unknown key comes first, then the accounts' faults
abbrev pub realm_in_table : Members → Result WrittenRealm SettingsFault
-- An unknown key of the file comes first, then the faults of the accounts, then those of the realm itself. Test: `unknown key "skwe"`,
-- `unknown key "lifetime"`.
realm_in_table document =
    in_file (only realm_fields document) >>= (λ _. accounts_at document >>= (λ accounts. in_file (realm_with document accounts)))
