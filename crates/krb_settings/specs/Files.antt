-- Settings files: TOML texts of at most 1,048,576 bytes.
use Rattle.std.specs.Prelude.{◌≡◌, ℕ, ◌≤◌, ◌<◌, ◌⊎◌, IsUtf8, List, length, Some, Ok, Err}
use Rattle.toml.specs.Data.{Members}
use Rattle.toml.specs.Parse.{parse_document}
use Rattle.krb_settings.specs.Realms.{realm_in_table}
use Rattle.krb_settings.specs.Written.{WrittenRealm}
use Rattle.krb_settings.specs.declared.fault.SettingsFault.{SettingsFault}
use Rattle.krb_settings.specs.declared.fault.SettingsFault.TheVariants.{NotToml, TooLong, Memory}

-- A settings file has so many bytes at most.
abbrev pub settings_limit : ℕ
settings_limit = 1048576

-- the bytes are a text of this document
pub record IsDocument (text : List ℕ) (document : Members) : Type 0 where
  pub short : length text ≤ settings_limit
  pub utf8 : IsUtf8 text
  pub parsed : parse_document text ≡ Some document

-- the bytes write this realm
abbrev pub IsRealmText : List ℕ → WrittenRealm → Type 0
IsRealmText text realm = (document : Members) × IsDocument text document × (realm_in_table document ≡ Ok realm)

-- the bytes have no document, and this is why. A text that is too long has no other fault
abbrev pub IsUnread : List ℕ → SettingsFault → Type 0
-- A file has at most 1,048,576 bytes. Test: `/dev/zero` of `named_files.txt`.
IsUnread text TooLong = settings_limit < length text
-- A file is UTF-8. Test: `invalid UTF-8` of `named_files.txt`.
-- A file is TOML 1.0. Test: `unclosed string` of `files.txt`.
IsUnread text (NotToml _) = (length text ≤ settings_limit) × ((document : Members) → ¬ IsDocument text document)
IsUnread text _ = ⊥

-- the bytes have this fault. Running out of memory says nothing of them
abbrev pub HasFault : List ℕ → SettingsFault → Type 0
HasFault text fault =
    (fault ≡ Memory) ⊎ IsUnread text fault ⊎ ((document : Members) × IsDocument text document × (realm_in_table document ≡ Err fault))
