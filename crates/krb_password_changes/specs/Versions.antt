-- The versions of the exchange that changes a password.
use Rattle.std.specs.Prelude.{◌≡◌, ℕ, nat_eq, if◌then◌else◌, Option, None, Some, refl}
use Rattle.krb_constants.specs.declared.krb_priv.TheConstants.{PROTOCOL_VERSION}
use Rattle.krb_password_changes.specs.declared.messages.version.TheConstants.{SET_PASSWORD_VERSION}
use Rattle.krb_password_changes.specs.declared.messages.version.Version.{Version}
use Rattle.krb_password_changes.specs.declared.messages.version.Version.TheVariants.{ChangePassword, SetPassword}

-- The number of a version: 1, or 0xFF80 (RFC 3244, section 2).
abbrev pub version_number : Version → ℕ
version_number ChangePassword = PROTOCOL_VERSION
version_number SetPassword = SET_PASSWORD_VERSION

-- the version of a number; there is none for a number that is neither of the two
abbrev pub version_of : ℕ → Option Version
version_of number =
    if nat_eq number PROTOCOL_VERSION then Some ChangePassword
    else (if nat_eq number SET_PASSWORD_VERSION then Some SetPassword
    else None)

-- a version is that of its number
pub version_again : (version : Version) → version_of (version_number version) ≡ Some version
version_again ChangePassword = refl
version_again SetPassword = refl
