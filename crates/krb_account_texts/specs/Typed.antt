-- Names of realms that a client's user can type, in a name and in krb5.conf.
use Rattle.std.specs.Prelude.{◌≡◌, ◌&&◌, ◌==◌, ℕ, Bool, true, false, nat_lt, not, List, codes, refl}
use Rattle.std.specs.List.{list_all, list_any}
use Rattle.picky_asn1.specs.Bytes.{Bytes}
use Rattle.krb_realm_accounts.specs.Names.{is_realm_name}

-- the characters that a name has a use of its own for (RFC 1964, section 2.1.1), or krb5.conf
abbrev pub reserved : List ℕ
reserved = codes "\"#*/;=@[\\]{}"

-- The character is printable ASCII, is no blank, and isn't reserved.
abbrev pub is_typed : ℕ → Bool
is_typed character = nat_lt 32 character && (nat_lt character 127 && not (list_any (λ other. character == other) reserved))

-- A realm's name that a client's user can type, in `user@REALM` and in krb5.conf.
abbrev pub can_be_typed : Bytes → Bool
can_be_typed name = is_realm_name name && list_all is_typed name

usual : can_be_typed (codes "EXAMPLE.COM") ≡ true
usual = refl

no_blank : can_be_typed (codes "EXAMPLE COM") ≡ false
no_blank = refl

no_slash : can_be_typed (codes "EXAMPLE/COM") ≡ false
no_slash = refl
