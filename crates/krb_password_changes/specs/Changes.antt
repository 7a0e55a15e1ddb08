-- What a request asks for: the user-data of its KRB-PRIV (RFC 3244, section 2).
use Rattle.std.specs.Prelude.{◌≡◌, Bool, ◌&&◌, ◌||◌, Option, None, Some, List}
use Rattle.std.specs.List.{list_any}
use Rattle.std.proofs.Common.{sym, ◌∙◌}
use Rattle.picky_asn1_der.specs.declared.wrapper.ExplicitContextTag.{ExplicitContextTag}
use Rattle.asn1_der.specs.Octets.{sequence_octet}
use Rattle.asn1_der.specs.Tree.{Tree, Writes}
use Rattle.asn1_der.specs.Tagged.{tagged_tree}
use Rattle.asn1_der.proofs.Spelling.{IsInjective}
use Rattle.asn1_der.proofs.Tagged.{tagged-injective}
use Rattle.decision_tables.specs.One.{IsSole}
use Rattle.picky_asn1.specs.Bytes.{Bytes}
use Rattle.krb_messages.specs.Names.{components, is_same_name, is_same_realm}
use Rattle.krb_messages.specs.declared.data_types.principal_name.PrincipalName.{PrincipalName}
use Rattle.microsoft_messages.specs.declared.change_passwd_data.ChangePasswdData.{ChangePasswdData}
use Rattle.microsoft_messages.specs.contracts.change_passwd_data.ChangePasswdDataTagged.TheImpl as change_impl
use Rattle.krb_service.specs.Admission.{AdmissionRecord}
use Rattle.krb_password_changes.specs.declared.messages.version.Version.{Version}
use Rattle.krb_password_changes.specs.declared.messages.version.Version.TheVariants.{ChangePassword, SetPassword}

abbrev pub change_tree : ChangePasswdData → Tree
change_tree = tagged_tree sequence_octet change_impl.ghosts.row_tree change_impl.ghosts.row_of

pub change-injective : IsInjective change_tree
change-injective = tagged-injective 48 change_impl.ghosts.row_tree change_impl.ghosts.row_laws change_impl.ghosts.row_of change_impl.ghosts.one_row

-- the client's own change to a password
abbrev pub own_change : Bytes → ChangePasswdData
own_change password = record { new_passwd = record { 0 = password }; target_name = record { 0 = None }; target_realm = record { 0 = None } }

-- The user-data of version 1 are the new password. Those of version 0xFF80 are the one encoding of a ChangePasswdData, with nothing behind
-- it (RFC 3244, section 2).
abbrev pub IsChange : Version → Bytes → ChangePasswdData → Type 0
IsChange ChangePassword user_data change = change ≡ own_change user_data
IsChange SetPassword user_data change = Writes change_tree change user_data

pub sole_change : (version : Version) (user_data : Bytes) → IsSole (IsChange version user_data)
sole_change ChangePassword user_data v w p q = p ∙ sym q
sole_change SetPassword user_data v w p q = change-injective v w p.0 q.0 (sym p.1 ∙ q.1)

-- the principal that gets the password: its realm and its name
pub record TargetRecord : Type 0 where
  pub realm : Bytes
  pub name : PrincipalName

-- the client of the ticket
abbrev pub client_of : AdmissionRecord → TargetRecord
client_of admission = record { realm = admission.realm; name = admission.client }

-- the principal of these fields, or else the client; none where only one of them is there
abbrev pub named_target : Option (ExplicitContextTag 1 PrincipalName) → Option (ExplicitContextTag 2 Bytes) → TargetRecord → Option TargetRecord
named_target None None client = Some client
named_target (Some name) (Some realm) client = Some (record { realm = realm.0; name = name.0 })
named_target name realm client = None

-- The principal that gets the password: the one that the change names, or else the client (RFC 3244, section 2).
abbrev pub target_of : AdmissionRecord → ChangePasswdData → Option TargetRecord
target_of admission change = named_target change.target_name.0 change.target_realm.0 (client_of admission)

-- two principals are the same by realm and name
abbrev pub is_same_target : TargetRecord → TargetRecord → Bool
is_same_target own other = is_same_realm own.realm other.realm && is_same_name (components own.name) (components other.name)

-- the client is an administrator of the realm
abbrev pub is_admin : Bytes → List PrincipalName → TargetRecord → Bool
is_admin realm admins client = is_same_realm client.realm realm && list_any (λ name. is_same_name (components name) (components client.name)) admins

-- The client may set the password of the target: its own, or that of any account of the realm where it is an administrator (RFC 3244,
-- section 2).
abbrev pub may_set : Bytes → List PrincipalName → TargetRecord → TargetRecord → Bool
may_set realm admins client target = is_same_target client target || is_admin realm admins client
