-- The error that is made of its parts.
use Rattle.std.proofs.Common.{◌≡◌, ℕ, List, Option, None, ap, ◌∙◌}
use Rattle.std.specs.Prelude.{ℤ, pos}
use Rattle.std.specs.Option.{option_map}
use Rattle.asn1_der.specs.Tree.{der}
use Rattle.asn1_leaves.specs.declared.date.GeneralizedTime.{GeneralizedTime}
use Rattle.picky_asn1_der.specs.declared.wrapper.ExplicitContextTag.{ExplicitContextTag}
use Rattle.krb_messages.specs.declared.messages.krb_error.KrbErrorInner.{KrbErrorInner}
use Rattle.krb_messages.specs.declared.data_types.principal_name.PrincipalName.{PrincipalName}
use Rattle.krb_messages.specs.Messages.{krb_error_tree}
use Rattle.krb_kdc_exchanges.specs.Errors.{error_bytes}

abbrev pub made : ℤ → ℤ → ℤ → List ℕ → GeneralizedTime → PrincipalName → ℕ → Option (ExplicitContextTag 12 (List ℕ)) → KrbErrorInner
made version kind susec realm time service code e_data_part = record {
  pvno = record { 0 = version };
  msg_type = record { 0 = kind };
  ctime = record { 0 = None };
  cusec = record { 0 = None };
  stime = record { 0 = record { 0 = time } };
  susec = record { 0 = susec };
  error_code = record { 0 = code };
  crealm = record { 0 = None };
  cname = record { 0 = None };
  realm = record { 0 = realm };
  sname = record { 0 = service };
  e_text = record { 0 = None };
  e_data = record { 0 = e_data_part };
}

pub made-bytes : (version kind susec : ℤ) (lent realm : List ℕ) (time : GeneralizedTime) (microseconds : ℕ) (about service : PrincipalName) (code : ℕ)
    (e_data_part : Option (ExplicitContextTag 12 (List ℕ))) (e_data : Option (List ℕ))
    → version ≡ pos 5 → kind ≡ pos 30 → susec ≡ pos microseconds → lent ≡ realm → about ≡ service → e_data_part ≡ option_map (λ bytes. record { 0 = bytes }) e_data
    → der (krb_error_tree (made version kind susec lent time about code e_data_part)) ≡ error_bytes realm time microseconds service code e_data
made-bytes version kind susec lent realm time microseconds about service code e_data_part e_data v k s r n t =
    ap (λ x. der (krb_error_tree (made x kind susec lent time about code e_data_part))) v
    ∙ ap (λ x. der (krb_error_tree (made (pos 5) x susec lent time about code e_data_part))) k
    ∙ ap (λ x. der (krb_error_tree (made (pos 5) (pos 30) x lent time about code e_data_part))) s
    ∙ ap (λ x. der (krb_error_tree (made (pos 5) (pos 30) (pos microseconds) x time about code e_data_part))) r
    ∙ ap (λ x. der (krb_error_tree (made (pos 5) (pos 30) (pos microseconds) realm time x code e_data_part))) n
    ∙ ap (λ x. der (krb_error_tree (made (pos 5) (pos 30) (pos microseconds) realm time service code x))) t
