use Rattle.std.proofs.Common.{List, subst}
use Rattle.std.specs.Prelude.{◌≡◌, IfOk}
use Rattle.picky_asn1_der.specs.Raw.{Raw}
use Rattle.pkinit_messages.specs.declared.agility.asked_pack.AgileAuthPack.{AgileAuthPack}
use Rattle.pkinit_messages.specs.declared.agility.dh_rep_info.ChosenKdf.{ChosenKdf}
use Rattle.pkinit_messages.specs.declared.pk_authenticator.PkAuthenticator.{PkAuthenticator}
use Rattle.pkinit_clients.specs.AgilePacks.{agile_pack_bytes, cms_types, kdfs}
use Rattle.pkinit_clients.proofs.agility.pack.agile_pack_bytes.Goals as goal

abbrev pack_with : PkAuthenticator → Raw → List Raw → List ChosenKdf → AgileAuthPack
pack_with authenticator value types functions = record {
  pk_authenticator = record { 0 = authenticator };
  client_public_value = record { 0 = value };
  supported_cms_types = record { 0 = types };
  supported_kdfs = record { 0 = functions };
}

pub returns : goal.returns
unfolding agile_pack_bytes
returns c =
    subst (λ (a : PkAuthenticator). IfOk c.encoding_of.result (λ bytes. bytes.items ≡ agile_pack_bytes (pack_with a c.args.value cms_types kdfs))) c.in_ok-authenticator.ensures
    (subst (λ (t : List Raw). IfOk c.encoding_of.result (λ bytes. bytes.items ≡ agile_pack_bytes (pack_with c.in_ok-authenticator.authenticator c.args.value t kdfs))) c.in_ok-types.ensures
    (subst (λ (k : List ChosenKdf). IfOk c.encoding_of.result (λ bytes. bytes.items ≡ agile_pack_bytes (pack_with c.in_ok-authenticator.authenticator c.args.value c.in_ok-types.types k)))
    c.in_ok-functions.ensures c.encoding_of.ensures))
