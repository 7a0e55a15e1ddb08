use Rattle.std.proofs.Common.{◌≡◌, subst}
use Rattle.std.specs.Prelude.{IfOk}
use Rattle.pkinit_messages.specs.declared.pk_authenticator.PkAuthenticator.{PkAuthenticator}
use Rattle.pkinit_clients.specs.AuthPacks.{auth_pack_bytes, auth_pack_of}
use Rattle.pkinit_clients.proofs.auth_pack.auth_pack_bytes.Goals as goal

pub returns : goal.returns
unfolding auth_pack_bytes
returns c =
    subst (λ (a : PkAuthenticator). IfOk c.encoding_of.result (λ bytes. bytes.items ≡ auth_pack_bytes (auth_pack_of a c.args.value))) c.in_ok-authenticator.ensures c.encoding_of.ensures
