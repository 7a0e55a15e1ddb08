-- A client's means, as its parts hold them.
use Rattle.std.proofs.Common.{◌≡◌, ℕ, sym, ◌∙◌}
use Rattle.std.specs.Prelude.{Vec}
use Rattle.std.specs.Global.{Global}
use Rattle.picky_asn1.specs.Bytes.{Bytes}
use Rattle.x509_keys.specs.KeyFunctions.{KeysRecord}
use Rattle.krb_logins.specs.Steps.{AreDecided}
use Rattle.pkinit_clients.proofs.Decided.{decided_by_certificate}
use Rattle.pkinit_clients.specs.Means.{by_certificate}
use Rattle.pkinit_validation.specs.Anchors.{AnchorRecord}
use Rattle.krb_realm.specs.HeldClients.{client_by}
use Rattle.krb_realm.specs.declared.client_means.Held as held
use Rattle.krb_realm.specs.declared.client_means.Held.TheVariants as variant
use Rattle.krb_realm.specs.Clients.{ByCertificate, ByKey, ClientBy, means_by}

-- by what the client has, and by its key functions
pub same_means : {K : Type 0} (functions : K → KeysRecord) {own wanted : ClientBy} {keys given : K} → own ≡ wanted → keys ≡ given
    → means_by own (functions keys) ≡ means_by wanted (functions given)
same_means functions by keys i = means_by (by i) (functions (keys i))

-- they refuse no request that they have padata for
pub are_decided : (by : ClientBy) (keys : KeysRecord) → AreDecided (means_by by keys)
are_decided (ByKey key) keys = λ body moment words padata asks none. none
are_decided (ByCertificate certificate anchor) keys = λ body moment words padata asks refused. decided_by_certificate keys certificate body moment words padata asks refused

-- of a client that has a certificate
pub means_by_certificate : {K : Type 0} (functions : K → KeysRecord) {own : held.Held} {certificate : Vec ℕ Global} {anchor lent_anchor : AnchorRecord} {lent : Bytes} {keys lent_keys : K}
    → own ≡ variant.Certificate certificate anchor → lent ≡ certificate.items → lent_anchor ≡ anchor → lent_keys ≡ keys
    → by_certificate lent lent_anchor (functions lent_keys) ≡ means_by (client_by own) (functions keys)
means_by_certificate functions {own} {certificate} {anchor} {lent_anchor} {lent} {keys} {lent_keys} is same_certificate same_anchor same_keys =
    let first : by_certificate lent lent_anchor (functions lent_keys) ≡ by_certificate certificate.items anchor (functions keys) =
    (λ i. by_certificate (same_certificate i) (same_anchor i) (functions (same_keys i))) in
    first ∙ (λ i. means_by (client_by (sym is i)) (functions keys))
