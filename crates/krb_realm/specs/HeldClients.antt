-- How a client's means are held.
use Rattle.krb_realm.specs.Clients.{ByCertificate, ByKey, ClientBy}
use Rattle.krb_realm.specs.declared.client_means.Held as held
use Rattle.krb_realm.specs.declared.client_means.Held.TheVariants as variant

-- how a client with these means authenticates itself: by its key, or by certificate
abbrev pub client_by : held.Held → ClientBy
client_by (variant.Key own) = ByKey own.key
client_by (variant.Certificate certificate anchor) = ByCertificate certificate.items anchor
