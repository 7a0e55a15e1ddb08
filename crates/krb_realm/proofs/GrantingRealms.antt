-- A realm, as logins see it, grants, and nobody sets an attribute for its accounts.
use Rattle.std.proofs.Common.{◌≡◌, true, Option, None, Some, is_some, refl}
use Rattle.std.specs.FinMap.{get}
use Rattle.krb_realm_accounts.specs.Account.{AccountRecord}
use Rattle.krb_realm_accounts.specs.Accounts.{look_in}
use Rattle.krb_kdc_exchanges.specs.Before.{AreFree}
use Rattle.krb_messages.specs.TicketGranting.{krbtgt_of}
use Rattle.krb_client.specs.Client.{ClientRecord}
use Rattle.krb_service.specs.Service.{ServiceRecord}
use Rattle.krb_logins.specs.Honest.{AreUnlimited, IsGranting}
use Rattle.krb_realm.specs.Logins.{realm_record}
use Rattle.krb_memory_realms.specs.Realm.{RealmState, has_krbtgt}

-- an account that is found is the one
pub granting : (realm : RealmState) → has_krbtgt realm.name realm.accounts ≡ true → IsGranting (realm_record realm)
granting realm has = of (get realm.accounts (krbtgt_of realm.name)) refl has
  where
    of : (found : Option AccountRecord) → get realm.accounts (krbtgt_of realm.name) ≡ found → is_some found ≡ true → IsGranting (realm_record realm)
    of None is there = absurd (cc (there))
    of (Some account) is there = record { account = account; found = is }

pub unlimited : (client : ClientRecord) (service : ServiceRecord) (realm : RealmState) → AreFree (look_in realm.accounts) → AreUnlimited client service (realm_record realm)
unlimited client service realm free = record {
  client_free = λ account found. free client.components account found;
  service_free = λ account found. free service.entry.components account found;
  granting_free = λ account found. free (krbtgt_of realm.name) account found;
}
