-- A login over renewed and forwarded tickets leaves client and service with one key.
use Rattle.std.proofs.Common.{◌≡◌, List, [], ◌∷◌, Result, Ok, Err, inl, inr, sym, subst}
use Rattle.krb_messages.specs.TicketGranting.{krbtgt_of}
use Rattle.krb_kdc_exchanges.specs.Rows.{PkinitRows}
use Rattle.krb_client.specs.Client.{ClientRecord, CredentialRecord}
use Rattle.krb_client.specs.Means.{MeansRecord}
use Rattle.krb_client.specs.declared.options.TicketOptions.{TicketOptions}
use Rattle.krb_service.specs.Service.{ServiceRecord}
use Rattle.krb_logins.specs.Honest.{Ends, IsOneKey}
use Rattle.krb_logins.specs.LoginRun.{AsExchangeWith, Login, TgsExchangeWith}
use Rattle.krb_logins.specs.Parties.{LoginRecord, RealmRecord, RememberedRecord, TgsRecord}
use Rattle.krb_logins.specs.TicketChains.{ChainLogin, ChainedTicket, IsChainHonest, IsChainLoginHonest, TicketChain}
use Rattle.krb_logins.specs.Tickets.{AreOfOneRealm, Holds, HoldsFirst, HoldsGranting, HoldsNext, IsTgsHonest}
use Rattle.krb_logins.specs.declared.refusal.LoginRefusal.{LoginRefusal}
use Rattle.krb_logins.proofs.ByTicket as ticket

-- what holds of what an exchange makes
ends_as : {T : Type 0} (P Q : T → Type 0) → ((made : T) → P made → Q made) → (result : Result T LoginRefusal) → Ends P result → Ends Q result
ends_as P Q so (Ok made) x = so made x
ends_as P Q so (Err refusal) x = x

module _ (client : ClientRecord) (realm : RealmRecord) (rows : PkinitRows) (one : AreOfOneRealm client realm) where
  abbrev Granting : CredentialRecord → Type 0
  Granting = HoldsGranting client realm

  next_granting : (exchange : TgsRecord) (granting : CredentialRecord) → exchange.service ≡ krbtgt_of client.realm → IsTgsHonest client realm exchange granting → Granting granting
      → (result : Result CredentialRecord LoginRefusal) → TgsExchangeWith client realm rows exchange granting result → Ends Granting result
  next_granting exchange granting service honest holds result run =
      ends_as (HoldsNext client realm exchange granting holds) Granting (λ credential next. subst (λ name. Holds client realm name credential) service next.holds_it) result
      (ticket.next_held client realm rows exchange granting one holds honest result run)

  last_granting : (exchanges : List TgsRecord) (granting : CredentialRecord) → IsChainHonest client realm rows exchanges granting → Granting granting
      → (result : Result CredentialRecord LoginRefusal) → TicketChain client realm rows exchanges granting result → Ends Granting result
  unfolding TicketChain
  last_granting [] granting honest holds result run = subst (Ends Granting) (sym run) holds
  last_granting (exchange ∷ exchanges) granting honest holds result (inl x) =
      last_granting exchanges x.0 (honest.2 x.0 x.1) (next_granting exchange granting honest.0 honest.1 holds (Ok x.0) x.1) result x.2
  last_granting (exchange ∷ exchanges) granting honest holds result (inr x) =
      subst (Ends Granting) (sym x.2) (next_granting exchange granting honest.0 honest.1 holds (Err x.0) x.1)

module _ (client : ClientRecord) (options : TicketOptions) (means : MeansRecord) (realm : RealmRecord) (rows : PkinitRows) (service : ServiceRecord) (login : LoginRecord)
    (exchanges : List TgsRecord) (before : RememberedRecord) (honest : IsChainLoginHonest client options means realm rows service login exchanges before) where
  first : (result : Result CredentialRecord LoginRefusal) → AsExchangeWith client options means realm rows login result → Ends (HoldsGranting client realm) result
  first result run =
      ends_as (HoldsFirst client options realm login) (HoldsGranting client realm) (λ credential is. is.holds) result
      (ticket.first_held client options means realm rows login honest.one honest.first result run)

  granting : (result : Result CredentialRecord LoginRefusal) → ChainedTicket client options means realm rows login exchanges result → Ends (HoldsGranting client realm) result
  unfolding ChainedTicket
  granting result (inl x) = last_granting client realm rows honest.one exchanges x.0 (honest.chain x.0 x.1) (first (Ok x.0) x.1) result x.2
  granting result (inr x) = subst (Ends (HoldsGranting client realm)) (sym x.2) (first (Err x.0) x.1)

  pub one_key : (result : Result Login LoginRefusal) (after : RememberedRecord) → ChainLogin client options means realm rows service login exchanges before result after → IsOneKey client result
  unfolding ChainLogin
  one_key result after (inl x) = ticket.one_key client realm rows service login x.0 before honest.one (granting (Ok x.0) x.1) (honest.last x.0 x.1) result after x.2
  one_key result after (inr x) = subst (IsOneKey client) (sym x.2) (granting (Err x.0) x.1)
