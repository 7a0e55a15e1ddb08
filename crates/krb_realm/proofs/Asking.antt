-- Asking for a first ticket, where the ticket-granting service's name is one, and for a service ticket.
use Rattle.std.proofs.Common.{◌≡◌, Bool, true, false, ◌&&◌, ◌↔◌, ◌⊎◌, List, Result, Ok, Err, inl, inr, refl, ap, subst, sym, ◌∙◌}
use Rattle.picky_asn1.specs.Bytes.{Bytes}
use Rattle.krb_realm_accounts.specs.Names.{IsRealmName, are_components}
use Rattle.krb_messages.specs.TicketGranting.{krbtgt_of}
use Rattle.krb_client.specs.Asked.{AsAskedRecord, TgsAskedRecord}
use Rattle.krb_client.specs.AsRequest.{AsksAs, IsUnasked, as_asked}
use Rattle.krb_client.specs.Client.{ClientRecord, CredentialRecord}
use Rattle.krb_client.specs.Means.{MeansRecord}
use Rattle.krb_client.specs.declared.refusal.AskRefusal.{AskRefusal}
use Rattle.krb_client.specs.TgsRequest.{AsksTgs, tgs_asked}
use Rattle.krb_client.specs.declared.refusal.AskRefusal.TheVariants.{BadName, Memory}
use Rattle.krb_logins.specs.Parties.{LoginRecord}
use Rattle.krb_logins.specs.Steps.{IsAsAsked, IsTgsAsked}
use Rattle.krb_logins.specs.declared.refusal.LoginRefusal.TheVariants.{Asked}
use Rattle.krb_logins.specs.ApExchanges.{Made}
use Rattle.krb_realm.specs.Logins.{AsAsk, TgsAsk}

module _ (client : ClientRecord) (named : IsRealmName client.realm) (means : MeansRecord) (login : LoginRecord) where
  is_name : are_components (krbtgt_of client.realm) ≡ true
  is_name = ap (λ b. b && true) named

  pub no_memory : AsAsk client means login (Err (Asked Memory))
  unfolding AsAsk IsAsAsked
  no_memory = (Memory, (inr (inl refl), λ bad. let never = sym bad ∙ is_name in absurd (cc (never))), refl)

  module _ (name : List Bytes) (same : name ≡ krbtgt_of client.realm) where
    pub asked : (sent : Made × AsAskedRecord) → AsksAs client means name login.till login.client_as login.words_as sent.0.items → sent.1 ≡ as_asked name login.client_as login.words_as
        → AsAsk client means login (Ok sent)
    unfolding AsAsk IsAsAsked
    asked sent asks remembered = (
      subst (λ (n : List Bytes). AsksAs client means n login.till login.client_as login.words_as sent.0.items) same asks,
      remembered ∙ ap (λ (n : List Bytes). as_asked n login.client_as login.words_as) same,
      is_name,
    )

    pub unasked : (refusal : AskRefusal) → IsUnasked client means name login.till login.client_as login.words_as refusal → AsAsk client means login (Err (Asked refusal))
    unfolding AsAsk IsAsAsked
    unasked refusal is = (
      refusal,
      (
        subst (λ (n : List Bytes). IsUnasked client means n login.till login.client_as login.words_as refusal) same is,
        λ bad. let never = sym bad ∙ is_name in absurd (cc (never)),
      ),
      refl,
    )

module _ (client : ClientRecord) (login : LoginRecord) (granting : CredentialRecord) (result : Result (Made × TgsAskedRecord) AskRefusal)
    (bad : (result ≡ Err BadName) ↔ (are_components login.service ≡ false)) where
  pub further_asked : (sent : Made × TgsAskedRecord) → result ≡ Ok sent → AsksTgs client granting login.service login.till login.client_tgs login.words_tgs sent.0.items
      → sent.1 ≡ tgs_asked granting login.service login.words_tgs → TgsAsk client login granting (Ok sent)
  unfolding TgsAsk IsTgsAsked
  further_asked sent is asks remembered = (asks, remembered, by (are_components login.service) refl)
    where
      by : (named : Bool) → are_components login.service ≡ named → are_components login.service ≡ true
      by true e = e
      by false e = let never = sym is ∙ bad.1 e in absurd (cc (never))

  pub further_unasked : (refusal : AskRefusal) → result ≡ Err refusal → (refusal ≡ Memory) ⊎ (refusal ≡ BadName) → TgsAsk client login granting (Err (Asked refusal))
  unfolding TgsAsk IsTgsAsked
  further_unasked refusal is (inl memory) = (refusal, inl memory, refl)
  further_unasked refusal is (inr name) = (refusal, inr (name, bad.0 (is ∙ ap Err name)), refl)
