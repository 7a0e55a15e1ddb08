-- Whoever gets a context the realm had authenticated.
use Rattle.std.proofs.Common.{List, Option, sym, subst}
use Rattle.picky_asn1.specs.Bytes.{Bytes}
use Rattle.krb_kdc_exchanges.specs.Rows.{PkinitRows}
use Rattle.krb_ap_requests.specs.Presents.{Choice}
use Rattle.krb_authenticity.specs.Authentic.{WasAuthenticated}
use Rattle.krb_authenticity.specs.Parties.{ExchangeRecord, SentRecord}
use Rattle.krb_authenticity.proofs.Traced.{moved}
use Rattle.gss_acceptor.specs.Accepting.{AdmitRequest, AskFor, Step, VerifyMic}
use Rattle.gss_acceptor.specs.Chosen.{IsChosen}
use Rattle.gss_acceptor.specs.Established.{EstablishedRecord}
use Rattle.gss_logins.specs.Carried.{IsAuthenticContext, IsToAdmit, IsToVerify}
use Rattle.gss_logins.proofs.Unnamed.{Exchange, Unverified}

-- what holds of each step that is to admit this AP-REQ, or to verify this context's MIC
pub to_admit : (P : Step → Type 0) (message : Bytes) → ((exchange : Option Exchange) → P (AdmitRequest message exchange)) → (step : Step) → IsToAdmit message step → P step
to_admit P message holds (AskFor mechanism terms) none = absurd none
to_admit P message holds (AdmitRequest own exchange) same = subst (λ m. P (AdmitRequest m exchange)) (sym same) (holds exchange)
to_admit P message holds (VerifyMic unverified theirs) none = absurd none

pub to_verify : (P : Step → Type 0) (established : EstablishedRecord) → ((unverified : Unverified) (theirs : Bytes) → IsToVerify established (VerifyMic unverified theirs) → P (VerifyMic unverified theirs))
    → (step : Step) → IsToVerify established step → P step
to_verify P established holds (AskFor mechanism terms) none = absurd none
to_verify P established holds (AdmitRequest own exchange) none = absurd none
to_verify P established holds (VerifyMic unverified theirs) same = holds unverified theirs same

module _ (rows : PkinitRows) (keys : List Bytes) (exchanges : List ExchangeRecord) (sent : SentRecord) where
  -- a context has the client and the authtime of the presented ticket
  pub of_choice : (choice : Choice) (established : EstablishedRecord) → IsChosen choice established
      → WasAuthenticated rows keys exchanges sent choice.part.crealm.0 choice.part.cname.0 choice.part.auth_time.0.0 → IsAuthenticContext rows keys exchanges sent established
  of_choice choice established is was = record {
    choice = choice;
    is_chosen = is;
    client = moved rows keys exchanges sent choice.part.crealm.0 established.realm choice.part.cname.0 established.client choice.part.auth_time.0.0 established.authtime is.realm is.client is.authtime was;
  }

  -- the ticket's client and authtime are those of a context that is as the client chose
  pub of_context : (established : EstablishedRecord) → (x : IsAuthenticContext rows keys exchanges sent established)
      → WasAuthenticated rows keys exchanges sent x.choice.part.crealm.0 x.choice.part.cname.0 x.choice.part.auth_time.0.0
  of_context established x =
      moved rows keys exchanges sent established.realm x.choice.part.crealm.0 established.client x.choice.part.cname.0 established.authtime x.choice.part.auth_time.0.0
      (sym x.is_chosen.realm) (sym x.is_chosen.client) (sym x.is_chosen.authtime) x.client
