-- The PAC of a ticket, which the service's KDC made for this client (MS-PAC, sections 2.7 and 2.8.1).
use Rattle.std.specs.Prelude.{◌≡◌, ◌⊎◌, ℕ, List, Result, Ok, Err, MatchResult}
use Rattle.asn1_leaves.specs.GeneralizedTime.{seconds_of}
use Rattle.asn1_leaves.specs.declared.date.GeneralizedTime.{GeneralizedTime}
use Rattle.krb_crypto.specs.Keys.{KeyRecord}
use Rattle.krb_messages.specs.Names.{components}
use Rattle.krb_messages.specs.declared.data_types.authorization_data.AuthorizationDataInner.{AuthorizationDataInner}
use Rattle.krb_messages.specs.declared.data_types.principal_name.PrincipalName.{PrincipalName}
use Rattle.microsoft_messages.specs.declared.pac.kind.PacBufferType.TheVariants.{ClientInfo}
use Rattle.krb_pac.specs.declared.error.PacFault.{PacFault}
use Rattle.krb_pac.specs.declared.error.PacFault.TheVariants.{Memory}
use Rattle.krb_pac.specs.AuthorizationData.{FindsPac}
use Rattle.krb_pac.specs.ClientInfo.{client_info, client_judged}
use Rattle.krb_pac.specs.Signature.{signature_judged}
use Rattle.krb_pac.specs.Table.{rows_of, needed_row, content_of}
use Rattle.krb_pac.specs.Reading.{◌>>=◌}

-- A PAC has one PAC_CLIENT_INFO, which is of the client (MS-PAC, section 2.7). Test: `refused Missing` of `verified_pac.txt`.
unfoldable pub client_checked : List (List ℕ) → ℕ → List ℕ → Result (Unit {0}) PacFault
client_checked client authtime whole = do
  rows ← rows_of whole
  row ← needed_row ClientInfo rows
  content ← content_of row whole
  info ← client_info content
  client_judged client authtime info

-- The PAC is one of this client at this authtime, signed under this key: the signature is judged first.
unfoldable pub judged : KeyRecord → List (List ℕ) → ℕ → List ℕ → Result (List ℕ) PacFault
judged key client authtime whole = do
  rows ← rows_of whole
  signature_judged key rows whole >>= (λ _. client_checked client authtime whole >>= (λ _. Ok whole))

-- What the PAC that these elements have is judged to be.
abbrev pub IsJudgement : List AuthorizationDataInner → KeyRecord → PrincipalName → GeneralizedTime → Result (List ℕ) PacFault → Type 0
IsJudgement elements key client authtime said =
    (found : Result (List ℕ) PacFault) × FindsPac elements found × ((found >>= judged key (components client) (seconds_of authtime)) ≡ said)

-- The call returns the PAC that these elements have, where it is one of this client at this authtime, signed under this key. It returns
-- the first refusal otherwise, unless memory runs out.
unfoldable pub Verifies : List AuthorizationDataInner → KeyRecord → PrincipalName → GeneralizedTime → Result (List ℕ) PacFault → Type 0
Verifies elements key client authtime result =
    MatchResult result
    (λ pac. IsJudgement elements key client authtime (Ok pac))
    (λ e. (e ≡ Memory) ⊎ IsJudgement elements key client authtime (Err e))
