-- How a client authenticates itself in an AS exchange (RFC 4120, section 3.1.1; RFC 4556, section 3.1).
use Rattle.std.specs.Prelude.{◌≡◌, ◌⊎◌, Result}
use Rattle.krb_time.specs.Units.{Micros}
use Rattle.krb_crypto.specs.Keys.{KeyRecord}
use Rattle.krb_messages.specs.RandomBytes.{Random}
use Rattle.krb_messages.specs.declared.data_types.pa_data.PaData.{PaData}
use Rattle.krb_messages.specs.declared.messages.kdc_rep.KdcRep.{KdcRep}
use Rattle.krb_messages.specs.declared.messages.kdc_req_body.KdcReqBody.{KdcReqBody}
use Rattle.decision_tables.specs.One.{IsSole}
use Rattle.decision_tables.specs.Tables.{Table}
use Rattle.krb_client.specs.Asked.{AsAskedRecord}
use Rattle.krb_client.specs.Client.{ClientRecord}
use Rattle.krb_client.specs.declared.refusal.AskRefusal.{AskRefusal}
use Rattle.krb_client.specs.declared.refusal.AskRefusal.TheVariants.{Memory, NoKeyFunction}
use Rattle.krb_client.specs.declared.refusal.TakeRefusal.{TakeRefusal}

-- the padata of a request with this body, at a moment, by random bytes, which is one at most; that key functions answer none, so that
-- there is no such padata; and the key that the reply is encrypted under, or why the client doesn't take the reply
pub record MeansRecord : Type 1 where
  pub asks : KdcReqBody → Micros → Random → PaData → Type 0
  pub sole_asks : (body : KdcReqBody) (moment : Micros) (words : Random) → IsSole (asks body moment words)
  pub refuses : KdcReqBody → Micros → Random → Type 0
  pub reply_key : ClientRecord → AsAskedRecord → KdcRep → Table (Result KeyRecord TakeRefusal)

-- why a request with this body has no padata: memory ran out, or key functions answer none
abbrev pub IsUnshown : MeansRecord → KdcReqBody → Micros → Random → AskRefusal → Type 0
IsUnshown means body moment words refusal = (refusal ≡ Memory) ⊎ ((refusal ≡ NoKeyFunction) × means.refuses body moment words)
