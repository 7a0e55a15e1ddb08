-- The steps of a login, each of one party (RFC 4120, sections 3.1, 3.2, 3.3): what it makes, or why it doesn't.
use Rattle.std.specs.Prelude.{◌≡◌, ◌⊎◌, false, true, List, [], ◌∷◌, Option, None, Some, Result, Ok, Err}
use Rattle.asn1_leaves.specs.declared.date.GeneralizedTime.{GeneralizedTime}
use Rattle.picky_asn1.specs.Bytes.{Bytes}
use Rattle.krb_time.specs.Units.{Micros}
use Rattle.krb_messages.specs.RandomBytes.{Random}
use Rattle.krb_messages.specs.declared.data_types.pa_data.PaData.{PaData}
use Rattle.krb_messages.specs.declared.messages.kdc_req_body.KdcReqBody.{KdcReqBody}
use Rattle.krb_realm_accounts.specs.Names.{are_components}
use Rattle.krb_frames.specs.declared.fault.AnswerRefusal.{AnswerRefusal}
use Rattle.krb_frames.specs.declared.fault.AnswerRefusal.TheVariants as answer_refusal
use Rattle.krb_kdc_exchanges.specs.Rows.{PkinitRows}
use Rattle.krb_kdc_exchanges.specs.Call.{CallRecord}
use Rattle.krb_kdc_exchanges.specs.Replies.{Replies}
use Rattle.krb_client.specs.Asked.{ApAskedRecord, AsAskedRecord, TgsAskedRecord}
use Rattle.krb_client.specs.ApRequest.{AsksAp, ap_asked}
use Rattle.krb_client.specs.AsRequest.{AsksAs, AsksAsWith, IsUnasked, IsUnaskedWith, as_asked}
use Rattle.krb_client.specs.Client.{ClientRecord, CredentialRecord}
use Rattle.krb_client.specs.Means.{MeansRecord}
use Rattle.krb_client.specs.TgsRequest.{AsksTgs, AsksTgsWith, tgs_asked}
use Rattle.krb_client.specs.declared.options.TicketOptions.{TicketOptions}
use Rattle.krb_client.specs.declared.refusal.AskRefusal.{AskRefusal}
use Rattle.krb_client.specs.declared.refusal.AskRefusal.TheVariants as ask_refusal
use Rattle.krb_logins.specs.Parties.{TgsRecord}

-- the means refuse no request that they have padata for
abbrev pub AreDecided : MeansRecord → Type 0
AreDecided means =
    (body : KdcReqBody) (moment : Micros) (words : Random) (padata : PaData) → means.asks body moment words padata → means.refuses body moment words → ⊥

-- the client asks for a first ticket by its means; a service's name that is none is refused before the means are asked
unfoldable pub IsAsAsked : ClientRecord → MeansRecord → List Bytes → GeneralizedTime → Micros → Random → Result (Bytes × AsAskedRecord) AskRefusal → Type 0
IsAsAsked client means service till moment words (Ok sent) =
    AsksAs client means service till moment words sent.0 × (sent.1 ≡ as_asked service moment words) × (are_components service ≡ true)
IsAsAsked client means service till moment words (Err refusal) =
    IsUnasked client means service till moment words refusal × (are_components service ≡ false → refusal ≡ ask_refusal.BadName)

-- it asks so with options
unfoldable pub IsAsAskedWith : ClientRecord → TicketOptions → MeansRecord → List Bytes → GeneralizedTime → Micros → Random → Result (Bytes × AsAskedRecord) AskRefusal → Type 0
IsAsAskedWith client options means service till moment words (Ok sent) =
    AsksAsWith client (client.suite ∷ []) options means service till moment words sent.0 × (sent.1 ≡ as_asked service moment words) × (are_components service ≡ true)
IsAsAskedWith client options means service till moment words (Err refusal) =
    IsUnaskedWith client (client.suite ∷ []) options means service till moment words refusal × (are_components service ≡ false → refusal ≡ ask_refusal.BadName)

-- why a client refuses to ask for a service by a ticket: the service's name is not a valid name, or memory ran out
abbrev pub IsUnnamed : List Bytes → AskRefusal → Type 0
IsUnnamed service refusal = (refusal ≡ ask_refusal.Memory) ⊎ ((refusal ≡ ask_refusal.BadName) × (are_components service ≡ false))

-- the client asks for a service ticket by its TGT, or refuses to
unfoldable pub IsTgsAsked : ClientRecord → CredentialRecord → List Bytes → GeneralizedTime → Micros → Random → Result (Bytes × TgsAskedRecord) AskRefusal → Type 0
IsTgsAsked client credential service till moment words (Ok sent) =
    AsksTgs client credential service till moment words sent.0 × (sent.1 ≡ tgs_asked credential service words) × (are_components service ≡ true)
IsTgsAsked client credential service till moment words (Err refusal) = IsUnnamed service refusal

-- it asks so with options
unfoldable pub IsTgsAskedWith : ClientRecord → TgsRecord → CredentialRecord → Result (Bytes × TgsAskedRecord) AskRefusal → Type 0
IsTgsAskedWith client exchange credential (Ok sent) =
    AsksTgsWith client (client.suite ∷ []) exchange.options credential exchange.service exchange.till exchange.client_at exchange.words sent.0
    × (sent.1 ≡ tgs_asked credential exchange.service exchange.words) × (are_components exchange.service ≡ true)
IsTgsAskedWith client exchange credential (Err refusal) = IsUnnamed exchange.service refusal

-- the client makes the AP-REQ by its service ticket, requests a reply and chooses no subkey, or memory ran out
unfoldable pub IsApAsked : ClientRecord → CredentialRecord → Micros → Random → Result (Bytes × ApAskedRecord) AskRefusal → Type 0
IsApAsked client credential moment words (Ok sent) =
    AsksAp client credential true false moment words sent.0 × (sent.1 ≡ ap_asked credential false moment words)
IsApAsked client credential moment words (Err refusal) = refusal ≡ ask_refusal.Memory

-- the realm answers a request. It has its accounts in memory, so they can always be read
unfoldable pub IsKdcAnswered : CallRecord → PkinitRows → Bytes → Result Bytes AnswerRefusal → Type 0
IsKdcAnswered call rows request (Ok reply) = Replies call rows request (Some reply)
IsKdcAnswered call rows request (Err answer_refusal.Unreadable) = Replies call rows request None
IsKdcAnswered call rows request (Err answer_refusal.Memory) = Unit {0}
IsKdcAnswered call rows request (Err answer_refusal.Accounts) = ⊥

-- the bytes of a reply, of which there are none where there is no reply
abbrev pub reply_bytes : Option Bytes → Bytes
reply_bytes None = []
reply_bytes (Some reply) = reply
