-- What an initiator knows of the service whose AP-REP it takes, where no ciphertext was forged.
use Rattle.std.specs.Prelude.{◌≡◌, true, List, Option, None, Some, Ok}
use Rattle.picky_asn1.specs.Bytes.{Bytes}
use Rattle.picky_asn1_der.specs.declared.wrapper.ExplicitContextTag.{ExplicitContextTag}
use Rattle.krb_kdc_exchanges.specs.Rows.{PkinitRows}
use Rattle.krb_authenticity.specs.Among.{IsAmong}
use Rattle.krb_authenticity.specs.Ciphertexts.{IsUnforged, OpensApReply}
use Rattle.krb_authenticity.specs.Parties.{ExchangeRecord, SentRecord, content_of}
use Rattle.krb_authenticity.specs.Taken.{IsServicesReply}
use Rattle.gss_contexts.specs.Contexts.{ContextRecord, sender_of}
use Rattle.gss_contexts.specs.declared.context_tokens.neg_token_targ.NegTokenTarg.{NegTokenTarg}
use Rattle.gss_acceptor.specs.Responses.{IsNegResp}
use Rattle.gss_acceptor.specs.Tokens.{ap_rep_front}
use Rattle.gss_initiator.specs.Contexts.{context_by}
use Rattle.gss_initiator.specs.Replies.{IsTokenOf}
use Rattle.gss_initiator.specs.declared.initiated.Pending.{Pending}
use Rattle.gss_initiator.specs.declared.initiated.TokenForm.{TokenForm}
use Rattle.gss_initiator.specs.declared.initiated.TokenForm.TheVariants.{Bare, Negotiated}

-- the field has this token
abbrev pub HasToken : Option (ExplicitContextTag 2 Bytes) → Bytes → Type 0
HasToken None token = ⊥
HasToken (Some held) token = held.0 ≡ token

-- the answer to a first token of this form has this AP-REP, bare or in a message of SPNEGO
abbrev pub CarriesReply : TokenForm → Bytes → Bytes → Type 0
CarriesReply Bare answer message = IsTokenOf ap_rep_front answer message
CarriesReply Negotiated answer message =
    (response : NegTokenTarg) × (token : Bytes) × IsNegResp answer response × HasToken response.response_token.0 token × IsTokenOf ap_rep_front token message

-- the initiator asked for mutual authentication, by one of these session keys, and no ciphertext was forged that it opens of this answer
pub record IsAnswerUnforged (rows : PkinitRows) (keys : List Bytes) (exchanges : List ExchangeRecord) (sent : SentRecord) (pending : Pending) (answer : Bytes) : Type 0 where
  pub wanted : pending.is_mutual ≡ true
  pub kept : IsAmong pending.asked.key keys
  pub opens : (message : Bytes) → CarriesReply pending.form answer message → IsUnforged rows keys exchanges sent (OpensApReply pending.asked message)

-- a service that opened the ticket admitted a request of the initiator's session and time, and the part of its AP-REP made this end. MICs of
-- SPNEGO's list change no more of the end than its numbers
pub record IsAnsweredEnd (sent : SentRecord) (pending : Pending) (context : ContextRecord) : Type 0 where
  pub by : IsServicesReply sent pending.asked
  pub end : ContextRecord
  pub makes : context_by pending (content_of by.answer) ≡ Ok end
  pub same_sender : sender_of context ≡ sender_of end
