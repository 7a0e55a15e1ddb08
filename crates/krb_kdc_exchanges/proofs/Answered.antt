-- What a judgement is answered with is the reply.
use Rattle.std.proofs.Common.{◌≡◌, ℕ, ◌%◌, List, Option, Some, Result, Ok, Err, ap, subst, sym, ◌∙◌}
use Rattle.std.specs.Prelude.{IfOk}
use Rattle.std.specs.Option.{option_map}
use Rattle.asn1_leaves.specs.declared.date.GeneralizedTime.{GeneralizedTime}
use Rattle.krb_messages.specs.declared.data_types.principal_name.PrincipalName.{PrincipalName}
use Rattle.krb_messages.specs.declared.messages.kdc_req.KdcReq.{KdcReq}
use Rattle.decision_tables.specs.Tables.{Table}
use Rattle.krb_kdc_exchanges.specs.Call.{CallRecord}
use Rattle.krb_kdc_exchanges.specs.Requests.{service_of}
use Rattle.krb_kdc_exchanges.specs.Errors.{error_bytes}
use Rattle.krb_time.specs.SecondOf.{IsSecondOf}
use Rattle.krb_kdc_exchanges.specs.Granting.{IsGrantedTicket}
use Rattle.krb_kdc_exchanges.specs.Judged.{IsAnswerWith, IsJudgement, outcome_of}
use Rattle.krb_kdc_exchanges.specs.Outcomes.{IsOutcome}
use Rattle.krb_kdc_exchanges.specs.Replies.{answered, named_service}
use Rattle.krb_kdc_exchanges.specs.declared.granted.Granted.{Granted}
use Rattle.krb_kdc_exchanges.specs.declared.kdc_error.KdcError.{KdcError}
use Rattle.krb_kdc_exchanges.specs.declared.reply.Reply.{Reply}

-- the error names the request's service
pub error_with : (call : CallRecord) (request : KdcReq) (kdc_error : KdcError) (named : Option PrincipalName) (bytes : List ℕ) (time : GeneralizedTime) → named ≡ service_of request.req_body.0
    → IsSecondOf call.moment time
    → bytes ≡ error_bytes call.realm time (call.moment % 1000000) (named_service call.realm named) kdc_error.code (option_map (λ h. h.items) kdc_error.e_data) → IsAnswerWith call request (Err kdc_error) bytes
error_with call request kdc_error named bytes time service second e =
    (time, second, e ∙ ap (λ n. error_bytes call.realm time (call.moment % 1000000) (named_service call.realm n) kdc_error.code (option_map (λ h. h.items) kdc_error.e_data)) service)

module _ (call : CallRecord) (e_data : ℕ → Option (List ℕ)) (request : KdcReq) (table : Table (Result (List ℕ) ℕ)) where
  answer_of : (judged : Result Granted KdcError) (bytes : List ℕ) → IsJudgement table.gives e_data judged → IsAnswerWith call request judged bytes
      → (answered call e_data request table).gives (Some bytes)
  answer_of (Ok made) bytes x e = (Ok made.reply.items, x.0, ap Some e)
  answer_of (Err kdc_error) bytes x e = (
    Err kdc_error.code,
    x.0,
    (e.0, e.1, ap Some (e.2 ∙ ap (λ h. error_bytes call.realm e.0 (call.moment % 1000000) (named_service call.realm (service_of request.req_body.0)) kdc_error.code h) x.1)),
  )

  outcome_with : (judged : Result Granted KdcError) (bytes : List ℕ) → IsJudgement table.gives e_data judged → IsAnswerWith call request judged bytes
      → IsOutcome bytes (outcome_of judged)
  outcome_with (Ok made) bytes x e = subst (λ (b : List ℕ). IsGrantedTicket b made.ticket) (sym e) x.1
  outcome_with (Err kdc_error) bytes x e = record {
    realm = call.realm;
    time = e.0;
    microseconds = call.moment % 1000000;
    service = named_service call.realm (service_of request.req_body.0);
    e_data = option_map (λ h. h.items) kdc_error.e_data;
    encoding = e.2;
  }

  -- what is answered where a call succeeds is the reply
  pub answers_with : {E : Type 0} (r : Result Reply E) (judged : Result Granted KdcError) → IsJudgement table.gives e_data judged
      → IfOk r (λ reply. IsAnswerWith call request judged reply.bytes.items) → IfOk r (λ reply. (answered call e_data request table).gives (Some reply.bytes.items))
  answers_with (Ok reply) judged x e = answer_of judged reply.bytes.items x e
  answers_with (Err wanting) judged x e = tt

  -- and the outcome is the reply's
  pub outcomes_with : {E : Type 0} (r : Result Reply E) (judged : Result Granted KdcError) → IsJudgement table.gives e_data judged
      → IfOk r (λ reply. IsAnswerWith call request judged reply.bytes.items) → IfOk r (λ reply. reply.outcome ≡ outcome_of judged)
      → IfOk r (λ reply. IsOutcome reply.bytes.items reply.outcome)
  outcomes_with (Ok reply) judged x e o = subst (IsOutcome reply.bytes.items) (sym o) (outcome_with judged reply.bytes.items x e)
  outcomes_with (Err wanting) judged x e o = tt
