-- The suite of an answer's hint is among those that the client listed.
use Rattle.std.proofs.Common.{◌≡◌, Bool, true, false, not, List, [], ◌∷◌, Option, None, Some, Result, Ok, Err, Contains, refl, inl, inr, ap, sym, subst, arith}
use Rattle.std.proofs.lemmas.List.Elements.{Contains-push_cases}
use Rattle.decision_tables.specs.Tables.{Table, need}
use Rattle.picky_asn1.specs.Bytes.{Bytes}
use Rattle.krb_constants.specs.declared.types.TheConstants.{AS_REP_MSG_TYPE}
use Rattle.krb_crypto.specs.declared.suite.CipherSuite.{CipherSuite}
use Rattle.krb_messages.specs.Messages.{IsAsRep, sole_as_rep}
use Rattle.krb_client.specs.Taking.{is_of_type}
use Rattle.krb_client_exchanges.specs.Hints.{Hinted, error_hint, hint_of_padata, hint_of_reply, info_in, reply_hint, suite_among}
use Rattle.krb_client_exchanges.specs.declared.hint.KeyHint.{KeyHint}
use Rattle.krb_client_exchanges.specs.declared.refusal.HintRefusal.{HintRefusal}
use Rattle.krb_client_exchanges.specs.declared.refusal.HintRefusal.TheVariants.{NoSuite, Unreadable}
use Rattle.krb_client_exchanges.proofs.Found.{not_refused, was_asked, was_needed}
use Rattle.krb_client_exchanges.proofs.Strengths.{among_inside, listed, of_info}
use Rattle.krb_client_exchanges.specs.AnswerHints.{answered, hint_in_answer}
use Rattle.krb_client_exchanges.specs.declared.answer.AnswerHint.{AnswerHint}

alone : (suite own : CipherSuite) → Contains (suite ∷ []) own → suite ≡ own
alone suite own inside = elim (Contains-push_cases [] suite own inside) [
  | inl nowhere ↦ absurd (omega (arith, nowhere.1))
  | inr same ↦ cc (same)
]

of_padata : (suites : List CipherSuite) (suite : CipherSuite) (info : Option Bytes) (hint : KeyHint) → Contains suites suite → (hint_of_padata suite info).gives (Ok hint) → Contains suites hint.suite
of_padata suites suite None hint inside given =
    let same : hint ≡ record { suite = suite; salt = None } = cc (given) in subst (λ (own : CipherSuite). Contains suites own) (sym (ap (λ (h : KeyHint). h.suite) same)) inside
of_padata suites suite (Some info) hint inside given =
    subst (λ (own : CipherSuite). Contains suites own) (alone suite hint.suite (of_info (suite ∷ []) info hint given)) inside

of_reply : (suites : List CipherSuite) (bytes : Bytes) (hint : KeyHint) → (reply_hint suites bytes).gives (Ok hint) → Contains suites hint.suite
unfolding reply_hint
of_reply suites bytes hint given =
    let reply = was_asked (IsAsRep bytes) (sole_as_rep bytes) Unreadable (hint_of_reply suites) hint given in
    let by : CipherSuite → Table Hinted = λ suite. hint_of_padata suite (info_in reply.0) in
    let typed = not_refused (not (is_of_type AS_REP_MSG_TYPE reply.0.pvno.0 reply.0.msg_type.0)) Unreadable (need (suite_among suites reply.0.enc_part.0.etype.0) NoSuite by) hint reply.2 in
    let suite = was_needed (suite_among suites reply.0.enc_part.0.etype.0) NoSuite by hint typed in
    of_padata suites suite.0 (info_in reply.0) hint (among_inside suites reply.0.enc_part.0.etype.0 suite.0 suite.1) suite.2

-- an answer's hint is the one that was found
hint_of : (is_reply : Bool) (hinted : Result KeyHint HintRefusal) (answer : AnswerHint) → Ok answer ≡ answered is_reply hinted → (hint : KeyHint) × (hinted ≡ Ok hint) × (hint ≡ answer.hint)
hint_of is_reply (Ok hint) answer e =
    let same : answer ≡ record { hint = hint; is_reply = is_reply } = cc (e) in (hint, refl, sym (ap (λ (a : AnswerHint). a.hint) same))
hint_of is_reply (Err refusal) answer e = absurd (cc (e))

pub listed_in_answer : (suites : List CipherSuite) (bytes : Bytes) (answer : AnswerHint) → (hint_in_answer suites bytes).gives (Ok answer) → Contains suites answer.hint.suite
unfolding hint_in_answer error_hint
listed_in_answer suites bytes answer (inl found) =
    let hint = hint_of false found.2.0 answer found.2.2 in
    let given : (error_hint suites bytes).gives (Ok hint.0) = subst (λ (r : Result KeyHint HintRefusal). (error_hint suites bytes).gives r) hint.1 (inl (found.0, found.1, found.2.1)) in
    subst (λ (own : KeyHint). Contains suites own.suite) hint.2 (listed suites bytes hint.0 given)
listed_in_answer suites bytes answer (inr none) =
    let hint = hint_of true none.1.0 answer none.1.2 in
    let given : (reply_hint suites bytes).gives (Ok hint.0) = subst (λ (r : Result KeyHint HintRefusal). (reply_hint suites bytes).gives r) hint.1 none.1.1 in
    subst (λ (own : KeyHint). Contains suites own.suite) hint.2 (of_reply suites bytes hint.0 given)
