-- What a KDC's answer to the first AS request says of the client's key (RFC 4120, sections 3.1.3, 5.2.7.5).
use Rattle.std.specs.Prelude.{Bool, true, false, List, Result, Ok, Err}
use Rattle.decision_tables.specs.Tables.{Table, as_made, ask, done}
use Rattle.picky_asn1.specs.Bytes.{Bytes}
use Rattle.krb_crypto.specs.declared.suite.CipherSuite.{CipherSuite}
use Rattle.krb_messages.specs.Messages.{IsAsRep, IsKrbError, sole_as_rep, sole_krb_error}
use Rattle.krb_client_exchanges.specs.Hints.{hint_of_error, reply_hint, suite_in_reply}
use Rattle.krb_client_exchanges.specs.declared.hint.KeyHint.{KeyHint}
use Rattle.krb_client_exchanges.specs.declared.refusal.HintRefusal.{HintRefusal}
use Rattle.krb_client_exchanges.specs.declared.refusal.HintRefusal.TheVariants.{Unreadable}
use Rattle.krb_client_exchanges.specs.Events.{mapped}
use Rattle.krb_client_exchanges.specs.declared.answer.AnswerHint.{AnswerHint}

-- The hint, and whether a reply has it.
abbrev pub answered : Bool → Result KeyHint HintRefusal → Result AnswerHint HintRefusal
answered is_reply hinted = mapped (λ hint. record { hint = hint; is_reply = is_reply }) hinted

-- The answer is no hint because it isn't readable.
abbrev pub is_unreadable : Result KeyHint HintRefusal → Bool
is_unreadable (Err Unreadable) = true
is_unreadable other = false

-- The hint of an answer is that of the error that it is. Where it is none, it is that of the reply (RFC 4120, sections 3.1.3, 3.1.5).
unfoldable pub hint_in_answer : List CipherSuite → Bytes → Table (Result AnswerHint HintRefusal)
hint_in_answer suites bytes =
    -- The bytes are the DER encoding of one KRB-ERROR, or else of one AS-REP (RFC 4120, sections 5.4.2, 5.9.1). Test: `cut`, `cut reply` of
    -- `hints.txt`.
    ask (IsKrbError bytes) (sole_krb_error bytes)
    (as_made (answered true) (reply_hint suites bytes))
    (λ error. as_made (answered false) (hint_of_error suites error))

-- The client that judges a reply has the suite of its enc-part, if that is listed. What is no reply is judged by the client of its own
-- suite, which refuses it (RFC 4120, section 3.1.5).
unfoldable pub suite_for : CipherSuite → List CipherSuite → Bytes → Table (Result CipherSuite HintRefusal)
suite_for own suites bytes =
    -- The bytes are the DER encoding of one AS-REP, whose enc-part has an etype that the client takes (RFC 4120, sections 3.1.5, 5.4.2).
    -- Test: `suite of a reply`, `suite of a reply, not listed`, `suite of an error` of `hints.txt`.
    ask (IsAsRep bytes) (sole_as_rep bytes) (done (Ok own)) (λ reply. done (suite_in_reply suites reply))

-- A suite that was read, or the client's own where there was none to read.
abbrev pub suite_or : CipherSuite → Result CipherSuite HintRefusal → Result CipherSuite HintRefusal
suite_or own (Err Unreadable) = Ok own
suite_or own other = other
