-- The hint of an answer, by that of an error, or where it is none by that of a reply.
use Rattle.std.proofs.Common.{◌≡◌, ◌==◌, Bool, true, false, not, List, Option, None, Some, Result, Ok, Err, refl, inl, inr}
use Rattle.std.specs.Option.{option_map, option_map_or}
use Rattle.decision_tables.specs.One.{IsSole}
use Rattle.decision_tables.specs.Tables.{Table, ask, done, need, refuse}
use Rattle.picky_asn1.specs.Bytes.{Bytes}
use Rattle.krb_constants.specs.declared.error_codes.TheConstants.{KDC_ERR_PREAUTH_REQUIRED}
use Rattle.krb_constants.specs.declared.padata_types.TheConstants.{PA_ETYPE_INFO2}
use Rattle.krb_crypto.specs.declared.suite.CipherSuite.{CipherSuite}
use Rattle.krb_messages.specs.Messages.{IsKrbError}
use Rattle.krb_messages.specs.declared.messages.krb_error.KrbErrorInner.{KrbErrorInner}
use Rattle.krb_messages.specs.Padata.{first_of}
use Rattle.krb_messages.specs.declared.data_types.etype_info2.EtypeInfo2Entry.{EtypeInfo2Entry}
use Rattle.krb_client_exchanges.specs.Hints.{Hinted, error_hint, first_entry, hint_by, hint_of_data, hint_of_entries, hint_of_error, hint_of_info, hint_of_methods, reply_hint, reply_suite, suite_among}
use Rattle.krb_client_exchanges.specs.Messages.{IsEtypeInfo2, IsMethodData, sole_etype_info2, sole_method_data}
use Rattle.krb_client_exchanges.specs.Parameters.{has_own_parameters}
use Rattle.krb_client_exchanges.specs.Refusals.{IsHinted}
use Rattle.krb_client_exchanges.specs.declared.hint.KeyHint.{KeyHint}
use Rattle.krb_client_exchanges.specs.declared.refusal.HintRefusal.{HintRefusal}
use Rattle.krb_client_exchanges.specs.declared.refusal.HintRefusal.TheVariants.{Memory, NoHint, NoSuite, OtherParameters, Refused, Unreadable}
use Rattle.krb_client_exchanges.specs.AnswerHints.{answered, hint_in_answer, is_unreadable, suite_for, suite_or}

-- no row of these refuses what is readable
abbrev IsReadable : Table Hinted → Type 0
IsReadable table = table.gives (Err Unreadable) → ⊥

-- the refusal is another one
abbrev IsOther : HintRefusal → Type 0
IsOther error = IsReadable (done (Err error))

refused : (holds : Bool) (error : HintRefusal) (rest : Table Hinted) → IsOther error → IsReadable rest → IsReadable (refuse holds error rest)
refused true error rest other readable = other
refused false error rest other readable = readable

needed : {A : Type 0} (o : Option A) (error : HintRefusal) (rest : A → Table Hinted) → IsOther error → ((a : A) → IsReadable (rest a)) → IsReadable (need o error rest)
needed None error rest other readable = other
needed (Some a) error rest other readable = readable a

asked : {A : Type 0} (P : A → Type 0) (sole : IsSole P) (error : HintRefusal) (rest : A → Table Hinted) → IsOther error → ((a : A) → IsReadable (rest a))
    → IsReadable (ask P sole (done (Err error)) rest)
asked P sole error rest other readable (inl found) = readable found.0 found.2
asked P sole error rest other readable (inr none) = other none.1

no_suite : IsOther NoSuite
no_suite e = absurd (cc (e))

no_hint : IsOther NoHint
no_hint e = absurd (cc (e))

of_entries : (suites : List CipherSuite) (entries : List EtypeInfo2Entry) → IsReadable (hint_of_entries suites entries)
of_entries suites entries =
    needed (first_entry suites entries) NoSuite (λ entry. need (suite_among suites entry.etype.0) NoSuite (λ suite. refuse (not (has_own_parameters suite entry)) OtherParameters (done (Ok (hint_by suite entry))))) no_suite (λ entry.
    needed (suite_among suites entry.etype.0) NoSuite (λ suite. refuse (not (has_own_parameters suite entry)) OtherParameters (done (Ok (hint_by suite entry)))) no_suite (λ suite.
    refused (not (has_own_parameters suite entry)) OtherParameters (done (Ok (hint_by suite entry))) (λ e. absurd (cc (e))) (λ e. absurd (cc (e)))))

of_info : (suites : List CipherSuite) (info : Bytes) → IsReadable (hint_of_info suites info)
unfolding hint_of_info
of_info suites info = asked (IsEtypeInfo2 info) (sole_etype_info2 info) NoHint (hint_of_entries suites) no_hint (of_entries suites)

of_data : (suites : List CipherSuite) (octets : Bytes) → IsReadable (hint_of_data suites octets)
unfolding hint_of_data
of_data suites octets = asked (IsMethodData octets) (sole_method_data octets) NoHint (hint_of_methods suites) no_hint
    (λ methods. needed (first_of PA_ETYPE_INFO2 methods) NoHint (hint_of_info suites) no_hint (of_info suites))

of_error : (suites : List CipherSuite) (error : KrbErrorInner) → IsReadable (hint_of_error suites error)
of_error suites error =
    refused (not (error.error_code.0 == KDC_ERR_PREAUTH_REQUIRED)) (Refused error.error_code.0) (need (option_map (λ tagged. tagged.0) error.e_data.0) NoHint (hint_of_data suites)) (λ e. absurd (cc (e)))
    (needed (option_map (λ tagged. tagged.0) error.e_data.0) NoHint (hint_of_data suites) no_hint (of_data suites))

-- what isn't readable is no error
pub no_error : (suites : List CipherSuite) (bytes : Bytes) → (error_hint suites bytes).gives (Err Unreadable) → (error : KrbErrorInner) → IsKrbError bytes error → ⊥
unfolding error_hint
no_error suites bytes (inl found) = absurd (of_error suites found.0 found.2)
no_error suites bytes (inr none) = none.0

-- an error's hint is the answer's
by_error : (suites : List CipherSuite) (bytes : Bytes) (hinted : Result KeyHint HintRefusal) → (hinted ≡ Err Unreadable → ⊥) → (error_hint suites bytes).gives hinted → (hint_in_answer suites bytes).gives (answered false hinted)
unfolding error_hint hint_in_answer
by_error suites bytes hinted other (inl found) = inl (found.0, found.1, (hinted, found.2, refl))
by_error suites bytes hinted other (inr none) = absurd (other none.1)

pub answered_by_error : (suites : List CipherSuite) (bytes : Bytes) (hinted : Result KeyHint HintRefusal) → is_unreadable hinted ≡ false → IsHinted (error_hint suites bytes) hinted
    → IsHinted (hint_in_answer suites bytes) (answered false hinted)
answered_by_error suites bytes (Ok hint) readable given = by_error suites bytes (Ok hint) (λ e. absurd (cc (e))) given
answered_by_error suites bytes (Err Unreadable) readable given = absurd (cc (readable))
answered_by_error suites bytes (Err (Refused code)) readable given = by_error suites bytes (Err (Refused code)) (λ e. absurd (cc (e))) given
answered_by_error suites bytes (Err NoHint) readable given = by_error suites bytes (Err NoHint) (λ e. absurd (cc (e))) given
answered_by_error suites bytes (Err NoSuite) readable given = by_error suites bytes (Err NoSuite) (λ e. absurd (cc (e))) given
answered_by_error suites bytes (Err OtherParameters) readable given = by_error suites bytes (Err OtherParameters) (λ e. absurd (cc (e))) given
answered_by_error suites bytes (Err Memory) readable given = tt

-- a reply's hint is the answer's, where the answer is no error
by_reply : (suites : List CipherSuite) (bytes : Bytes) (hinted : Result KeyHint HintRefusal) → ((error : KrbErrorInner) → IsKrbError bytes error → ⊥) → (reply_hint suites bytes).gives hinted
    → (hint_in_answer suites bytes).gives (answered true hinted)
unfolding hint_in_answer
by_reply suites bytes hinted none given = inr (none, (hinted, given, refl))

answered_without_error : (suites : List CipherSuite) (bytes : Bytes) (hinted : Result KeyHint HintRefusal) → ((error : KrbErrorInner) → IsKrbError bytes error → ⊥) → IsHinted (reply_hint suites bytes) hinted
    → IsHinted (hint_in_answer suites bytes) (answered true hinted)
answered_without_error suites bytes (Ok hint) none given = by_reply suites bytes (Ok hint) none given
answered_without_error suites bytes (Err Unreadable) none given = by_reply suites bytes (Err Unreadable) none given
answered_without_error suites bytes (Err (Refused code)) none given = by_reply suites bytes (Err (Refused code)) none given
answered_without_error suites bytes (Err NoHint) none given = by_reply suites bytes (Err NoHint) none given
answered_without_error suites bytes (Err NoSuite) none given = by_reply suites bytes (Err NoSuite) none given
answered_without_error suites bytes (Err OtherParameters) none given = by_reply suites bytes (Err OtherParameters) none given
answered_without_error suites bytes (Err Memory) none given = tt

pub answered_by_reply : (suites : List CipherSuite) (bytes : Bytes) (first hinted : Result KeyHint HintRefusal) → is_unreadable first ≡ true → IsHinted (error_hint suites bytes) first → IsHinted (reply_hint suites bytes) hinted
    → IsHinted (hint_in_answer suites bytes) (answered true hinted)
answered_by_reply suites bytes (Ok hint) hinted unreadable given replied = absurd (cc (unreadable))
answered_by_reply suites bytes (Err Unreadable) hinted unreadable given replied = answered_without_error suites bytes hinted (no_error suites bytes given) replied
answered_by_reply suites bytes (Err (Refused code)) hinted unreadable given replied = absurd (cc (unreadable))
answered_by_reply suites bytes (Err NoHint) hinted unreadable given replied = absurd (cc (unreadable))
answered_by_reply suites bytes (Err NoSuite) hinted unreadable given replied = absurd (cc (unreadable))
answered_by_reply suites bytes (Err OtherParameters) hinted unreadable given replied = absurd (cc (unreadable))
answered_by_reply suites bytes (Err Memory) hinted unreadable given replied = absurd (cc (unreadable))

-- the suite of a reply is none that isn't readable
suite_read : (suite : Option CipherSuite) → Err Unreadable ≡ option_map_or Ok suite (Err NoSuite) → ⊥
suite_read None e = absurd (cc (e))
suite_read (Some suite) e = absurd (cc (e))

pub suited : (own : CipherSuite) (suites : List CipherSuite) (bytes : Bytes) (chosen : Result CipherSuite HintRefusal) → IsHinted (reply_suite suites bytes) chosen → IsHinted (suite_for own suites bytes) (suite_or own chosen)
unfolding reply_suite suite_for
suited own suites bytes (Ok suite) (inl found) = inl found
suited own suites bytes (Ok suite) (inr none) = absurd (let e = none.1 in cc (e))
suited own suites bytes (Err Unreadable) (inl found) = absurd (suite_read (suite_among suites found.0.enc_part.0.etype.0) found.2)
suited own suites bytes (Err Unreadable) (inr none) = inr (none.0, refl)
suited own suites bytes (Err (Refused code)) (inl found) = inl found
suited own suites bytes (Err (Refused code)) (inr none) = absurd (let e = none.1 in cc (e))
suited own suites bytes (Err NoHint) (inl found) = inl found
suited own suites bytes (Err NoHint) (inr none) = absurd (let e = none.1 in cc (e))
suited own suites bytes (Err NoSuite) (inl found) = inl found
suited own suites bytes (Err NoSuite) (inr none) = absurd (let e = none.1 in cc (e))
suited own suites bytes (Err OtherParameters) (inl found) = inl found
suited own suites bytes (Err OtherParameters) (inr none) = absurd (let e = none.1 in cc (e))
suited own suites bytes (Err Memory) given = tt
