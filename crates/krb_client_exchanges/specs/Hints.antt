-- The suite and the salt of a client's key, as a KDC's answer has them (RFC 4120, sections 3.1.3, 5.2.7.5, 5.9.1): the first case that holds
-- counts.
use Rattle.std.specs.Prelude.{◌==◌, ℤ, not, List, [], ◌∷◌, Option, None, Some, is_some, Result, Ok, Err}
use Rattle.std.specs.List.{find}
use Rattle.std.specs.Option.{option_map, option_map_or}
use Rattle.picky_asn1.specs.Bytes.{Bytes}
use Rattle.picky_asn1.specs.Numbers.{is_number}
use Rattle.decision_tables.specs.Tables.{Table, ask, done, need, refuse}
use Rattle.krb_constants.specs.declared.error_codes.TheConstants.{KDC_ERR_PREAUTH_REQUIRED}
use Rattle.krb_constants.specs.declared.padata_types.TheConstants.{PA_ETYPE_INFO2}
use Rattle.krb_constants.specs.declared.types.TheConstants.{AS_REP_MSG_TYPE}
use Rattle.krb_crypto.specs.Suites.{cipher_number}
use Rattle.krb_crypto.specs.declared.suite.CipherSuite.{CipherSuite}
use Rattle.krb_messages.specs.declared.data_types.etype_info2.EtypeInfo2Entry.{EtypeInfo2Entry}
use Rattle.krb_messages.specs.declared.data_types.pa_data.PaData.{PaData}
use Rattle.krb_messages.specs.Messages.{IsAsRep, IsKrbError, sole_as_rep, sole_krb_error}
use Rattle.krb_messages.specs.declared.messages.kdc_rep.KdcRep.{KdcRep}
use Rattle.krb_messages.specs.declared.messages.krb_error.KrbErrorInner.{KrbErrorInner}
use Rattle.krb_client.specs.Taking.{is_of_type}
use Rattle.krb_messages.specs.Padata.{first_of}
use Rattle.krb_client_exchanges.specs.Messages.{IsEtypeInfo2, IsMethodData, sole_etype_info2, sole_method_data}
use Rattle.krb_client_exchanges.specs.Parameters.{has_own_parameters}
use Rattle.krb_client_exchanges.specs.declared.hint.KeyHint.{KeyHint}
use Rattle.krb_client_exchanges.specs.declared.refusal.HintRefusal.{HintRefusal}
use Rattle.krb_client_exchanges.specs.declared.refusal.HintRefusal.TheVariants.{NoHint, NoSuite, OtherParameters, Refused, Unreadable}

-- The suite and the salt, or why there is no hint.
abbrev pub Hinted : Type 0
Hinted = Result KeyHint HintRefusal

-- The suite among these that has the number.
unfoldable pub suite_among : List CipherSuite → ℤ → Option CipherSuite
suite_among suites number = find (λ suite. is_number (cipher_number suite) number) suites

-- The first entry whose etype is one of the suites.
unfoldable pub first_entry : List CipherSuite → List EtypeInfo2Entry → Option EtypeInfo2Entry
first_entry suites entries = find (λ entry. is_some (suite_among suites entry.etype.0)) entries

-- The suite with the salt of the entry, if it has one.
abbrev pub hint_by : CipherSuite → EtypeInfo2Entry → KeyHint
hint_by suite entry = record { suite = suite; salt = option_map (λ salt. salt.0) entry.salt.0 }

-- What the entries of ETYPE-INFO2 say of a key of one of the suites.
abbrev pub hint_of_entries : List CipherSuite → List EtypeInfo2Entry → Table Hinted
hint_of_entries suites entries =
    -- Of the KDC's entries, in its order, the first counts whose etype the client takes (RFC 4120, section 5.2.7.5). Test: `other suite`,
    -- `second entry` of `hints.txt`.
    need (first_entry suites entries) NoSuite (λ entry.
    -- The suite is the one of the entry's etype (RFC 4120, section 5.2.7.5). Test: `mit aes256`, `heimdal aes256` of `hints.txt`.
    need (suite_among suites entry.etype.0) NoSuite (λ suite.
    -- The entry's s2kparams, if any, are the suite's own: the iteration count, big-endian in four octets, or of triple DES nothing (RFC
    -- 3962, section 4; RFC 8009, section 4; RFC 3961, section 6.3). Test: `own parameters aes256`, `own parameters aes256 sha2`,
    -- `own parameters des3`, `other rounds`, `other rounds of SHA-2`, `rounds of triple DES` of `hints.txt`.
    refuse (not (has_own_parameters suite entry)) OtherParameters
    (done (Ok (hint_by suite entry)))))

-- What the octets of ETYPE-INFO2 say of a key of one of the suites.
unfoldable pub hint_of_info : List CipherSuite → Bytes → Table Hinted
hint_of_info suites info =
    -- The padata is the DER encoding of one ETYPE-INFO2 (RFC 4120, section 5.2.7.5). Test: `damaged info` of `hints.txt`.
    ask (IsEtypeInfo2 info) (sole_etype_info2 info) (done (Err NoHint)) (hint_of_entries suites)

-- What METHOD-DATA says of a key of one of the suites.
-- Ignored: padata of other types, as PA-ETYPE-INFO, PA-PW-SALT and PA-FX-COOKIE (RFC 4120, sections 3.1.3, 5.2.7.3, 5.2.7.4; RFC 6113,
-- section 5.2). Test: `older info`, `mit aes256`, `heimdal aes256` of `hints.txt`.
abbrev pub hint_of_methods : List CipherSuite → List PaData → Table Hinted
hint_of_methods suites methods =
    -- METHOD-DATA has PA-ETYPE-INFO2, of which the first counts (RFC 4120, section 5.2.7.5). Test: `no info`, `damaged info first` of
    -- `hints.txt`.
    need (first_of PA_ETYPE_INFO2 methods) NoHint (hint_of_info suites)

-- What the e-data of an error says of a key of one of the suites.
unfoldable pub hint_of_data : List CipherSuite → Bytes → Table Hinted
hint_of_data suites octets =
    -- The e-data is the DER encoding of one METHOD-DATA (RFC 4120, section 5.9.1). Test: `damaged e-data` of `hints.txt`.
    ask (IsMethodData octets) (sole_method_data octets) (done (Err NoHint)) (hint_of_methods suites)

-- What an error says of a key of one of the suites.
-- Not judged: the error's pvno and msg-type, its times and its names (RFC 4120, section 5.9.1). No test: the contract alone covers it.
abbrev pub hint_of_error : List CipherSuite → KrbErrorInner → Table Hinted
hint_of_error suites error =
    -- The error-code is KDC_ERR_PREAUTH_REQUIRED, 25 (RFC 4120, section 3.1.3). Test: `unknown client` of `hints.txt`.
    refuse (not (error.error_code.0 == KDC_ERR_PREAUTH_REQUIRED)) (Refused error.error_code.0)
    -- The error has e-data (RFC 4120, section 5.9.1). Test: `no e-data` of `hints.txt`.
    (need (option_map (λ tagged. tagged.0) error.e_data.0) NoHint (hint_of_data suites))

-- What the bytes of a KDC's error say of a key of one of the suites.
unfoldable pub error_hint : List CipherSuite → Bytes → Table Hinted
error_hint suites bytes =
    -- The bytes are the DER encoding of one KRB-ERROR (RFC 4120, section 5.9.1). Test: `cut` of `hints.txt`.
    ask (IsKrbError bytes) (sole_krb_error bytes) (done (Err Unreadable)) (hint_of_error suites)

-- The padata of an AS reply may name the salt of the client's key. Without PA-ETYPE-INFO2 the salt is the default one (RFC 4120, section
-- 5.2.7.5).
-- Test: `mit reply aes256`, `reply without padata`, `reply, entry of another suite`, `reply, other rounds`, `reply, damaged info` of
-- `hints.txt`.
-- Not judged: that PA-ETYPE-INFO2 of an AS reply has exactly one entry (RFC 4120, section 5.2.7.5). Test: `reply, two entries` of
-- `hints.txt`.
abbrev pub hint_of_padata : CipherSuite → Option Bytes → Table Hinted
hint_of_padata suite None = done (Ok (record { suite = suite; salt = None }))
hint_of_padata suite (Some info) = hint_of_info (suite ∷ []) info

-- The first PA-ETYPE-INFO2 of a reply's padata.
abbrev pub info_in : KdcRep → Option Bytes
info_in reply = first_of PA_ETYPE_INFO2 (option_map_or (λ tagged. tagged.0) reply.padata.0 [])

-- What an AS reply says of the key of its enc-part, without its being opened.
abbrev pub hint_of_reply : List CipherSuite → KdcRep → Table Hinted
hint_of_reply suites reply =
    -- The reply's pvno is 5, and its msg-type is KRB_AS_REP (RFC 4120, section 5.4.2). Test: `reply, other pvno`,
    -- `reply, other msg-type` of `hints.txt`.
    refuse (not (is_of_type AS_REP_MSG_TYPE reply.pvno.0 reply.msg_type.0)) Unreadable
    -- The enc-part's etype is that of a suite which the client takes (RFC 4120, section 3.1.5). Test:
    -- `reply of another suite` of `hints.txt`.
    (need (suite_among suites reply.enc_part.0.etype.0) NoSuite (λ suite.
    hint_of_padata suite (info_in reply)))

-- What the bytes of a KDC's AS reply say of the key of its enc-part.
unfoldable pub reply_hint : List CipherSuite → Bytes → Table Hinted
reply_hint suites bytes =
    -- The bytes are the DER encoding of one AS-REP (RFC 4120, section 5.4.2). Test: `cut reply` of `hints.txt`.
    ask (IsAsRep bytes) (sole_as_rep bytes) (done (Err Unreadable)) (hint_of_reply suites)

-- The suite of an AS reply's enc-part, if it is one of these.
abbrev pub suite_in_reply : List CipherSuite → KdcRep → Result CipherSuite HintRefusal
suite_in_reply suites reply = option_map_or Ok (suite_among suites reply.enc_part.0.etype.0) (Err NoSuite)

-- The suite of which the bytes of a KDC's AS reply are encrypted. The client of this suite judges the reply.
unfoldable pub reply_suite : List CipherSuite → Bytes → Table (Result CipherSuite HintRefusal)
reply_suite suites bytes =
    -- The bytes are the DER encoding of one AS-REP, whose enc-part has an etype that the client takes (RFC 4120, sections 3.1.5, 5.4.2).
    -- Test: `suite of a reply`, `suite of a reply, not listed`, `suite of an error` of `hints.txt`.
    ask (IsAsRep bytes) (sole_as_rep bytes) (done (Err Unreadable)) (λ reply. done (suite_in_reply suites reply))
