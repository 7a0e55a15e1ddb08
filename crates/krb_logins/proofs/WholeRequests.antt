-- The requests of clients can be written: nothing is missing in their trees.
use Rattle.std.proofs.Common.{◌≡◌, ℕ, ◌-◌, Bool, true, false, List, [], ◌∷◌, Option, None, Some, refl, sym, subst}
use Rattle.std.proofs.lemmas.Bool.{and_parts}
use Rattle.asn1_der.specs.Tree.{AreWhole, IsWhole, Trees, Writes, leaf, none, put, trees_of, wrapped}
use Rattle.asn1_der.proofs.Spelling.{whole-wrapped}
use Rattle.asn1_leaves.specs.CharSets.{is_general_string}
use Rattle.asn1_leaves.specs.declared.date.GeneralizedTime.{GeneralizedTime}
use Rattle.picky_asn1.specs.BitString.{bit_content, is_bit_string}
use Rattle.picky_asn1.specs.Bytes.{Bytes}
use Rattle.krb_crypto.specs.declared.suite.CipherSuite.{CipherSuite}
use Rattle.krb_messages.specs.RandomBytes.{Random}
use Rattle.krb_messages.specs.Trees as held
use Rattle.krb_messages.specs.declared.data_types.encrypted_data.EncryptedData.{EncryptedData}
use Rattle.krb_messages.specs.declared.data_types.host_address.HostAddress.{HostAddress}
use Rattle.krb_messages.specs.declared.data_types.pa_data.PaData.{PaData}
use Rattle.krb_messages.specs.declared.data_types.pa_enc_timestamp.PaEncTsEnc.{PaEncTsEnc}
use Rattle.krb_messages.specs.Messages.{IsAsReq, IsTgsReq, as_req_tree, tgs_req_tree}
use Rattle.krb_tickets.specs.Parts.{tagged_addresses, tagged_till}
use Rattle.krb_kdc_exchanges.proofs.PartTrees.{addresses_tree, host_address_tree, integer_tree, time_tree}
use Rattle.krb_client.specs.AsRequest.{as_body_of_suites, as_body_with, as_request_of}
use Rattle.krb_client.specs.Client.{ClientRecord}
use Rattle.krb_client.specs.Messages.{as_request_bytes, encrypted_bytes, tgs_request_bytes, timestamp_bytes}
use Rattle.krb_client.specs.Options.{options_of, plain_options, rtime_of}
use Rattle.krb_client.specs.Requests.{etypes}
use Rattle.krb_client.specs.TgsRequest.{further_request, further_request_with}
use Rattle.krb_client.specs.declared.options.TicketOptions.{TicketOptions}
use Rattle.krb_logins.proofs.Names.{are_texts}

pub whole_text : (first : ℕ) (text : Bytes) → is_general_string text ≡ true → IsWhole (leaf (is_general_string text) first text)
whole_text first text e = subst (λ b. IsWhole (leaf b first text)) (sym e) tt

pub whole_texts : (first : ℕ) (texts : List Bytes) → are_texts texts ≡ true → AreWhole (trees_of (λ text. leaf (is_general_string text) first text) texts)
whole_texts first [] all = tt
whole_texts first (text ∷ texts) all =
    let parts = and_parts (is_general_string text) (are_texts texts) all in
    (whole_text first text parts.0, whole_texts first texts parts.1)

-- renew-till, if there is one, before further fields
pub whole_till : (rest : Trees) → AreWhole rest → (till : Option GeneralizedTime) → AreWhole (put (λ tagged. wrapped 168 (time_tree tagged.0.0)) (tagged_till till) rest)
whole_till rest whole None = whole
whole_till rest whole (Some time) = ((tt, tt), whole)

-- caddr under its tag, if there are addresses, at the end
whole_each : (list : List HostAddress) → AreWhole (trees_of host_address_tree list)
whole_each [] = tt
whole_each (address ∷ list) = (((tt, tt), ((tt, tt), tt)), whole_each list)

pub whole_addresses : (first : ℕ) (addresses : Option (List HostAddress)) → AreWhole (put (λ tagged. wrapped first (addresses_tree tagged.0)) (tagged_addresses {tag = first - 160} addresses) none)
whole_addresses first None = tt
whole_addresses first (Some list) = ((whole_each list, tt), tt)

-- encrypted data, with a kvno or without
pub whole_encrypted : (encrypted : EncryptedData) → IsWhole (held.encrypted_data_tree encrypted)
whole_encrypted encrypted =
    elim encrypted.kvno.0 as (λ o. IsWhole (held.encrypted_data_tree (record { etype = encrypted.etype; kvno = record { 0 = o }; cipher = encrypted.cipher }))) [
      | None ↦ ((tt, tt), ((tt, tt), tt))
      | Some number ↦ ((tt, tt), ((tt, tt), ((tt, tt), tt)))
    ]

pub writes_encrypted : (encrypted : EncryptedData) → Writes held.encrypted_data_tree encrypted (encrypted_bytes encrypted)
unfolding encrypted_bytes
writes_encrypted encrypted = (whole_encrypted encrypted, refl)

-- a client's time
whole_timestamp : (timestamp : PaEncTsEnc) → IsWhole (held.pa_enc_ts_enc_tree timestamp)
whole_timestamp timestamp =
    elim timestamp.pausec.0 as (λ o. IsWhole (held.pa_enc_ts_enc_tree (record { patimestamp = timestamp.patimestamp; pausec = record { 0 = o } }))) [
      | None ↦ ((tt, tt), tt)
      | Some micros ↦ ((tt, tt), ((tt, tt), tt))
    ]

pub writes_timestamp : (timestamp : PaEncTsEnc) → Writes held.pa_enc_ts_enc_tree timestamp (timestamp_bytes timestamp)
unfolding timestamp_bytes
writes_timestamp timestamp = (whole_timestamp timestamp, refl)

-- the etypes that a request lists
whole_etypes : (suites : List CipherSuite) → AreWhole (trees_of integer_tree (etypes suites))
whole_etypes [] = tt
whole_etypes (suite ∷ suites) = (tt, whole_etypes suites)

-- kdc-options
whole_options : (options : TicketOptions) → IsWhole (wrapped 160 (leaf (is_bit_string (options_of options)) 3 (bit_content (options_of options))))
whole_options options =
    whole-wrapped 160 (leaf (is_bit_string (options_of options)) 3 (bit_content (options_of options)))
    (subst (λ b. IsWhole (leaf b 3 (bit_content (options_of options)))) (sym (is options.renews)) tt)
  where
    is : (renews : Bool) → is_bit_string (options_of (record options { renews = renews })) ≡ true
    is true = refl
    is false = refl

-- rtime, if there is one, before further fields
whole_rtime : (rest : Trees) → AreWhole rest → (options : TicketOptions) → AreWhole (put (λ tagged. wrapped 166 (time_tree tagged.0.0)) (rtime_of options) rest)
whole_rtime rest whole options = by options.rtime
  where
    by : (rtime : Option GeneralizedTime) → AreWhole (put (λ tagged. wrapped 166 (time_tree tagged.0.0)) (rtime_of (record options { rtime = rtime })) rest)
    by None = whole
    by (Some time) = ((tt, tt), whole)

-- the request for a first ticket, with any padata, suites and options
whole_as_request : (padata : PaData) (client : ClientRecord) (suites : List CipherSuite) (options : TicketOptions) (service : List Bytes) (till : GeneralizedTime) (words : Random)
    → is_general_string client.realm ≡ true → are_texts client.components ≡ true → are_texts service ≡ true
    → IsWhole (as_req_tree (as_request_of padata (as_body_with client suites options service till words)))
whole_as_request padata client suites options service till words realm name of_service = (
  (
    (tt, tt),
    (
      (tt, tt),
      (
        ((((tt, tt), ((tt, tt), tt)), tt), tt),
        (
          (
            (
              whole_options options,
              (
                (((tt, tt), ((whole_texts 27 client.components name, tt), tt)), tt),
                (
                  whole-wrapped 162 (leaf (is_general_string client.realm) 27 client.realm) (whole_text 27 client.realm realm),
                  ((((tt, tt), ((whole_texts 27 service of_service, tt), tt)), tt), ((tt, tt), whole_rtime _ ((tt, tt), ((whole_etypes suites, tt), tt)) options)),
                ),
              ),
            ),
            tt,
          ),
          tt,
        ),
      ),
    ),
  ),
  tt,
)

pub as_request_with_written : (padata : PaData) (client : ClientRecord) (suites : List CipherSuite) (options : TicketOptions) (service : List Bytes) (till : GeneralizedTime) (words : Random) (bytes : Bytes)
    → is_general_string client.realm ≡ true → are_texts client.components ≡ true → are_texts service ≡ true
    → bytes ≡ as_request_bytes (as_request_of padata (as_body_with client suites options service till words))
    → IsAsReq bytes (as_request_of padata (as_body_with client suites options service till words))
unfolding as_request_bytes
as_request_with_written padata client suites options service till words bytes realm name of_service e =
    (whole_as_request padata client suites options service till words realm name of_service, e)

-- and that without options
pub as_request_written : (padata : PaData) (client : ClientRecord) (suites : List CipherSuite) (service : List Bytes) (till : GeneralizedTime) (words : Random) (bytes : Bytes)
    → is_general_string client.realm ≡ true → are_texts client.components ≡ true → are_texts service ≡ true
    → bytes ≡ as_request_bytes (as_request_of padata (as_body_of_suites client suites service till words))
    → IsAsReq bytes (as_request_of padata (as_body_of_suites client suites service till words))
as_request_written padata client suites service till words bytes = as_request_with_written padata client suites plain_options service till words bytes

-- the request for a further ticket
whole_tgs_request : (client : ClientRecord) (suites : List CipherSuite) (options : TicketOptions) (service : List Bytes) (till : GeneralizedTime) (nonce : ℕ) (shown : Bytes)
    → is_general_string client.realm ≡ true → are_texts service ≡ true → IsWhole (tgs_req_tree (further_request_with client suites options service till nonce shown))
whole_tgs_request client suites options service till nonce shown realm of_service = (
  (
    (tt, tt),
    (
      (tt, tt),
      (
        ((((tt, tt), ((tt, tt), tt)), tt), tt),
        (
          (
            (
              whole_options options,
              (
                whole-wrapped 162 (leaf (is_general_string client.realm) 27 client.realm) (whole_text 27 client.realm realm),
                ((((tt, tt), ((whole_texts 27 service of_service, tt), tt)), tt), ((tt, tt), whole_rtime _ ((tt, tt), ((whole_etypes suites, tt), tt)) options)),
              ),
            ),
            tt,
          ),
          tt,
        ),
      ),
    ),
  ),
  tt,
)

pub tgs_request_with_written : (client : ClientRecord) (suites : List CipherSuite) (options : TicketOptions) (service : List Bytes) (till : GeneralizedTime) (nonce : ℕ) (shown bytes : Bytes)
    → is_general_string client.realm ≡ true → are_texts service ≡ true
    → bytes ≡ tgs_request_bytes (further_request_with client suites options service till nonce shown) → IsTgsReq bytes (further_request_with client suites options service till nonce shown)
unfolding tgs_request_bytes
tgs_request_with_written client suites options service till nonce shown bytes realm of_service e =
    (whole_tgs_request client suites options service till nonce shown realm of_service, e)

-- and that without options
pub tgs_request_written : (client : ClientRecord) (suites : List CipherSuite) (service : List Bytes) (till : GeneralizedTime) (nonce : ℕ) (shown bytes : Bytes)
    → is_general_string client.realm ≡ true → are_texts service ≡ true
    → bytes ≡ tgs_request_bytes (further_request client suites service till nonce shown) → IsTgsReq bytes (further_request client suites service till nonce shown)
tgs_request_written client suites service till nonce shown bytes = tgs_request_with_written client suites plain_options service till nonce shown bytes
