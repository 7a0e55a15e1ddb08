-- A choice that is acceptable is received, and what is received is a choice's that is.
use Rattle.std.proofs.Common.{◌≡◌, ℕ, Bool, true, false, not, ◌&&◌, List, length, Option, None, Some, Result, Ok, refl, sym, ap, subst, ◌∙◌, inl, if◌then◌else◌}
use Rattle.std.specs.Prelude.{ℤ}
use Rattle.std.specs.Option.{option_map, option_map_or}
use Rattle.asn1_der.specs.Tree.{Tree}
use Rattle.picky_asn1_der.specs.declared.wrapper.ExplicitContextTag.{ExplicitContextTag}
use Rattle.picky_asn1.specs.BitString.{bit_of}
use Rattle.asn1_leaves.specs.GeneralizedTime.{seconds_of}
use Rattle.krb_crypto.specs.Sealing.{IsSealedBy}
use Rattle.krb_crypto.specs.Suites.{cipher_key_size, cipher_number}
use Rattle.krb_crypto.specs.declared.suite.CipherSuite.{CipherSuite}
use Rattle.krb_messages.specs.declared.data_types.authenticator.AuthenticatorInner.{AuthenticatorInner}
use Rattle.krb_messages.specs.declared.data_types.encrypted_data.EncryptedData.{EncryptedData}
use Rattle.krb_messages.specs.declared.data_types.encryption_key.EncryptionKey.{EncryptionKey}
use Rattle.krb_messages.specs.declared.data_types.enc_ticket_part.EncTicketPartInner.{EncTicketPartInner}
use Rattle.krb_tickets.specs.Keys.{suite_of}
use Rattle.krb_tickets.proofs.KeySizes.{suite_sized}
use Rattle.krb_messages.specs.Names.{components, is_same_name, is_same_realm}
use Rattle.picky_asn1.specs.Numbers.{is_number}
use Rattle.decision_tables.specs.Tables.{Table, and_then, done, need, refuse}
use Rattle.krb_tickets.specs.SealedData.{IsSealedIn}
use Rattle.krb_time.specs.Times.{moment_at}
use Rattle.krb_ap_requests.specs.Acceptable.{IsAcceptable, presented_of}
use Rattle.krb_ap_requests.specs.ApTable.{for_service, ap_fields, is_early, is_late, is_of_client, kvno_fits, opened, presented, authenticator_time, valid_authenticator, valid_part}
use Rattle.krb_ap_requests.specs.Entry.{EntryRecord}
use Rattle.krb_messages.specs.Messages.{authenticator_tree, enc_ticket_part_tree}
use Rattle.krb_ap_requests.specs.Messages.{IsAuthenticator}
use Rattle.krb_ap_requests.specs.Presents.{Choice, Presents, SealsTo, encrypted, request_of}
use Rattle.krb_ap_requests.specs.Received.{Receives}
use Rattle.krb_ap_requests.specs.declared.presented.Authenticated.{Authenticated}
use Rattle.krb_ap_requests.proofs.Shown.{asked}
use Rattle.krb_ap_requests.proofs.Suites.{suite_by_number}

-- a kvno by its tagged form, and the other way
kvno_under : (number : ℕ) (etype : ℤ) (kvno : Option ℤ) (cipher : List ℕ) → kvno_fits number (encrypted etype kvno cipher) ≡ option_map_or (is_number number) kvno true
kvno_under number etype None cipher = refl
kvno_under number etype (Some told) cipher = refl

number_under : (number : ℕ) (kvno : Option (ExplicitContextTag 1 ℤ))
    → option_map_or (is_number number) (option_map (λ (tagged : ExplicitContextTag 1 ℤ). tagged.0) kvno) true ≡ option_map_or (λ (tagged : ExplicitContextTag 1 ℤ). is_number number tagged.0) kvno true
number_under number None = refl
number_under number (Some tagged) = refl

-- the rows that a request of this service passes
field_rows : (version ticket kind realm name kvno : Bool)
    → version ≡ true → ticket ≡ true → kind ≡ true → realm ≡ true → name ≡ true → kvno ≡ true
    → (refuse {T = Unit {0}} {E = ℕ} (not (version && ticket)) 39 (refuse (not kind) 40 (refuse (not (realm && name)) 35 (refuse (not kvno) 44 (done (Ok tt)))))).gives (Ok tt)
field_rows version ticket kind realm name kvno v t k r n u = rw (v, t, k, r, n, u) refl

recipient_rows : (method etype : Bool) (fields : Table (Result (Unit {0}) ℕ)) → method ≡ false → etype ≡ true → fields.gives (Ok tt)
    → (refuse {T = Unit {0}} {E = ℕ} method 48 (and_then {A = Unit {0}} fields (λ _. refuse (not etype) 45 (done (Ok tt))))).gives (Ok tt)
recipient_rows method etype fields m e x = rw (m, e) (inl (tt, x, refl))

is_for_service : (entry : EntryRecord) (skew moment : ℕ) (choice : Choice) (part_cipher cipher : List ℕ) → IsAcceptable entry skew moment choice
    → (for_service entry.realm entry.components entry.suite entry.kvno (request_of choice.outer part_cipher cipher)).gives (Ok tt)
is_for_service entry skew moment choice part_cipher cipher x =
    let fields = field_rows (is_number 5 choice.outer.pvno) (is_number 5 choice.outer.tkt_vno) (is_number 14 choice.outer.msg_type)
    (is_same_realm choice.outer.realm entry.realm) (is_same_name (components choice.outer.service) entry.components)
    (kvno_fits entry.kvno (encrypted choice.outer.part_etype choice.outer.part_kvno part_cipher))
    x.version x.ticket_version x.kind x.realm x.name
    (kvno_under entry.kvno choice.outer.part_etype choice.outer.part_kvno part_cipher ∙ x.kvno) in
    recipient_rows (bit_of choice.outer.options 1) (is_number (cipher_number entry.suite) choice.outer.part_etype)
    (ap_fields entry.realm entry.components entry.kvno (request_of choice.outer part_cipher cipher)) x.method x.part_etype fields

-- what is sealed by the suite that the key fits is sealed by this suite, which it fits
own_suite : {T : Type 0} (tree : T → Tree) (suite : CipherSuite) (key : List ℕ) (usage : ℕ) (confounder : List ℕ) (value : T) (etype : ℤ) (kvno : Option ℤ) (cipher : List ℕ)
    → length key ≡ cipher_key_size suite → is_number (cipher_number suite) etype ≡ true → SealsTo {T = T} tree etype key usage confounder value cipher
    → IsSealedIn {T = T} tree suite key usage (encrypted etype kvno cipher) value
own_suite tree suite key usage confounder value etype kvno cipher sized numbered x = record {
  numbered = numbered;
  opens = record {
    conf = confounder;
    plain = x.plain;
    writes = x.writes;
    sealed = (suite, refl, subst (λ s. IsSealedBy s key usage confounder x.plain cipher) (suite_by_number x.suite suite etype x.numbered numbered) x.sealed);
  };
}

-- past a value that is there
needed_is : {A T : Type 0} (option : Option A) (code : ℕ) (rest : A → Table (Result T ℕ)) (a : A) (r : Result T ℕ) → option ≡ Some a → (rest a).gives r
    → (need {A = A} {T = T} option code rest).gives r
needed_is {A} {T} option code rest a r e x = subst (λ (o : Option A). (need {A = A} {T = T} o code rest).gives r) (sym e) x

time_rows : (early late : Bool) → early ≡ false → late ≡ false → (refuse {T = Unit {0}} {E = ℕ} early 33 (refuse late 32 (done (Ok tt)))).gives (Ok tt)
time_rows early late e l = rw (e, l) refl

told_rows : (version client : Bool) (moment : Option ℕ) (time : ℕ) → version ≡ true → client ≡ true → moment ≡ Some time
    → (refuse {T = ℕ} {E = ℕ} (not version) 39 (refuse (not client) 36 (need moment 41 (λ (found : ℕ). done (Ok found))))).gives (Ok time)
told_rows version client moment time v c m = rw (v, c, m) refl

-- the authenticator that is sealed under the session key is opened
opened_by : (key : EncryptionKey) (usage : ℕ) (suite : CipherSuite) (sealed : EncryptedData) (authenticator : AuthenticatorInner) → suite_of key ≡ Some suite
    → IsAuthenticator suite key.key_value.0 usage sealed authenticator → (opened key usage sealed).gives (Ok (suite, authenticator))
opened_by key usage suite sealed authenticator session x =
    needed_is (suite_of key) 31 (asked key usage sealed) suite (Ok (suite, authenticator)) session (inl (authenticator, x, refl))

part_held : (entry : EntryRecord) (skew moment : ℕ) (choice : Choice) (part_cipher : List ℕ) → IsAcceptable entry skew moment choice
    → SealsTo {T = EncTicketPartInner} enc_ticket_part_tree choice.outer.part_etype entry.key 2 choice.part_confounder choice.part part_cipher
    → (valid_part entry.suite entry.key skew moment (encrypted choice.outer.part_etype choice.outer.part_kvno part_cipher)).gives (Ok choice.part)
part_held entry skew moment choice part_cipher x sealed =
    let own = own_suite enc_ticket_part_tree entry.suite entry.key 2 choice.part_confounder choice.part choice.outer.part_etype choice.outer.part_kvno part_cipher x.keyed x.part_etype sealed in
    let timed = time_rows (is_early skew moment choice.part) (is_late skew moment choice.part) x.started x.lasts in
    inl (choice.part, inl (choice.part, own, refl), inl (tt, timed, refl))

authenticator_held : (entry : EntryRecord) (skew moment : ℕ) (choice : Choice) (part_cipher cipher : List ℕ) (x : IsAcceptable entry skew moment choice)
    → SealsTo {T = AuthenticatorInner} authenticator_tree choice.outer.etype choice.part.key.0.key_value.0 11 choice.confounder choice.authenticator cipher
    → (valid_authenticator (request_of choice.outer part_cipher cipher) choice.part).gives (Ok (presented_of choice x.suite x.time))
authenticator_held entry skew moment choice part_cipher cipher x sealed =
    let own = own_suite authenticator_tree x.suite choice.part.key.0.key_value.0 11 choice.confounder choice.authenticator choice.outer.etype choice.outer.kvno cipher
    (suite_sized choice.part.key.0 x.suite x.session) x.etype sealed in
    let found = opened_by choice.part.key.0 11 x.suite (encrypted choice.outer.etype choice.outer.kvno cipher) choice.authenticator x.session own in
    let timed = told_rows (is_number 5 choice.authenticator.authenticator_vno.0) (is_of_client choice.part choice.authenticator)
    (moment_at (seconds_of choice.authenticator.ctime.0.0) choice.authenticator.cusec.0) x.time x.authenticator_version x.client x.ctime in
    let a : Authenticated = record { suite = x.suite; authenticator = choice.authenticator; time = x.time } in
    inl (a, inl ((x.suite, choice.authenticator), found, inl (x.time, timed, refl)), refl)

pub presented_as_chosen : (entry : EntryRecord) (skew moment : ℕ) (choice : Choice) (part_cipher cipher : List ℕ) (x : IsAcceptable entry skew moment choice)
    → SealsTo {T = EncTicketPartInner} enc_ticket_part_tree choice.outer.part_etype entry.key 2 choice.part_confounder choice.part part_cipher
    → SealsTo {T = AuthenticatorInner} authenticator_tree choice.outer.etype choice.part.key.0.key_value.0 11 choice.confounder choice.authenticator cipher
    → (presented entry skew moment (request_of choice.outer part_cipher cipher)).gives (Ok (presented_of choice x.suite x.time))
unfolding presented
presented_as_chosen entry skew moment choice part_cipher cipher x part authenticator =
    let recipient = is_for_service entry skew moment choice part_cipher cipher x in
    inl (tt, recipient, inl (choice.part, part_held entry skew moment choice part_cipher x part, authenticator_held entry skew moment choice part_cipher cipher x authenticator))

pub received_as_chosen : (entry : EntryRecord) (skew moment : ℕ) (choice : Choice) (message : List ℕ) (x : IsAcceptable entry skew moment choice) → Presents entry.key choice message
    → Receives entry skew moment message (Ok (presented_of choice x.suite x.time))
unfolding Receives
received_as_chosen entry skew moment choice message x p =
    (request_of choice.outer p.part_cipher p.cipher, p.writes, presented_as_chosen entry skew moment choice p.part_cipher p.cipher x p.part p.authenticator)
