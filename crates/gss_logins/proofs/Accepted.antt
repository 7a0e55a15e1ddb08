-- What an acceptor makes of the token of an honest login.
use Rattle.std.proofs.Common.{◌≡◌, ℕ, ◌+◌, ◌*◌, ◌≤◌, ◌<◌, ◌^◌, Bool, true, false, not, ◌++◌, length, take, drop, append_assoc, Option, None, Some, Result, Ok, Err, refl, sym, ap, subst, ◌∙◌, nat_le, nat_lt, if◌then◌else◌, arith}
use Rattle.std.proofs.lemmas.Bool.{eq-eqb}
use Rattle.std.proofs.lemmas.Bool.Decides.{nat_tests}
use Rattle.std.proofs.lemmas.List.{drop_at, length-append, length-drop, length-take-le, take_all, take_at}
use Rattle.std.specs.Prelude.{◌&&◌, is_some, pos, ◌==◌, ◌||◌}
use Rattle.byte_streams.specs.Numbers.{le32, le32_at}
use Rattle.byte_streams.specs.Parts.{part, Stands}
use Rattle.byte_streams.proofs.NumberLaws.{le32-again, length-le32}
use Rattle.asn1_leaves.specs.GeneralizedTime.{seconds_of}
use Rattle.asn1_leaves.specs.declared.date.GeneralizedTime.{GeneralizedTime}
use Rattle.picky_asn1.specs.Bytes.{Bytes}
use Rattle.krb_crypto.specs.Keys.{KeyRecord}
use Rattle.krb_crypto.specs.Suites.{cipher_key_size, cipher_seed_size}
use Rattle.krb_crypto.specs.declared.suite.CipherSuite.{CipherSuite}
use Rattle.krb_crypto.proofs.AllSuites.{seed_below}
use Rattle.krb_crypto.proofs.SealedTexts.{seed_key_sized}
use Rattle.krb_messages.specs.RandomBytes.{subkey_seed}
use Rattle.krb_messages.specs.declared.data_types.authenticator.AuthenticatorInner.{AuthenticatorInner}
use Rattle.krb_messages.specs.declared.data_types.encryption_key.EncryptionKey.{EncryptionKey}
use Rattle.std.specs.Option.{option_map}
use Rattle.krb_tickets.specs.Keys.{suite_of}
use Rattle.krb_tickets.specs.Sealing.{encryption_key}
use Rattle.krb_tickets.proofs.KeySizes.{suite_of_sized}
use Rattle.krb_client.specs.Requests.{nonce_of}
use Rattle.krb_ap_requests.specs.declared.presented.Presented.{Presented}
use Rattle.krb_service.specs.Admission.{AdmissionRecord, admission_of}
use Rattle.krb_service.specs.ApReply.{reply_subkey}
use Rattle.krb_messages.specs.RandomBytes.{Random}
use Rattle.gss_contexts.specs.Contexts.{ContextRecord, context_of, is_newer}
use Rattle.gss_contexts.specs.Tokens.{is_set}
use Rattle.gss_contexts.specs.declared.terms.ContextTerms.{ContextTerms}
use Rattle.gss_contexts.specs.declared.side.Side.TheVariants.{Acceptor}
use Rattle.gss_acceptor.specs.Accepting.{context_under, judged, then_judged}
use Rattle.gss_acceptor.specs.Checksum.{bound_by, initial_in, initial_sum}
use Rattle.gss_acceptor.specs.Contexts.{context_in, context_key, end_key, end_terms, first_number, or_refused, own_key, sending_number}
use Rattle.gss_acceptor.specs.declared.checksum.InitialChecksum.{InitialChecksum}
use Rattle.gss_acceptor.specs.declared.refusal.AcceptRefusal.{AcceptRefusal}
use Rattle.gss_acceptor.specs.declared.refusal.AcceptRefusal.TheVariants.{BadSequenceNumber, OldSuite, OtherChecksum, UnknownKey}
use Rattle.gss_initiator.specs.Checksums.{initial_octets}
use Rattle.gss_initiator.specs.declared.refusal.InitiateRefusal.TheVariants as initiate_refusal
use Rattle.gss_logins.specs.GssLogins.{GssLogin}
use Rattle.gss_logins.specs.Honest.{IsAnswering, IsAsking}
use Rattle.gss_logins.proofs.Presented.{own_authenticator, own_subkey}
use Rattle.gss_logins.proofs.Unnamed.{Judged}

-- what is offered: of a suite of AES, with flags below 64
offered_parts : (delegates high newer : Bool) → (if (delegates || high) then Some initiate_refusal.NotOffered else (if newer then None else Some initiate_refusal.OldSuite)) ≡ None → (high ≡ false) × (newer ≡ true)
offered_parts true high newer e = absurd (cc (e))
offered_parts false true newer e = absurd (cc (e))
offered_parts false false true e = (refl, refl)
offered_parts false false false e = absurd (cc (e))

offered_alone : (delegates high newer : Bool) → (if (delegates || high) then Some initiate_refusal.NotOffered else (if newer then None else Some initiate_refusal.OldSuite)) ≡ None → delegates ≡ false
offered_alone true high newer e = absurd (cc (e))
offered_alone false high newer e = refl

-- rows that pass
read_past : (short other : Bool) (initial : InitialChecksum) → short ≡ false → other ≡ false → (if short then Err OtherChecksum else (if other then Err OtherChecksum else Ok initial)) ≡ Ok initial
read_past true other initial a b = absurd (cc (a))
read_past false true initial a b = absurd (cc (b))
read_past false false initial a b = refl

numbered_past : (fits : Bool) (number : ℕ) → fits ≡ true → or_refused (if fits then Some number else None) BadSequenceNumber ≡ Ok number
numbered_past true number e = refl
numbered_past false number e = absurd (cc (e))

keyed_past : (found : Option CipherSuite) (suite : CipherSuite) (key : Bytes) → found ≡ Some suite
    → or_refused {A = KeyRecord} (option_map (λ (s : CipherSuite). record { suite = s; bytes = key }) found) UnknownKey ≡ Ok (record { suite = suite; bytes = key })
keyed_past found suite key e = ap (λ (o : Option CipherSuite). or_refused {A = KeyRecord} (option_map (λ (s : CipherSuite). record { suite = s; bytes = key }) o) UnknownKey) e

newer_past : (new : Bool) (context : ContextRecord) → new ≡ true → (if new then Ok context else Err OldSuite) ≡ Ok context
newer_past true context e = refl
newer_past false context e = absurd (cc (e))

-- the octets of the checksum are read as what they were written of
module _ (initial : InitialChecksum) (sized : length initial.bindings ≡ 16) (low : nat_le 64 initial.flags.0 ≡ false) where
  abbrev octets : Bytes
  octets = initial_octets initial

  behind : octets ≡ le32 16 ++ (initial.bindings ++ le32 initial.flags.0)
  behind = append_assoc (le32 16) initial.bindings (le32 initial.flags.0)

  long : length octets ≡ 24
  long =
      let a = length-append (le32 16 ++ initial.bindings) (le32 initial.flags.0) in
      let b = length-append (le32 16) initial.bindings in
      omega (arith, a, b, sized, length-le32 16, length-le32 initial.flags.0)

  size_again : le32_at 0 octets ≡ 16
  size_again =
      let at : take (length (le32 16)) octets ≡ le32 16 = ap (take (length (le32 16))) behind ∙ take_at (le32 16) (initial.bindings ++ le32 initial.flags.0) (length (le32 16)) refl in
      le32-again 0 16 octets (omega arith) at

  flags_again : le32_at 20 octets ≡ initial.flags.0
  flags_again =
      let front : length (le32 16 ++ initial.bindings) ≡ 20 = let b = length-append (le32 16) initial.bindings in omega (arith, b, sized, length-le32 16) in
      let cut : drop 20 octets ≡ le32 initial.flags.0 = drop_at (le32 16 ++ initial.bindings) (le32 initial.flags.0) 20 front in
      let at : Stands (part 20 (le32 initial.flags.0)) octets =
      ap (take (length (le32 initial.flags.0))) cut ∙ take_all (length (le32 initial.flags.0)) (le32 initial.flags.0) (omega arith) in
      let below : initial.flags.0 < 2 ^ 32 = grind (arith, nat_tests) in
      le32-again 20 initial.flags.0 octets below at

  bindings_again : take 16 (drop 4 octets) ≡ initial.bindings
  bindings_again =
      let cut : drop 4 octets ≡ initial.bindings ++ le32 initial.flags.0 = ap (drop 4) behind ∙ drop_at (le32 16) (initial.bindings ++ le32 initial.flags.0) 4 (length-le32 16) in
      ap (take 16) cut ∙ take_at initial.bindings (le32 initial.flags.0) 16 sized

  read_again : initial_sum octets ≡ Ok initial
  read_again =
      let short : nat_lt (length octets) 24 ≡ false = grind (arith, nat_tests, long) in
      let same : not (le32_at 0 octets == 16) ≡ false = ap not (eq-eqb (le32_at 0 octets) 16 size_again) in
      let whole : record { bindings = take 16 (drop 4 octets); flags = record { 0 = le32_at 20 octets } } ≡ initial =
      λ i. record { bindings = bindings_again i; flags = record { 0 = flags_again i } } in
      read_past (nat_lt (length octets) 24) (not (le32_at 0 octets == 16)) _ short same ∙ ap Ok whole

-- the first sequence number
number_again : (number : ℕ) → number < 4294967296 → first_number (Some (pos number)) ≡ Ok number
number_again number below = let fits : nat_lt number 4294967296 ≡ true = grind (arith, nat_tests) in numbered_past (nat_lt number 4294967296) number fits

-- the key
key_again : (suite : CipherSuite) (key : Bytes) (session : EncryptionKey) → length key ≡ cipher_key_size suite
    → context_key (Some (encryption_key suite key)) session ≡ Ok (record { suite = suite; bytes = key })
key_again suite key session sized = keyed_past (suite_of (encryption_key suite key)) suite key (suite_of_sized (encryption_key suite key) suite refl sized)

own_key_again : (session : EncryptionKey) (suite : CipherSuite) (words : Random) → suite_of session ≡ Some suite
    → own_key session words ≡ Ok (record { suite = suite; bytes = reply_subkey suite words })
own_key_again session suite words found =
    ap (λ (o : Option CipherSuite). or_refused {A = KeyRecord} (option_map (λ (s : CipherSuite). record { suite = s; bytes = reply_subkey s words }) o) UnknownKey) found

-- an admission whose parts are judged so
judged_past : {J : Type 0} (make : InitialChecksum → ContextRecord → J) (i : Result InitialChecksum AcceptRefusal) (bind : InitialChecksum → Result InitialChecksum AcceptRefusal) (n : Result ℕ AcceptRefusal) (under : InitialChecksum → ℕ → Result ContextRecord AcceptRefusal) (initial : InitialChecksum) (number : ℕ) (context : ContextRecord)
    → i ≡ Ok initial → bind initial ≡ Ok initial → n ≡ Ok number → under initial number ≡ Ok context
    → then_judged i (λ a. then_judged (bind a) (λ b. then_judged n (λ c. then_judged (under b c) (λ d. Ok (make b d))))) ≡ Ok (make initial context)
judged_past {J} make i bind n under initial number context a b c d =
    let last : then_judged (under initial number) (λ it. Ok (make initial it)) ≡ Ok (make initial context) =
    ap (λ (r : Result ContextRecord AcceptRefusal). then_judged r (λ it. Ok (make initial it))) d in
    rw (a, b, c) last

-- an end of such a key
under_past : (k : Result KeyRecord AcceptRefusal) (key : KeyRecord) (terms : ContextTerms) → k ≡ Ok key → is_newer key.suite ≡ true
    → then_judged k (λ it. context_in it terms) ≡ Ok (context_of key Acceptor terms)
under_past k key terms a b =
    ap (λ (r : Result KeyRecord AcceptRefusal). then_judged r (λ it. context_in it terms)) a ∙ newer_past (is_newer key.suite) (context_of key Acceptor terms) b

-- the context's key: the acceptor's subkey, or else the client's
abbrev pub end_key_by : GssLogin → Bool → KeyRecord
end_key_by login true = record { suite = login.credential.suite; bytes = reply_subkey login.credential.suite login.service_words }
end_key_by login false = record { suite = login.credential.suite; bytes = own_subkey login }

-- the AP-REP has a subkey
abbrev pub sends : GssLogin → Bool → Bool
sends login has_reply = has_reply && login.terms.with_subkey

-- the acceptor's first number
abbrev pub acceptor_number : GssLogin → Bool → ℕ
acceptor_number login has_reply = sending_number (sends login has_reply) has_reply login.service_words (nonce_of login.words)

-- the acceptor's end, of a ticket with this endtime
abbrev pub acceptor_end : GssLogin → GeneralizedTime → Bool → ContextRecord
acceptor_end login endtime has_reply = record {
  key = end_key_by login (sends login has_reply);
  side = Acceptor;
  acceptor_subkey = sends login has_reply;
  in_sequence = is_set login.initial.flags.0 8;
  ends = Some (seconds_of endtime * 1000000 + login.service.seen.skew);
  sending = acceptor_number login has_reply;
  taking = nonce_of login.words;
}

module _ (login : GssLogin) (asking : IsAsking login) where
  pub is_low : nat_le 64 login.initial.flags.0 ≡ false
  is_low = (offered_parts _ (nat_le 64 login.initial.flags.0) (is_newer login.credential.suite) asking.offered).0

  pub is_undelegated : is_set login.initial.flags.0 1 ≡ false
  is_undelegated = offered_alone (is_set login.initial.flags.0 1) (nat_le 64 login.initial.flags.0) (is_newer login.credential.suite) asking.offered

  pub is_newer_suite : is_newer login.credential.suite ≡ true
  is_newer_suite = (offered_parts _ (nat_le 64 login.initial.flags.0) (is_newer login.credential.suite) asking.offered).1

  pub subkey_sized : length (own_subkey login) ≡ cipher_key_size login.credential.suite
  subkey_sized =
      let suite = login.credential.suite in
      let room : cipher_seed_size suite ≤ length (drop 32 login.words) = omega (arith, asking.enough, seed_below suite, length-drop 32 login.words) in
      seed_key_sized suite (subkey_seed (cipher_seed_size suite) login.words) (length-take-le (cipher_seed_size suite) (drop 32 login.words) room)

  pub reply_subkey_sized : 64 ≤ length login.service_words → length (reply_subkey login.credential.suite login.service_words) ≡ cipher_key_size login.credential.suite
  reply_subkey_sized enough =
      let suite = login.credential.suite in
      let room : cipher_seed_size suite ≤ length (drop 32 login.service_words) = omega (arith, enough, seed_below suite, length-drop 32 login.service_words) in
      seed_key_sized suite (subkey_seed (cipher_seed_size suite) login.service_words) (length-take-le (cipher_seed_size suite) (drop 32 login.service_words) room)

  pub end_key_newer : (own : Bool) → is_newer (end_key_by login own).suite ≡ true
  end_key_newer true = is_newer_suite
  end_key_newer false = is_newer_suite

  end_key_again : (own : Bool) (admission : AdmissionRecord) → admission.subkey ≡ Some (encryption_key login.credential.suite (own_subkey login))
      → suite_of admission.session ≡ Some login.credential.suite → end_key own login.service_words admission ≡ Ok (end_key_by login own)
  end_key_again true admission subkey session = own_key_again admission.session login.credential.suite login.service_words session
  end_key_again false admission subkey session =
      ap (λ (k : Option EncryptionKey). context_key k admission.session) subkey ∙ key_again login.credential.suite (own_subkey login) admission.session subkey_sized

  -- what is admitted with its authenticator is judged to be the acceptor's end
  pub judged_so : IsAnswering login.terms login.initial login.service_words → (shown : Presented) (reply : Option Bytes) (second : GeneralizedTime) → shown.authenticator ≡ own_authenticator login second
      → suite_of shown.part.key.0 ≡ Some login.credential.suite
      → judged login.terms login.service.seen.skew login.service_words (admission_of shown reply) ≡ Ok (record { initial = login.initial; context = acceptor_end login shown.part.endtime.0.0 (is_some reply) })
  judged_so answering shown reply second same session =
      let shows : Presented → AdmissionRecord = λ p. admission_of p reply in
      let own : Presented = record shown { authenticator = own_authenticator login second } in
      let admission : AdmissionRecord = shows own in
      let under : InitialChecksum → ℕ → Result ContextRecord AcceptRefusal = λ initial number. context_under login.service_words admission (end_terms login.terms login.service.seen.skew login.service_words admission initial.flags number) in
      let end : ContextTerms = end_terms login.terms login.service.seen.skew login.service_words admission login.initial.flags (nonce_of login.words) in
      let key = end_key_again (sends login (is_some reply)) admission refl session in
      let ends : under login.initial (nonce_of login.words) ≡ Ok (acceptor_end login shown.part.endtime.0.0 (is_some reply)) =
      under_past (end_key (sends login (is_some reply)) login.service_words admission) (end_key_by login (sends login (is_some reply))) end key (end_key_newer (sends login (is_some reply))) in
      let made = judged_past {J = Judged} (λ a d. record { initial = a; context = d }) (initial_in admission.checksum) (bound_by login.terms.bindings) (first_number admission.seq_number) under login.initial (nonce_of login.words)
      (acceptor_end login shown.part.endtime.0.0 (is_some reply))
      (read_again login.initial asking.hashed is_low) answering.bound (number_again (nonce_of login.words) (omega arith)) ends in
      subst
      (λ (a : AuthenticatorInner). judged login.terms login.service.seen.skew login.service_words (shows (record shown { authenticator = a })) ≡ Ok (record { initial = login.initial; context = acceptor_end login shown.part.endtime.0.0 (is_some reply) }))
      (sym same) made
