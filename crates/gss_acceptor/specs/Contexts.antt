-- The acceptor's end of a context (RFC 4121, sections 2, 4.1.1 and 4.2).
use Rattle.std.specs.Prelude.{ℕ, ◌+◌, ◌-◌, ◌*◌, ◌&&◌, is_some, nat_lt, Bool, true, false, Option, None, Some, Result, Ok, Err, if◌then◌else◌, ℤ, pos, negsuc}
use Rattle.std.specs.Option.{option_map}
use Rattle.asn1_leaves.specs.GeneralizedTime.{seconds_of}
use Rattle.krb_time.specs.Units.{Micros}
use Rattle.krb_crypto.specs.Keys.{KeyRecord}
use Rattle.krb_tickets.specs.Keys.{key_in, suite_of}
use Rattle.krb_messages.specs.RandomBytes.{Random}
use Rattle.krb_messages.specs.declared.data_types.encryption_key.EncryptionKey.{EncryptionKey}
use Rattle.krb_service.specs.Admission.{AdmissionRecord}
use Rattle.krb_service.specs.ApReply.{reply_number, reply_subkey}
use Rattle.krb_service.specs.declared.reply.ReplyFields.{ReplyFields}
use Rattle.krb_service.specs.declared.reply.ReplyFields.TheVariants.{TimeAlone, SubkeyAndNumber}
use Rattle.gss_contexts.specs.Contexts.{ContextRecord, context_of, is_newer}
use Rattle.gss_contexts.specs.Tokens.{is_set}
use Rattle.gss_contexts.specs.declared.side.Side.TheVariants.{Acceptor}
use Rattle.gss_contexts.specs.declared.terms.ContextTerms.{ContextTerms}
use Rattle.gss_acceptor.specs.declared.context_flags.TheConstants.{SEQUENCE}
use Rattle.gss_acceptor.specs.declared.checksum.ContextFlags.{ContextFlags}
use Rattle.gss_acceptor.specs.declared.terms.AcceptorTerms.{AcceptorTerms}
use Rattle.gss_acceptor.specs.declared.refusal.AcceptRefusal.{AcceptRefusal}
use Rattle.gss_acceptor.specs.declared.refusal.AcceptRefusal.TheVariants.{BadSequenceNumber, UnknownKey, OldSuite}

-- a value, or the refusal
abbrev pub or_refused : {A : Type 0} → Option A → AcceptRefusal → Result A AcceptRefusal
or_refused (Some a) refusal = Ok a
or_refused None refusal = Err refusal

-- a number of 32 bits (UInt32 of RFC 4120, section 5.2.4). Some write one of 2^31 and more as the negative number of the same 32 bits
abbrev pub number_of : ℤ → Option ℕ
number_of (pos n) = if nat_lt n 4294967296 then Some n else None
number_of (negsuc n) = if nat_lt n 2147483648 then Some (4294967295 - n) else None

-- the initiator's first sequence number
abbrev pub first_number : Option ℤ → Result ℕ AcceptRefusal
first_number None = Ok 0
-- The initiator's first sequence number has 32 bits, also where it is written as the negative number of these bits. It is 0 where the
-- authenticator has none (RFC 4120, section 5.5.1). Test: `Refused after the admission.`, `Octets after the flags, which aren't read.`,
-- `No subkey,`.
first_number (Some number) = or_refused (number_of number) BadSequenceNumber

-- what an AP-REP has beside the time
abbrev pub fields_of : AcceptorTerms → ReplyFields
fields_of terms = if terms.with_subkey then SubkeyAndNumber else TimeAlone

-- Without a subkey of the acceptor, the context's key is the initiator's subkey, or else the session key (RFC 4121, section 2). Test:
-- `A subkey of another suite`, `No subkey,`.
abbrev pub context_key : Option EncryptionKey → EncryptionKey → Result KeyRecord AcceptRefusal
-- The type and length of the key that the client chose are a suite's (RFC 3961, section 3). Test: `Refused after the admission.`.
context_key (Some subkey) session = or_refused (key_in subkey) UnknownKey
context_key None session = or_refused (key_in session) UnknownKey

-- the acceptor's subkey: of the session key's suite, and of the random bytes
abbrev pub own_key : EncryptionKey → Random → Result KeyRecord AcceptRefusal
own_key session words = or_refused (option_map (λ suite. record { suite = suite; bytes = reply_subkey suite words }) (suite_of session)) UnknownKey

-- the key of the acceptor's end
abbrev pub end_key : Bool → Random → AdmissionRecord → Result KeyRecord AcceptRefusal
end_key false words admission = context_key admission.subkey admission.session
-- The context's key is the acceptor's subkey where the AP-REP has one, whatever the initiator's is (RFC 4121, section 2). Test: `A subkey
-- of the acceptor`.
end_key true words admission = own_key admission.session words

-- the AP-REP has a subkey: there is an AP-REP, and the terms say so
abbrev pub sends_subkey : AcceptorTerms → AdmissionRecord → Bool
sends_subkey terms admission = is_some admission.reply && terms.with_subkey

-- The acceptor's own numbers begin at that of its AP-REP. They begin at 0 where it has none, and without an AP-REP at the initiator's first
-- number (RFC 4120, section 5.5.2). Test: `get_mic ok`, `A subkey of the acceptor`.
abbrev pub sending_number : Bool → Bool → Random → ℕ → ℕ
sending_number true has_reply words number = reply_number words
sending_number false true words number = 0
sending_number false false words number = number

-- The acceptor's end takes each sequence number in turn where the initiator's flag 8 asks for sequencing (RFC 4121, section 4.1.1.1).
-- Test: `unwrap Gap`.
-- The acceptor's end of a context is over by the clock skew after the ticket's endtime (RFC 4120, section 3.2.3). Test: `check_end
-- ContextExpired`.
abbrev pub end_terms : AcceptorTerms → Micros → Random → AdmissionRecord → ContextFlags → ℕ → ContextTerms
end_terms terms skew words admission flags number = record {
  acceptor_subkey = sends_subkey terms admission;
  in_sequence = is_set flags.0 SEQUENCE;
  ends = Some (seconds_of admission.endtime * 1000000 + skew);
  numbers = record { sending = sending_number (sends_subkey terms admission) (is_some admission.reply) words number; taking = number };
}

-- the acceptor's end of a context under this key, or that the key's suite is refused
abbrev pub context_in : KeyRecord → ContextTerms → Result ContextRecord AcceptRefusal
context_in key terms =
    if is_newer key.suite then Ok (context_of key Acceptor terms)
    -- The key is of a suite of AES: triple DES has the tokens of RFC 1964 (RFC 4121, section 1). Test: `Refused after the admission.`.
    else Err OldSuite
