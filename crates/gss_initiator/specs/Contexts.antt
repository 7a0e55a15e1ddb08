-- The initiator's end of a context (RFC 4121, sections 2 and 4.2).
use Rattle.std.specs.Prelude.{ℕ, ℤ, Bool, true, false, Option, None, Some, Result, Ok, Err, if◌then◌else◌}
use Rattle.std.specs.Option.{option_map}
use Rattle.krb_crypto.specs.Keys.{KeyRecord}
use Rattle.krb_tickets.specs.Keys.{key_in}
use Rattle.krb_messages.specs.declared.data_types.enc_ap_rep_part.EncApRepPartInner.{EncApRepPartInner}
use Rattle.krb_messages.specs.declared.data_types.encryption_key.EncryptionKey.{EncryptionKey}
use Rattle.gss_contexts.specs.Contexts.{ContextRecord, context_of, is_newer}
use Rattle.gss_contexts.specs.declared.terms.SequenceNumbers.{SequenceNumbers}
use Rattle.gss_contexts.specs.declared.side.Side.TheVariants.{Initiator}
use Rattle.gss_acceptor.specs.Contexts.{number_of}
use Rattle.gss_initiator.specs.declared.initiated.Pending.{Pending}
use Rattle.gss_initiator.specs.declared.context.ContextKey.{ContextKey}
use Rattle.gss_initiator.specs.declared.refusal.InitiateRefusal.{InitiateRefusal}
use Rattle.gss_initiator.specs.declared.refusal.InitiateRefusal.TheVariants.{BadSequenceNumber, UnknownKey, OldSuite}

-- what follows a value, or its refusal
abbrev pub then_judged : {A B : Type 0} → Result A InitiateRefusal → (A → Result B InitiateRefusal) → Result B InitiateRefusal
then_judged (Ok a) rest = rest a
then_judged (Err refusal) rest = Err refusal

-- a value, or the refusal
abbrev pub or_refused : {A : Type 0} → Option A → InitiateRefusal → Result A InitiateRefusal
or_refused (Some a) refusal = Ok a
or_refused None refusal = Err refusal

-- The initiator's end of a context is under the context's key, and has no end in time. It takes each number in turn where sequencing was
-- asked for. Test: `An initiator in sequence`, `check_end ok`.
abbrev pub context_in : ContextKey → Bool → SequenceNumbers → Result ContextRecord InitiateRefusal
context_in it in_sequence numbers =
    if is_newer it.key.suite then Ok (context_of it.key Initiator (record {
      acceptor_subkey = it.is_acceptors;
      in_sequence = in_sequence;
      ends = None;
      numbers = numbers;
    }))
    -- The key is of a suite of AES: triple DES has the tokens of RFC 1964 (RFC 4121, section 1). Test: `take OldSuite`.
    else Err OldSuite

-- Without an AP-REP the end is under the initiator's subkey, and the acceptor's numbers begin where the initiator's do. Test: `With an
-- AP-REP, and at once without one.`.
abbrev pub own_context : Pending → Result ContextRecord InitiateRefusal
own_context pending =
    context_in (record { key = pending.key; is_acceptors = false }) pending.in_sequence (record { sending = pending.number; taking = pending.number })

-- the acceptor's first sequence number
abbrev pub acceptor_number : Option ℤ → Result ℕ InitiateRefusal
-- The acceptor's first sequence number is 0 where the AP-REP has none (RFC 4120, sections 5.5.1 and 5.5.2).
-- Test: `With an AP-REP, and at once without one.`.
acceptor_number None = Ok 0
-- The acceptor's first sequence number (seq-number) has 32 bits, also where it is written as the negative number of these bits (RFC 4120,
-- sections 5.5.1 and 5.5.2). Test: `take BadSequenceNumber`, `The acceptor's subkey wins,`.
acceptor_number (Some number) = or_refused (number_of number) BadSequenceNumber

-- the acceptor's key, of an AP-REP that has one
abbrev pub acceptor_key : Option KeyRecord → Result ContextKey InitiateRefusal
-- The acceptor's subkey is a key: its keytype is that of a known suite, and its length that suite's (RFC 4120, section 5.2.9; RFC 3961,
-- section 3). Test: `take UnknownKey`.
acceptor_key None = Err UnknownKey
acceptor_key (Some key) = Ok (record { key = key; is_acceptors = true })

-- the context's key
abbrev pub context_key : KeyRecord → Option EncryptionKey → Result ContextKey InitiateRefusal
context_key own None = Ok (record { key = own; is_acceptors = false })
-- The context's key is the acceptor's subkey where the AP-REP has one, and else the initiator's subkey (RFC 4121, section 2).
-- Test: `The acceptor's subkey wins,`, `With an AP-REP, and at once without one.`.
context_key own (Some subkey) = acceptor_key (key_in subkey)

-- the end that the AP-REP's part makes of a pending one
abbrev pub context_by : Pending → EncApRepPartInner → Result ContextRecord InitiateRefusal
context_by pending part =
    then_judged (acceptor_number (option_map (λ tagged. tagged.0) part.seq_number.0)) (λ number.
    then_judged (context_key pending.key (option_map (λ tagged. tagged.0) part.subkey.0)) (λ key.
    context_in key pending.in_sequence (record { sending = pending.number; taking = number })))
