-- To what is acceptable there is a reply.
use Rattle.std.proofs.Common.{◌≡◌, ◌<◌, ◌≤◌, ℕ, Bool, true, false, List, length, take, nat_lt, Option, None, Some, refl, inl, inr, arith}
use Rattle.std.specs.Prelude.{ℤ, pos, negsuc}
use Rattle.std.proofs.lemmas.Bool.{cases_lt}
use Rattle.std.proofs.lemmas.List.{length-take-le}
use Rattle.asn1_der.specs.Tree.{der}
use Rattle.asn1_leaves.specs.GeneralizedTime.{seconds_of}
use Rattle.block_ciphers.specs.Bytes.{IsBytes}
use Rattle.block_ciphers.proofs.States.{IsBytes-take}
use Rattle.krb_crypto.specs.Suites.{cipher_confounder_size, cipher_key_size}
use Rattle.krb_crypto.specs.declared.suite.CipherSuite.{CipherSuite}
use Rattle.krb_crypto.proofs.AllSuites.{confounder_below}
use Rattle.krb_crypto.proofs.SealedTexts.{has_sealed}
use Rattle.krb_messages.specs.declared.data_types.authenticator.AuthenticatorInner.{AuthenticatorInner}
use Rattle.krb_time.specs.Times.{moment_at}
use Rattle.krb_ap_requests.specs.Acceptable.{IsAcceptable, presented_of}
use Rattle.krb_tickets.specs.Sealing.{encrypted_by}
use Rattle.krb_service.specs.ApReply.{IsReply, IsReplyTo, ap_rep_of, ap_rep_part}
use Rattle.krb_ap_requests.specs.Entry.{EntryRecord}
use Rattle.krb_messages.specs.Messages.{enc_ap_rep_part_tree, ap_rep_tree}
use Rattle.krb_ap_requests.specs.Presents.{Choice}
use Rattle.krb_tickets.proofs.KeySizes.{suite_sized}
use Rattle.krb_service.proofs.Short.{part_bytes}

-- the microseconds of a time are part of a second
micros_of : (second : ℕ) (told : ℤ) (time : ℕ) → moment_at second told ≡ Some time → (micros : ℕ) × (told ≡ pos micros) × (micros < 1000000)
micros_of second (negsuc n) time e = absurd (cc (e))
micros_of second (pos micros) time e =
    elim (cases_lt micros 1000000) [
      | inl few ↦ (micros, refl, few)
      | inr many ↦ (let past : nat_lt micros 1000000 ≡ false = grind (arith, many) in let none = rw past at e in absurd (cc (none)))
    ]

-- the first of sixteen random bytes
first_block : (suite : CipherSuite) (words : List ℕ) → 16 ≤ length words → length (take (cipher_confounder_size suite) words) ≡ cipher_confounder_size suite
first_block suite words long = length-take-le (cipher_confounder_size suite) words (omega (arith, long, confounder_below suite))

has_wanted : (wanted : Bool) (words : List ℕ) (suite : CipherSuite) (key : List ℕ) (authenticator : AuthenticatorInner) → length key ≡ cipher_key_size suite → IsBytes key
    → 16 ≤ length words → IsBytes words → IsBytes (der (enc_ap_rep_part_tree (ap_rep_part authenticator))) → (reply : Option (List ℕ)) × IsReply wanted words suite key authenticator reply
has_wanted false words suite key authenticator sized key_bytes long words_bytes part = (None, refl)
has_wanted true words suite key authenticator sized key_bytes long words_bytes part =
    let size = cipher_confounder_size suite in
    let made = has_sealed suite key 12 (take size words) (der (enc_ap_rep_part_tree (ap_rep_part authenticator))) sized key_bytes (first_block suite words long) (IsBytes-take size words words_bytes) part in
    let part = encrypted_by suite None made.0 in
    (Some (der (ap_rep_tree (ap_rep_of part))), record { part = part; sealed = record { cipher = made.0; seals = made.1; told = refl }; encoding = refl })

pub has_reply_to : (entry : EntryRecord) (skew moment : ℕ) (choice : Choice) (words : List ℕ) (x : IsAcceptable entry skew moment choice)
    → IsBytes choice.part.key.0.key_value.0 → 16 ≤ length words → IsBytes words → (reply : Option (List ℕ)) × IsReplyTo (presented_of choice x.suite x.time) words reply
has_reply_to entry skew moment choice words x key_bytes long words_bytes =
    let micros = micros_of (seconds_of choice.authenticator.ctime.0.0) choice.authenticator.cusec.0 x.time x.ctime in
    let part = part_bytes choice.authenticator micros.0 micros.1 micros.2 in
    let shown = presented_of choice x.suite x.time in
    has_wanted shown.wants_reply words x.suite choice.part.key.0.key_value.0 choice.authenticator (suite_sized choice.part.key.0 x.suite x.session) key_bytes long words_bytes part
