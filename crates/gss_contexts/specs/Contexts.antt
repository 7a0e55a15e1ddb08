-- One end of a context, and who protects a token (RFC 4121, section 4.2).
use Rattle.std.specs.Prelude.{◌≡◌, ◌+◌, ◌&&◌, ℕ, Bool, true, false, Option, None, Some, Result, Ok, Err, nat_eq, nat_lt, if◌then◌else◌}
use Rattle.krb_time.specs.Units.{Micros}
use Rattle.krb_crypto.specs.Keys.{KeyRecord}
use Rattle.krb_crypto.specs.declared.suite.CipherSuite.{CipherSuite}
use Rattle.krb_crypto.specs.declared.suite.CipherSuite.TheVariants.{Des3CbcSha1Kd}
use Rattle.gss_contexts.specs.declared.refusal.TokenRefusal.{TokenRefusal}
use Rattle.gss_contexts.specs.declared.refusal.TokenRefusal.TheVariants.{ContextExpired, NumbersUsedUp}
use Rattle.gss_contexts.specs.declared.sender.Sender.{Sender}
use Rattle.gss_contexts.specs.declared.side.Side.{Side}
use Rattle.gss_contexts.specs.declared.side.Side.TheVariants.{Initiator, Acceptor}
use Rattle.gss_contexts.specs.declared.terms.ContextTerms.{ContextTerms}

-- an end: the key, its side, and whether the key is the acceptor's subkey; whether no number may be left out; the last moment at which it
-- isn't over, if it has an end; the number of its next token, and the least number that it takes
pub record ContextRecord : Type 0 where
  pub key : KeyRecord
  pub side : Side
  pub acceptor_subkey : Bool
  pub in_sequence : Bool
  pub ends : Option Micros
  pub sending : ℕ
  pub taking : ℕ

-- an end with this key, on these terms
abbrev pub context_of : KeyRecord → Side → ContextTerms → ContextRecord
context_of key side terms = record {
  key = key;
  side = side;
  acceptor_subkey = terms.acceptor_subkey;
  in_sequence = terms.in_sequence;
  ends = terms.ends;
  sending = terms.numbers.sending;
  taking = terms.numbers.taking;
}

-- Past its end a context is refused, if it has one (RFC 2743, section 1.2.1.1, GSS_S_CONTEXT_EXPIRED). Test: `check_end ContextExpired`,
-- `check_end ok` of `first_tokens.txt`.
-- A context that has no end is never over. Test: `check_end ok` of `initiators.txt`.
abbrev pub lasting : Option Micros → Micros → Result (Unit {0}) TokenRefusal
lasting None moment = Ok tt
lasting (Some end) moment = if nat_lt end moment then Err ContextExpired else Ok tt

-- numbers are in sequence, and a token of this number leaves some out
abbrev pub is_gap : ContextRecord → ℕ → Bool
is_gap c number = c.in_sequence && nat_lt c.taking number

-- in sequence the number is the next one
abbrev pub IsInOrder : ContextRecord → ℕ → Type 0
IsInOrder c number = c.in_sequence ≡ true → number ≡ c.taking

-- The side of the other end of a context.
abbrev pub other_side : Side → Side
other_side Initiator = Acceptor
other_side Acceptor = Initiator

-- who protects the tokens that an end sends, and those that it takes
abbrev pub sender_of : ContextRecord → Sender
sender_of c = record { key = c.key; side = c.side; acceptor_subkey = c.acceptor_subkey }

-- who protects the tokens that the other end sends
abbrev pub peer_of : Sender → Sender
peer_of s = record { key = s.key; side = other_side s.side; acceptor_subkey = s.acceptor_subkey }

-- Who protects the tokens that an end takes: the other side, under the same key.
abbrev pub peer : ContextRecord → Sender
peer c = peer_of (sender_of c)

-- the suite has these tokens: triple DES has those of RFC 1964
abbrev pub is_newer : CipherSuite → Bool
is_newer Des3CbcSha1Kd = false
is_newer suite = true

-- the last number of 64 bits
abbrev pub last_number : ℕ
last_number = 18446744073709551615

-- the next number
abbrev pub next_of : ℕ → Result ℕ TokenRefusal
next_of number = if nat_eq number last_number then Err NumbersUsedUp else Ok (number + 1)
