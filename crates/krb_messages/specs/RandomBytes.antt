-- Which of a call's random bytes are what. No two things of one message share a byte: a confounder has at most 16 of them, and
-- the seed of a key at most 32, as many as its suite wants (RFC 3961, section 3).
use Rattle.std.specs.Prelude.{ℕ, ◌≤◌, List, length, drop, take}
use Rattle.picky_asn1.specs.Bytes.{Bytes}

-- the random bytes that a caller hands in
abbrev pub Random : Type 0
Random = List ℕ

-- As many random bytes as a client's request takes.
abbrev pub AreEnoughForRequest : Random → Type 0
AreEnoughForRequest words = 96 ≤ length words

-- As many random bytes as a realm's reply takes.
abbrev pub AreEnoughForReply : Random → Type 0
AreEnoughForReply words = 128 ≤ length words

-- As many random bytes as a service's reply takes that has a time alone.
abbrev pub AreEnoughForApReply : Random → Type 0
AreEnoughForApReply words = 16 ≤ length words

-- As many random bytes as a service's reply takes that has a subkey and a first sequence number too.
abbrev pub AreEnoughForSubkey : Random → Type 0
AreEnoughForSubkey words = 64 ≤ length words

-- what begins behind so many bytes, and has so many
abbrev pub random_part : ℕ → ℕ → Random → Bytes
random_part start size words = take size (drop start words)

-- an AS request: the confounder of its encrypted timestamp, of so many bytes, and the bytes of its nonce
abbrev pub timestamp_confounder : ℕ → Random → Bytes
timestamp_confounder = random_part 0

abbrev pub nonce_bytes : Random → Bytes
nonce_bytes = random_part 16 4

-- an AP request, or a TGS request, which has a nonce too: the confounder of its authenticator, and its subkey's seed
abbrev pub authenticator_confounder : ℕ → Random → Bytes
authenticator_confounder = random_part 0

abbrev pub subkey_seed : ℕ → Random → Bytes
subkey_seed = random_part 32

-- a realm's reply: the seed of the session's key, and the confounders of the ticket and of the reply's own part
abbrev pub session_seed : ℕ → Random → Bytes
session_seed = random_part 0

abbrev pub ticket_confounder : ℕ → Random → Bytes
ticket_confounder = random_part 32

abbrev pub reply_confounder : ℕ → Random → Bytes
reply_confounder = random_part 48

-- a service's reply: the confounder of its part
abbrev pub ap_reply_confounder : ℕ → Random → Bytes
ap_reply_confounder = random_part 0
