-- Which tokens an end takes, and what it refuses the others by.
use Rattle.std.specs.Prelude.{◌≡◌, ◌⊎◌, ℕ, ◌+◌, ◌≤◌, ◌<◌, List, length, take, drop, slice_index, Bool, true, false, not, ◌&&◌, nat_le, nat_lt, nat_eq, bytes_eq, Result, Ok, Err, if◌then◌else◌}
use Rattle.std.specs.Bool.{beq}
use Rattle.byte_streams.specs.Numbers.{be16_at, be64, be64_at}
use Rattle.byte_streams.specs.Parts.{part, Stands}
use Rattle.block_ciphers.specs.declared.error.KerberosCryptoError.{KerberosCryptoError}
use Rattle.block_ciphers.specs.declared.error.KerberosCryptoError.TheVariants as crypto
use Rattle.krb_crypto.specs.Sealing.{IsSealedBy}
use Rattle.krb_constants.specs.declared.gss_api.TheConstants.{ACCEPTOR_SUBKEY, MIC_FILLER, MIC_TOKEN_ID, SEALED, SENT_BY_ACCEPTOR, WRAP_FILLER, WRAP_TOKEN_ID}
use Rattle.gss_contexts.specs.declared.message_tokens.kind.TheConstants.{HEADER_LEN}
use Rattle.gss_contexts.specs.Contexts.{ContextRecord, IsInOrder, is_gap, peer, last_number}
use Rattle.gss_contexts.specs.Tokens.{is_acceptor, is_set, rotated_right, seal_usage, Carries, IsMicOf, IsWrapOf}
use Rattle.gss_contexts.specs.declared.refusal.TokenRefusal.{TokenRefusal}
use Rattle.gss_contexts.specs.declared.refusal.TokenRefusal.TheVariants.{NoSuchToken, OwnDirection, OtherKey, OldNumber, Gap, NumbersUsedUp, WrongChecksum, OtherHeader, Memory}
use Rattle.gss_contexts.specs.declared.sender.Sender.{Sender}
use Rattle.gss_contexts.specs.declared.side.Protection.{Protection}
use Rattle.gss_contexts.specs.declared.side.Protection.TheVariants.{Sealed, Checksum}

-- the octets begin as a MIC token does, without the flag Sealed (RFC 4121, section 4.2.6.1)
abbrev pub is_mic : List ℕ → Bool
is_mic token =
    nat_le HEADER_LEN (length token) && bytes_eq (take 2 token) MIC_TOKEN_ID
    && bytes_eq (take 5 (drop 3 token)) MIC_FILLER && not (is_set (slice_index token 2) SEALED)

-- the octets begin as a wrap token does (section 4.2.6.2)
abbrev pub is_wrap : List ℕ → Bool
is_wrap token =
    nat_le HEADER_LEN (length token) && bytes_eq (take 2 token) WRAP_TOKEN_ID && nat_eq (slice_index token 3) WRAP_FILLER

-- The number of a token whose header is the peer's, or the first refusal: of its id and filler, of its direction, of its subkey's flag, and
-- of its number (RFC 4121, section 4.2).
unfoldable pub judged : ContextRecord → Bool → List ℕ → Result ℕ TokenRefusal
judged c is_token token =
    -- The token has its TOK_ID and its filler, and 16 octets or more. A MIC token hasn't the flag Sealed (RFC 4121, sections 4.2.2, 4.2.6.1
    -- and 4.2.6.2). Test: `A foreign id, a wrong filler of the header, a short token.`, `A foreign id, a wrong filler of the header, the
    -- flag Sealed,`.
    if not is_token then Err NoSuchToken
    -- The flag SentByAcceptor names the other side (RFC 4121, section 4.2.2). Test: `unwrap OwnDirection`, `verify_mic OwnDirection`.
    else if beq (is_set (slice_index token 2) SENT_BY_ACCEPTOR) (is_acceptor c.side) then Err OwnDirection
    -- The flag AcceptorSubkey is set if and only if the context's key is the acceptor's subkey (RFC 4121, section 4.2.2). Test: `unwrap
    -- OtherKey`, `verify_mic OtherKey`.
    else if not (beq (is_set (slice_index token 2) ACCEPTOR_SUBKEY) c.acceptor_subkey) then Err OtherKey
    -- The sequence number is the least that is taken, or a higher one: a rule of this stack, since RFC 4121, section 4.2.1, binds the sender
    -- alone. Without sequencing, numbers may be left out. Test: `unwrap OldNumber`, `verify_mic OldNumber`, `Both directions of one context,
    -- with numbers left out.`.
    else if nat_lt (be64_at 8 token) c.taking then Err OldNumber
    -- Where the initiator asked for sequencing, the sequence number is the next one (RFC 2743, section 1.2.3, GSS_S_GAP_TOKEN). Test:
    -- `unwrap Gap`, `verify_mic Gap` of `first_tokens.txt`.
    else if is_gap c (be64_at 8 token) then Err Gap
    -- The sequence number isn't the last of 64 bits, which none follows. Test: `unwrap NumbersUsedUp`, `verify_mic NumbersUsedUp`.
    else if nat_eq (be64_at 8 token) last_number then Err NumbersUsedUp
    else Ok (be64_at 8 token)

-- the header is the peer's, with a number that isn't old, isn't the last, and in sequence is the next one
pub record IsPeersHeader (c : ContextRecord) (token : List ℕ) (number : ℕ) : Type 0 where
  pub by_acceptor : is_set (slice_index token 2) SENT_BY_ACCEPTOR ≡ is_acceptor (peer c).side
  pub under_subkey : is_set (slice_index token 2) ACCEPTOR_SUBKEY ≡ c.acceptor_subkey
  pub is_new : c.taking ≤ number
  pub in_order : IsInOrder c number
  pub followed : number < last_number
  pub stands : Stands (part 8 (be64 number)) token

-- the end takes the MIC token: it is the peer's, with a number that isn't old. The least number is now the next one
pub record TakesMic (c new : ContextRecord) (message token : List ℕ) : Type 0 where
  pub number : ℕ
  pub is_new : c.taking ≤ number
  pub in_order : IsInOrder c number
  pub followed : number < last_number
  pub is_mic_of : IsMicOf (peer c) number message token
  pub moved : new ≡ record c { taking = number + 1 }

-- A MIC token is refused by its header, or else by its checksum (RFC 4121, section 4.2.6.1). Test: `Several faults: the first in the order
-- of the refusals.`, `verify_mic WrongChecksum`.
-- A MIC token's checksum is over the message and then the token's header, under the key and the key usage of its sender (RFC 4121, sections
-- 2 and 4.2.4). Test: `verify_mic WrongChecksum`.
abbrev pub IsMicRefusal : ContextRecord → List ℕ → List ℕ → TokenRefusal → Type 0
IsMicRefusal c message token e =
    (judged c (is_mic token) token ≡ Err e)
    ⊎ ((number : ℕ) × (judged c (is_mic token) token ≡ Ok number)
    × ((e ≡ Memory) ⊎ ((e ≡ WrongChecksum) × (IsMicOf (peer c) number message token → ⊥))))

-- the end takes the wrap token: it is the peer's, of this message and no other, with this number, which isn't old
pub record TakesWrap (c new : ContextRecord) (token : List ℕ) (number : ℕ) (protection : Protection) (message : List ℕ) : Type 0 where
  pub is_new : c.taking ≤ number
  pub in_order : IsInOrder c number
  pub followed : number < last_number
  pub confounder : List ℕ
  pub is_wrap_of : IsWrapOf (peer c) number protection confounder message token
  pub only : (p : Protection) (n : ℕ) (d m : List ℕ) → IsWrapOf (peer c) n p d m token → m ≡ message
  pub moved : new ≡ record c { taking = number + 1 }

-- the protection of a wrap token, by its flag Sealed
abbrev pub protection_of : Bool → Protection
protection_of true = Sealed
protection_of false = Checksum

-- The data after a wrap token's header are rotated to the right by RRC octets, the right rotation count. Any count is undone (RFC 4121,
-- section 4.2.5). Test: `Rotated wrap tokens.`.
abbrev pub IsTextOf : List ℕ → List ℕ → Type 0
IsTextOf token text = rotated_right (be16_at 6 token) text ≡ drop HEADER_LEN token

-- the data are this message's
pub record IsCarried (sender : Sender) (protection : Protection) (confounder message token : List ℕ) : Type 0 where
  pub text : List ℕ
  pub is_text : IsTextOf token text
  pub carries : Carries sender protection (be16_at 4 token) confounder message token text

-- The data are no message's if nothing is encrypted to them under the key, or the checksum differs (WrongChecksum). Nor are they if the
-- plaintext doesn't end with EC octets of filler and the token's header (OtherHeader) (RFC 4121, section 4.2.4). Test: `unwrap
-- WrongChecksum`, `unwrap OtherHeader`.
abbrev pub IsUnread : Sender → Protection → List ℕ → List ℕ → TokenRefusal → Type 0
IsUnread s Sealed token text WrongChecksum =
    (d p : List ℕ) → IsSealedBy s.key.suite s.key.bytes (seal_usage s.side) d p text → ⊥
IsUnread s Sealed token text OtherHeader =
    ((d : List ℕ) × (p : List ℕ) × IsSealedBy s.key.suite s.key.bytes (seal_usage s.side) d p text)
    × ((d m : List ℕ) → Carries s Sealed (be16_at 4 token) d m token text → ⊥)
IsUnread s Checksum token text WrongChecksum = (d m : List ℕ) → Carries s Checksum (be16_at 4 token) d m token text → ⊥
IsUnread s protection token text e = ⊥

-- the data that follow the token's header are no message's, by this refusal
abbrev pub IsUnopened : Sender → Protection → List ℕ → TokenRefusal → Type 0
IsUnopened s protection token e = (text : List ℕ) × IsTextOf token text × IsUnread s protection token text e

-- A wrap token is refused by its header, or else by its data (RFC 4121, section 4.2.6.2). Test: `Several faults: the first in the order of
-- the refusals.`, `unwrap WrongChecksum`, `unwrap OtherHeader`.
abbrev pub IsWrapRefusal : ContextRecord → List ℕ → TokenRefusal → Type 0
IsWrapRefusal c token e =
    (judged c (is_wrap token) token ≡ Err e)
    ⊎ (((number : ℕ) × (judged c (is_wrap token) token ≡ Ok number))
    × ((e ≡ Memory) ⊎ IsUnopened (peer c) (protection_of (is_set (slice_index token 2) SEALED)) token e))

-- the refusal of a token that isn't decrypted
abbrev pub refusal_of : KerberosCryptoError → TokenRefusal
refusal_of crypto.Memory = Memory
refusal_of fault = WrongChecksum
