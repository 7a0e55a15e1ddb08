-- Tokens of messages that ends of contexts wrote. No one else forged what protects one (RFC 4121, section 4.2).
use Rattle.std.specs.Prelude.{◌≡◌, ◌<◌, ◌++◌, ℕ, List, take}
use Rattle.picky_asn1.specs.Bytes.{Bytes}
use Rattle.krb_authenticity.specs.Among.{IsAmong}
use Rattle.gss_contexts.specs.Contexts.{last_number}
use Rattle.gss_contexts.specs.Tokens.{IsMicOf, IsWrapOf, WritesMic, WritesWrap, header_without_counts}
use Rattle.gss_contexts.specs.declared.sender.Sender.{Sender}
use Rattle.gss_contexts.specs.declared.side.Protection.{Protection}
use Rattle.gss_contexts.specs.declared.side.Protection.TheVariants.{Checksum, Sealed}

-- a wrap token: who wrote it, its number, its protection, its message, and its octets
pub record WrapRecord : Type 0 where
  pub sender : Sender
  pub number : ℕ
  pub protection : Protection
  pub confounder : Bytes
  pub message : Bytes
  pub token : Bytes

-- a MIC token
pub record MicRecord : Type 0 where
  pub sender : Sender
  pub number : ℕ
  pub message : Bytes
  pub token : Bytes

-- an end wrote the token
pub record IsWrapWritten (wrap : WrapRecord) : Type 0 where
  pub writes : WritesWrap wrap.sender wrap.number wrap.protection wrap.confounder wrap.message wrap.token
  pub followed : wrap.number < last_number

pub record IsMicWritten (mic : MicRecord) : Type 0 where
  pub writes : WritesMic mic.sender mic.number mic.message mic.token
  pub followed : mic.number < last_number

-- ---- who made what protects a token

-- an end with this key, on this side, sealed this text in a token that it wrote
pub record IsSealedByEnd (wraps : List WrapRecord) (sender : Sender) (text : Bytes) : Type 0 where
  pub wrap : WrapRecord
  pub among : IsAmong wrap wraps
  pub is_written : IsWrapWritten wrap
  pub keyed : wrap.sender.key ≡ sender.key
  pub sided : wrap.sender.side ≡ sender.side
  pub protected : wrap.protection ≡ Sealed
  pub same : text ≡ is_written.writes.made.text

-- or made the checksum over this text: a message and the header behind it
pub record IsSummedByEnd (wraps : List WrapRecord) (sender : Sender) (covered : Bytes) : Type 0 where
  pub wrap : WrapRecord
  pub among : IsAmong wrap wraps
  pub is_written : IsWrapWritten wrap
  pub keyed : wrap.sender.key ≡ sender.key
  pub sided : wrap.sender.side ≡ sender.side
  pub protected : wrap.protection ≡ Checksum
  pub same : covered ≡ wrap.message ++ header_without_counts wrap.token

-- or the checksum of a MIC token
pub record IsMicByEnd (mics : List MicRecord) (sender : Sender) (covered : Bytes) : Type 0 where
  pub mic : MicRecord
  pub among : IsAmong mic mics
  pub is_written : IsMicWritten mic
  pub keyed : mic.sender.key ≡ sender.key
  pub sided : mic.sender.side ≡ sender.side
  pub same : covered ≡ mic.message ++ take 16 mic.token

-- ---- the premise

-- what opens of the token as one of this sender's, or verifies, an end with that key and side made, and no one else
pub record IsWrapUnforged (wraps : List WrapRecord) (sender : Sender) (token : Bytes) : Type 0 where
  pub sealed : (number : ℕ) (confounder message : Bytes) (is : IsWrapOf sender number Sealed confounder message token) → IsSealedByEnd wraps sender is.text
  pub summed : (number : ℕ) (confounder message : Bytes) → IsWrapOf sender number Checksum confounder message token
      → IsSummedByEnd wraps sender (message ++ header_without_counts token)

abbrev pub IsMicUnforged : List MicRecord → Sender → Bytes → Bytes → Type 0
IsMicUnforged mics sender message token = (number : ℕ) → IsMicOf sender number message token → IsMicByEnd mics sender (message ++ take 16 token)

-- ---- what follows

-- an end with this key, on this side, wrapped this message with this number and protection
pub record IsWrapped (wraps : List WrapRecord) (sender : Sender) (number : ℕ) (protection : Protection) (message : Bytes) : Type 0 where
  pub wrap : WrapRecord
  pub among : IsAmong wrap wraps
  pub is_written : IsWrapWritten wrap
  pub keyed : wrap.sender.key ≡ sender.key
  pub sided : wrap.sender.side ≡ sender.side
  pub under_subkey : wrap.sender.acceptor_subkey ≡ sender.acceptor_subkey
  pub same_number : wrap.number ≡ number
  pub same_protection : wrap.protection ≡ protection
  pub same_message : wrap.message ≡ message

-- or made a MIC of it
pub record IsMicMade (mics : List MicRecord) (sender : Sender) (number : ℕ) (message : Bytes) : Type 0 where
  pub mic : MicRecord
  pub among : IsAmong mic mics
  pub is_written : IsMicWritten mic
  pub keyed : mic.sender.key ≡ sender.key
  pub sided : mic.sender.side ≡ sender.side
  pub under_subkey : mic.sender.acceptor_subkey ≡ sender.acceptor_subkey
  pub same_number : mic.number ≡ number
  pub same_message : mic.message ≡ message
