-- Which octets are a token of a message (RFC 4121, sections 4.2.2 to 4.2.6).
use Rattle.std.specs.Prelude.{◌≡◌, ℕ, ◌-◌, ◌%◌, ◌^◌, ◌<◌, List, ◌∷◌, ◌++◌, length, take, drop, Bool, true, false, not, nat_eq}
use Rattle.std.specs.Int.{cast_unsigned, w32}
use Rattle.std.specs.Int.Bits.{bit_and}
use Rattle.krb_crypto.specs.Sealing.{IsSealedBy, checksum_of}
use Rattle.krb_crypto.specs.Suites.{cipher_checksum}
use Rattle.krb_crypto.specs.Keys.{KeyRecord}
use Rattle.krb_constants.specs.declared.key_usages.TheConstants.{ACCEPTOR_SEAL, ACCEPTOR_SIGN, INITIATOR_SEAL, INITIATOR_SIGN}
use Rattle.krb_constants.specs.declared.gss_api.TheConstants.{ACCEPTOR_SUBKEY, SEALED, SENT_BY_ACCEPTOR}
use Rattle.gss_contexts.specs.declared.message_tokens.kind.TheConstants.{HEADER_LEN}
use Rattle.gss_contexts.specs.MessageTokens.{IsMicToken, IsWrapToken}
use Rattle.gss_contexts.specs.declared.sender.Sender.{Sender}
use Rattle.gss_contexts.specs.declared.side.Side.{Side}
use Rattle.gss_contexts.specs.declared.side.Side.TheVariants.{Initiator, Acceptor}
use Rattle.gss_contexts.specs.declared.side.Protection.{Protection}
use Rattle.gss_contexts.specs.declared.side.Protection.TheVariants.{Sealed, Checksum}

-- the key usage of the wrap tokens that a side sends (RFC 4121, section 2)
abbrev pub seal_usage : Side → ℕ
seal_usage Initiator = cast_unsigned w32 INITIATOR_SEAL
seal_usage Acceptor = cast_unsigned w32 ACCEPTOR_SEAL

-- the key usage of the MIC tokens that a side sends (RFC 4121, section 2)
abbrev pub sign_usage : Side → ℕ
sign_usage Initiator = cast_unsigned w32 INITIATOR_SIGN
sign_usage Acceptor = cast_unsigned w32 ACCEPTOR_SIGN

-- Whether the side is the acceptor, whose tokens have the flag SentByAcceptor (RFC 4121, section 4.2.2).
abbrev pub is_acceptor : Side → Bool
is_acceptor Initiator = false
is_acceptor Acceptor = true

abbrev pub is_sealed : Protection → Bool
is_sealed Sealed = true
is_sealed Checksum = false

-- the flag is set in the octet of flags
abbrev pub is_set : ℕ → ℕ → Bool
is_set flags flag = not (nat_eq (bit_and flags flag) 0)

-- the flag, or none
abbrev pub flag_if : Bool → ℕ → ℕ
flag_if true flag = flag
flag_if false flag = 0

-- the flags are the sender's (section 4.2.2). Other flags are ignored
pub record IsMarked (sender : Sender) (confidential : Bool) (flags : ℕ) : Type 0 where
  pub by_acceptor : is_set flags SENT_BY_ACCEPTOR ≡ is_acceptor sender.side
  pub sealed : is_set flags SEALED ≡ confidential
  pub under_subkey : is_set flags ACCEPTOR_SUBKEY ≡ sender.acceptor_subkey

-- the checksum under a key (RFC 3961, section 5.4)
abbrev pub sum_of : KeyRecord → ℕ → List ℕ → List ℕ
sum_of key usage text = checksum_of (cipher_checksum key.suite) key.bytes usage text

-- a MIC token: its checksum is over the message and the token's header (sections 4.2.4 and 4.2.6.1)
pub record IsMicOf (sender : Sender) (number : ℕ) (message token : List ℕ) : Type 0 where
  pub flags : ℕ
  pub marked : IsMarked sender false flags
  pub laid : IsMicToken (record {
    flags = flags;
    seq_num = number;
    checksum = sum_of sender.key (sign_usage sender.side) (message ++ take HEADER_LEN token);
  }) token

-- a token's header with RRC zero
abbrev pub header_without_rrc : List ℕ → List ℕ
header_without_rrc token = take 6 token ++ (0 ∷ 0 ∷ take 8 (drop 8 token))

-- a token's header with EC and RRC zero
abbrev pub header_without_counts : List ℕ → List ℕ
header_without_counts token = take 4 token ++ (0 ∷ 0 ∷ 0 ∷ 0 ∷ take 8 (drop 8 token))

-- the text, rotated to the right by that many octets (section 4.2.5)
unfoldable pub rotated_right : ℕ → List ℕ → List ℕ
rotated_right count text =
    drop (length text - count % length text) text ++ take (length text - count % length text) text

-- the data with confidentiality: message, filler of EC octets and header, encrypted after a confounder (RFC 4121, section 4.2.4)
pub record IsSealedText (sender : Sender) (ec : ℕ) (confounder message token text : List ℕ) : Type 0 where
  pub filler : List ℕ
  pub counted : length filler ≡ ec
  pub sealed : IsSealedBy sender.key.suite sender.key.bytes (seal_usage sender.side) confounder (message ++ (filler ++ header_without_rrc token)) text

-- the data without confidentiality: message, and checksum of EC octets over message and header (RFC 4121, section 4.2.4)
pub record IsSummedText (sender : Sender) (ec : ℕ) (message token text : List ℕ) : Type 0 where
  pub sum : List ℕ
  pub is_sum : sum ≡ sum_of sender.key (seal_usage sender.side) (message ++ header_without_counts token)
  pub counted : length sum ≡ ec
  pub carried : text ≡ message ++ sum

-- the data of a message. Without confidentiality there is no confounder
abbrev pub Carries : Sender → Protection → ℕ → List ℕ → List ℕ → List ℕ → List ℕ → Type 0
Carries sender Sealed ec confounder message token text = IsSealedText sender ec confounder message token text
Carries sender Checksum ec confounder message token text = IsSummedText sender ec message token text

-- a wrap token: its header is followed by the data, rotated to the right by RRC (section 4.2.6.2)
pub record IsWrapOf (sender : Sender) (number : ℕ) (protection : Protection) (confounder message token : List ℕ) : Type 0 where
  pub flags : ℕ
  pub marked : IsMarked sender (is_sealed protection) flags
  pub ec : ℕ
  pub ec_fits : ec < 2 ^ 16
  pub rrc : ℕ
  pub rrc_fits : rrc < 2 ^ 16
  pub text : List ℕ
  pub carries : Carries sender protection ec confounder message token text
  pub laid : IsWrapToken (record {
    flags = flags;
    ec = ec;
    rrc = rrc;
    seq_num = number;
    checksum = rotated_right rrc text;
  }) token

-- what an end writes: the reserved flags are clear, a wrap token isn't rotated, and a sealed one has no filler
pub record WritesMic (sender : Sender) (number : ℕ) (message token : List ℕ) : Type 0 where
  pub made : IsMicOf sender number message token
  pub clear : made.flags < 8

-- The wrap token that an end writes: no reserved flag, a right rotation count of 0, and no filler octets where it is sealed (RFC 4121,
-- section 4.2.6.2).
pub record WritesWrap (sender : Sender) (number : ℕ) (protection : Protection) (confounder message token : List ℕ) : Type 0 where
  pub made : IsWrapOf sender number protection confounder message token
  pub clear : made.flags < 8
  pub in_place : made.rrc ≡ 0
  pub unfilled : is_sealed protection ≡ true → made.ec ≡ 0
