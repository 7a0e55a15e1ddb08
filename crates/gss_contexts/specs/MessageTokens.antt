-- The tokens' tables (RFC 4121, sections 4.2.6.1 and 4.2.6.2).
use Rattle.std.specs.Prelude.{◌≡◌, ℕ, ◌≤◌, List, [], ◌∷◌, length, drop, Vec, Option, option_map}
use Rattle.std.specs.Global.{Global}
use Rattle.byte_streams.specs.Parts.{Part, part, IsLaidOut}
use Rattle.byte_streams.specs.Numbers.{be16, be64}
use Rattle.krb_constants.specs.declared.gss_api.TheConstants.{MIC_FILLER, MIC_TOKEN_ID, WRAP_FILLER, WRAP_TOKEN_ID}
use Rattle.gss_contexts.specs.declared.message_tokens.kind.TheConstants.{HEADER_LEN}
use Rattle.gss_contexts.specs.declared.message_tokens.mic.MicToken.{MicToken}
use Rattle.gss_contexts.specs.declared.message_tokens.wrap.WrapToken.{WrapToken}

-- what a MIC token carries
pub record MicFields : Type 0 where
  pub flags : ℕ
  pub seq_num : ℕ
  pub checksum : List ℕ

-- octets 0 and 1 TOK_ID, 2 flags, 3 to 7 filler, 8 to 15 SND_SEQ
abbrev pub mic_header : MicFields → List Part
mic_header m =
    part 0 MIC_TOKEN_ID ∷ part 2 (m.flags ∷ []) ∷ part 3 MIC_FILLER ∷ part 8 (be64 m.seq_num) ∷ []

-- A MIC token is TOK_ID 04 04, flags, five octets FF, SND_SEQ, and from octet 16 to the end SGN_CKSUM (RFC 4121, section 4.2.6.1).
-- Test: `mic_token` of `tokens.rt`.
pub record IsMicToken (m : MicFields) (whole : List ℕ) : Type 0 where
  pub header : IsLaidOut (mic_header m) whole
  pub long : HEADER_LEN ≤ length whole
  pub checksum : drop HEADER_LEN whole ≡ m.checksum

-- what a wrap token carries
pub record WrapFields : Type 0 where
  pub flags : ℕ
  pub ec : ℕ
  pub rrc : ℕ
  pub seq_num : ℕ
  pub checksum : List ℕ

-- octets 0 and 1 TOK_ID, 2 flags, 3 filler, 4 and 5 EC, 6 and 7 RRC, 8 to 15 SND_SEQ
abbrev pub wrap_header : WrapFields → List Part
wrap_header w =
    part 0 WRAP_TOKEN_ID ∷ part 2 (w.flags ∷ []) ∷ part 3 (WRAP_FILLER ∷ []) ∷ part 4 (be16 w.ec) ∷ part 6 (be16 w.rrc) ∷ part 8 (be64 w.seq_num) ∷ []

-- A wrap token is TOK_ID 05 04, flags, FF, EC, RRC, SND_SEQ, and from octet 16 to the end the data (RFC 4121, section 4.2.6.2). Test:
-- `wrap_token` of `tokens.rt`.
-- Not judged: EC and RRC; nothing is decrypted. Test: `wrap_token` of `tokens.rt`.
pub record IsWrapToken (w : WrapFields) (whole : List ℕ) : Type 0 where
  pub header : IsLaidOut (wrap_header w) whole
  pub long : HEADER_LEN ≤ length whole
  pub checksum : drop HEADER_LEN whole ≡ w.checksum

-- the fields of a MIC token; its payload is neither written nor read
abbrev pub mic_of : MicToken → MicFields
mic_of t = record { flags = t.flags; seq_num = t.seq_num; checksum = t.checksum.items }

-- the fields of a wrap token; its payload is neither written nor read
abbrev pub wrap_of : WrapToken → WrapFields
wrap_of t = record { flags = t.flags; ec = t.ec; rrc = t.rrc; seq_num = t.seq_num; checksum = t.checksum.items }

-- a payload's bytes
abbrev pub payload_of : Option (Vec ℕ Global) → Option (List ℕ)
payload_of payload = option_map (λ v. v.items) payload
