-- When bytes begin as a token does, and else what is first wrong with them (RFC 4121, section 4.2.6).
use Rattle.std.specs.Prelude.{ℕ, List, length, take, drop, slice_index, Result, Ok, Err, not, ◌&&◌, nat_le, nat_lt, nat_eq, bytes_eq, if◌then◌else◌}
use Rattle.std.specs.declared.io.ErrorKind.{ErrorKind}
use Rattle.krb_constants.specs.declared.gss_api.TheConstants.{MIC_FILLER, MIC_TOKEN_ID, WRAP_FILLER, WRAP_TOKEN_ID}
use Rattle.gss_contexts.specs.declared.message_tokens.kind.TheConstants.{HEADER_LEN}
use Rattle.gss_contexts.specs.declared.message_tokens.kind.TokenKind.{TokenKind}
use Rattle.gss_contexts.specs.declared.message_tokens.kind.TokenKind.TheVariants.{Mic, Wrap}
use Rattle.gss_contexts.specs.declared.message_tokens.error.GssApiMessageError.{GssApiMessageError}
use Rattle.gss_contexts.specs.declared.message_tokens.error.GssApiMessageError.TheVariants.{InvalidId, IoError, InvalidMicFiller, InvalidWrapFiller}

-- TOK_ID, octets 0 and 1
abbrev pub id_of : TokenKind → List ℕ
id_of Mic = MIC_TOKEN_ID
id_of Wrap = WRAP_TOKEN_ID

-- octets 3 to 7 of a MIC token
abbrev pub mic_filler : List ℕ
mic_filler = MIC_FILLER

-- nothing is wrong, or this is
abbrev pub Verdict : Type 0
Verdict = Result (Unit {0}) GssApiMessageError

-- the verdict on a token's id: a fault if it is there and isn't the one of this kind (RFC 4121, section 4.2.6)
abbrev pub id_judged : TokenKind → List ℕ → Verdict
id_judged kind whole =
    if nat_le 2 (length whole) && not (bytes_eq (take 2 whole) (id_of kind)) then Err (InvalidId (id_of kind) (take 2 whole)) else Ok tt

-- the verdict on a MIC token's filler: a fault if it is there and isn't all FF (RFC 4121, section 4.2.6.1)
abbrev pub mic_filler_judged : List ℕ → Verdict
mic_filler_judged whole =
    if nat_le 8 (length whole) && not (bytes_eq (take 5 (drop 3 whole)) mic_filler) then Err (InvalidMicFiller (take 5 (drop 3 whole))) else Ok tt

-- the verdict on a wrap token's filler: a fault if it is there and isn't FF (RFC 4121, section 4.2.6.2)
abbrev pub wrap_filler_judged : List ℕ → Verdict
wrap_filler_judged whole =
    if nat_le 4 (length whole) && not (nat_eq (slice_index whole 3) WRAP_FILLER) then Err (InvalidWrapFiller (slice_index whole 3)) else Ok tt

-- the verdict on the filler of a token of this kind
abbrev pub filler_judged : TokenKind → List ℕ → Verdict
filler_judged Mic = mic_filler_judged
filler_judged Wrap = wrap_filler_judged

-- a header that isn't all there: `short` says why
abbrev pub length_judged : ErrorKind → List ℕ → Verdict
length_judged short whole = if nat_lt (length whole) HEADER_LEN then Err (IoError short) else Ok tt

-- the first fault, or else the second
abbrev pub or_else : Verdict → Verdict → Verdict
or_else (Ok _) next = next
or_else (Err e) next = Err e

-- A wrong TOK_ID (InvalidId) comes before a wrong filler (InvalidMicFiller, InvalidWrapFiller), and this before fewer than 16 octets
-- (RFC 4121, section 4.2.6). Test: `refusals` of `tokens.rt`.
abbrev pub judged : TokenKind → ErrorKind → List ℕ → Verdict
judged kind short whole = or_else (id_judged kind whole) (or_else (filler_judged kind whole) (length_judged short whole))
