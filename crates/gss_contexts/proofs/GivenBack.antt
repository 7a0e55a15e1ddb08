-- A token that is laid out in what is left of a source is given back, or there is an excuse.
use Rattle.std.proofs.Common.{◌≡◌, ℕ, ◌^◌, ◌<◌, List, ◌++◌, length, Option, None, Some, IfSome, Result, IsErrAnd, MatchResult, ap, subst, ◌∙◌, append-nil}
use Rattle.std.specs.Io.KnownBytes.{Consumes, IsAtEnd}
use Rattle.std.specs.declared.io.ErrorKind.{ErrorKind}
use Rattle.byte_streams.specs.Numbers.{be16_at, be64_at}
use Rattle.byte_streams.proofs.Exits.{at-exit}
use Rattle.gss_contexts.specs.declared.message_tokens.kind.TokenKind.TheVariants.{Mic, Wrap}
use Rattle.gss_contexts.specs.declared.message_tokens.error.GssApiMessageError.{GssApiMessageError}
use Rattle.gss_contexts.specs.declared.message_tokens.mic.MicToken.{MicToken}
use Rattle.gss_contexts.specs.declared.message_tokens.wrap.WrapToken.{WrapToken}
use Rattle.gss_contexts.specs.MessageTokenRefusals.{IsExcuse, IsRefusal}
use Rattle.gss_contexts.specs.MessageTokens.{MicFields, WrapFields, mic_of, wrap_of, IsMicToken, IsWrapToken}
use Rattle.gss_contexts.proofs.ReadingLaws.{refusal-excuse}
use Rattle.gss_contexts.proofs.MessageTokenLaws.{mic_read, wrap_read, mic-fine, mic-only, wrap-fine, wrap-only}

-- all that was left was consumed
all-consumed : (whole rest bytes : List ℕ) → Consumes (Some whole) (Some rest) bytes → IsAtEnd (Some rest) → whole ≡ bytes
all-consumed whole rest bytes given ends = given ∙ ap (λ (l : List ℕ). bytes ++ l) ends ∙ append-nil bytes

pub mic-excused : (left after : Option (List ℕ)) (r : Result MicToken GssApiMessageError) (e : GssApiMessageError) (old new : ℕ) (last : Option ErrorKind)
    → IsErrAnd r (λ y. y ≡ e) → IfSome left (λ whole. IsRefusal Mic whole after old new last e)
    → IfSome left (λ whole. (m : MicFields) → m.seq_num < 2 ^ 64 → IsMicToken m whole → MatchResult r (λ t. mic_of t ≡ m) (IsExcuse Mic whole after old new last))
mic-excused None after r e old new last exit refusal = tt
mic-excused (Some whole) after r e old new last exit refusal =
    λ m fits is. at-exit r e (λ t. mic_of t ≡ m) (IsExcuse Mic whole after old new last) exit (refusal-excuse Mic whole after last old new e (mic-fine m whole is) refusal)

pub mic-given : (left after : Option (List ℕ)) (header checksum : List ℕ) (n : ℕ) → length header ≡ 16 → n ≡ be64_at 8 header
    → Consumes left after (header ++ checksum) → IsAtEnd after
    → IfSome left (λ whole. (m : MicFields) → m.seq_num < 2 ^ 64 → IsMicToken m whole → mic_read header n checksum ≡ m)
mic-given None after header checksum n size read given ends = tt
mic-given (Some whole) None header checksum n size read given ends = absurd given
mic-given (Some whole) (Some rest) header checksum n size read given ends =
    λ m fits is. mic-only m header checksum n size read fits (subst (IsMicToken m) (all-consumed whole rest (header ++ checksum) given ends) is)

pub wrap-excused : (left after : Option (List ℕ)) (r : Result WrapToken GssApiMessageError) (e : GssApiMessageError) (old new : ℕ) (last : Option ErrorKind)
    → IsErrAnd r (λ y. y ≡ e) → IfSome left (λ whole. IsRefusal Wrap whole after old new last e)
    → IfSome left (λ whole. (w : WrapFields) → w.ec < 2 ^ 16 → w.rrc < 2 ^ 16 → w.seq_num < 2 ^ 64 → IsWrapToken w whole
    → MatchResult r (λ t. wrap_of t ≡ w) (IsExcuse Wrap whole after old new last))
wrap-excused None after r e old new last exit refusal = tt
wrap-excused (Some whole) after r e old new last exit refusal =
    λ w fits_ec fits_rrc fits is. at-exit r e (λ t. wrap_of t ≡ w) (IsExcuse Wrap whole after old new last) exit
    (refusal-excuse Wrap whole after last old new e (wrap-fine w whole is) refusal)

pub wrap-given : (left after : Option (List ℕ)) (header checksum : List ℕ) (e r n : ℕ) → length header ≡ 16
    → e ≡ be16_at 4 header → r ≡ be16_at 6 header → n ≡ be64_at 8 header → Consumes left after (header ++ checksum) → IsAtEnd after
    → IfSome left (λ whole. (w : WrapFields) → w.ec < 2 ^ 16 → w.rrc < 2 ^ 16 → w.seq_num < 2 ^ 64 → IsWrapToken w whole → wrap_read header e r n checksum ≡ w)
wrap-given None after header checksum e r n size read_e read_r read given ends = tt
wrap-given (Some whole) None header checksum e r n size read_e read_r read given ends = absurd given
wrap-given (Some whole) (Some rest) header checksum e r n size read_e read_r read given ends =
    λ w fits_ec fits_rrc fits is. wrap-only w header checksum e r n size read_e read_r read fits_ec fits_rrc fits
    (subst (IsWrapToken w) (all-consumed whole rest (header ++ checksum) given ends) is)
