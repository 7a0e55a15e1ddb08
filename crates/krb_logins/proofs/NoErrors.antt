-- A message under another application tag is no error (RFC 4120, section 5.10).
use Rattle.std.proofs.Common.{◌≡◌, ℕ, get_or, sym, ap, ◌∙◌}
use Rattle.asn1_der.specs.Length.{element}
use Rattle.picky_asn1.specs.Bytes.{Bytes}
use Rattle.krb_messages.specs.Refusals.{Code}
use Rattle.krb_client.specs.Messages.{IsErrorCode}

same_first : (first other : ℕ) (content rest : Bytes) → element first content ≡ element other rest → first ≡ other
unfolding element
same_first first other content rest e = ap (λ bytes. get_or bytes 0 0) e

pub no_error : (first : ℕ) (content bytes : Bytes) → bytes ≡ element first content → (first ≡ 126 → ⊥) → (code : Code) → IsErrorCode bytes code → ⊥
no_error first content bytes e other code x = other (same_first first 126 content _ (sym e ∙ x.writes.1))
