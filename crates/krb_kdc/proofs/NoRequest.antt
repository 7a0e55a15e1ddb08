-- Bytes that begin no request are none.
use Rattle.std.proofs.Common.{◌≡◌, ◌≢◌, ◌==◌, ℕ, true, false, List, ap, sym, arith, ◌∙◌}
use Rattle.std.proofs.lemmas.Bool.{false≢true}
use Rattle.std.proofs.lemmas.Bool.Decides.{nat_tests}
use Rattle.std.specs.Option.{option_map_or}
use Rattle.std.specs.Prelude.{Bool, slice_get}
use Rattle.asn1_der.specs.Length.{element}
use Rattle.krb_messages.specs.declared.messages.kdc_req.KdcReq.{KdcReq}
use Rattle.krb_messages.specs.Messages.{IsAsReq, IsTgsReq}
use Rattle.krb_kdc.specs.Begins.{IsNoRequest, is_request_octet}

-- Whether they begin with the identifier octet of one.
abbrev begins : List ℕ → Bool
begins bytes = option_map_or is_request_octet (slice_get bytes 0) false

as_begins : (bytes : List ℕ) (request : KdcReq) → IsAsReq bytes request → begins bytes ≡ true
unfolding element
as_begins bytes request x = ap begins x.1

tgs_begins : (bytes : List ℕ) (request : KdcReq) → IsTgsReq bytes request → begins bytes ≡ true
unfolding element
tgs_begins bytes request x = ap begins x.1

pub no_request : (bytes : List ℕ) → begins bytes ≡ false → IsNoRequest bytes
no_request bytes none = (λ request x. false≢true (sym none ∙ as_begins bytes request x), λ request x. false≢true (sym none ∙ tgs_begins bytes request x))

pub neither : (octet : ℕ) → octet ≢ 106 → (octet == 108) ≡ false → is_request_octet octet ≡ false
neither octet other none = grind (arith, nat_tests, other, none)
