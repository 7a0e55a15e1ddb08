use Rattle.asn1_codec.proofs.Chain.{at-exit}
use Rattle.picky_asn1_der.proofs.raw_der.Asn1RawDer.new.Goals as goal

pub returns-in_err-first : goal.returns-in_err-first
returns-in_err-first c =
    at-exit _ _ _ _ c.from_residual.ensures.1 (rw (← c.as_slice.ensures.value) c.in_err-first.ensures)
