-- Elements by their bytes.
use Rattle.std.proofs.Common.{◌≡◌, ℕ, List, ◌++◌, [], Result, Ok, Err, IfOk, sym, ap, ◌∙◌}
use Rattle.asn1_der.proofs.Elements.{element-one}
use Rattle.picky_asn1_der.specs.Raw.{Raw}
use Rattle.picky_asn1_der.specs.Splits.{raw_bytes}

-- an element is determined by its bytes
pub same_raw : (raw other : Raw) → raw_bytes raw ≡ raw_bytes other → raw ≡ other
same_raw raw other e =
    let parts = element-one raw.first other.first raw.content other.content [] [] (ap (λ bytes. bytes ++ []) e) in
    λ i. record { first = parts.0 i; content = parts.1 i }

pub made : {E : Type 0} (result : Result Raw E) (bytes : List ℕ) (other : Raw) → bytes ≡ raw_bytes other → IfOk result (λ raw. bytes ≡ raw_bytes raw) → IfOk result (λ raw. raw ≡ other)
made (Ok raw) bytes other e h = same_raw raw other (sym h ∙ e)
made (Err fault) bytes other e h = tt
