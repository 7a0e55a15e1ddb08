-- What reading a whole input says of the input.
use Rattle.std.proofs.Common.{◌≡◌, ◌⊎◌, ℕ, List, Ok, Err, inl, inr, refl}
use Rattle.asn1_der.specs.Tree.{Tree, Writes}
use Rattle.asn1_der.specs.Seen.{Seen}
use Rattle.asn1_der.specs.declared.error.Asn1DerError.{Asn1DerError}
use Rattle.asn1_der.specs.declared.error.Asn1DerError.TheVariants.{Memory}
use Rattle.asn1_codec.specs.Reads.{ReadsWhole}
use Rattle.asn1_codec.proofs.ReadsLemmas.{gives-none}

-- memory wasn't wanting, and no value was read: the input is the spelling of none
pub not_read : {T : Type 0} (seen : Seen T) (tree : T → Tree) (input : List ℕ) (fault : Asn1DerError) → (fault ≡ Memory → ⊥) → ReadsWhole {T = T} seen (Writes tree) input (Err fault)
    → (value : T) → Writes tree value input → ⊥
not_read seen tree input fault enough (inl wanting) value writes = enough (cc (wanting))
not_read seen tree input fault enough (inr reads) value writes = gives-none seen fault value ((reads value).1 writes)

-- what was read is written as the input
pub was_read : {T : Type 0} (seen : Seen T) (tree : T → Tree) (input : List ℕ) (value : T) → ReadsWhole {T = T} seen (Writes tree) input (Ok value) → Writes tree value input
was_read seen tree input value (inl wanting) = absurd (cc (wanting))
was_read seen tree input value (inr reads) = (reads value).0 refl
