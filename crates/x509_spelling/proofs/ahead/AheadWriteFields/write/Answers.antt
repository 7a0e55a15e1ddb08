use Rattle.std.proofs.Common.{◌≡◌, ℕ, List, ◌++◌, Result, subst}
use Rattle.std.specs.Prelude.{Option, MatchResult}
use Rattle.asn1_der.specs.Tree.{Tree, der}
use Rattle.asn1_der.specs.declared.error.Asn1DerError.{Asn1DerError}
use Rattle.asn1_der.specs.declared.error.Unsupported.{Unsupported}
use Rattle.asn1_codec.specs.Writing.{Writing, WroteValue, NotWroteFields}
use Rattle.x509_spelling.proofs.ahead.AheadWriteFields.write.Goals as goal

written_as : {A : Type 0} (tree written : A → Tree) → tree ≡ written → (a : A) (behind : List ℕ) (refusal : Option Unsupported) (old new : Writing) (r : Result ℕ Asn1DerError)
    → MatchResult r (WroteValue refusal (der (tree a) ++ behind) old new) (NotWroteFields refusal (der (tree a) ++ behind) old new)
    → MatchResult r (WroteValue refusal (der (written a) ++ behind) old new) (NotWroteFields refusal (der (written a) ++ behind) old new)
written_as {A} tree written same a behind refusal old new r s =
    subst (λ (t : A → Tree). MatchResult r (WroteValue refusal (der (t a) ++ behind) old new) (NotWroteFields refusal (der (t a) ++ behind) old new)) same s

pub returns : goal.returns
returns g c = written_as g.A.Serialize.tree g.A.Spelled.written g.met.A.Spelled.written_is c.args.self.now.0.now _ _ _ _ _ c.write_field.ensures
