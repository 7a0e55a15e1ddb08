-- Lemmas on the numbered digests
use Rattle.std.proofs.Common.{◌≡◌, ℕ, ◌+◌, List, [], ◌∷◌, ◌++◌, refl, add-one}
use Rattle.sha1.specs.Sha1.{sha1}
use Rattle.krb_crypto.specs.Agreement.{numbered_digests}

pub numbered_digests-none : (x : List ℕ) → [] ≡ numbered_digests x 0
unfolding numbered_digests
numbered_digests-none x = refl

pub numbered_digests-more : (x : List ℕ) (n : ℕ) → numbered_digests x (n + 1) ≡ numbered_digests x n ++ sha1 (n ∷ x)
unfolding numbered_digests
numbered_digests-more x n = rw add-one refl
