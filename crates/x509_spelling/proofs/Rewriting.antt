-- A value is written as the bytes that it was read from exactly where nothing deviates in them.
use Rattle.std.proofs.Common.{◌≡◌, ℕ, List, sym, ap, ◌∙◌, subst}
use Rattle.std.specs.Prelude.{Bool, ◌↔◌}
use Rattle.asn1_der.specs.Tree.{Tree, IsWhole, der}
use Rattle.asn1_der.specs.Firsts.{Firsts}
use Rattle.x509_spelling.specs.Laws.{SpellingLaws}

module _ {T : Type 0} (is_low : Bool) (firsts : Firsts) (written : T → Tree) (spells : T → List ℕ → ℕ → Type 0) (laws : SpellingLaws is_low firsts written spells)
    (tree : T → Tree) (same : tree ≡ written) where
  pub written-strict : (v : T) (items : List ℕ) → items ≡ der (tree v) → IsWhole (tree v) → spells v items 0
  written-strict v items e whole =
      subst (λ (l : List ℕ). spells v l 0) (sym (e ∙ ap (λ (t : T → Tree). der (t v)) same))
      (laws.strict v (subst (λ (t : T → Tree). IsWhole (t v)) same whole))

  pub rewriting : (v : T) (bytes : List ℕ) (n : ℕ) → spells v bytes n → (der (tree v) ≡ bytes) ↔ (n ≡ 0)
  rewriting v bytes n s = (
    λ e. (laws.one v v bytes n 0 s (written-strict v bytes (sym e) (subst (λ (t : T → Tree). IsWhole (t v)) (sym same) (laws.whole v bytes n s)))).1,
    λ none. ap (λ (t : T → Tree). der (t v)) same ∙ sym (laws.only v bytes (subst (λ (k : ℕ). spells v bytes k) none s)),
  )
