-- How a value is written behind an octet: as an element that holds the octet and the value's spelling.
use Rattle.std.proofs.Common.{◌≡◌, ℕ, ◌+◌, ◌^◌, ◌≤◌, false, List, [], ◌∷◌, length, Option, None, inr, refl, sym, ap, subst, ◌∙◌, arith}
use Rattle.asn1_der.specs.Tree.{Tree, der, wrapped, behind}
use Rattle.asn1_der.specs.Length.{element, length_octets}
use Rattle.asn1_der.proofs.Elements.{length-element}
use Rattle.asn1_der.specs.declared.error.Asn1DerError.{Asn1DerError}
use Rattle.asn1_der.specs.declared.error.Asn1DerError.TheVariants.{Memory}
use Rattle.asn1_der.specs.declared.error.Unsupported.{Unsupported}
use Rattle.asn1_codec.specs.Writing.{Writing, Wrote, NotWrote, WroteValue, NotWroteValue, halted}
use Rattle.asn1_codec.proofs.Writes.{wrote-as, wrote-join, wrote-nothing, notwrote-as, notwrote-before, notwrote-after, notwrote-refusal, notwrote-too_long, value-after, element-header, element-size, element-not_written, der-behind_some}

-- a value that is written as something and that its type doesn't refuse; `inside` is the length of the content
module _ (r : Option Unsupported) (tag octet : ℕ) (t : Tree) (inside : ℕ) (none : r ≡ None) (some : length (der t) ≡ 0 → ⊥) (size : inside ≡ 1 + length (der t)) where
  spelled : der (behind octet (wrapped tag t)) ≡ element tag (octet ∷ der t)
  spelled = der-behind_some tag octet t some

  held : length (octet ∷ der t) ≡ inside
  held = omega (arith, size)

  -- no number says how long the content is
  pub behind-too_long : (old new : Writing) (e : Asn1DerError) → old.failed ≡ false → 2 ^ 64 ≤ inside → new ≡ halted old → e ≡ Memory
      → NotWroteValue r (der (behind octet (wrapped tag t))) old new e
  behind-too_long old new e sound long is fault =
      inr (notwrote-too_long r [] (der (behind octet (wrapped tag t))) old old new e (wrote-nothing old sound) (0, refl)
      (omega (arith, long, held, ap length spelled, length-element tag (octet ∷ der t))) is fault)

  not_element : (old new : Writing) (e : Asn1DerError) → NotWrote r (element tag (octet ∷ der t)) old new e → NotWroteValue r (der (behind octet (wrapped tag t))) old new e
  not_element old new e failed = inr (notwrote-as r (element tag (octet ∷ der t)) (der (behind octet (wrapped tag t))) old new e (sym spelled) failed)

  -- the header failed
  pub behind-header : (old mid new : Writing) (e : Asn1DerError) → mid ≡ old → ((content : List ℕ) → length content ≡ inside → NotWrote None (element tag content) mid new e)
      → NotWroteValue r (der (behind octet (wrapped tag t))) old new e
  behind-header old mid new e is failed =
      not_element old new e (notwrote-refusal None r (element tag (octet ∷ der t)) old new e (λ _. none)
      (subst (λ w. NotWrote None (element tag (octet ∷ der t)) w new e) is (failed (octet ∷ der t) held)))

  not_content : (old mid new : Writing) (e : Asn1DerError) → Wrote (tag ∷ length_octets inside) old mid → NotWrote r (octet ∷ der t) mid new e
      → NotWroteValue r (der (behind octet (wrapped tag t))) old new e
  not_content old mid new e header failed =
      not_element old new e (element-not_written r tag (octet ∷ der t) inside old new e held
      (notwrote-after r (tag ∷ length_octets inside) (octet ∷ der t) old mid new e header failed))

  -- the octet failed
  pub behind-octet : (old mid new : Writing) (e : Asn1DerError) → Wrote (tag ∷ length_octets inside) old mid → NotWrote None (octet ∷ []) mid new e
      → NotWroteValue r (der (behind octet (wrapped tag t))) old new e
  behind-octet old mid new e header failed =
      not_content old mid new e header (notwrote-before r (octet ∷ []) (der t) mid new e (notwrote-refusal None r (octet ∷ []) mid new e (λ _. none) failed))

  -- the value failed
  pub behind-value : (old mid low new : Writing) (e : Asn1DerError) → Wrote (tag ∷ length_octets inside) old mid → Wrote (octet ∷ []) mid low → NotWroteValue r (der t) low new e
      → NotWroteValue r (der (behind octet (wrapped tag t))) old new e
  behind-value old mid low new e header put failed =
      not_content old mid new e header (value-after r (octet ∷ []) (der t) mid low new e put none failed)

  pub behind-wrote : (old mid low new : Writing) (whole : ℕ) → Wrote (tag ∷ length_octets inside) old mid → whole ≡ 1 + length (length_octets inside) + inside
      → Wrote (octet ∷ []) mid low → Wrote (der t) low new → WroteValue r (der (behind octet (wrapped tag t))) old new whole
  behind-wrote old mid low new whole header sum put wrote = (
    wrote-as (element tag (octet ∷ der t)) (der (behind octet (wrapped tag t))) old new (sym spelled)
        (element-header tag (octet ∷ der t) inside old mid new header held (wrote-join (octet ∷ []) (der t) mid low new put wrote)),
    element-size tag (octet ∷ der t) inside whole held sum ∙ ap length (sym spelled),
    none,
  )
