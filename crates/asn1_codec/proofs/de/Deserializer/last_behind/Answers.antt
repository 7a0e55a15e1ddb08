use Rattle.std.proofs.Common.{◌≡◌, ℕ, ◌+◌, List, [], ◌∷◌, ◌++◌, length, refl, sym, ap, ◌∙◌, arith}
use Rattle.asn1_der.specs.Tree.{der}
use Rattle.asn1_der.proofs.Spelling.{heads, tails}
use Rattle.asn1_codec.specs.Reading.{IsOctet}
use Rattle.asn1_codec.proofs.Chain.{at-exit, refused-front, refused-after, refused-taken, took-as, took-join}
use Rattle.asn1_codec.proofs.de.Deserializer.last_behind.Goals as goal

first_octet : (lead : ℕ) (tail bytes : List ℕ) → bytes ≡ lead ∷ tail → (c d : List ℕ) × IsOctet c × (bytes ≡ c ++ d)
first_octet lead tail bytes is = (lead ∷ [], tail, refl, is)

longer : (lead : ℕ) (tail bytes : List ℕ) → bytes ≡ lead ∷ tail → length bytes ≡ 1 + length tail
longer lead tail bytes is = omega (arith, ap length is)

-- bytes after an octet, where they begin as others do
parted : (lead first : ℕ) (tail bytes rest more : List ℕ) → bytes ≡ lead ∷ tail → bytes ++ rest ≡ (first ∷ []) ++ more → (lead ≡ first) × (tail ++ rest ≡ more)
parted lead first tail bytes rest more is e =
    let both : lead ∷ (tail ++ rest) ≡ first ∷ more = ap (λ l. l ++ rest) (sym is) ∙ e in
    (heads lead first (tail ++ rest) more both, tails lead first (tail ++ rest) more both)

pub returns-in_err-first : goal.returns-in_err-first
returns-in_err-first g c =
    at-exit _ _ _ _ c.from_residual.ensures.1
    (refused-front _ IsOctet _ _ _ c.in_err-first.ensures (λ bytes p. first_octet _ _ bytes p.2))

pub returns-then-first-lead : goal.returns-then-first-lead
returns-then-first-lead g c =
    let first = c.in_ok-first.first in
    refused-taken _ (first ∷ []) _ _ _ _ _ c.in_ok-first.ensures c.refuse.ensures.after c.refuse.ensures.fault tt
    (λ bytes rest more p e within. c.if-first-lead.true (sym (parted _ first _ bytes rest more p.2 e).0))

pub returns-in_err-fields : goal.returns-in_err-fields
returns-in_err-fields g c =
    let first = c.in_ok-first.first in
    let took = c.in_ok-first.ensures in
    at-exit _ _ _ _ c.from_residual-in_err-fields.ensures.1
    (refused-after _ _ (first ∷ []) _ _ _ _ took c.in_err-fields.ensures
    (λ bytes rest more p e within.
    let tail = der (g.T.Serialize.tree p.0) ++ [] in
    let size = longer c.args.lead tail bytes p.2 in
    (tail, rest, ((p.0, tt), p.1, refl, omega (arith, took.limit, p.3, size)), sym (parted _ first tail bytes rest more p.2 e).1, omega (arith, size))))

pub returns : goal.returns
returns g c =
    let parts = c.in_ok-fields.ensures in
    let took = took-as (c.in_ok-first.first ∷ []) _ _ _ (ap (λ x. x ∷ []) c.if-first-lead.false) c.in_ok-first.ensures in
    (parts.0, took-join _ (der (g.T.Serialize.tree c.in_ok-fields.fields.0) ++ []) _ _ _ took parts.1, parts.2)
