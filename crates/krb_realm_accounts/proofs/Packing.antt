-- How blocks compare.
use Rattle.std.proofs.Common.{◌≡◌, ℕ, ◌+◌, ◌++◌, List, [], ◌∷◌, refl, ap, ◌∙◌, arith}
use Rattle.std.proofs.lemmas.Bool.Decides.{nat_tests}
use Rattle.std.specs.Ordering.{nat_cmp, ordering_then}
use Rattle.std.specs.declared.cmp.Ordering.{Ordering}
use Rattle.std.specs.declared.cmp.Ordering.TheVariants.{Less, Equal, Greater}
use Rattle.std.specs.Cmp.Lexicographic.{slice_cmp}
use Rattle.krb_realm_accounts.specs.Packed.{packed, packed_text}
use Rattle.picky_asn1.specs.Bytes.{Bytes}

then_then : (a b c : Ordering) → ordering_then a (ordering_then b c) ≡ ordering_then (ordering_then a b) c
then_then Less b c = refl
then_then Equal b c = refl
then_then Greater b c = refl

-- characters compare as they did before one was added, and a zero is below each
end_cmp : (d : ℕ) → nat_cmp 0 (d + 1) ≡ Less
end_cmp d =
    grind (arith, nat_tests)

more_cmp : (c : ℕ) → nat_cmp (c + 1) 0 ≡ Greater
more_cmp c =
    grind (arith, nat_tests)

raised_cmp : (c d : ℕ) → nat_cmp (c + 1) (d + 1) ≡ nat_cmp c d
raised_cmp c d =
    grind (arith, nat_tests)

-- two blocks compare as their first texts, and else as their rests
text_cmp : (t u rest other : Bytes)
    → slice_cmp nat_cmp (packed_text t ++ rest) (packed_text u ++ other) ≡ ordering_then (slice_cmp nat_cmp t u) (slice_cmp nat_cmp rest other)
text_cmp [] [] rest other = refl
text_cmp [] (d ∷ u) rest other = ap (λ o. ordering_then o (slice_cmp nat_cmp rest (packed_text u ++ other))) (end_cmp d)
text_cmp (c ∷ t) [] rest other = ap (λ o. ordering_then o (slice_cmp nat_cmp (packed_text t ++ rest) other)) (more_cmp c)
text_cmp (c ∷ t) (d ∷ u) rest other =
    ap (λ o. ordering_then o (slice_cmp nat_cmp (packed_text t ++ rest) (packed_text u ++ other))) (raised_cmp c d)
    ∙ ap (ordering_then (nat_cmp c d)) (text_cmp t u rest other) ∙ then_then (nat_cmp c d) (slice_cmp nat_cmp t u) (slice_cmp nat_cmp rest other)

before_text : (u rest : Bytes) → slice_cmp nat_cmp [] (packed_text u ++ rest) ≡ Less
before_text [] rest = refl
before_text (d ∷ u) rest = refl

after_text : (t rest : Bytes) → slice_cmp nat_cmp (packed_text t ++ rest) [] ≡ Greater
after_text [] rest = refl
after_text (c ∷ t) rest = refl

-- blocks compare as the lists of their texts
pub packed_cmp : (ts us : List Bytes) → slice_cmp nat_cmp (packed ts) (packed us) ≡ slice_cmp (slice_cmp nat_cmp) ts us
packed_cmp [] [] = refl
packed_cmp [] (u ∷ us) = before_text u (packed us)
packed_cmp (t ∷ ts) [] = after_text t (packed ts)
packed_cmp (t ∷ ts) (u ∷ us) = text_cmp t u (packed ts) (packed us) ∙ ap (ordering_then (slice_cmp nat_cmp t u)) (packed_cmp ts us)
