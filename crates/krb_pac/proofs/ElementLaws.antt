-- The PACs of elements of authorization data, one element after another.
use Rattle.std.proofs.Common.{◌≡◌, ℕ, suc, ◌+◌, ◌<◌, ◌≤◌, List, [], ◌∷◌, ◌++◌, length, get_or, drop, Ok, Err, refl, ap, sym, subst, ◌∙◌, append_assoc, append-nil, arith}
use Rattle.std.proofs.lemmas.List.{drop_more, drop_all}
use Rattle.krb_messages.specs.declared.data_types.authorization_data.AuthorizationDataInner.{AuthorizationDataInner}
use Rattle.krb_pac.specs.declared.error.PacFault.TheVariants.{Twice}
use Rattle.krb_pac.specs.AuthorizationData.{ElementHas, ElementsHave, sole_pac}

-- whatever the elements from here on have, all elements have it behind these PACs; and what all have, some of it is what these have
pub record HasSoFar (elements left : List AuthorizationDataInner) (pacs : List (List ℕ)) : Type 0 where
  pub whole : (behind : List (List ℕ)) → ElementsHave left behind → ElementsHave elements (pacs ++ behind)
  pub part : (all : List (List ℕ)) → ElementsHave elements all → (behind : List (List ℕ)) × ElementsHave left behind

pub so-far-begin : (elements : List AuthorizationDataInner) (pacs : List (List ℕ)) → pacs ≡ [] → HasSoFar elements elements pacs
so-far-begin elements pacs none =
    subst (λ (l : List (List ℕ)). HasSoFar elements elements l) (sym none) (record { whole = λ behind has. has; part = λ all has. (all, has) })

-- the elements from this index on, by the first of them
so-far-at : (elements : List AuthorizationDataInner) (i : ℕ) (element : AuthorizationDataInner) (pacs : List (List ℕ)) → i < length elements
    → element ≡ get_or elements i element → HasSoFar elements (drop i elements) pacs → HasSoFar elements (element ∷ drop (i + 1) elements) pacs
so-far-at elements i element pacs inside is so_far =
    subst (λ (l : List AuthorizationDataInner). HasSoFar elements l pacs)
    (drop_more elements i element inside ∙ ap (λ (e : AuthorizationDataInner). e ∷ drop (i + 1) elements) (sym is)) so_far

-- one element more
pub so-far-more : (elements : List AuthorizationDataInner) (i : ℕ) (element : AuthorizationDataInner) (pacs more here : List (List ℕ)) → i < length elements
    → element ≡ get_or elements i element → ElementHas element here → more ≡ pacs ++ here → HasSoFar elements (drop i elements) pacs
    → HasSoFar elements (drop (i + 1) elements) more
so-far-more elements i element pacs more here inside is has grown so_far =
    let step = so-far-at elements i element pacs inside is so_far in
    record {
      whole = λ behind has_behind.
          subst (λ (l : List (List ℕ)). ElementsHave elements l) (sym (append_assoc pacs here behind) ∙ ap (λ (l : List (List ℕ)). l ++ behind) (sym grown))
          (step.whole (here ++ behind) (here, behind, has, has_behind, refl));
      part = λ all has_all. let behind = step.part all has_all in (behind.1.1, behind.1.3);
    }

-- an element that has no PACs, since it is no encoding: then no PACs are those of all
pub so-far-refused : (elements : List AuthorizationDataInner) (i : ℕ) (element : AuthorizationDataInner) (pacs : List (List ℕ)) → i < length elements
    → element ≡ get_or elements i element → ((here : List (List ℕ)) → ElementHas element here → ⊥) → HasSoFar elements (drop i elements) pacs
    → (all : List (List ℕ)) → ElementsHave elements all → ⊥
so-far-refused elements i element pacs inside is none so_far all has_all =
    let step = so-far-at elements i element pacs inside is so_far in
    let behind = step.part all has_all in
    none behind.1.0 behind.1.2

-- all elements
pub so-far-done : (elements : List AuthorizationDataInner) (i : ℕ) (pacs : List (List ℕ)) → length elements ≤ i → HasSoFar elements (drop i elements) pacs
    → ElementsHave elements pacs
so-far-done elements i pacs past so_far =
    let step : HasSoFar elements [] pacs = subst (λ (l : List AuthorizationDataInner). HasSoFar elements l pacs) (drop_all i elements past) so_far in
    subst (λ (l : List (List ℕ)). ElementsHave elements l) (append-nil pacs) (step.whole [] refl)

-- more than one PAC
pub two-pacs : (pacs : List (List ℕ)) → 1 < length pacs → sole_pac pacs ≡ Err Twice
two-pacs [] many = absurd (omega (arith, many))
two-pacs (pac ∷ []) many = absurd (omega (arith, many))
two-pacs (pac ∷ other ∷ pacs) many = refl

-- the last of one PAC at most
pub last-pac : (pacs front : List (List ℕ)) (pac : List ℕ) → pacs ≡ front ++ pac ∷ [] → length pacs ≤ 1 → sole_pac pacs ≡ Ok pac
last-pac pacs [] pac are few = ap sole_pac are
last-pac pacs (first ∷ front) pac are few =
    let many : 1 < length pacs = let size = ap length are ∙ length_of first front pac in omega (arith, size) in
    absurd (omega (arith, many, few))
  where
    length_of : (x : List ℕ) (xs : List (List ℕ)) (y : List ℕ) → length ((x ∷ xs) ++ y ∷ []) ≡ suc (suc (length xs))
    length_of x [] y = refl
    length_of x (z ∷ zs) y = ap suc (length_of z zs y)
