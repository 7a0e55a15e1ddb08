-- Why each row of a table leaves one outcome at most.
use Rattle.std.specs.Prelude.{◌≡◌, ◌⊎◌, Result, Ok, Err}
use Rattle.std.proofs.Common.{inl, inr, refl, sym, ◌∙◌, ap, subst}

-- no two values have the property
abbrev pub IsSole : {A : Type 0} → (A → Type 0) → Type 0
IsSole {A} P = (a b : A) → P a → P b → a ≡ b

pub one_done : {T : Type 0} (x a b : T) → a ≡ x → b ≡ x → a ≡ b
one_done x a b p q = p ∙ sym q

pub one_found : {A T : Type 0} (P : A → Type 0) (rest : A → T → Type 0) (one : (a : A) (r s : T) → rest a r → rest a s → r ≡ s) (a b : A) → a ≡ b
    → (r s : T) → rest a r → rest b s → r ≡ s
one_found P rest one a b e r s x y = one b r s (subst (λ v. rest v r) e x) y

pub one_ask : {A T : Type 0} (P : A → Type 0) → IsSole P → (otherwise : T → Type 0) → ((r s : T) → otherwise r → otherwise s → r ≡ s)
    → (rest : A → T → Type 0) → ((a : A) (r s : T) → rest a r → rest a s → r ≡ s)
    → (r s : T) → (((a : A) × P a × rest a r) ⊎ (((a : A) → P a → ⊥) × otherwise r))
    → (((a : A) × P a × rest a s) ⊎ (((a : A) → P a → ⊥) × otherwise s)) → r ≡ s
one_ask P sole otherwise one rest rests r s (inl p) (inl q) = one_found P rest rests p.0 q.0 (sole p.0 q.0 p.1 q.1) r s p.2 q.2
one_ask P sole otherwise one rest rests r s (inl p) (inr q) = absurd (q.0 p.0 p.1)
one_ask P sole otherwise one rest rests r s (inr p) (inl q) = absurd (p.0 q.0 q.1)
one_ask P sole otherwise one rest rests r s (inr p) (inr q) = one r s p.1 q.1

pub one_made : {T U : Type 0} (f : T → U) (gives : T → Type 0) → ((a b : T) → gives a → gives b → a ≡ b)
    → (r s : U) → ((a : T) × gives a × (r ≡ f a)) → ((b : T) × gives b × (s ≡ f b)) → r ≡ s
one_made f gives one r s p q = p.2 ∙ ap f (one p.0 q.0 p.1 q.1) ∙ sym q.2

-- both are values and the same one, or both are errors and the same one
abbrev pub AreSame : {A E : Type 0} → Result A E → Result A E → Type 0
AreSame (Ok a) (Ok b) = a ≡ b
AreSame (Ok a) (Err error) = ⊥
AreSame (Err error) (Ok b) = ⊥
AreSame (Err error) (Err other) = error ≡ other

pub same_as_itself : {A E : Type 0} (r : Result A E) → AreSame r r
same_as_itself (Ok a) = refl
same_as_itself (Err error) = refl

pub same_parts : {A E : Type 0} (r s : Result A E) → r ≡ s → AreSame r s
same_parts r s e = subst (λ t. AreSame r t) e (same_as_itself r)

pub one_then : {A T E F : Type 0} (told : E → F) (gives : Result A E → Type 0) → ((a b : Result A E) → gives a → gives b → a ≡ b)
    → (rest : A → Result T F → Type 0) → ((a : A) (r s : Result T F) → rest a r → rest a s → r ≡ s)
    → (r s : Result T F) → (((a : A) × gives (Ok a) × rest a r) ⊎ ((error : E) × gives (Err error) × (r ≡ Err (told error))))
    → (((a : A) × gives (Ok a) × rest a s) ⊎ ((error : E) × gives (Err error) × (s ≡ Err (told error)))) → r ≡ s
one_then told gives one rest rests r s (inl p) (inl q) =
    one_found (λ a. gives (Ok a)) rest rests p.0 q.0 (same_parts (Ok p.0) (Ok q.0) (one (Ok p.0) (Ok q.0) p.1 q.1)) r s p.2 q.2
one_then told gives one rest rests r s (inl p) (inr q) = absurd (same_parts (Ok p.0) (Err q.0) (one (Ok p.0) (Err q.0) p.1 q.1))
one_then told gives one rest rests r s (inr p) (inl q) = absurd (same_parts (Ok q.0) (Err p.0) (one (Ok q.0) (Err p.0) q.1 p.1))
one_then told gives one rest rests r s (inr p) (inr q) =
    p.2 ∙ ap (λ error. Err (told error)) (same_parts (Err p.0) (Err q.0) (one (Err p.0) (Err q.0) p.1 q.1)) ∙ sym q.2
