-- What a definition that nothing meets can't say of its property: that something has it.

-- it can't be that nothing has the property
abbrev pub HasSome : {A : Type 0} → (A → Type 0) → Type 0
HasSome {A} P = ((a : A) → P a → ⊥) → ⊥
