-- A decision table: a relation with one outcome at most. The first case that holds counts.
use Rattle.std.specs.Prelude.{◌≡◌, ◌⊎◌, Bool, true, false, Option, None, Some, Result, Ok, Err}
use Rattle.decision_tables.specs.One.{IsSole, one_done, one_ask, one_found, one_made, one_then}

-- what the table gives, and that it is one outcome at most
pub record Table (T : Type 0) : Type 1 where
  pub gives : T → Type 0
  pub one : (a b : T) → gives a → gives b → a ≡ b

-- the outcome
abbrev pub done : {T : Type 0} → T → Table T
done x = record { gives = λ r. r ≡ x; one = one_done x }

-- the value with the property, which the following cases read, or what holds where no value has it
abbrev pub ask : {A T : Type 0} (P : A → Type 0) → IsSole P → Table T → (A → Table T) → Table T
ask {A} P sole otherwise rest = record {
  gives = λ r. ((a : A) × P a × (rest a).gives r) ⊎ (((a : A) → P a → ⊥) × otherwise.gives r);
  one = one_ask P sole otherwise.gives otherwise.one (λ a. (rest a).gives) (λ a. (rest a).one);
}

-- what is made of the outcome
abbrev pub as_made : {T U : Type 0} → (T → U) → Table T → Table U
as_made {T} f t = record { gives = λ r. (a : T) × t.gives a × (r ≡ f a); one = one_made f t.gives t.one }

-- the error where the case holds
abbrev pub refuse : {T E : Type 0} → Bool → E → Table (Result T E) → Table (Result T E)
refuse true error rest = done (Err error)
refuse false error rest = rest

-- a value that the following cases read, or the error where there is none
abbrev pub need : {A T E : Type 0} → Option A → E → (A → Table (Result T E)) → Table (Result T E)
need None error rest = done (Err error)
need (Some a) error rest = rest a

-- parts of a table: what the first gives, which the following cases read, or the first one's error
abbrev pub and_then : {A T E : Type 0} → Table (Result A E) → (A → Table (Result T E)) → Table (Result T E)
and_then {A} {T} {E} t rest = record {
  gives = λ r. ((a : A) × t.gives (Ok a) × (rest a).gives r) ⊎ ((error : E) × t.gives (Err error) × (r ≡ Err error));
  one = one_then (λ error. error) t.gives t.one (λ a. (rest a).gives) (λ a. (rest a).one);
}

-- the same, where the first part's errors are of another kind, which this table tells as its own
abbrev pub and_then_told : {A T E F : Type 0} → (E → F) → Table (Result A E) → (A → Table (Result T F)) → Table (Result T F)
and_then_told {A} {T} {E} {F} told t rest = record {
  gives = λ r. ((a : A) × t.gives (Ok a) × (rest a).gives r) ⊎ ((error : E) × t.gives (Err error) × (r ≡ Err (told error)));
  one = one_then told t.gives t.one (λ a. (rest a).gives) (λ a. (rest a).one);
}

-- the value with the property, which is made, and which the following cases read
abbrev pub make : {A T : Type 0} (P : A → Type 0) → IsSole P → (A → Table T) → Table T
make {A} P sole rest = record {
  gives = λ r. (a : A) × P a × (rest a).gives r;
  one = λ r s x y. one_found P (λ a. (rest a).gives) (λ a. (rest a).one) x.0 y.0 (sole x.0 y.0 x.1 y.1) r s x.2 y.2;
}
