-- How the elements of a list are written one after another.
use Rattle.std.proofs.Common.{◌≡◌, ℕ, suc, ◌+◌, ◌^◌, ◌<◌, ◌≤◌, List, [], ◌∷◌, ◌++◌, length, take, drop, get_or, Option, None, refl, sym, ap, subst, ◌∙◌, arith, append_assoc, length-append, drop-cons}
use Rattle.std.proofs.lemmas.List.{take-append-drop}
use Rattle.asn1_der.specs.Tree.{Tree, der, ders, trees_of}
use Rattle.asn1_der.specs.declared.error.Asn1DerError.{Asn1DerError}
use Rattle.asn1_der.specs.declared.error.Asn1DerError.TheVariants.{Memory}
use Rattle.asn1_der.specs.declared.error.Unsupported.{Unsupported}
use Rattle.asn1_der.specs.Refusals.{refusal_of, refusal_of_list, first_refusal}
use Rattle.asn1_codec.specs.Writing.{Writing, Wrote, NotWroteValue, NotWroteFields, halted}
use Rattle.std.proofs.Common.{inr}
use Rattle.std.proofs.Math.Seq.{take-append_seam}
use Rattle.asn1_codec.proofs.Writes.{wrote-join, fields-first, fields-rest, refusal_of_list-append, refusal_of_list-cons, refusal_of_list-nil, first_refusal-none, notwrote-too_long}

ders-append : {A : Type 0} (tree : A → Tree) (values more : List A) → ders (trees_of tree (values ++ more)) ≡ ders (trees_of tree values) ++ ders (trees_of tree more)
ders-append tree [] more = refl
ders-append tree (value ∷ values) more =
    ap (λ l. der (tree value) ++ l) (ders-append tree values more) ∙ sym (append_assoc (der (tree value)) (ders (trees_of tree values)) (ders (trees_of tree more)))

-- a list in three parts: those before an element, it, and those behind it
parted : {A : Type 0} (items : List A) (i : ℕ) (item : A) → i < length items → get_or items i item ≡ item → items ≡ take i items ++ (item ∷ drop (suc i) items)
parted items i item within is =
    let step : drop i items ≡ item ∷ drop (suc i) items = drop-cons items i item within ∙ ap (λ x. x ∷ drop (suc i) items) is in
    sym (take-append-drop i items) ∙ ap (λ l. take i items ++ l) step

pub listed-refused : {A : Type 0} (tree : A → Tree) (refusal : Option (A → Option Unsupported)) (items : List A) (i : ℕ) (item : A) (old mid new : Writing) (e : Asn1DerError)
    → i < length items → get_or items i item ≡ item → Wrote (ders (trees_of tree (take i items))) old mid → refusal_of_list refusal (take i items) ≡ None
    → NotWroteValue (refusal_of refusal item) (der (tree item)) mid new e
    → NotWroteFields (refusal_of_list refusal items) (ders (trees_of tree items)) old new e
listed-refused tree refusal items i item old mid new e within is wrote none failed =
    let front = take i items in
    let behind = drop (suc i) items in
    let here = fields-first (refusal_of refusal item) (refusal_of_list refusal behind) (der (tree item)) (ders (trees_of tree behind)) mid new e failed in
    let whole = fields-rest (refusal_of_list refusal front) (first_refusal (refusal_of refusal item) (refusal_of_list refusal behind))
    (ders (trees_of tree front)) (der (tree item) ++ ders (trees_of tree behind)) old mid new e wrote none here in
    let parts = parted items i item within is in
    let refusals : first_refusal (refusal_of_list refusal front) (first_refusal (refusal_of refusal item) (refusal_of_list refusal behind)) ≡ refusal_of_list refusal items =
    ap (first_refusal (refusal_of_list refusal front)) (sym (refusal_of_list-cons refusal item behind))
    ∙ sym (refusal_of_list-append refusal front (item ∷ behind)) ∙ ap (refusal_of_list refusal) (sym parts) in
    let bytes : ders (trees_of tree front) ++ (der (tree item) ++ ders (trees_of tree behind)) ≡ ders (trees_of tree items) =
    sym (ders-append tree front (item ∷ behind)) ∙ ap (λ l. ders (trees_of tree l)) (sym parts) in
    subst (λ r. NotWroteFields r (ders (trees_of tree items)) old new e) refusals
    (subst (λ b. NotWroteFields (first_refusal (refusal_of_list refusal front) (first_refusal (refusal_of refusal item) (refusal_of_list refusal behind))) b old new e) bytes whole)

pub listed-none : {A : Type 0} (refusal : Option (A → Option Unsupported)) (front : List A) (item : A) (more : List A) → more ≡ front ++ item ∷ []
    → refusal_of_list refusal front ≡ None → refusal_of refusal item ≡ None → refusal_of_list refusal more ≡ None
listed-none refusal front item more is none also =
    ap (refusal_of_list refusal) is ∙ refusal_of_list-append refusal front (item ∷ [])
    ∙ first_refusal-none (refusal_of_list refusal front) (refusal_of_list refusal (item ∷ [])) none
    (refusal_of_list-cons refusal item [] ∙ first_refusal-none (refusal_of refusal item) (refusal_of_list refusal []) also (refusal_of_list-nil refusal))

-- the elements so far are written, and no number says their length
pub listed-too_long : {A : Type 0} (tree : A → Tree) (refusal : Option (A → Option Unsupported)) (items : List A) (i : ℕ) (item : A) (count size : ℕ)
    (old mid low new : Writing) (e : Asn1DerError)
    → i < length items → get_or items i item ≡ item → Wrote (ders (trees_of tree (take i items))) old mid → count ≡ length (ders (trees_of tree (take i items)))
    → Wrote (der (tree item)) mid low → size ≡ length (der (tree item)) → 2 ^ 64 ≤ count + size → new ≡ halted low → e ≡ Memory
    → NotWroteFields (refusal_of_list refusal items) (ders (trees_of tree items)) old new e
listed-too_long tree refusal items i item count size old mid low new e within is wrote counted also sized long stopped fault =
    let front = ders (trees_of tree (take i items)) in
    let here = der (tree item) in
    let behind = ders (trees_of tree (drop (suc i) items)) in
    let bytes : ders (trees_of tree items) ≡ (front ++ here) ++ behind =
    ap (λ l. ders (trees_of tree l)) (parted items i item within is) ∙ ders-append tree (take i items) (item ∷ drop (suc i) items) ∙ sym (append_assoc front here behind) in
    let part : take (length (front ++ here)) (ders (trees_of tree items)) ≡ front ++ here = ap (take (length (front ++ here))) bytes ∙ take-append_seam (front ++ here) behind in
    inr (notwrote-too_long None (front ++ here) (ders (trees_of tree items)) old low new e (wrote-join front here old mid low wrote also)
    (length (front ++ here), part) (omega (arith, ap length bytes, length-append (front ++ here) behind, length-append front here, counted, sized, long)) stopped fault)
