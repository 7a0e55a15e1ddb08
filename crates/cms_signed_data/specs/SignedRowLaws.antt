-- A SEQUENCE of five fields of which one deviates alone: the fourth, as the certificate in signed data (RFC 5652, section 5.1).
use Rattle.std.proofs.Common.{◌≡◌, ℕ, ◌+◌, List, [], ◌∷◌, ◌++◌, refl, sym, ap, ◌∙◌, subst, arith}
use Rattle.std.specs.Prelude.{⊤}
use Rattle.asn1_der.specs.Length.{element}
use Rattle.picky_asn1_der.specs.PathLaws.{AreSome, LeadsTo, in_element}
use Rattle.x509_spelling.specs.Spellings.{Holds}
use Rattle.cms_signed_data.specs.SpelledElements.{SpellsElements, Ends, Row, ended, row_some, row_front, row_behind}
use Rattle.asn1_der.specs.Octets.{sequence_octet}

-- a value has one spelling in which nothing deviates
abbrev pub HasOneStrict : {T : Type 0} → (T → List ℕ → ℕ → Type 0) → Type 0
HasOneStrict {T} spells = (v : T) (x y : List ℕ) → spells v x 0 → spells v y 0 → x ≡ y

-- what one element holds has one such spelling too
pub held_strict : {T W : Type 0} (spells : T → List ℕ → ℕ → Type 0) → HasOneStrict spells → (first : ℕ) (held : W → T)
    → HasOneStrict (λ (w : W). Holds first spells (held w))
held_strict spells one first held w x y s t = s.2 ∙ ap (element first) (one (held w) s.0 t.0 s.1 t.1) ∙ sym t.2

-- counts of fields, where one of five has the whole count
none_beside : (n v d e c g r1 r2 r3 r4 r5 : ℕ) → n ≡ v + r1 → r1 ≡ d + r2 → r2 ≡ e + r3 → r3 ≡ c + r4 → r4 ≡ g + r5 → r5 ≡ 0 → c ≡ n
    → (v ≡ 0) × (d ≡ 0) × (e ≡ 0) × (g ≡ 0)
none_beside n v d e c g r1 r2 r3 r4 r5 p1 p2 p3 p4 p5 p6 p7 = (omega arith, omega arith, omega arith, omega arith)

-- where the second of two fields has the whole count, the first has none
pub none_before : (n o t r1 r2 : ℕ) → n ≡ o + r1 → r1 ≡ t + r2 → r2 ≡ 0 → t ≡ n → o ≡ 0
none_before n o t r1 r2 p1 p2 p3 p4 = omega arith

-- the count of a field of five is at most the whole count, and so is that of a field of two
pub whole_count : (n o t r1 r2 v d e c g k1 k2 k3 k4 k5 : ℕ) → n ≡ o + r1 → r1 ≡ t + r2 → r2 ≡ 0
    → t ≡ v + k1 → k1 ≡ d + k2 → k2 ≡ e + k3 → k3 ≡ c + k4 → k4 ≡ g + k5 → k5 ≡ 0 → c ≡ n → (t ≡ n) × (c ≡ t)
whole_count n o t r1 r2 v d e c g k1 k2 k3 k4 k5 p1 p2 p3 q1 q2 q3 q4 q5 q6 whole = (omega arith, omega arith)

module _ {V D E C G : Type 0} (v_spells : V → List ℕ → ℕ → Type 0) (d_spells : D → List ℕ → ℕ → Type 0) (e_spells : E → List ℕ → ℕ → Type 0)
    (c_spells : C → List ℕ → ℕ → Type 0) (g_spells : G → List ℕ → ℕ → Type 0) where
  abbrev pub FiveFields : V × (D × (E × (C × (G × ⊤)))) → List ℕ → ℕ → Type 0
  FiveFields = Holds sequence_octet (Row v_spells (Row d_spells (Row e_spells (Row c_spells (Row g_spells Ends)))))

  module _ (f : V × (D × (E × (C × (G × ⊤))))) where
    -- the path to the fourth
    pub fourth_leads : SpellsElements v_spells → SpellsElements d_spells → SpellsElements e_spells → SpellsElements c_spells → SpellsElements g_spells
        → (b : List ℕ) (n : ℕ) (s : FiveFields f b n) → LeadsTo b (3 ∷ []) s.1.4.4.4.3.0
    fourth_leads v_are d_are e_are c_are g_are b n s =
        let inner = s.1.4.4.4.3.0 in
        let some : AreSome s.1.4.4.4.0 =
        row_some g_spells g_are Ends f.1.1.1.1 s.1.4.4.4.0 s.1.4.4.4.2 s.1.4.4.4.4 (ended f.1.1.1.1.1 s.1.4.4.4.4.0 s.1.4.4.4.4.2 s.1.4.4.4.4.4) in
        in_element sequence_octet s.0 b refl s.2 3 inner
        (row_behind v_spells v_are (Row d_spells (Row e_spells (Row c_spells (Row g_spells Ends)))) f s.0 n s.1 2 inner
        (row_behind d_spells d_are (Row e_spells (Row c_spells (Row g_spells Ends))) f.1 s.1.0 s.1.2 s.1.4 1 inner
        (row_behind e_spells e_are (Row c_spells (Row g_spells Ends)) f.1.1 s.1.4.0 s.1.4.2 s.1.4.4 0 inner
        (row_front c_spells c_are (Row g_spells Ends) f.1.1.1 s.1.4.4.0 s.1.4.4.2 s.1.4.4.4 some))))

    -- two spellings whose fourth field has the whole count and is the same are the same bytes
    pub five_same : HasOneStrict v_spells → HasOneStrict d_spells → HasOneStrict e_spells → HasOneStrict g_spells
        → (a b : List ℕ) (n m : ℕ) (s : FiveFields f a n) (t : FiveFields f b m) → s.1.4.4.4.1 ≡ n → t.1.4.4.4.1 ≡ m → s.1.4.4.4.3.0 ≡ t.1.4.4.4.3.0 → a ≡ b
    five_same one_v one_d one_e one_g a b n m s t cs ct same =
        let zs =
        none_beside n s.1.1 s.1.4.1 s.1.4.4.1 s.1.4.4.4.1 s.1.4.4.4.4.1 s.1.2 s.1.4.2 s.1.4.4.2 s.1.4.4.4.2 s.1.4.4.4.4.2
        s.1.5 s.1.4.5 s.1.4.4.5 s.1.4.4.4.5 s.1.4.4.4.4.5 s.1.4.4.4.4.4.1 cs in
        let zt =
        none_beside m t.1.1 t.1.4.1 t.1.4.4.1 t.1.4.4.4.1 t.1.4.4.4.4.1 t.1.2 t.1.4.2 t.1.4.4.2 t.1.4.4.4.2 t.1.4.4.4.4.2
        t.1.5 t.1.4.5 t.1.4.4.5 t.1.4.4.4.5 t.1.4.4.4.4.5 t.1.4.4.4.4.4.1 ct in
        let v : s.1.3.0 ≡ t.1.3.0 =
        one_v f.0 s.1.3.0 t.1.3.0 (subst (λ (k : ℕ). v_spells f.0 s.1.3.0 k) zs.0 s.1.3.1) (subst (λ (k : ℕ). v_spells f.0 t.1.3.0 k) zt.0 t.1.3.1) in
        let d : s.1.4.3.0 ≡ t.1.4.3.0 =
        one_d f.1.0 s.1.4.3.0 t.1.4.3.0 (subst (λ (k : ℕ). d_spells f.1.0 s.1.4.3.0 k) zs.1 s.1.4.3.1) (subst (λ (k : ℕ). d_spells f.1.0 t.1.4.3.0 k) zt.1 t.1.4.3.1) in
        let e : s.1.4.4.3.0 ≡ t.1.4.4.3.0 =
        one_e f.1.1.0 s.1.4.4.3.0 t.1.4.4.3.0 (subst (λ (k : ℕ). e_spells f.1.1.0 s.1.4.4.3.0 k) zs.2 s.1.4.4.3.1)
        (subst (λ (k : ℕ). e_spells f.1.1.0 t.1.4.4.3.0 k) zt.2 t.1.4.4.3.1) in
        let g : s.1.4.4.4.4.3.0 ≡ t.1.4.4.4.4.3.0 =
        one_g f.1.1.1.1.0 s.1.4.4.4.4.3.0 t.1.4.4.4.4.3.0 (subst (λ (k : ℕ). g_spells f.1.1.1.1.0 s.1.4.4.4.4.3.0 k) zs.3 s.1.4.4.4.4.3.1)
        (subst (λ (k : ℕ). g_spells f.1.1.1.1.0 t.1.4.4.4.4.3.0 k) zt.3 t.1.4.4.4.4.3.1) in
        let end : s.1.4.4.4.4.0 ≡ t.1.4.4.4.4.0 = s.1.4.4.4.4.4.0 ∙ sym t.1.4.4.4.4.4.0 in
        let rest4 : s.1.4.4.4.0 ≡ t.1.4.4.4.0 = s.1.4.4.4.4.3.3 ∙ (λ i. g i ++ end i) ∙ sym t.1.4.4.4.4.3.3 in
        let rest3 : s.1.4.4.0 ≡ t.1.4.4.0 = s.1.4.4.4.3.3 ∙ (λ i. same i ++ rest4 i) ∙ sym t.1.4.4.4.3.3 in
        let rest2 : s.1.4.0 ≡ t.1.4.0 = s.1.4.4.3.3 ∙ (λ i. e i ++ rest3 i) ∙ sym t.1.4.4.3.3 in
        let rest1 : s.1.0 ≡ t.1.0 = s.1.4.3.3 ∙ (λ i. d i ++ rest2 i) ∙ sym t.1.4.3.3 in
        let content : s.0 ≡ t.0 = s.1.3.3 ∙ (λ i. v i ++ rest1 i) ∙ sym t.1.3.3 in
        s.2 ∙ ap (element sequence_octet) content ∙ sym t.2

-- a SEQUENCE of two fields of which the second deviates alone
module _ {O T : Type 0} (o_spells : O → List ℕ → ℕ → Type 0) (t_spells : T → List ℕ → ℕ → Type 0) (f : O × (T × ⊤)) where
  abbrev pub TwoFields : List ℕ → ℕ → Type 0
  TwoFields = Holds sequence_octet (Row o_spells (Row t_spells Ends)) f

  pub second_leads : SpellsElements o_spells → SpellsElements t_spells → (b : List ℕ) (n : ℕ) (s : TwoFields b n) → LeadsTo b (1 ∷ []) s.1.4.3.0
  second_leads o_are t_are b n s =
      in_element sequence_octet s.0 b refl s.2 1 s.1.4.3.0
      (row_behind o_spells o_are (Row t_spells Ends) f s.0 n s.1 0 s.1.4.3.0
      (row_front t_spells t_are Ends f.1 s.1.0 s.1.2 s.1.4 (ended f.1.1 s.1.4.0 s.1.4.2 s.1.4.4)))

  pub two_same : HasOneStrict o_spells → (a b : List ℕ) (n m : ℕ) (s : TwoFields a n) (t : TwoFields b m) → s.1.1 ≡ 0 → t.1.1 ≡ 0 → s.1.4.3.0 ≡ t.1.4.3.0 → a ≡ b
  two_same one_o a b n m s t zs zt same =
      let o : s.1.3.0 ≡ t.1.3.0 =
      one_o f.0 s.1.3.0 t.1.3.0 (subst (λ (k : ℕ). o_spells f.0 s.1.3.0 k) zs s.1.3.1) (subst (λ (k : ℕ). o_spells f.0 t.1.3.0 k) zt t.1.3.1) in
      let end : s.1.4.0 ≡ t.1.4.0 = s.1.4.4.0 ∙ sym t.1.4.4.0 in
      let rest : s.1.0 ≡ t.1.0 = s.1.4.3.3 ∙ (λ i. same i ++ end i) ∙ sym t.1.4.3.3 in
      let content : s.0 ≡ t.0 = s.1.3.3 ∙ (λ i. o i ++ rest i) ∙ sym t.1.3.3 in
      s.2 ∙ ap (element sequence_octet) content ∙ sym t.2
