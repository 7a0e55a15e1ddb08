-- Octets that are put behind one another.
use Rattle.std.proofs.Common.{◌≡◌, ℕ, ◌+◌, ◌%◌, ◌<◌, ◌≤◌, ◌^◌, true, List, [], ◌∷◌, ◌++◌, length, get_or, drop, inl, inr, ap, sym, subst, ◌∙◌, append_assoc, append-nil}
use Rattle.std.proofs.lemmas.List.{drop_more, drop_all}
use Rattle.asn1_leaves.specs.CharSets.{is_general_string}
use Rattle.byte_streams.specs.Numbers.{be16}
use Rattle.krb_file_formats.specs.Numbers.{be32}
use Rattle.krb_file_formats.specs.Entries.{Entry, Fits, TextsFit, counted, texts_bytes, principal_bytes, fixed_bytes}
use Rattle.krb_file_formats.specs.Writing.{FitsName, AreWritable, IsRefusal, Puts, written, record_bytes, records_bytes, keytab_bytes}

-- what refuses a part refuses the whole
pub refusal-of : {E P Q : Type 0} {memory long : E} (e : E) → (Q → P) → IsRefusal memory long P e → IsRefusal memory long Q e
refusal-of e part (inl memory) = inl memory
refusal-of e part (inr (long, wrong)) = inr (long, λ q. wrong (part q))

-- plain octets
pub plain-put : (old new bytes also : List ℕ) → new ≡ old ++ bytes → bytes ≡ also → Puts (λ more. also ++ more) old new
plain-put old new bytes also is same = λ more. ap (λ (l : List ℕ). l ++ more) (is ∙ ap (λ (b : List ℕ). old ++ b) same) ∙ append_assoc old also more

-- the item at an index, and those behind it
pub item-left : {A : Type 0} (ts : List A) (i : ℕ) (t : A) → i < length ts → t ≡ get_or ts i t → drop i ts ≡ t ∷ drop (i + 1) ts
item-left ts i t inside is =
    drop_more ts i t inside ∙ ap (λ x. x ∷ drop (i + 1) ts) (sym is)

-- one text more
pub texts-put : (ts : List (List ℕ)) (i : ℕ) (t octets old to start : List ℕ) → i < length ts → t ≡ get_or ts i t → octets ≡ t → Puts (counted octets) old to
    → ((more : List ℕ) → old ++ texts_bytes (drop i ts) more ≡ start ++ texts_bytes ts more)
    → (more : List ℕ) → to ++ texts_bytes (drop (i + 1) ts) more ≡ start ++ texts_bytes ts more
texts-put ts i t octets old to start inside is same put so_far = λ more.
    let rest = texts_bytes (drop (i + 1) ts) more in
    put rest ∙ ap (λ (l : List ℕ). old ++ counted l rest) same
    ∙ ap (λ (l : List (List ℕ)). old ++ texts_bytes l more) (sym (item-left ts i t inside is)) ∙ so_far more

-- one record more
pub records-put : (es : List Entry) (i : ℕ) (e : Entry) (old to start : List ℕ) → i < length es → e ≡ get_or es i e → Puts (record_bytes e) old to
    → ((more : List ℕ) → old ++ records_bytes (drop i es) more ≡ start ++ records_bytes es more)
    → (more : List ℕ) → to ++ records_bytes (drop (i + 1) es) more ≡ start ++ records_bytes es more
records-put es i e old to start inside is put so_far = λ more.
    put (records_bytes (drop (i + 1) es) more)
    ∙ ap (λ (l : List Entry). old ++ records_bytes l more) (sym (item-left es i e inside is)) ∙ so_far more

-- the count, the realm and the components
pub name-put : (realm : List ℕ) (components : List (List ℕ)) (n : ℕ) (count t0 t1 t2 t3 : List ℕ) → t1 ≡ t0 ++ count → count ≡ be16 n → n ≡ length components
    → Puts (counted realm) t1 t2 → Puts (texts_bytes components) t2 t3 → Puts (principal_bytes realm components) t0 t3
name-put realm components n count t0 t1 t2 t3 is is_count is_n put_realm texts = λ more.
    let rest = texts_bytes components more in
    texts more ∙ put_realm rest ∙ plain-put t0 t1 count (be16 (length components)) is (is_count ∙ ap be16 is_n) (counted realm rest)

-- all of a record
pub body-put : (e : Entry) (realm : List ℕ) (components : List (List ℕ)) (key kvno t0 t1 t2 t3 t4 : List ℕ) → t0 ≡ [] → realm ≡ e.realm → components ≡ e.components
    → Puts (principal_bytes realm components) t0 t1 → Puts (fixed_bytes e (e.kvno % 256)) t1 t2
    → key ≡ e.key → Puts (counted key) t2 t3 → t4 ≡ t3 ++ kvno → kvno ≡ be32 e.kvno → t4 ≡ written e
body-put e realm components key kvno t0 t1 t2 t3 t4 none is_realm are name fixed is_key put_key is is_kvno =
    let last = be32 e.kvno in
    let behind = fixed_bytes e (e.kvno % 256) (counted e.key last) in
    is ∙ ap (λ (l : List ℕ). t3 ++ l) is_kvno ∙ put_key last ∙ ap (λ (l : List ℕ). t2 ++ counted l last) is_key
    ∙ fixed (counted e.key last) ∙ name behind
    ∙ ap (λ (l : List ℕ). l ++ principal_bytes realm components behind) none
    ∙ ap (λ (l : List ℕ). principal_bytes l components behind) is_realm ∙ ap (λ (l : List (List ℕ)). principal_bytes e.realm l behind) are

-- a principal that fits, of an entry that does
pub fits-name : (e : Entry) (realm : List ℕ) (components : List (List ℕ)) → realm ≡ e.realm → components ≡ e.components → Fits e → FitsName realm components
fits-name e realm components is are fits = record {
  count = subst (λ (l : List (List ℕ)). length l < 2 ^ 16) (sym are) fits.count;
  size = subst (λ (l : List ℕ). length l < 2 ^ 16) (sym is) fits.realm.size;
  texts = subst TextsFit (sym are) fits.components;
}

-- an entry that fits
pub fits-of : (e : Entry) (realm : List ℕ) (components : List (List ℕ)) (key : List ℕ) → realm ≡ e.realm → components ≡ e.components → key ≡ e.key
    → FitsName realm components → is_general_string e.realm ≡ true
    → (e.name_type < 2 ^ 32) × (e.timestamp < 2 ^ 32) × (e.etype < 2 ^ 16) × (e.kvno < 2 ^ 32) → length key < 2 ^ 16 → Fits e
fits-of e realm components key is are is_key name characters (name_type, timestamp, etype, kvno) short = record {
  count = subst (λ (l : List (List ℕ)). length l < 2 ^ 16) are name.count;
  realm = record { size = subst (λ (l : List ℕ). length l < 2 ^ 16) is name.size; characters = characters };
  components = subst TextsFit are name.texts;
  name_type = name_type;
  timestamp = timestamp;
  etype = etype;
  key = subst (λ (l : List ℕ). length l < 2 ^ 16) is_key short;
}

-- behind the last record
pub bytes-end : (es : List Entry) (i : ℕ) (bytes : List ℕ) → length es ≤ i
    → ((more : List ℕ) → bytes ++ records_bytes (drop i es) more ≡ be16 1282 ++ records_bytes es more) → (AreWritable (drop i es) → AreWritable es)
    → (bytes ≡ keytab_bytes es) × AreWritable es
bytes-end es i bytes past put fit =
    let none : drop i es ≡ [] = drop_all i es past in
    (sym (append-nil bytes) ∙ ap (λ (l : List Entry). bytes ++ records_bytes l []) (sym none) ∙ put [], fit (subst AreWritable (sym none) tt))

-- a record behind its size
pub record-put : (e : Entry) (n : ℕ) (size body t0 t1 t2 : List ℕ) → body ≡ written e → n ≡ length body → size ≡ be32 n → t1 ≡ t0 ++ size → t2 ≡ t1 ++ body
    → Puts (record_bytes e) t0 t2
record-put e n size body t0 t1 t2 is_body long is_size one two = λ more.
    let is_long : size ≡ be32 (length (written e)) = is_size ∙ ap be32 (long ∙ ap length is_body) in
    plain-put t1 t2 body (written e) two is_body more ∙ plain-put t0 t1 size (be32 (length (written e))) one is_long (written e ++ more)
