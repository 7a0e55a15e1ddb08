-- Octets that are put behind one another.
use Rattle.std.proofs.Common.{◌≡◌, ℕ, ◌+◌, ◌<◌, ◌≤◌, List, [], ◌++◌, length, get_or, drop, refl, ap, sym, subst, ◌∙◌, append-nil}
use Rattle.std.proofs.lemmas.List.{drop_all}
use Rattle.byte_streams.specs.Numbers.{be16}
use Rattle.krb_file_formats.specs.Writing.{Puts}
use Rattle.krb_file_formats.proofs.WritingLaws.{item-left, plain-put}
use Rattle.krb_file_formats.specs.Formats.{Format, AllFit, list_bytes, number16}
use Rattle.krb_file_formats.specs.Caches.{Cache, Credential, IsWritable, Principal, Tag, cache_bytes, credential, header, header_tag, principal}

-- a value that fits was put behind the old octets
abbrev pub IsPut : {A : Type 0} → Format A → A → List ℕ → List ℕ → Type 0
IsPut F a old new = Puts (F.bytes a) old new × F.Fits a

-- one value more
pub list-put : {A : Type 0} (F : Format A) (xs : List A) (i : ℕ) (x : A) (old to start : List ℕ) → i < length xs → x ≡ get_or xs i x → Puts (F.bytes x) old to
    → ((more : List ℕ) → old ++ list_bytes F (drop i xs) more ≡ start ++ list_bytes F xs more)
    → (more : List ℕ) → to ++ list_bytes F (drop (i + 1) xs) more ≡ start ++ list_bytes F xs more
list-put {A = A} F xs i x old to start inside is put so_far = λ more.
    put (list_bytes F (drop (i + 1) xs) more)
    ∙ ap (λ (l : List A). old ++ list_bytes F l more) (sym (item-left xs i x inside is)) ∙ so_far more

-- behind the last value
pub list-end : {A : Type 0} (F : Format A) (xs : List A) (i : ℕ) (to start : List ℕ) → length xs ≤ i
    → ((more : List ℕ) → to ++ list_bytes F (drop i xs) more ≡ start ++ list_bytes F xs more) → (AllFit F (drop i xs) → AllFit F xs)
    → Puts (list_bytes F xs) start to × AllFit F xs
list-end {A = A} F xs i to start past put fit =
    let none : drop i xs ≡ [] = drop_all i xs past in
    (λ more. ap (λ (l : List A). to ++ list_bytes F l more) (sym none) ∙ put more, fit (subst (AllFit F) (sym none) tt))

-- the header's tags behind their length
pub header-put : (tags : List Tag) (n : ℕ) (none body octets t0 t1 t2 : List ℕ) → none ≡ [] → Puts (list_bytes header_tag tags) none body → AllFit header_tag tags
    → n ≡ length body → IsPut number16 n t0 t1 → t2 ≡ t1 ++ octets → octets ≡ body → IsPut header tags t0 t2
header-put tags n none body octets t0 t1 t2 empty put fit long size is same =
    let whole = list_bytes header_tag tags [] in
    let own : body ≡ whole = sym (append-nil body) ∙ put [] ∙ ap (λ (l : List ℕ). l ++ whole) empty in
    let (bytes, fits) = subst (λ (k : ℕ). IsPut number16 k t0 t1) (long ∙ ap length own) size in
    (λ more. plain-put t1 t2 octets whole is (same ∙ own) more ∙ bytes (whole ++ more), (fits, (refl, fit)))

-- all of a cache
pub cache-put : (c : Cache) (tags : List Tag) (owner : Principal) (credentials : List Credential) (none version t1 t2 t3 t4 : List ℕ)
    → tags ≡ c.tags → owner ≡ c.default_principal → credentials ≡ c.credentials → none ≡ [] → t1 ≡ none ++ version → version ≡ be16 1284
    → IsPut header tags t1 t2 → IsPut principal owner t2 t3 → Puts (list_bytes credential credentials) t3 t4 × AllFit credential credentials
    → (t4 ≡ cache_bytes c) × IsWritable c
cache-put c tags owner credentials none version t1 t2 t3 t4 same_tags same_owner same_credentials empty is is_version put_tags put_owner put_all = (
  let last = list_bytes credential credentials [] in
      sym (append-nil t4) ∙ put_all.0 [] ∙ put_owner.0 last ∙ put_tags.0 (principal.bytes owner last)
      ∙ ap (λ (l : List ℕ). l ++ header.bytes tags (principal.bytes owner last)) (is ∙ ap (λ (l : List ℕ). l ++ version) empty ∙ is_version)
      ∙ (λ i. be16 1284 ++ header.bytes (same_tags i) (principal.bytes (same_owner i) (list_bytes credential (same_credentials i) []))),
  record {
    tags = subst header.Fits same_tags put_tags.1;
    default_principal = subst principal.Fits same_owner put_owner.1;
    credentials = subst (AllFit credential) same_credentials put_all.1;
  },
)
