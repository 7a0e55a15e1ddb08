-- Accounts by the blocks of their names.
use Rattle.std.proofs.Common.{◌≡◌, ℕ, ◌+◌, ◌*◌, ◌<◌, ◌≤◌, ◌&&◌, nat_le, nat_lt, arith, Bool, true, false, cond, List, [], ◌∷◌, Vec, length, Option, Some, None, is_some, IsSome, Result, Ok, Err, OnOk, OnErr, IfErr, ◌⊎◌, inl, inr, ◌↔◌, refl, sym, ap, subst, ◌∙◌, if◌then◌else◌}
use Rattle.std.proofs.lemmas.Bool.{and_parts, eq-eqb}
use Rattle.std.proofs.lemmas.Bool.Decides.{nat_tests}
use Rattle.std.specs.List.{list_all}
use Rattle.std.specs.Global.{Global}
use Rattle.std.specs.Option.{is_none}
use Rattle.std.specs.Ordering.{is_eq, nat_cmp, eq_by_cmp}
use Rattle.std.specs.declared.cmp.Ordering.{Ordering}
use Rattle.std.specs.declared.cmp.Ordering.TheVariants.{Less, Equal, Greater}
use Rattle.std.specs.Cmp.{eq_by_cmp_equiv}
use Rattle.std.specs.Cmp.Lexicographic.{nat_list_cmp_total, slice_cmp}
use Rattle.std.specs.BTreeMap.{BTreeMap, IsUnchanged, UpdatesBy, get_by, insert_entry, is_at, keys}
use Rattle.std.specs.Map.{AreApart, IsKeyTest, KeepsOthers, keys_of, lookup, remove_entry}
use Rattle.std.specs.FinMap.{find, from_entries, get, get-from_entries, get-insert, get-remove, insert, remove, same_map}
use Rattle.std.proofs.lemmas.List.Elements.{All-head, All-tail}
use Rattle.std.proofs.lemmas.Map.Views.{All-keys-insert_entry, All-map-remove_entry}
use Rattle.picky_asn1.specs.Bytes.{Bytes}
use Rattle.krb_realm_accounts.specs.Packed.{fit, fit_behind, fit_in, packed, text_fits, unpacked, unpacked-packed}
use Rattle.krb_realm_accounts.proofs.Packing.{packed_cmp}
use Rattle.krb_realm_accounts.specs.Account.{AccountRecord}
use Rattle.krb_crypto.specs.declared.suite.CipherSuite.{CipherSuite}
use Rattle.krb_crypto.specs.Suites.{cipher_key_size}
use Rattle.krb_realm_accounts.specs.Accounts.{AccountMap, changing, name_apart, name_cmp, name_total, rekeyed, removing}
use Rattle.krb_realm_accounts.specs.Entries.{AreBlocks, IsBlock, block_cmp, cmp_blocks, named}
use Rattle.krb_realm_accounts.specs.declared.refusal.RealmRefusal.{RealmRefusal}
use Rattle.krb_realm_accounts.specs.declared.refusal.RealmRefusal.TheVariants.{Exists, Memory, Unknown}
use Rattle.krb_realm_accounts.specs.Names.{are_components, is_realm_name}
use Rattle.krb_realm_accounts.specs.Refusal.{IsMemoryAside}

abbrev Entries : Type 0
Entries = List (Vec ℕ Global × AccountRecord)

-- the block of a name that has room is one
pub is_block : (name : List Bytes) (block : Bytes) → block ≡ packed name → fit name ≡ true → IsBlock block
is_block name block made fits =
    let texts = ap unpacked made ∙ unpacked-packed name in
    (ap packed texts ∙ sym made, ap fit texts ∙ fits)

-- a name's block meets the blocks of entries as the name meets their names
met : (name : List Bytes) (block key : Bytes) → block ≡ packed name → IsBlock key → slice_cmp nat_cmp block key ≡ name_cmp name (unpacked key)
met name block key made is = (λ i. slice_cmp nat_cmp (made i) (sym is.0 i)) ∙ packed_cmp name (unpacked key)

pub looked : (entries : Entries) (name : List Bytes) (block : Bytes) → AreBlocks (keys_of entries) → block ≡ packed name
    → lookup (is_at (block_cmp block)) entries ≡ find name_cmp name (named entries)
looked [] name block are made = refl
looked (entry ∷ entries) name block are made =
    let here = met name block entry.0.items made (All-head (λ (key : Vec ℕ Global). IsBlock key.items) entry.0 (keys_of entries) are) in
    let rest = looked entries name block (All-tail (λ (key : Vec ℕ Global). IsBlock key.items) entry.0 (keys_of entries) are) made in
    λ i. cond (is_eq (here i)) (Some entry.1) (rest i)

-- names that tie are the same
tied_by : (order : Ordering) → is_eq order ≡ true → order ≡ Equal
tied_by Less e = absurd (cc (e))
tied_by Equal e = refl
tied_by Greater e = absurd (cc (e))

same_if : (p q : List Bytes) → eq_by_cmp name_cmp p q ≡ true → p ≡ q
same_if p q e = name_apart p q (tied_by (name_cmp p q) e)

-- a name for which a block has no room has no account
pub roomless : (entries : Entries) (name : List Bytes) → AreBlocks (keys_of entries) → fit name ≡ false → find name_cmp name (named entries) ≡ None
roomless [] name are none = refl
roomless (entry ∷ entries) name are none =
    let here = All-head (λ (key : Vec ℕ Global). IsBlock key.items) entry.0 (keys_of entries) are in
    let rest = roomless entries name (All-tail (λ (key : Vec ℕ Global). IsBlock key.items) entry.0 (keys_of entries) are) none in
    elim (eq_by_cmp name_cmp name (unpacked entry.0.items)) as (λ b. eq_by_cmp name_cmp name (unpacked entry.0.items) ≡ b → cond b (Some entry.1) (find name_cmp name (named entries)) ≡ None) [
      | true ↦ λ same. let both : false ≡ true = sym none ∙ ap fit (same_if name (unpacked entry.0.items) same) ∙ here.1 in absurd (cc (both))
      | false ↦ λ same. rest
    ] refl

-- blocks of two names meet no third block as the same
apart : (p q key : Bytes) → is_eq (slice_cmp nat_cmp q p) ≡ false → is_eq (slice_cmp nat_cmp p key) ≡ true → is_eq (slice_cmp nat_cmp q key) ≡ false
apart p q key other same =
    let laws = eq_by_cmp_equiv nat_list_cmp_total in
    laws.symm q key ∙ sym (laws.congr p key q same) ∙ laws.symm p q ∙ other

others : (old new : Entries) (test query : Vec ℕ Global → Bool) → KeepsOthers (eq_by_cmp cmp_blocks) test old new
    → IsKeyTest (eq_by_cmp cmp_blocks) query → AreApart test query → lookup query new ≡ lookup query old
unfolding KeepsOthers
others old new test query keeps one away = keeps query one away

-- what a name has after an account at a block was set or taken away
updated : (old new : BTreeMap (Vec ℕ Global) AccountRecord) (name : List Bytes) (block : Bytes) (account : Option AccountRecord)
    → AreBlocks (keys old) → AreBlocks (keys new) → block ≡ packed name → UpdatesBy cmp_blocks (block_cmp block) old new account
    → (q : List Bytes) → find name_cmp q (named new.entries) ≡ cond (eq_by_cmp name_cmp q name) account (find name_cmp q (named old.entries))
updated old new name block account were are made updates q =
    elim (eq_by_cmp name_cmp q name) as (λ b. eq_by_cmp name_cmp q name ≡ b → find name_cmp q (named new.entries) ≡ cond b account (find name_cmp q (named old.entries))) [
      | true ↦ λ same. ap (λ n. find name_cmp n (named new.entries)) (same_if q name same) ∙ sym (looked new.entries name block are made) ∙ updates.1
      | false ↦ λ other.
          let unlike = ap is_eq (packed_cmp q name) ∙ other in
          let away : AreApart (is_at (block_cmp block)) (is_at (block_cmp (packed q))) =
          λ key same. apart (packed name) (packed q) key.items unlike (ap (λ (o : Bytes). is_eq (slice_cmp nat_cmp o key.items)) (sym made) ∙ same) in
          sym (looked new.entries q (packed q) are refl)
          ∙ others old.entries new.entries (is_at (block_cmp block)) (is_at (block_cmp (packed q))) updates.3
          (λ x y. (eq_by_cmp_equiv nat_list_cmp_total).congr (packed q) x.items y.items) away
          ∙ looked old.entries q (packed q) were refl
    ] refl

inserted : (old new : BTreeMap (Vec ℕ Global) AccountRecord) (name : List Bytes) (block : Bytes) (account : AccountRecord)
    → AreBlocks (keys old) → AreBlocks (keys new) → block ≡ packed name → UpdatesBy cmp_blocks (block_cmp block) old new (Some account)
    → from_entries {R = name_cmp} (named new.entries) ≡ insert (from_entries (named old.entries)) name account
inserted old new name block account were are made updates =
    same_map name_total name_apart _ _
    (λ q.
    get-from_entries name_total _ q ∙ updated old new name block (Some account) were are made updates q
    ∙ sym (get-insert name_total (from_entries (named old.entries)) name account q ∙ ap (cond (eq_by_cmp name_cmp q name) (Some account)) (get-from_entries name_total (named old.entries) q)))

pub removed : (old new : BTreeMap (Vec ℕ Global) AccountRecord) (name : List Bytes) (block : Bytes)
    → AreBlocks (keys old) → AreBlocks (keys new) → block ≡ packed name → UpdatesBy cmp_blocks (block_cmp block) old new None
    → from_entries {R = name_cmp} (named new.entries) ≡ remove (from_entries (named old.entries)) name
removed old new name block were are made updates =
    same_map name_total name_apart _ _
    (λ q.
    get-from_entries name_total _ q ∙ updated old new name block None were are made updates q
    ∙ sym (get-remove name_total (from_entries (named old.entries)) name q ∙ ap (cond (eq_by_cmp name_cmp q name) None) (get-from_entries name_total (named old.entries) q)))

-- what the accounts have at a name, by its block
pub found : (accounts : AccountMap) (old : BTreeMap (Vec ℕ Global) AccountRecord) (name : List Bytes) (block : Bytes)
    → from_entries (named old.entries) ≡ accounts → AreBlocks (keys old) → block ≡ packed name → get_by (block_cmp block) old ≡ get accounts name
found accounts old name block held are made =
    looked old.entries name block are made ∙ sym (get-from_entries name_total (named old.entries) name) ∙ ap (λ m. get m name) held

pub missing : (accounts : AccountMap) (old : BTreeMap (Vec ℕ Global) AccountRecord) (name : List Bytes)
    → from_entries (named old.entries) ≡ accounts → AreBlocks (keys old) → fit name ≡ false → get accounts name ≡ None
missing accounts old name held are none =
    ap (λ m. get m name) (sym held) ∙ get-from_entries name_total (named old.entries) name ∙ roomless old.entries name are none

-- what holds anyway holds of a refusal
pub refused_so : {P : Type 0} (answer : Result (Unit {0}) RealmRefusal) → P → OnErr answer P
refused_so (Ok done) holds = tt
refused_so (Err refusal) holds = holds

-- the blocks that stay when one is taken away, and those that there are with one more
pub blocks_left : (block : Bytes) (old new : BTreeMap (Vec ℕ Global) AccountRecord) → new.entries ≡ remove_entry (is_at (block_cmp block)) old.entries
    → AreBlocks (keys old) → AreBlocks (keys new)
blocks_left block old new left were =
    subst (λ (es : Entries). AreBlocks (keys_of es)) (sym left)
    (All-map-remove_entry (is_at (block_cmp block)) (λ (e : Vec ℕ Global × AccountRecord). e.0) (λ (key : Vec ℕ Global). IsBlock key.items) old.entries were)

blocks_grown : (key : Vec ℕ Global) (account : AccountRecord) (old new : BTreeMap (Vec ℕ Global) AccountRecord) → new.entries ≡ insert_entry cmp_blocks old.entries key account
    → AreBlocks (keys old) → IsBlock key.items → AreBlocks (keys new)
blocks_grown key account old new grown were is =
    subst (λ (es : Entries). AreBlocks (keys_of es)) (sym grown)
    (All-keys-insert_entry cmp_blocks key account (λ (k : Vec ℕ Global). IsBlock k.items) old.entries were is)

-- what is answered where a name has no account, and where it has one
abbrev removal : Option AccountRecord → Result (Unit {0}) RealmRefusal
removal found = if is_some found then Ok tt else Err Unknown

pub unknown : (accounts : AccountMap) (name : List Bytes) → get accounts name ≡ None → Err Unknown ≡ removing accounts name
unknown accounts name none = sym (ap removal none)

pub unknown_if : (accounts : AccountMap) (name : List Bytes) (account : Option AccountRecord) → account ≡ get accounts name → is_none account ≡ true
    → Err Unknown ≡ removing accounts name
unknown_if accounts name None is gone = unknown accounts name (sym is)
unknown_if accounts name (Some account) is gone = absurd (cc (gone))

pub known_if : (accounts : AccountMap) (name : List Bytes) (account : Option AccountRecord) → account ≡ get accounts name → is_none account ≡ false
    → Ok tt ≡ removing accounts name
known_if accounts name None is there = absurd (cc (there))
known_if accounts name (Some account) is there = sym (ap removal (sym is))

-- a key of the suite's length is judged by the account
pub judged : (accounts : AccountMap) (name : List Bytes) (suite : CipherSuite) (key : Bytes) (account : Option AccountRecord)
    → account ≡ get accounts name → length key ≡ cipher_key_size suite → rekeyed suite key account ≡ changing accounts name suite key
judged accounts name suite key account is sized =
    let test = eq-eqb (length key) (cipher_key_size suite) sized in
    ap (rekeyed suite key) is ∙ sym (rw test refl)

-- an answer with each refusal and each account of the expected result is that result
pub settled : (answer : Result (Unit {0}) RealmRefusal) (wanted : Result AccountRecord RealmRefusal) (P : AccountRecord → Type 0)
    → IfErr answer (λ refusal. wanted ≡ Err refusal) → OnOk answer ((account : AccountRecord) × P account × (wanted ≡ Ok account))
    → (refusal : RealmRefusal) → wanted ≡ Err refusal → answer ≡ Err refusal
settled (Ok done) wanted P told made refusal is = let both = sym made.2 ∙ is in absurd (cc (both))
settled (Err other) wanted P told made refusal is = let both = sym told ∙ is in ap Err (cc (both))

pub changed : (accounts : AccountMap) (answer : Result (Unit {0}) RealmRefusal) (wanted : Result AccountRecord RealmRefusal) (old new : BTreeMap (Vec ℕ Global) AccountRecord)
    (name : List Bytes) (block : Bytes) → from_entries (named old.entries) ≡ accounts → AreBlocks (keys old) → AreBlocks (keys new) → block ≡ packed name
    → OnOk answer ((account : AccountRecord) × UpdatesBy cmp_blocks (block_cmp block) old new (Some account) × (wanted ≡ Ok account))
    → OnOk answer ((account : AccountRecord) × (wanted ≡ Ok account) × (from_entries (named new.entries) ≡ insert accounts name account))
changed accounts (Ok done) wanted old new name block held were are made is =
    (is.0, is.2, inserted old new name block is.0 were are made is.1 ∙ ap (λ m. insert m name is.0) held)
changed accounts (Err refusal) wanted old new name block held were are made is = tt

-- an account that was put at a block where none was
absent : (account : Option AccountRecord) → account ≡ None → IsSome account → ⊥
absent None none some = cc
absent (Some account) none some = cc

pub put_none : (answer : Result (Unit {0}) RealmRefusal) (account : Option AccountRecord) → account ≡ None → (answer ≡ Err Exists → ⊥)
    → (answer ≡ Err Exists) ↔ IsSome account
put_none answer account none other = (λ e. absurd (other e), λ some. absurd (absent account none some))

pub put_grown : (old new set : BTreeMap (Vec ℕ Global) AccountRecord) (block : Bytes) (key : Vec ℕ Global) (account written : AccountRecord)
    → new ≡ set → key.items ≡ block → written ≡ account → UpdatesBy cmp_blocks (cmp_blocks key) old set (Some written)
    → UpdatesBy cmp_blocks (block_cmp block) old new (Some account)
put_grown old new set block key account written is made same updates =
    subst (λ (n : BTreeMap (Vec ℕ Global) AccountRecord). UpdatesBy cmp_blocks (block_cmp block) old n (Some account)) (sym is)
    (subst (λ (a : AccountRecord). UpdatesBy cmp_blocks (block_cmp block) old set (Some a)) same
    (subst (λ (b : Bytes). UpdatesBy cmp_blocks (block_cmp b) old set (Some written)) made updates))

pub put_blocks : (old new set : BTreeMap (Vec ℕ Global) AccountRecord) (block : Bytes) (key : Vec ℕ Global) (written : AccountRecord)
    → new ≡ set → key.items ≡ block → set.entries ≡ insert_entry cmp_blocks old.entries key written → AreBlocks (keys old) → IsBlock block → AreBlocks (keys new)
put_blocks old new set block key written same made grown were is =
    subst (λ (n : BTreeMap (Vec ℕ Global) AccountRecord). AreBlocks (keys n)) (sym same)
    (blocks_grown key written old set grown were (subst IsBlock (sym made) is))

pub memory_aside : (answer : Result (Unit {0}) RealmRefusal) (account : Option AccountRecord) → IfErr answer (λ refusal. (refusal ≡ Memory) ⊎ (refusal ≡ Exists))
    → (answer ≡ Err Exists) ↔ IsSome account → IsMemoryAside answer (if is_some account then Err Exists else Ok (tt {0}))
memory_aside (Ok done) None told exists = inr refl
memory_aside (Ok done) (Some account) told exists = let both = exists.1 refl in absurd (cc (both))
memory_aside (Err refusal) None told exists =
    elim told as (λ _. IsMemoryAside {T = Unit {0}} (Err refusal) (Ok (tt {0}))) [
      | inl memory ↦ inl (ap Err memory)
      | inr there ↦ let both = exists.0 (ap Err there) in absurd (cc (both))
    ]
memory_aside (Err refusal) (Some account) told exists =
    elim told as (λ _. IsMemoryAside {T = Unit {0}} (Err refusal) (Err Exists)) [
      | inl memory ↦ inl (ap Err memory)
      | inr there ↦ inr (ap Err there)
    ]

pub blocks_after : (answer : Result (Unit {0}) RealmRefusal) (old new : BTreeMap (Vec ℕ Global) AccountRecord) (block : Bytes)
    → OnOk answer (AreBlocks (keys old) → IsBlock block → AreBlocks (keys new)) → OnErr answer (IsUnchanged old new)
    → AreBlocks (keys old) → IsBlock block → AreBlocks (keys new)
blocks_after (Ok done) old new block grown same were is = grown were is
blocks_after (Err refusal) old new block grown same were is = subst (λ (es : Entries). AreBlocks (keys_of es)) (sym same) were

pub inserted_new : (accounts : AccountMap) (answer : Result (Unit {0}) RealmRefusal) (old new : BTreeMap (Vec ℕ Global) AccountRecord) (name : List Bytes) (block : Bytes)
    (account : AccountRecord) → from_entries (named old.entries) ≡ accounts → AreBlocks (keys old) → AreBlocks (keys new) → block ≡ packed name
    → OnOk answer (UpdatesBy cmp_blocks (block_cmp block) old new (Some account))
    → OnOk answer (from_entries (named new.entries) ≡ insert accounts name account)
inserted_new accounts (Ok done) old new name block account held were are made is =
    inserted old new name block account were are made is ∙ ap (λ m. insert m name account) held
inserted_new accounts (Err refusal) old new name block account held were are made is = tt

-- a principal's name has room
and_both : (a b : Bool) → a ≡ true → b ≡ true → (a && b) ≡ true
and_both true b p q = q
and_both false b p q = p

short : (n most : ℕ) → nat_le n most ≡ true → n ≤ most
short n most told = grind (arith, nat_tests)

with_room : (n most : ℕ) → n < most → nat_lt n most ≡ true
with_room n most below = grind (arith, nat_tests)

fits_all : (used : ℕ) (name : List Bytes) → used + 256 * length name ≤ 4096 → list_all is_realm_name name ≡ true → fit_behind 4096 used name ≡ true
fits_all used [] few all = refl
fits_all used (text ∷ name) few all =
    let rest = and_parts (is_realm_name text) (list_all is_realm_name name) all in
    let low = and_parts (nat_le 1 (length text) && nat_le (length text) 255) (list_all (λ character. nat_lt character 128) text) rest.0 in
    let most : length text ≤ 255 = short (length text) 255 ((and_parts (nat_le 1 (length text)) (nat_le (length text) 255) low.0).1) in
    and_both _ _ (and_both _ _ low.1 (with_room (used + length text) 4096 (omega (arith, few, most))))
    (fits_all (used + length text + 1) name (omega (arith, few, most)) rest.1)

pub components_fit : (name : List Bytes) → are_components name ≡ true → fit name ≡ true
components_fit name valid =
    let rest = and_parts (nat_le 1 (length name) && nat_le (length name) 16) (list_all is_realm_name name) valid in
    let most : length name ≤ 16 = short (length name) 16 ((and_parts (nat_le 1 (length name)) (nat_le (length name) 16) rest.0).1) in
    fits_all 0 name (omega (arith, most)) rest.1

-- what fits in a short block fits in one of any name
wider : (used few most : ℕ) (text : Bytes) → few ≤ most → nat_lt (used + length text) few ≡ true → nat_lt (used + length text) most ≡ true
wider used few most text less told = grind (arith, nat_tests)

fit_wider : (few most used : ℕ) (name : List Bytes) → few ≤ most → fit_behind few used name ≡ true → fit_behind most used name ≡ true
fit_wider few most used [] less fits = refl
fit_wider few most used (text ∷ name) less fits =
    let rest = and_parts (text_fits few used text) (fit_behind few (used + length text + 1) name) fits in
    let here = and_parts (list_all (λ character. nat_lt character 128) text) (nat_lt (used + length text) few) rest.0 in
    and_both _ _ (and_both _ _ here.0 (wider used few most text less here.1)) (fit_wider few most (used + length text + 1) name less rest.1)

pub fits_short : (name : List Bytes) → fit_in 256 name ≡ true → fit name ≡ true
fits_short name fits = fit_wider 256 4096 0 name (omega arith) fits
