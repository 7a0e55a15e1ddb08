-- The keys that an account keeps are older one after another.
use Rattle.std.proofs.Common.{◌≡◌, ℕ, zero, suc, ◌+◌, ◌==◌, ◌<◌, ◌≤◌, nat_lt, true, false, List, [], ◌∷◌, ◌++◌, length, take, drop, get_or, Option, Ok, refl, sym, ap, subst, ◌∙◌, arith, append_assoc, append-nil, add-one}
use Rattle.std.proofs.Math.Seq.{drop-cons}
use Rattle.std.proofs.lemmas.Bool.Decides.{nat_tests}
use Rattle.std.proofs.lemmas.List.{drop_all, take_all}
use Rattle.picky_asn1.specs.Bytes.{Bytes}
use Rattle.krb_crypto.specs.Suites.{cipher_key_size}
use Rattle.krb_crypto.specs.declared.suite.CipherSuite.{CipherSuite}
use Rattle.krb_realm_accounts.specs.Account.{AccountKeyRecord, AccountRecord, AreBefore, IsKept, IsOlder, are_falling, kept}
use Rattle.krb_realm_accounts.specs.Accounts.{keeping, next_key}
use Rattle.krb_realm_accounts.specs.declared.limits.TheConstants.{FORMER_LIMIT}

taken_before : (n kvno : ℕ) (keys : List AccountKeyRecord) → AreBefore kvno keys → AreBefore kvno (take n keys)
taken_before zero kvno keys are = tt
taken_before (suc n) kvno [] are = tt
taken_before (suc n) kvno (own ∷ keys) are = (are.0, taken_before n own.kvno keys are.1)

taken_few : (n : ℕ) (keys : List AccountKeyRecord) → length (take n keys) ≤ n
taken_few zero keys = omega arith
taken_few (suc n) [] = omega arith
taken_few (suc n) (own ∷ keys) = let few : length (take n keys) ≤ n = taken_few n keys in omega (arith, few)

-- the keys that are kept, behind a further one
pub kept_keys : (own : AccountKeyRecord) (keys : List AccountKeyRecord) → length own.key ≡ cipher_key_size own.suite → IsKept own.kvno keys → IsKept (own.kvno + 1) (take FORMER_LIMIT (own ∷ keys))
kept_keys own keys sized is = record {
  counts = omega (arith, is.counts);
  before = taken_before FORMER_LIMIT (own.kvno + 1) (own ∷ keys) (record { counts = is.counts; less = omega arith; sized = sized }, is.before);
  few = taken_few FORMER_LIMIT (own ∷ keys);
}

pub kept_behind : (keys older former : List AccountKeyRecord) (made own : AccountKeyRecord) → made ≡ own → older ≡ former → keys ≡ take FORMER_LIMIT (made ∷ older)
    → keys ≡ take FORMER_LIMIT (own ∷ former)
kept_behind keys older former made own same copied are = are ∙ ap (λ (first : AccountKeyRecord). take FORMER_LIMIT (first ∷ older)) same ∙ ap (λ (others : List AccountKeyRecord). take FORMER_LIMIT (own ∷ others)) copied

-- the account that keeps them
pub kept_account : (account : AccountRecord) (suite : CipherSuite) (key : Bytes) (salt : Option Bytes) (keys : List AccountKeyRecord) → (account.kvno == 4294967295) ≡ false → keys ≡ kept account
    → keeping suite key salt account ≡ Ok (record (next_key suite key account) { salt = salt; former = keys })
kept_account account suite key salt keys more are = rw (more, are) refl

-- ---- kvnos that fall, one key after another

front : (keys : List AccountKeyRecord) (i : ℕ) (own : AccountKeyRecord) → i < length keys → own ≡ get_or keys i own → drop i keys ≡ own ∷ drop (i + 1) keys
front keys i own inside is = rw (add-one, drop-cons keys i own) (ap (λ (first : AccountKeyRecord). first ∷ drop (suc i) keys) (sym is))

below_tells : (n m : ℕ) → n < m → nat_lt n m ≡ true
below_tells n m less = grind (arith, nat_tests)

above_tells : (n m : ℕ) → m ≤ n → nat_lt n m ≡ false
above_tells n m above = grind (arith, nat_tests)

pub one_falling : (keys : List AccountKeyRecord) (i : ℕ) (own : AccountKeyRecord) (below next kvno : ℕ) → i < length keys → own ≡ get_or keys i own → own.kvno < below → next ≡ own.kvno
    → are_falling below (drop i keys) ≡ are_falling kvno keys → are_falling next (drop (i + 1) keys) ≡ are_falling kvno keys
one_falling keys i own below next kvno inside is less same so_far =
    let here : are_falling below (own ∷ drop (i + 1) keys) ≡ are_falling own.kvno (drop (i + 1) keys) = rw (below_tells own.kvno below less) refl in
    ap (λ (k : ℕ). are_falling k (drop (i + 1) keys)) same ∙ sym here ∙ ap (are_falling below) (sym (front keys i own inside is)) ∙ so_far

pub risen : (keys : List AccountKeyRecord) (i : ℕ) (own : AccountKeyRecord) (below kvno : ℕ) → i < length keys → own ≡ get_or keys i own → below ≤ own.kvno
    → are_falling below (drop i keys) ≡ are_falling kvno keys → false ≡ are_falling kvno keys
risen keys i own below kvno inside is above so_far =
    let here : are_falling below (own ∷ drop (i + 1) keys) ≡ false = rw (above_tells own.kvno below above) refl in
    sym here ∙ ap (are_falling below) (sym (front keys i own inside is)) ∙ so_far

pub all_falling : (keys : List AccountKeyRecord) (i below kvno : ℕ) → length keys ≤ i → are_falling below (drop i keys) ≡ are_falling kvno keys → true ≡ are_falling kvno keys
all_falling keys i below kvno ended so_far = ap (are_falling below) (sym (drop_all i keys ended)) ∙ so_far

pub one_before : (done keys : List AccountKeyRecord) (own : AccountKeyRecord) (below next kvno : ℕ) → keys ≡ done ++ own ∷ [] → next ≡ own.kvno → IsOlder below own
    → ((more : List AccountKeyRecord) → AreBefore below more → AreBefore kvno (done ++ more)) → (more : List AccountKeyRecord) → AreBefore next more → AreBefore kvno (keys ++ more)
one_before done keys own below next kvno grown same older so_far = λ more are.
    subst (λ some. AreBefore kvno (some ++ more)) (sym grown)
    (subst (AreBefore kvno) (sym (append_assoc done (own ∷ []) more)) (so_far (own ∷ more) (older, subst (λ k. AreBefore k more) same are)))

pub all_before : (keys : List AccountKeyRecord) (i below kvno : ℕ) → length keys ≤ i → ((more : List AccountKeyRecord) → AreBefore below more → AreBefore kvno (take i keys ++ more)) → AreBefore kvno keys
all_before keys i below kvno ended so_far =
    subst (AreBefore kvno) (take_all i keys ended) (subst (AreBefore kvno) (append-nil (take i keys)) (so_far [] tt))
