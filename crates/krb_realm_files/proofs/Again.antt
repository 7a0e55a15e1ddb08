-- An account's record is read as it was written.
use Rattle.std.proofs.Common.{◌≡◌, ◌≢◌, ℕ, ◌+◌, ◌≤◌, List, ◌∷◌, ◌++◌, length, take, drop, slice_index, Some, refl, ◌∙◌, arith, length-append, le-ltb, ne_eqb, eq-eqb}
use Rattle.std.proofs.lemmas.Grind.{common_steps}
use Rattle.byteorder.specs.Numbers.{little_number-reads_back}
use Rattle.byte_streams.specs.Numbers.{le32, le32_at}
use Rattle.krb_crypto.specs.declared.suite.CipherSuite.{CipherSuite}
use Rattle.krb_crypto.specs.Suites.{cipher_key_size, cipher_number}
use Rattle.krb_realm_accounts.specs.Account.{AccountRecord, IsWhole}
use Rattle.krb_realm_files.specs.AccountRecords.{account_behind, account_bytes, account_in, with_further}
use Rattle.krb_realm_files.specs.FurtherFields.{Further, further_bytes, further_in, marks_of}
use Rattle.krb_realm_files.proofs.FurtherAgain.{further_again}
use Rattle.krb_realm_files.proofs.Numbered.{of_number}

behind : (suite : CipherSuite) (octets : List ℕ) (kvno marks : ℕ) (key rest : List ℕ) (further : Further) → le32_at 2 octets ≡ kvno → 1 ≤ kvno
    → 7 + cipher_key_size suite ≤ length octets → take (cipher_key_size suite) (drop 7 octets) ≡ key → slice_index octets 6 ≡ marks
    → drop (7 + cipher_key_size suite) octets ≡ rest → further_in kvno marks rest ≡ Some further
    → account_behind suite octets ≡ Some (with_further suite kvno key further)
unfolding account_behind
behind suite octets kvno marks key rest further number counts within own marked behind_key read =
    let some : kvno ≢ 0 = λ e. absurd (omega (arith, e, counts)) in
    rw (number, ne_eqb kvno 0 some, le-ltb (length octets) (7 + cipher_key_size suite) within, own, marked, behind_key, read) refl

whole : (suite : CipherSuite) (octets : List ℕ) → 7 ≤ length octets → slice_index octets 0 ≡ 1 → slice_index octets 1 ≡ cipher_number suite → account_in octets ≡ account_behind suite octets
unfolding account_in
whole suite octets enough version number =
    rw (le-ltb (length octets) 7 enough, eq-eqb (slice_index octets 0) 1 version, number, of_number suite) refl

-- Seven octets, and what follows them.
module _ (a b c d e f g : ℕ) (tail : List ℕ) where
  abbrev seven : List ℕ
  seven = a ∷ b ∷ c ∷ d ∷ e ∷ f ∷ g ∷ tail

  length_seven : length seven ≡ 7 + length tail
  length_seven = omega arith

  drop_seven : (n : ℕ) → drop (7 + n) seven ≡ drop n tail
  drop_seven n = grind (arith, common_steps)

front_of : (size : ℕ) (key rest : List ℕ) → length key ≡ size → take size (key ++ rest) ≡ key
front_of size key rest sized = grind (arith, common_steps, sized)

rest_of : (size : ℕ) (key rest : List ℕ) → length key ≡ size → drop size (key ++ rest) ≡ rest
rest_of size key rest sized = grind (arith, common_steps, sized)

pub account_as_written : (account : AccountRecord) → IsWhole account → account_in (account_bytes account) ≡ Some account
unfolding account_bytes le32 le32_at
account_as_written account is =
    let last : List ℕ = further_bytes account in
    let tail : List ℕ = account.key ++ last in
    let size : ℕ = cipher_key_size account.suite in
    let further : Further = record { attributes = account.attributes; former = account.former; salt = account.salt } in
    let long : size ≤ length tail = omega (arith, length-append account.key last, is.sized) in
    let seven_more : length (account_bytes account) ≡ 7 + length tail = length_seven 1 (cipher_number account.suite) (slice_index (le32 account.kvno) 0) (slice_index (le32 account.kvno) 1) (slice_index (le32 account.kvno) 2) (slice_index (le32 account.kvno) 3) (marks_of account) tail in
    let dropped : drop (7 + size) (account_bytes account) ≡ drop size tail = drop_seven 1 (cipher_number account.suite) (slice_index (le32 account.kvno) 0) (slice_index (le32 account.kvno) 1) (slice_index (le32 account.kvno) 2) (slice_index (le32 account.kvno) 3) (marks_of account) tail size in
    whole account.suite (account_bytes account) (omega (arith, seven_more)) refl refl
    ∙ behind account.suite (account_bytes account) account.kvno (marks_of account) account.key last further
    (little_number-reads_back 4 account.kvno (marks_of account ∷ tail) is.fits) is.counts (omega (arith, long, seven_more))
    (front_of size account.key last is.sized) refl
    (dropped ∙ rest_of size account.key last is.sized)
    (further_again account is)
