-- A suite is distinguished by its number.
use Rattle.std.proofs.Common.{◌≡◌, ℕ, true, sym, ◌∙◌}
use Rattle.std.proofs.lemmas.Bool.{eqb-true, false≢true}
use Rattle.std.specs.Prelude.{ℤ, negsuc, pos}
use Rattle.picky_asn1.specs.Numbers.{is_number}
use Rattle.krb_crypto.specs.declared.suite.CipherSuite.{CipherSuite}
use Rattle.krb_crypto.specs.Suites.{cipher_number}
use Rattle.krb_crypto.proofs.SealingLemmas.{same_suite}

one_number : (m n : ℕ) (number : ℤ) → is_number m number ≡ true → is_number n number ≡ true → m ≡ n
one_number m n (pos k) x y = sym (eqb-true k m x) ∙ eqb-true k n y
one_number m n (negsuc k) x y = absurd (false≢true x)

pub suite_by_number : (s t : CipherSuite) (number : ℤ) → is_number (cipher_number s) number ≡ true → is_number (cipher_number t) number ≡ true → s ≡ t
suite_by_number s t number x y = same_suite s t (one_number (cipher_number s) (cipher_number t) number x y)
