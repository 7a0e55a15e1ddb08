-- What opens to a value was sealed from it.
use Rattle.std.proofs.Common.{◌≡◌, ℕ, true, Option, sym, subst, ap}
use Rattle.std.proofs.lemmas.Bool.{eqb-true, false≢true}
use Rattle.std.specs.Prelude.{ℤ, negsuc, pos}
use Rattle.asn1_der.specs.Tree.{Tree, Writes}
use Rattle.asn1_der.proofs.Spelling.{IsInjective}
use Rattle.picky_asn1.specs.Bytes.{Bytes}
use Rattle.picky_asn1.specs.Numbers.{is_number}
use Rattle.krb_crypto.specs.Suites.{cipher_number}
use Rattle.krb_crypto.specs.declared.suite.CipherSuite.{CipherSuite}
use Rattle.krb_messages.specs.declared.data_types.encrypted_data.EncryptedData.{EncryptedData}
use Rattle.krb_tickets.specs.Opens.{Opens, sole_opens}
use Rattle.krb_tickets.specs.Sealing.{Seals, is_own_number, sealed_opens}
use Rattle.krb_ap_requests.proofs.Suites.{suite_by_number}
use Rattle.krb_authenticity.specs.Ciphertexts.{CiphertextRecord}

-- the ciphertext opens to this value
abbrev pub OpensTo : {T : Type 0} → (T → Tree) → CiphertextRecord → T → Type 0
OpensTo {T} tree c value = Opens {T = T} tree (cipher_number c.suite) c.key c.usage c.cipher value

-- to one value at most
pub one_opened : {T : Type 0} (tree : T → Tree) → IsInjective {T = T} tree → (c d : CiphertextRecord) → c ≡ d → (v w : T)
    → OpensTo {T = T} tree c v → OpensTo {T = T} tree d w → v ≡ w
one_opened {T} tree injective c d e v w x y =
    sole_opens {T = T} tree injective (cipher_number d.suite) d.key d.usage d.cipher v w (subst (λ k. OpensTo {T = T} tree k v) e x) y

-- what a party sealed opens to it
pub sealed_to : {T : Type 0} (tree : T → Tree) (value : T) (suite : CipherSuite) (key : Bytes) (kvno : Option ℕ) (usage : ℕ) (confounder plain : Bytes) (data_of : EncryptedData)
    → Writes tree value plain → Seals suite key kvno usage confounder plain data_of
    → OpensTo {T = T} tree (record { suite = suite; key = key; usage = usage; cipher = data_of.cipher.0 }) value
sealed_to {T} tree value suite key kvno usage confounder plain data_of writes it =
    (sealed_opens {T = T} tree value suite key kvno usage confounder plain data_of writes it).opens

-- a suite is distinguished by its number
pub suite_of_number : (s t : CipherSuite) (number : ℤ) → is_number (cipher_number s) number ≡ true → number ≡ pos (cipher_number t) → s ≡ t
suite_of_number s t number x e = suite_by_number s t number x (subst (λ n. is_number (cipher_number t) n ≡ true) (sym e) (is_own_number t))

-- a number that is this one
pub number_is : (n : ℕ) (z : ℤ) → is_number n z ≡ true → z ≡ pos n
number_is n (pos k) x = ap pos (eqb-true k n x)
number_is n (negsuc k) x = absurd (false≢true x)
