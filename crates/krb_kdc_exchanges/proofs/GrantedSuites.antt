-- Of which suites session keys are granted.
use Rattle.std.proofs.Common.{◌≡◌, ◌≢◌, Bool, true, false, not, ◌&&◌, List, [], ◌∷◌, Option, None, Some, refl, subst}
use Rattle.std.specs.Prelude.{ℤ, ◌||◌, if◌then◌else◌}
use Rattle.std.specs.List.{find}
use Rattle.std.specs.Option.{is_some, option_map_or}
use Rattle.krb_realm_accounts.specs.Account.{AccountRecord}
use Rattle.krb_realm_accounts.specs.declared.policy.Policy.{Policy}
use Rattle.krb_crypto.specs.declared.suite.CipherSuite.{CipherSuite}
use Rattle.krb_crypto.specs.declared.suite.CipherSuite.TheVariants.{Des3CbcSha1Kd}
use Rattle.krb_kdc_exchanges.specs.TgsTable.{first_granted, first_number, has_des3_key, holds_back_des3, is_granted, suite_numbered, suite_of_first}

-- each known suite is granted where triple DES isn't held back
any_known : (found : Option CipherSuite) → option_map_or (is_granted false) found false ≡ is_some found
any_known None = refl
any_known (Some suite) = refl

pub same_number : (numbers : List ℤ) → first_number false numbers ≡ find (λ number. is_some (suite_numbered number)) numbers
same_number [] = refl
same_number (number ∷ numbers) =
    (λ i. if any_known (suite_numbered number) i then Some number else same_number numbers i)

-- the suite of the first number that is found is a granted one
of_granted : (without : Bool) (numbers : List ℤ) (suite : CipherSuite) → first_granted without numbers ≡ Some suite → is_granted without suite ≡ true
of_granted without [] suite e = absurd (cc (e))
of_granted without (number ∷ numbers) suite e = by (of_granted without numbers suite) (suite_numbered number) refl e
  where
    by_granted : (first_granted without numbers ≡ Some suite → is_granted without suite ≡ true) → (own : CipherSuite) → suite_numbered number ≡ Some own
        → (is : Bool) → is_granted without own ≡ is → suite_of_first (if is then Some number else first_number without numbers) ≡ Some suite → is_granted without suite ≡ true
    by_granted rest own f true h k =
        let same : own ≡ suite = cc (f, k) in
        subst (λ s. is_granted without s ≡ true) same h
    by_granted rest own f false h k = rest k

    by : (first_granted without numbers ≡ Some suite → is_granted without suite ≡ true) → (found : Option CipherSuite) → suite_numbered number ≡ found
        → suite_of_first (if option_map_or (is_granted without) found false then Some number else first_number without numbers) ≡ Some suite → is_granted without suite ≡ true
    by rest None f g = rest g
    by rest (Some own) f g = by_granted rest own f (is_granted without own) refl g

pub never_des3 : (policy : Policy) (client : Option AccountRecord) (service : AccountRecord) (numbers : List ℤ)
    → policy.limits_des3 ≡ true → has_des3_key client ≡ false → has_des3_key (Some service) ≡ false
    → first_granted (holds_back_des3 policy client service) numbers ≢ Some Des3CbcSha1Kd
never_des3 policy client service numbers limits none other e =
    let held : holds_back_des3 policy client service ≡ true = λ i. limits i && not (none i || other i) in
    let granted : is_granted true Des3CbcSha1Kd ≡ true = subst (λ without. is_granted without Des3CbcSha1Kd ≡ true) held (of_granted (holds_back_des3 policy client service) numbers Des3CbcSha1Kd e) in
    absurd (cc (granted))
