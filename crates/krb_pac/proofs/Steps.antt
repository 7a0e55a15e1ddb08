-- Steps of reading, one after another.
use Rattle.std.proofs.Common.{◌≡◌, ℕ, ◌≤◌, Bool, true, false, Result, Ok, Err, nat_lt, if◌then◌else◌, refl, ap, arith}
use Rattle.std.proofs.lemmas.Bool.Decides.{nat_tests}
use Rattle.krb_pac.specs.declared.error.PacFault.{PacFault}
use Rattle.krb_pac.specs.Reading.{◌>>=◌}

-- a step that is read
pub step-ok : {X Y : Type 0} (r : Result X PacFault) (next : X → Result Y PacFault) (x : X) → r ≡ Ok x → (r >>= next) ≡ next x
step-ok {X = A} r next x is = ap (λ (s : Result A PacFault). s >>= next) is

pub if-ok : {A : Type 0} (test : Bool) (e : PacFault) (r : Result A PacFault) (a : A) → (if test then Err e else r) ≡ Ok a → (test ≡ false) × (r ≡ Ok a)
if-ok true e r a is = absurd (cc is)
if-ok false e r a is = (refl, is)

pub enough : (m n : ℕ) → nat_lt n m ≡ false → m ≤ n
enough m n test = grind (arith, nat_tests)

pub fits : (m n : ℕ) → m ≤ n → nat_lt n m ≡ false
fits m n within = grind (arith, nat_tests)
