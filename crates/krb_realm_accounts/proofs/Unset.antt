-- Attributes of which none is set are no attributes.
use Rattle.std.proofs.Common.{◌≡◌, ℕ, ◌||◌, nat_lt, false, sym, arith}
use Rattle.std.proofs.lemmas.Bool.{or_parts}
use Rattle.std.proofs.lemmas.Bool.Decides.{nat_tests}
use Rattle.krb_realm_accounts.specs.Account.{is_set}
use Rattle.krb_realm_accounts.specs.declared.attributes.Attributes.{Attributes}
use Rattle.krb_realm_accounts.specs.declared.attributes.TheConstants.{NO_ATTRIBUTES}

zero_of : (n : ℕ) → nat_lt 0 n ≡ false → 0 ≡ n
zero_of n is = grind (arith, nat_tests)

pub unset : (attributes : Attributes) → is_set attributes ≡ false → NO_ATTRIBUTES ≡ attributes
unset attributes none =
    let a = or_parts (nat_lt 0 attributes.ends) (nat_lt 0 attributes.lifetime || (attributes.is_off || (attributes.must_change || attributes.is_no_service))) none in
    let b = or_parts (nat_lt 0 attributes.lifetime) (attributes.is_off || (attributes.must_change || attributes.is_no_service)) a.1 in
    let c = or_parts attributes.is_off (attributes.must_change || attributes.is_no_service) b.1 in
    let d = or_parts attributes.must_change attributes.is_no_service c.1 in
    let ends : 0 ≡ attributes.ends = zero_of attributes.ends a.0 in
    let lifetime : 0 ≡ attributes.lifetime = zero_of attributes.lifetime b.0 in
    λ i. record { ends = ends i; is_off = sym c.0 i; must_change = sym d.0 i; lifetime = lifetime i; is_no_service = sym d.1 i }
