use Rattle.std.proofs.Common.{◌≡◌, ◌≢◌, ◌<◌, false, ◌&&◌, ltb, eqb, length, get_or, ◌∙◌, arith}
use Rattle.std.proofs.lemmas.Bool.{false≢true, and_from, lt-ltb, eq-eqb}
use Rattle.std.proofs.lemmas.Bool.Decides.{nat_tests}
use Rattle.picky_asn1.proofs.UnsignedLemmas.{without_sign-octets, no_sign-octets}
use Rattle.picky_asn1.specs.Integer.{integer_value}
use Rattle.picky_asn1.proofs.integer.IntegerAsn1.as_unsigned_bytes_be.Goals as goal

pub returns-then-has_sign_octet : goal.returns-then-has_sign_octet
returns-then-has_sign_octet c =
    let octets = c.self.inside.octets in
    let same = c.as_slice-octets.ensures.value in
    let long : 1 < length octets = rw (← same) (grind (arith, nat_tests, c.if-has_sign_octet.ensures)) in
    let zero : get_or octets 0 0 ≡ 0 = rw (← same) (grind (arith, nat_tests, c.if-has_sign_octet.ensures)) in
    rw (← c.self.view_is, same) (without_sign-octets (integer_value octets) octets c.self.invariant long zero)

pub returns-else-has_sign_octet : goal.returns-else-has_sign_octet
returns-else-has_sign_octet c =
    let octets = c.self.inside.octets in
    let same = c.as_slice-octets.ensures.value in
    let plain : false ≡ (ltb 1 (length octets) && eqb (get_or octets 0 0) 0) = rw (← same) c.if-has_sign_octet.ensures in
    let other : 1 < length octets → get_or octets 0 0 ≢ 0 = λ long zero. false≢true (plain ∙ and_from (ltb 1 (length octets)) (eqb (get_or octets 0 0) 0) (lt-ltb 1 (length octets) long) (eq-eqb (get_or octets 0 0) 0 zero)) in
    rw (← c.self.view_is, same) (no_sign-octets (integer_value octets) octets c.self.invariant other)
