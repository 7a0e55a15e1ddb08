use Rattle.std.proofs.Common.{◌<◌, ◌≤◌, get_or, arith}
use Rattle.std.proofs.lemmas.Bool.Decides.{nat_tests}
use Rattle.picky_asn1.proofs.IntegerLemmas.{value-long, number-positive, number-negative, fits-positive, fits-negative}
use Rattle.picky_asn1.proofs.integer.IntegerAsn1.to_i64.Goals as goal

pub returns-then-octets-gt8 : goal.returns-then-octets-gt8
returns-then-octets-gt8 c =
    rw (← c.self.view_is) (value-long c.self.inside.octets c.self.invariant (rw c.as_slice-octets.ensures.value at c.if-octets-gt8.true))

pub overflow_cast-result : goal.overflow_cast-result
overflow_cast-result c =
    let octets = c.self.inside.octets in
    let same = c.as_slice-octets.ensures.value in
    let high : 128 ≤ get_or octets 0 0 = rw (← same) (grind (arith, nat_tests, c.if-is_negative.ensures)) in
    let n = number-negative octets c.self.invariant (rw same at c.if-octets-gt8.false) high in
    rw (c.number_of.ensures, same) (fits-positive _ n.1).0

pub returns-then-is_negative : goal.returns-then-is_negative
returns-then-is_negative c =
    let octets = c.self.inside.octets in
    let same = c.as_slice-octets.ensures.value in
    let high : 128 ≤ get_or octets 0 0 = rw (← same) (grind (arith, nat_tests, c.if-is_negative.ensures)) in
    let n = number-negative octets c.self.invariant (rw same at c.if-octets-gt8.false) high in
    rw (← c.self.view_is, c.number_of.ensures, same, n.0) (fits-negative _ n.1)

pub overflow_cast-result-else-is_negative : goal.overflow_cast-result-else-is_negative
overflow_cast-result-else-is_negative c =
    let octets = c.self.inside.octets in
    let same = c.as_slice-octets.ensures.value in
    let low : get_or octets 0 0 < 128 = rw (← same) (grind (arith, nat_tests, c.if-is_negative.ensures)) in
    let n = number-positive octets c.self.invariant (rw same at c.if-octets-gt8.false) low in
    rw (c.number_of-else-is_negative.ensures, same) (fits-positive _ n.1).0

pub returns-else-is_negative : goal.returns-else-is_negative
returns-else-is_negative c =
    let octets = c.self.inside.octets in
    let same = c.as_slice-octets.ensures.value in
    let low : get_or octets 0 0 < 128 = rw (← same) (grind (arith, nat_tests, c.if-is_negative.ensures)) in
    let n = number-positive octets c.self.invariant (rw same at c.if-octets-gt8.false) low in
    rw (← c.self.view_is, c.number_of-else-is_negative.ensures, same, n.0) (fits-positive _ n.1)
