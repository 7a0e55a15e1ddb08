use Rattle.std.proofs.Common.{◌≡◌, ◌+◌, List, ℕ, length, length-append, ap, ◌∙◌, subst, arith}
use Rattle.x509_certificates.specs.Pem.{IsAbsent}
use Rattle.x509_certificates.proofs.Boundaries.{absent, divides_at}
use Rattle.x509_certificates.proofs.pem.divided.Goals as goal

pub split_at-requires : goal.split_at-requires
split_at-requires c = omega (arith, c.in-Some.ensures.0.high)

pub split_at-requires-in-Some : goal.split_at-requires-in-Some
split_at-requires-in-Some c =
    let front = c.split_at.result.0.now in
    let found = c.split_at.result.1.now in
    let sizes : length c.args.text.now ≡ length front + length found = ap length c.split_at.ensures.by_index.0 ∙ length-append front found in
    omega (arith, c.in-Some.ensures.1.fits, c.split_at.ensures.front_len)

pub returns-in-Some : goal.returns-in-Some
returns-in-Some c =
    divides_at c.args.boundary.now c.as_bytes-needle.result.now c.args.text.now c.split_at.result.0.now c.split_at.result.1.now
    c.split_at-in-Some.result.0.now c.split_at-in-Some.result.1.now c.in-Some.place c.as_bytes-needle.ensures.value
    c.split_at.ensures.by_index.0 c.split_at.ensures.front_len c.split_at-in-Some.ensures.by_index.0 c.split_at-in-Some.ensures.front_len
    c.in-Some.ensures.0 c.in-Some.ensures.1

pub returns-in-None : goal.returns-in-None
returns-in-None c =
    subst (λ (b : List ℕ). IsAbsent b c.args.text.now) c.as_bytes-needle.ensures.value
    (absent c.as_bytes-needle.result.now c.args.text.now c.in-None.ensures)
