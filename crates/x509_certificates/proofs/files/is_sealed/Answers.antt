use Rattle.std.proofs.Common.{rules, ◌≡◌, ◌≢◌, sym, subst}
use Rattle.std.specs.Bool.{MatchBool}
use Rattle.asn1_der.specs.Octets.{sequence_octet}
use Rattle.x509_certificates.specs.Files.{IsSealed}
use Rattle.x509_certificates.proofs.Keys.{no_sealed, sealed_is}
use Rattle.x509_certificates.proofs.files.is_sealed.Goals as goal

pub returns-then-eq : goal.returns-then-eq
returns-then-eq c =
    let first : c.in-Ok.algorithm.first ≡ sequence_octet = search rules in
    sealed_is c.args.content.now c.in-Ok.rest.now c.in-Ok.algorithm c.starts_with.result c.in-Ok.ensures.split first c.starts_with.ensures.value

pub returns-else-eq : goal.returns-else-eq
returns-else-eq c =
    let other : c.in-Ok.algorithm.first ≢ sequence_octet = search rules in
    subst (λ b. MatchBool b (IsSealed c.args.content.now) (IsSealed c.args.content.now → ⊥)) (sym c.if-eq.false)
    (no_sealed c.args.content.now c.in-Ok.rest.now c.in-Ok.algorithm c.in-Ok.ensures.split (λ first behind e. other first))
