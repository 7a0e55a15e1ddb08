use Rattle.std.proofs.Common.{rules, ◌≡◌, ◌≢◌, sym, subst}
use Rattle.std.specs.Bool.{MatchBool}
use Rattle.asn1_der.specs.Octets.{sequence_octet}
use Rattle.x509_certificates.specs.Files.{IsEncrypted}
use Rattle.x509_certificates.proofs.Keys.{encrypted_is, no_encrypted}
use Rattle.x509_certificates.proofs.files.is_encrypted.Goals as goal

pub returns-then-eq : goal.returns-then-eq
returns-then-eq c =
    let first : c.in-Ok.info.first ≡ sequence_octet = search rules in
    encrypted_is c.args.der.now c.in-Ok.field-0-1.now c.in-Ok.info c.content.result.now c.is_sealed.result c.in-Ok.ensures.split first c.content.ensures c.is_sealed.ensures

pub returns-else-eq : goal.returns-else-eq
returns-else-eq c =
    let other : c.in-Ok.info.first ≢ sequence_octet = search rules in
    subst (λ b. MatchBool b (IsEncrypted c.args.der.now) (IsEncrypted c.args.der.now → ⊥)) (sym c.if-eq.false)
    (no_encrypted c.args.der.now c.in-Ok.field-0-1.now c.in-Ok.info c.in-Ok.ensures.split (λ first sealed. other first))
