-- Which signed content is trusted, in parts of one table: the first case that holds counts.
use Rattle.std.specs.Prelude.{Result, Err}
use Rattle.decision_tables.specs.Tables.{Table, and_then, ask, done}
use Rattle.x509_keys.specs.KeyFunctions.{KeysRecord}
use Rattle.pkinit_validation.specs.Accepted.{accepted}
use Rattle.pkinit_validation.specs.Certificates.{IsCertificate, ReadRecord, sole_certificate}
use Rattle.pkinit_validation.specs.Expected.{ExpectedRecord}
use Rattle.pkinit_validation.specs.Judged.{JudgedRecord}
use Rattle.pkinit_validation.specs.Signers.{signed_by}
use Rattle.pkinit_validation.specs.declared.refusal.TrustRefusal.{TrustRefusal}
use Rattle.pkinit_validation.specs.declared.refusal.TrustRefusal.TheVariants.{CantVerifyCertificate}

-- Judges signed content by the signer's certificate: first the certificate, then the signature.
abbrev pub trusted_by : KeysRecord → ExpectedRecord → JudgedRecord → ReadRecord → Table (Result (Unit {0}) TrustRefusal)
trusted_by keys expected judged read =
    and_then (accepted keys expected read) (λ _. signed_by keys read.certificate judged)

-- Judges signed content: the expected principal signed it, and its certificate is accepted.
abbrev pub trusted : KeysRecord → ExpectedRecord → JudgedRecord → Table (Result (Unit {0}) TrustRefusal)
trusted keys expected judged =
    -- The signer's certificate is read, in any of its spellings (RFC 5280, section 4.1).
    -- No test: the reader of signed data refuses such content first.
    ask (IsCertificate judged.certificate) (sole_certificate judged.certificate) (done (Err CantVerifyCertificate)) (trusted_by keys expected judged)
