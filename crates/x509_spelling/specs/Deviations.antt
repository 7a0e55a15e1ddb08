-- The ways in which an accepted spelling may deviate from the strict one. A value's count is the sum over its parts.
use Rattle.std.specs.Prelude.{ℕ, Bool, true, false}

pub data Deviation : Type 0 where
  -- The `critical` of an extension that is FALSE may be present, against DER: it is read and counted (RFC 5280, section 4.1).
  -- Test: `critical of an extension spelled out as FALSE`.
  critical_false_spelled : Deviation
  -- The `cA` of basic constraints that is FALSE may be present, against DER: it is read and counted (RFC 5280, section 4.2.1.9).
  -- Test: `cA of basic constraints spelled out as FALSE`.
  ca_false_spelled : Deviation
  -- The `version` of a certificate that is v1 may be present, against DER: it is read and counted (RFC 5280, section 4.1).
  -- Test: `TbsCertificate` of `openssl.txt`.
  version_1_spelled : Deviation
  -- The parameters NULL of an algorithm of the RSA family may be missing: that is read and counted (RFC 4055, sections 1.2 and 5).
  -- Test: `no NULL beside an algorithm of the RSA family`.
  null_missing : Deviation
  -- NULL may follow ECDSA, EdDSA or ML-DSA, which have no parameters: it is read and counted (RFC 5758, section 3.2; RFC 8410,
  -- section 3; RFC 9881, section 2). Test: `NULL beside an algorithm that has no parameters`.
  null_spelled : Deviation
  -- Where any algorithm is read (RawAlgorithmIdentifier), its parameters may be missing: that is counted, and NULL is written (RFC
  -- 5280, section 4.1.1.2). Test: `no parameters beside an algorithm of which nothing`.
  raw_parameters_missing : Deviation
  -- The parameters NULL of a hash may be missing in a DigestInfo: that is read and counted (RFC 8017, appendix A.2.4). Test:
  -- `no NULL beside the hash of a digest, or of RSASSA-PSS`.
  -- The parameters NULL of a hash may be missing in RSASSA-PSS: that is read and counted (RFC 4055, section 2.1). Test:
  -- `no NULL beside the hash of a digest, or of RSASSA-PSS`.
  hash_parameters_missing : Deviation
  -- The fields of an authority key identifier may be in another order than that of their tags: it counts once (RFC 5280, section
  -- 4.2.1.1). Test: `fields of an authority key identifier out of order`.
  fields_out_of_order : Deviation
  -- A field of an authority key identifier may be repeated: the last one is the value, and each other one counts (RFC 5280,
  -- section 4.2.1.1). Test: `a field of an authority key identifier twice,`.
  field_repeated : Deviation
  -- The `attributes` of a certification request may be missing: that is read and counted (RFC 2986, section 4.1).
  -- Test: `CertificationRequestInfo` of `openssl.txt`.
  attributes_missing : Deviation

-- a place counts one where the deviation is there
abbrev pub counted : Deviation → Bool → ℕ
counted deviation true = 1
counted deviation false = 0
