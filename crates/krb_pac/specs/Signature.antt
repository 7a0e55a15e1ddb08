-- PAC_SIGNATURE_DATA, and the server signature (MS-PAC, sections 2.8 and 2.8.1).
use Rattle.std.specs.Prelude.{ℕ, ◌+◌, ◌-◌, nat_eq, nat_lt, Bool, false, List, length, drop, replicate, Result, Ok, Err, if◌then◌else◌}
use Rattle.std.specs.Cmp.Lexicographic.{pointwise}
use Rattle.byte_streams.specs.Numbers.{le32_at}
use Rattle.byte_streams.specs.Parts.{part, put}
use Rattle.krb_constants.specs.KeyUsages.{key_usage}
use Rattle.krb_constants.specs.declared.cksum_types.TheConstants.{HMAC_SHA1_96_AES128, HMAC_SHA1_96_AES256, HMAC_SHA256_128_AES128, HMAC_SHA384_192_AES256}
use Rattle.krb_crypto.specs.declared.suite.CipherSuite.{CipherSuite}
use Rattle.krb_crypto.specs.declared.suite.CipherSuite.TheVariants.{Aes128CtsHmacSha196, Aes256CtsHmacSha196, Des3CbcSha1Kd, Aes128CtsHmacSha256128, Aes256CtsHmacSha384192}
use Rattle.krb_crypto.specs.Keys.{KeyRecord}
use Rattle.krb_crypto.specs.Sealing.{checksum_of}
use Rattle.krb_crypto.specs.Suites.{cipher_checksum}
use Rattle.microsoft_messages.specs.declared.pac.kind.PacBufferType.TheVariants.{ServerChecksum, KdcChecksum}
use Rattle.krb_pac.specs.declared.error.PacFault.{PacFault}
use Rattle.krb_pac.specs.declared.error.PacFault.TheVariants.{Short, Range, SignatureType, Signature}
use Rattle.krb_pac.specs.declared.signature.TheConstants.{SIGNATURE_USAGE}
use Rattle.krb_pac.specs.declared.table.PacRow.{PacRow}
use Rattle.krb_pac.specs.Table.{needed_row, content_of}
use Rattle.krb_pac.specs.Reading.{◌>>=◌}

-- The PAC with zeros behind SignatureType in the buffer of this row.
unfoldable pub zeroed : PacRow → List ℕ → Result (List ℕ) PacFault
zeroed row whole =
    if nat_lt row.size 4 then Err Short
    else if nat_lt (length whole) (row.offset + row.size) then Err Range
    else Ok (put (part (row.offset + 4) (replicate (row.size - 4) 0)) whole)

-- The server signature is of the PAC in which all octets behind SignatureType are zero in the buffers of both signatures (MS-PAC, section
-- 2.8.1). Test: `refused Signature` of `verified_pac.txt`.
unfoldable pub signed_octets : PacRow → PacRow → List ℕ → Result (List ℕ) PacFault
signed_octets server kdc whole = zeroed server whole >>= zeroed kdc

-- SignatureType is the checksum type of the key's suite, which is one of AES (MS-PAC, section 2.8; RFC 8009, section 7). Test:
-- `refused SignatureType` of `verified_pac.txt`.
unfoldable pub is_signature_type : CipherSuite → ℕ → Bool
is_signature_type Aes128CtsHmacSha196 number = nat_eq number HMAC_SHA1_96_AES128
is_signature_type Aes256CtsHmacSha196 number = nat_eq number HMAC_SHA1_96_AES256
is_signature_type Des3CbcSha1Kd number = false
is_signature_type Aes128CtsHmacSha256128 number = nat_eq number HMAC_SHA256_128_AES128
is_signature_type Aes256CtsHmacSha384192 number = nat_eq number HMAC_SHA384_192_AES256

-- The content of the buffer is SignatureType and a Signature of these octets under the key, for key usage 17 (MS-PAC, section 2.8.1).
-- Test: `refused Signature` of `verified_pac.txt`.
unfoldable pub signed_by : KeyRecord → List ℕ → List ℕ → Result (Unit {0}) PacFault
signed_by key octets content =
    if nat_lt (length content) 4 then Err Short
    else if is_signature_type key.suite (le32_at 0 content) then (
    if pointwise nat_eq (drop 4 content) (checksum_of (cipher_checksum key.suite) key.bytes (key_usage SIGNATURE_USAGE) octets) then Ok tt else Err Signature
    ) else Err SignatureType

-- The server signature of a PAC with these rows is one under the key.
unfoldable pub signature_judged : KeyRecord → List PacRow → List ℕ → Result (Unit {0}) PacFault
signature_judged key rows whole = do
  server ← needed_row ServerChecksum rows
  kdc ← needed_row KdcChecksum rows
  octets ← signed_octets server kdc whole
  content ← content_of server whole
  signed_by key octets content
