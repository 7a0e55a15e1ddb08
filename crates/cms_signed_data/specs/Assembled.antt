-- Signed data put together of the bytes of its parts (RFC 5652, section 5).
use Rattle.std.specs.Prelude.{ℕ, List, [], ◌++◌}
use Rattle.asn1_der.specs.Length.{element}
use Rattle.asn1_der.specs.Octets.{context_0_octet, sequence_octet, set_octet}

abbrev pub assembled_signer : List ℕ → List ℕ → List ℕ → List ℕ → List ℕ → List ℕ → List ℕ
assembled_signer version sid digest_algorithm attributes algorithm signature =
    element sequence_octet (version ++ (sid ++ (digest_algorithm ++ (attributes ++ (algorithm ++ (signature ++ []))))))

-- the certificate and the signer each alone under a further tag
abbrev pub assembled_data : List ℕ → List ℕ → List ℕ → List ℕ → List ℕ → List ℕ
assembled_data version digest_algorithm encapsulated certificate signer =
    element sequence_octet (version ++ (element set_octet digest_algorithm ++ (encapsulated ++ (element context_0_octet certificate ++ (element set_octet signer ++ [])))))

abbrev pub assembled : List ℕ → List ℕ → List ℕ
assembled oid data_bytes = element sequence_octet (oid ++ (element context_0_octet data_bytes ++ []))
