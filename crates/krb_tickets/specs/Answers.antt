-- Which reply of a KDC answers a request (RFC 4120, sections 3.1.5, 3.3.4).
use Rattle.std.specs.Prelude.{ℕ, Bool, ◌&&◌, List}
use Rattle.krb_messages.specs.declared.messages.enc_kdc_rep_part.EncKdcRepPart.{EncKdcRepPart}
use Rattle.krb_messages.specs.declared.messages.kdc_rep.KdcRep.{KdcRep}
use Rattle.krb_messages.specs.Names.{components, is_same_name, is_same_realm}
use Rattle.picky_asn1.specs.Numbers.{is_number}
use Rattle.picky_asn1.specs.Bytes.{Bytes}

-- The opened part has the request's nonce. The reply names the client, and the part the service, in the client's realm (RFC 4120,
-- sections 3.1.5 and 3.3.4).
unfoldable pub is_answer : Bytes → List Bytes → List Bytes → ℕ → KdcRep → EncKdcRepPart → Bool
is_answer realm client service nonce reply part =
    is_number nonce part.nonce.0
    && is_same_realm reply.crealm.0 realm
    && is_same_name (components reply.cname.0) client
    && is_same_realm part.srealm.0 realm
    && is_same_name (components part.sname.0) service
