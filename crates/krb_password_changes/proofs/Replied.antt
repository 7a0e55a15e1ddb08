-- What a message is that is made of its parts.
use Rattle.std.proofs.Common.{◌≡◌, ◌⊎◌, None, Some, refl, subst, sym, inl, inr}
use Rattle.std.specs.Int.{cast_unsigned, w32}
use Rattle.asn1_der.specs.Tree.{IsWhole, der}
use Rattle.krb_password_changes.specs.Frames.{IsFrame}
use Rattle.krb_password_changes.specs.declared.messages.version.Version.TheVariants.{ChangePassword}
use Rattle.krb_constants.specs.declared.key_usages.TheConstants as usages
use Rattle.krb_crypto.specs.Suites.{cipher_confounder_size}
use Rattle.krb_messages.specs.declared.data_types.encrypted_data.EncryptedData.{EncryptedData}
use Rattle.krb_messages.specs.declared.data_types.encryption_key.EncryptionKey.{EncryptionKey}
use Rattle.krb_tickets.specs.Sealing.{encrypted_by, sealed_opens}
use Rattle.microsoft_messages.specs.declared.krb_priv.KrbPrivInner.{KrbPrivInner}
use Rattle.krb_crypto.specs.declared.suite.CipherSuite.{CipherSuite}
use Rattle.krb_messages.specs.RandomBytes.{Random}
use Rattle.krb_messages.specs.declared.data_types.host_address.HostAddress.{HostAddress}
use Rattle.krb_service.specs.Admission.{AdmissionRecord}
use Rattle.krb_tickets.specs.Keys.{suite_of}
use Rattle.krb_time.specs.Units.{Micros}
use Rattle.picky_asn1.specs.Bytes.{Bytes}
use Rattle.krb_password_changes.specs.Changes.{TargetRecord}
use Rattle.krb_password_changes.specs.Privates.{IsKrbPriv, IsPrivatePart, enc_krb_priv_part_tree, krb_priv_tree, private_key}
use Rattle.krb_password_changes.specs.Replies.{IsErrorReply, IsPrivateFrame, IsReply, krb_priv_of, private_confounder, reply_part}

-- a KRB-ERROR, where the request has no key or there is no AP-REP
pub error_given : (service : TargetRecord) (moment : Micros) (admission : AdmissionRecord) (key : EncryptionKey) (octets given : Bytes) (address : HostAddress) (words : Random) (message : Bytes)
    → key ≡ private_key admission → given ≡ octets → (suite_of key ≡ None) ⊎ (admission.reply ≡ None) → IsErrorReply service moment given message
    → IsReply service moment admission octets address words message
error_given service moment admission key octets given address words message own same why is =
    let reason = subst (λ (k : EncryptionKey). (suite_of k ≡ None) ⊎ (admission.reply ≡ None)) own why in
    inr (reason, subst (λ (o : Bytes). IsErrorReply service moment o message) same is)

-- a KRB-PRIV
pub private_given : (service : TargetRecord) (moment : Micros) (admission : AdmissionRecord) (key : EncryptionKey) (octets given : Bytes) (address : HostAddress) (words : Random) (message ap_rep : Bytes)
    (suite : CipherSuite) (bytes : Bytes) → key ≡ private_key admission → given ≡ octets → admission.reply ≡ Some ap_rep → suite_of key ≡ Some suite → key.key_value.0 ≡ bytes
    → IsPrivateFrame suite bytes ap_rep given address words message → IsReply service moment admission octets address words message
private_given service moment admission key octets given address words message ap_rep suite bytes own same replied keyed under is =
    let value : (private_key admission).key_value.0 ≡ bytes = subst (λ (k : EncryptionKey). k.key_value.0 ≡ bytes) own under in
    let with_octets = subst (λ (o : Bytes). IsPrivateFrame suite bytes ap_rep o address words message) same is in
    let with_key = subst (λ (k : Bytes). IsPrivateFrame suite k ap_rep octets address words message) (sym value) with_octets in
    let with_suite = subst (λ (k : EncryptionKey). suite_of k ≡ Some suite) own keyed in
    inl (record { ap_rep = ap_rep; has_ap_rep = replied; suite = suite; has_key = with_suite; is_frame = with_key })

-- the KRB-PRIV and its part can be written
whole_private : (suite : CipherSuite) (cipher : Bytes) → IsWhole (krb_priv_tree (krb_priv_of (encrypted_by suite None cipher)))
whole_private suite cipher = (((tt, tt), ((tt, tt), ((((tt, tt), ((tt, tt), tt)), tt), tt))), tt)

whole_part : (octets : Bytes) (address : HostAddress) → IsWhole (enc_krb_priv_part_tree (reply_part octets address))
whole_part octets address = (((tt, tt), ((tt, tt), ((((tt, tt), ((tt, tt), tt)), tt), tt))), tt)

-- so they are read
pub reply_is_read : (suite : CipherSuite) (key ap_rep octets : Bytes) (address : HostAddress) (words : Random) (message : Bytes) → IsPrivateFrame suite key ap_rep octets address words message
    → (krb_priv : Bytes) × (inner : KrbPrivInner) × IsFrame ChangePassword ap_rep krb_priv message × IsKrbPriv krb_priv inner
    × IsPrivatePart suite key inner.enc_part.0 (reply_part octets address)
reply_is_read suite key ap_rep octets address words message x =
    let own = x.is_private in
    let confounder : Bytes = private_confounder (cipher_confounder_size suite) words in
    let plain : Bytes = der (enc_krb_priv_part_tree (reply_part octets address)) in (
      x.krb_priv,
      krb_priv_of own.part,
      x.frame,
      (subst (λ (part : EncryptedData). IsWhole (krb_priv_tree (krb_priv_of part))) (sym own.sealed.told) (whole_private suite own.sealed.cipher), own.encoding),
      sealed_opens enc_krb_priv_part_tree (reply_part octets address) suite key None (cast_unsigned w32 usages.KRB_PRIV_ENC_PART) confounder plain own.part (whole_part octets address, refl) own.sealed,
    )
