-- Messages of Kerberos in tokens: which are read, why none is, and what is written.
use Rattle.std.proofs.Common.{◌≡◌, ℕ, ◌<◌, List, [], ◌++◌, length, refl, sym, ap, subst, ◌∙◌, arith}
use Rattle.std.proofs.lemmas.List.{append_cancel_left}
use Rattle.std.specs.declared.io.ErrorKind.TheVariants.{UnexpectedEof}
use Rattle.asn1_der.specs.Seen.{Seen, as_is, Alike, seen_pair}
use Rattle.asn1_der.proofs.Alike.{alike-pair, alike-part}
use Rattle.asn1_codec.specs.Reads.{IsOneValue, BeginsBy}
use Rattle.gss_contexts.specs.declared.message_tokens.error.GssApiMessageError.{GssApiMessageError}
use Rattle.gss_contexts.specs.declared.message_tokens.error.GssApiMessageError.TheVariants.{InvalidId, IoError}
use Rattle.picky_asn1.specs.declared.wrapper.ObjectIdentifierAsn1.{ObjectIdentifierAsn1}
use Rattle.gss_contexts.specs.declared.context_tokens.krb_message.KrbMessage.{KrbMessage}
use Rattle.gss_contexts.specs.declared.context_tokens.iakerb_proxy_message.IAKerbProxyMessage.{IAKerbProxyMessage}
use Rattle.gss_contexts.specs.declared.context_tokens.iakerb_header.IAKerbHeader.{IAKerbHeader}
use Rattle.gss_contexts.specs.contracts.context_tokens.iakerb_header.IAKerbHeaderFromDer.TheImpl as header_reading
use Rattle.gss_contexts.specs.Fronts.{Leads}
use Rattle.gss_contexts.specs.ContextTokens.{IsOfMechanism, IsTold, IsProxied, iakerb, proxy_id}
use Rattle.gss_contexts.specs.KrbMessages.{BeginsKrbMessage, BeginsProxyMessage, seen_message, seen_proxy_message}
use Rattle.gss_contexts.specs.ContextTokenRefusals.{IsUnread, IsTokenRefusal, IsProxyRefusal, HasOtherMechanism, HasOtherId}
use Rattle.gss_contexts.proofs.ContextTokenLaws.{mechanism-one, told-one, told-long, proxied-one}
use Rattle.gss_contexts.proofs.Unread.{token-as, token-ended, proxy-unread, proxy-as, proxy-fault}

module _ {T : Type 0} (reads : T → List ℕ → Type 0) where
  pub no-mechanism : (bytes : List ℕ) (fault : GssApiMessageError) → IsUnread (λ (m : ObjectIdentifierAsn1). (inner : List ℕ) × IsOfMechanism bytes m inner) fault
      → IsTokenRefusal (λ (m : KrbMessage T). BeginsKrbMessage reads m bytes) bytes fault
  no-mechanism bytes fault unread =
      token-as _ (λ (m : ObjectIdentifierAsn1). (inner : List ℕ) × IsOfMechanism bytes m inner) bytes fault unread
      (λ m (inner, message, of, told, read). (m.krb5_oid, (inner, of)))

  pub no-id : (bytes : List ℕ) (mechanism : ObjectIdentifierAsn1) (inner : List ℕ) (fault : GssApiMessageError) → IsOfMechanism bytes mechanism inner
      → fault ≡ IoError UnexpectedEof → length inner < 2 → IsTokenRefusal (λ (m : KrbMessage T). BeginsKrbMessage reads m bytes) bytes fault
  no-id bytes mechanism inner fault of is short =
      token-ended _ bytes fault is (λ m (other, message, also, told, read).
      let same : inner ≡ other = (mechanism-one bytes mechanism m.krb5_oid inner other of also).1 in
      absurd (omega (arith, ap length same, told-long other m.krb5_token_id message told)))
      (mechanism, inner, of, short)

  pub no-message : (bytes : List ℕ) (mechanism : ObjectIdentifierAsn1) (inner id message : List ℕ) (fault : GssApiMessageError) → IsOfMechanism bytes mechanism inner
      → IsTold inner id message → IsUnread (λ (v : T). reads v message) fault
      → IsTokenRefusal (λ (m : KrbMessage T). BeginsKrbMessage reads m bytes) bytes fault
  no-message bytes mechanism inner id message fault of told unread =
      token-as _ (λ (v : T). reads v message) bytes fault unread (λ m (other, more, also, again, read).
      let same : inner ≡ other = (mechanism-one bytes mechanism m.krb5_oid inner other of also).1 in
      let rest : message ≡ more = (told-one other id m.krb5_token_id message more (subst (λ (t : List ℕ). IsTold t id message) same told) again).1 in
      (m.krb_msg, subst (reads m.krb_msg) (sym rest) read))

  pub no-proxied : (bytes : List ℕ) (fault : GssApiMessageError) → IsProxyRefusal (IsProxied bytes) bytes fault
      → IsProxyRefusal (λ (m : IAKerbProxyMessage T). BeginsProxyMessage reads m bytes) bytes fault
  no-proxied bytes fault refused = proxy-as _ (IsProxied bytes) bytes fault refused (λ m (message, body, proxied, led, read). (message, proxied))

no_other_mechanism : (bytes message : List ℕ) → IsProxied bytes message → HasOtherMechanism bytes → ⊥
no_other_mechanism bytes message (inner, of, told) (mechanism, other, also, differs) =
    differs (sym (mechanism-one bytes iakerb mechanism inner other of also).0)

no_other_id : (bytes message : List ℕ) → IsProxied bytes message → HasOtherId bytes → ⊥
no_other_id bytes message (inner, of, told) (other, id, more, also, again, differs) =
    let same : inner ≡ other = (mechanism-one bytes iakerb iakerb inner other of also).1 in
    differs (sym (told-one other proxy_id id message more (subst (λ (t : List ℕ). IsTold t proxy_id message) same told) again).0)

module _ {T : Type 0} (reads : T → List ℕ → Type 0) where
  pub no-header : (bytes message : List ℕ) (fault : GssApiMessageError) → IsProxied bytes message
      → IsUnread (λ (h : IAKerbHeader). BeginsBy header_reading.ghosts.reads h message) fault
      → IsProxyRefusal (λ (m : IAKerbProxyMessage T). BeginsProxyMessage reads m bytes) bytes fault
  no-header bytes message fault proxied unread =
      proxy-unread _ (λ (h : IAKerbHeader). BeginsBy header_reading.ghosts.reads h message) bytes fault unread
      (λ m (other, body, also, (front, head, is), read).
      let same : message ≡ other = proxied-one bytes message other proxied also in
      (m.header, (front, body, head, same ∙ is)))
      (λ other. absurd (no_other_mechanism bytes message proxied other))
      (λ other. absurd (no_other_id bytes message proxied other))

  pub no-body : (bytes message : List ℕ) (header : IAKerbHeader) (body : List ℕ) (fault : GssApiMessageError) → IsOneValue as_is header_reading.ghosts.reads → IsProxied bytes message
      → Leads header_reading.ghosts.reads header message body → IsUnread (λ (v : T). reads v body) fault
      → IsProxyRefusal (λ (m : IAKerbProxyMessage T). BeginsProxyMessage reads m bytes) bytes fault
  no-body bytes message header body fault one proxied (front, head, is) unread =
      proxy-unread _ (λ (v : T). reads v body) bytes fault unread
      (λ m (other, more, also, (text, again, at), read).
      let same : message ≡ other = proxied-one bytes message other proxied also in
      let joined : front ++ body ≡ text ++ more = sym is ∙ same ∙ at in
      let texts : front ≡ text = (one header m.header front text body more head again joined).1 in
      let rest : body ≡ more = append_cancel_left text body more (ap (λ (t : List ℕ). t ++ body) (sym texts) ∙ joined) in
      (m.krb_msg, subst (reads m.krb_msg) (sym rest) read))
      (λ other. absurd (no_other_mechanism bytes message proxied other))
      (λ other. absurd (no_other_id bytes message proxied other))

-- a token of which the mechanism wasn't read
pub proxied-no_mechanism : (bytes : List ℕ) (fault : GssApiMessageError) → IsUnread (λ (m : ObjectIdentifierAsn1). (inner : List ℕ) × IsOfMechanism bytes m inner) fault
    → IsProxyRefusal (IsProxied bytes) bytes fault
proxied-no_mechanism bytes fault unread =
    proxy-unread (IsProxied bytes) (λ (m : ObjectIdentifierAsn1). (inner : List ℕ) × IsOfMechanism bytes m inner) bytes fault unread
    (λ message (inner, of, told). (iakerb, (inner, of)))
    (λ (mechanism, inner, of, differs). (mechanism, (inner, of)))
    (λ (inner, id, message, of, told, differs). (iakerb, (inner, of)))

-- of which the content ends before the message
pub proxied-no_id : (bytes : List ℕ) (mechanism : ObjectIdentifierAsn1) (inner : List ℕ) (fault : GssApiMessageError) → IsOfMechanism bytes mechanism inner
    → mechanism ≡ iakerb → fault ≡ IoError UnexpectedEof → length inner < 2 → IsProxyRefusal (IsProxied bytes) bytes fault
proxied-no_id bytes mechanism inner fault of known is short =
    proxy-fault (IsProxied bytes) bytes fault (IoError UnexpectedEof) is (
      λ message (other, also, told).
          let same : inner ≡ other = (mechanism-one bytes mechanism iakerb inner other of also).1 in
          absurd (omega (arith, ap length same, told-long other proxy_id message told)),
      λ (another, other, also, differs). differs (sym (mechanism-one bytes mechanism another inner other of also).0 ∙ known),
      λ (other, id, message, also, told, differs).
          let same : inner ≡ other = (mechanism-one bytes mechanism iakerb inner other of also).1 in
          absurd (omega (arith, ap length same, told-long other id message told)),
      refl,
      (mechanism, inner, of, short),
    )

-- of which the id is another
pub proxied-other_id : (bytes : List ℕ) (mechanism : ObjectIdentifierAsn1) (inner id message : List ℕ) (fault : GssApiMessageError) → IsOfMechanism bytes mechanism inner
    → mechanism ≡ iakerb → IsTold inner id message → fault ≡ InvalidId proxy_id id → (id ≡ proxy_id → ⊥) → IsProxyRefusal (IsProxied bytes) bytes fault
proxied-other_id bytes mechanism inner id message fault of known told is differs =
    proxy-fault (IsProxied bytes) bytes fault (InvalidId proxy_id id) is
    (inner, message, subst (λ (m : ObjectIdentifierAsn1). IsOfMechanism bytes m inner) known of, told, differs, refl)

pub proxied-told : (bytes : List ℕ) (mechanism : ObjectIdentifierAsn1) (inner id message : List ℕ) → IsOfMechanism bytes mechanism inner
    → mechanism ≡ iakerb → IsTold inner id message → id ≡ proxy_id → IsProxied bytes message
proxied-told bytes mechanism inner id message of known told is =
    (inner, subst (λ (m : ObjectIdentifierAsn1). IsOfMechanism bytes m inner) known of, subst (λ (t : List ℕ). IsTold inner t message) is told)

-- bytes begin with one message
pub message-one : {T : Type 0} (seen : Seen T) (reads : T → List ℕ → Type 0) → IsOneValue seen reads → (m n : KrbMessage T) (bytes : List ℕ)
    → BeginsKrbMessage reads m bytes → BeginsKrbMessage reads n bytes → Alike (seen_message seen) m n
message-one seen reads one m n bytes (inner, message, of, told, read) (other, more, also, again, same_read) =
    let mechanisms = mechanism-one bytes m.krb5_oid n.krb5_oid inner other of also in
    let ids = told-one other m.krb5_token_id n.krb5_token_id message more (subst (λ (t : List ℕ). IsTold t m.krb5_token_id message) mechanisms.1 told) again in
    let messages : Alike seen m.krb_msg n.krb_msg = (one m.krb_msg n.krb_msg message more [] [] read same_read (ap (λ (t : List ℕ). t ++ []) ids.1)).0 in
    alike-part (seen_pair as_is (seen_pair as_is seen)) m n (λ m. (m.krb5_oid, (m.krb5_token_id, m.krb_msg)))
    (λ parts. record { krb5_oid = parts.0; krb5_token_id = parts.1.0; krb_msg = parts.1.1 }) (λ m. refl)
    (alike-pair as_is (seen_pair as_is seen) (m.krb5_oid, (m.krb5_token_id, m.krb_msg)) (n.krb5_oid, (n.krb5_token_id, n.krb_msg)) mechanisms.0
    (alike-pair as_is seen (m.krb5_token_id, m.krb_msg) (n.krb5_token_id, n.krb_msg) ids.0 messages))

pub proxy_message-one : {T : Type 0} (seen : Seen T) (reads : T → List ℕ → Type 0) → IsOneValue seen reads → IsOneValue as_is header_reading.ghosts.reads
    → (m n : IAKerbProxyMessage T) (bytes : List ℕ) → BeginsProxyMessage reads m bytes → BeginsProxyMessage reads n bytes → Alike (seen_proxy_message seen) m n
proxy_message-one seen reads one one_header m n bytes (message, body, proxied, (front, head, is), read) (other, more, also, (text, again, at), same_read) =
    let same : message ≡ other = proxied-one bytes message other proxied also in
    let joined : front ++ body ≡ text ++ more = sym is ∙ same ∙ at in
    let headers = one_header m.header n.header front text body more head again joined in
    let rest : body ≡ more = append_cancel_left text body more (ap (λ (t : List ℕ). t ++ body) (sym headers.1) ∙ joined) in
    let messages : Alike seen m.krb_msg n.krb_msg = (one m.krb_msg n.krb_msg body more [] [] read same_read (ap (λ (t : List ℕ). t ++ []) rest)).0 in
    alike-part (seen_pair as_is seen) m n (λ m. (m.header, m.krb_msg)) (λ parts. record { header = parts.0; krb_msg = parts.1 }) (λ m. refl)
    (alike-pair as_is seen (m.header, m.krb_msg) (n.header, n.krb_msg) headers.0 messages)
