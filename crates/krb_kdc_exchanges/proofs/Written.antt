-- What is sealed of a ticket that is granted can be written: its encodings are bytes.
use Rattle.std.proofs.Common.{◌≡◌, ◌<◌, ◌≤◌, ℕ, ◌+◌, ◌^◌, Bool, true, false, not, List, [], ◌∷◌, length, drop, Some, Ok, refl, subst, arith}
use Rattle.std.proofs.lemmas.Bool.{and_parts, eqb-true}
use Rattle.std.proofs.lemmas.List.{length-drop, length-take-le}
use Rattle.std.specs.Bool.{nat_eq}
use Rattle.std.specs.Cmp.Lexicographic.{pointwise}
use Rattle.picky_asn1.specs.Numbers.{is_number}
use Rattle.block_ciphers.specs.Bytes.{IsBytes}
use Rattle.block_ciphers.proofs.States.{IsBytes-drop, IsBytes-take}
use Rattle.krb_crypto.specs.declared.suite.CipherSuite.{CipherSuite}
use Rattle.krb_crypto.specs.Suites.{cipher_seed_size}
use Rattle.krb_crypto.proofs.AllSuites.{key_below, seed_below}
use Rattle.krb_crypto.proofs.SealedTexts.{seed_key_bytes, seed_key_sized}
use Rattle.krb_messages.specs.Names.{is_same_realm}
use Rattle.krb_messages.specs.RandomBytes.{session_seed}
use Rattle.krb_messages.specs.MessageTrees.{kdc_req_inner_tree}
use Rattle.krb_messages.specs.declared.data_types.host_address.HostAddress.{HostAddress}
use Rattle.krb_messages.specs.declared.messages.kdc_req.KdcReq.{KdcReq}
use Rattle.decision_tables.specs.Tables.{done, refuse}
use Rattle.krb_tickets.specs.Grant.{GrantRecord}
use Rattle.krb_tickets.specs.declared.reply.Exchange.{Exchange}
use Rattle.krb_tickets.specs.declared.reply.Exchange.TheVariants.{As, Tgs}
use Rattle.krb_tickets.specs.Parts.{flags_octet, front_octet, masked, reply_part, session_key_of, ticket_part}
use Rattle.krb_tickets.specs.Sealed.{reply_part_bytes, ticket_part_bytes}
use Rattle.krb_kdc_exchanges.specs.Requests.{header_rows, is_postdated}
use Rattle.krb_kdc_exchanges.proofs.PartTrees.{AreFit, addresses_tree, integer_tree, principal_name_tree, realm_tree, reply_fits, ticket_fits}
use Rattle.krb_kdc_exchanges.proofs.RequestTrees.{body_fits, realm_fits}
use Rattle.krb_kdc_exchanges.proofs.Short.{Fits, IsShort}

-- the encodings of both parts are bytes
pub record IsWritten (exchange : Exchange) (grant : GrantRecord) : Type 0 where
  pub ticket : IsBytes (ticket_part_bytes (ticket_part grant))
  pub reply : IsBytes (reply_part_bytes exchange (reply_part grant))

-- the session's key
seed_sized : (suite : CipherSuite) (words : List ℕ) → 128 ≤ length words → length (session_seed (cipher_seed_size suite) words) ≡ cipher_seed_size suite
seed_sized suite words long =
    length-take-le (cipher_seed_size suite) (drop 0 words) (omega (arith, length-drop 0 words, seed_below suite))

pub session_short : (suite : CipherSuite) (words : List ℕ) → 128 ≤ length words → IsBytes words → IsShort 32 (session_key_of suite words)
session_short suite words long bytes =
    let seed : List ℕ = session_seed (cipher_seed_size suite) words in
    record {
      bytes = seed_key_bytes suite seed (IsBytes-take (cipher_seed_size suite) (drop 0 words) (IsBytes-drop 0 words bytes));
      short = omega (arith, seed_key_sized suite seed (seed_sized suite words long), key_below suite);
    }

-- a bit is set or not
masked_most : (set : Bool) (mask : ℕ) → masked set mask ≤ mask
masked_most true mask = omega arith
masked_most false mask = omega arith

octet_below : (a b c : Bool) → masked a 0x80 + masked b 0x40 + masked c 0x20 < 256
octet_below a b c = omega (arith, masked_most a 0x80, masked_most b 0x40, masked_most c 0x20)

front_below : (a b c d : Bool) → masked a 0x40 + masked b 0x20 + masked c 0x10 + masked d 0x08 < 256
front_below a b c d = omega (arith, masked_most a 0x40, masked_most b 0x20, masked_most c 0x10, masked_most d 0x08)

-- what a grant holds is short
pub record HoldsShort (n : ℕ) (grant : GrantRecord) : Type 0 where
  pub few : n < 2 ^ 64
  pub session : IsShort 32 grant.session
  pub realm : Fits n (realm_tree grant.realm)
  pub client : Fits n (principal_name_tree grant.client)
  pub service : Fits n (principal_name_tree grant.service)
  pub nonce : Fits n (integer_tree grant.nonce)
  pub addresses : (list : List HostAddress) → grant.addresses ≡ Some list → Fits n (addresses_tree list)

module _ (n : ℕ) (grant : GrantRecord) (x : HoldsShort n grant) where
  below : flags_octet grant.flags < 256
  below = octet_below grant.flags.renewable grant.flags.initial grant.flags.pre_authenticated

  low : front_octet grant.flags < 256
  low = front_below grant.flags.forwardable grant.flags.forwarded grant.flags.proxiable grant.flags.proxy

  of_client : AreFit n grant.session grant.realm grant.client
  of_client = record { few = x.few; session_key = x.session; realm_name = x.realm; name_tree = x.client }

  of_service : AreFit n grant.session grant.realm grant.service
  of_service = record { few = x.few; session_key = x.session; realm_name = x.realm; name_tree = x.service }

  ticket_bytes : IsBytes (ticket_part_bytes (ticket_part grant))
  unfolding ticket_part ticket_part_bytes
  ticket_bytes = (ticket_fits n grant.suite grant.session grant.realm grant.client of_client (front_octet grant.flags) (flags_octet grant.flags) low below grant.auth_time grant.starttime grant.endtime grant.renew_till grant.addresses x.addresses).written.bytes

  reply_bytes : (exchange : Exchange) → IsBytes (reply_part_bytes exchange (reply_part grant))
  unfolding reply_part reply_part_bytes
  reply_bytes As =
      (reply_fits n grant.suite grant.session grant.realm grant.service of_service (front_octet grant.flags) (flags_octet grant.flags) low below grant.auth_time grant.starttime grant.endtime grant.renew_till grant.addresses x.addresses 121 (omega arith) grant.nonce x.nonce).written.bytes
  reply_bytes Tgs =
      (reply_fits n grant.suite grant.session grant.realm grant.service of_service (front_octet grant.flags) (flags_octet grant.flags) low below grant.auth_time grant.starttime grant.endtime grant.renew_till grant.addresses x.addresses 122 (omega arith) grant.nonce x.nonce).written.bytes

  pub is_written : (exchange : Exchange) → IsWritten exchange grant
  is_written exchange = record { ticket = ticket_bytes; reply = reply_bytes exchange }

-- a request that is for the realm names it
same_bytes : (a b : List ℕ) → pointwise nat_eq a b ≡ true → a ≡ b
same_bytes [] [] e = refl
same_bytes [] (y ∷ b) e = absurd (cc (e))
same_bytes (x ∷ a) [] e = absurd (cc (e))
same_bytes (x ∷ a) (y ∷ b) e =
    let parts = and_parts (nat_eq x y) (pointwise nat_eq a b) e in
    let first : x ≡ y = eqb-true x y parts.0 in
    let rest : a ≡ b = same_bytes a b parts.1 in
    cc

pub header_realm : (kind : ℕ) (realm : List ℕ) (is_refused : Bool) (request : KdcReq) → (header_rows kind realm is_refused request).gives (Ok tt) → request.req_body.0.realm.0 ≡ realm
header_realm kind realm is_refused request x =
    same_bytes request.req_body.0.realm.0 realm
    (rows (not (is_number 5 request.pvno.0)) (not (is_number kind request.msg_type.0)) (is_same_realm request.req_body.0.realm.0 realm)
    is_refused (is_postdated request.req_body.0.kdc_options.0) x)
  where
    rows : (a b c d e : Bool) → (refuse {T = Unit {0}} {E = ℕ} a 3 (refuse b 40 (refuse (not c) 68 (refuse d 13 (refuse e 10 (done (Ok tt))))))).gives (Ok tt) → c ≡ true
    rows true b c d e y = absurd (cc (y))
    rows false true c d e y = absurd (cc (y))
    rows false false true d e y = refl
    rows false false false d e y = absurd (cc (y))

-- so the realm's name is as short as the request
pub own_realm_fits : (n kind : ℕ) (realm : List ℕ) (is_refused : Bool) (request : KdcReq) → (header_rows kind realm is_refused request).gives (Ok tt) → Fits n (kdc_req_inner_tree request)
    → Fits n (realm_tree realm)
own_realm_fits n kind realm is_refused request x fits =
    subst (λ r. Fits n (realm_tree r)) (header_realm kind realm is_refused request x) (realm_fits n request.req_body.0 (body_fits n request fits))
