-- A request is made in one way, and one request in each way.
use Rattle.std.proofs.Common.{◌≡◌, ℕ, List, Option, None, Some, refl, sym, ap, subst, ◌∙◌}
use Rattle.std.specs.Prelude.{ℤ}
use Rattle.std.specs.Option.{option_map}
use Rattle.asn1_der.specs.Tree.{Tree, der}
use Rattle.asn1_der.proofs.Spelling.{IsInjective}
use Rattle.krb_crypto.specs.Sealing.{IsSealedBy}
use Rattle.krb_crypto.specs.Suites.{cipher_number}
use Rattle.krb_crypto.proofs.SealingLemmas.{one_opening, one_string}
use Rattle.krb_tickets.specs.Opens.{Opens, sole_opens}
use Rattle.krb_messages.specs.declared.data_types.authenticator.AuthenticatorInner.{AuthenticatorInner}
use Rattle.krb_messages.specs.declared.data_types.encrypted_data.EncryptedData.{EncryptedData}
use Rattle.krb_messages.specs.declared.data_types.enc_ticket_part.EncTicketPartInner.{EncTicketPartInner}
use Rattle.krb_messages.specs.declared.messages.ap_req.ApReqInner.{ApReqInner}
use Rattle.krb_messages.specs.Messages.{ap_req_tree, authenticator-injective, authenticator_tree, enc_ticket_part-injective, enc_ticket_part_tree, sole_ap_req}
use Rattle.krb_ap_requests.proofs.Suites.{suite_by_number}
use Rattle.krb_ap_requests.specs.Presents.{Choice, Outer, Presents, SealsTo, encrypted, request_of}

module _ {T : Type 0} (tree : T → Tree) (etype : ℤ) (key : List ℕ) (usage : ℕ) where
  -- what is sealed under one number is sealed by one suite
  by_one_suite : (c d : List ℕ) (v w : T) (a b : List ℕ) (x : SealsTo {T = T} tree etype key usage c v a) (y : SealsTo {T = T} tree etype key usage d w b)
      → IsSealedBy y.suite key usage c x.plain a
  by_one_suite c d v w a b x y =
      subst (λ suite. IsSealedBy suite key usage c x.plain a) (suite_by_number x.suite y.suite etype x.numbered y.numbered) x.sealed

  -- a ciphertext has one value and one confounder
  one_value : IsInjective {T = T} tree → (c d : List ℕ) (v w : T) (cipher : List ℕ)
      → SealsTo {T = T} tree etype key usage c v cipher → SealsTo {T = T} tree etype key usage d w cipher → (c ≡ d) × (v ≡ w)
  one_value injective c d v w cipher x y =
      let number : ℕ = cipher_number y.suite in
      let moved = by_one_suite c d v w cipher cipher x y in
      let first : Opens {T = T} tree number key usage cipher v = record { conf = c; plain = x.plain; writes = x.writes; sealed = (y.suite, refl, moved) } in
      let second : Opens {T = T} tree number key usage cipher w = record { conf = d; plain = y.plain; writes = y.writes; sealed = (y.suite, refl, y.sealed) } in
      ((one_opening y.suite key usage c x.plain d y.plain cipher moved y.sealed).0, sole_opens {T = T} tree injective number key usage cipher v w first second)

  -- a value and a confounder have one ciphertext
  one_cipher : (confounder : List ℕ) (value : T) (c d : List ℕ)
      → SealsTo {T = T} tree etype key usage confounder value c → SealsTo {T = T} tree etype key usage confounder value d → c ≡ d
  one_cipher confounder value c d x y =
      let plain : x.plain ≡ y.plain = x.writes.1 ∙ sym y.writes.1 in
      let moved = subst (λ p. IsSealedBy y.suite key usage confounder p c) plain (by_one_suite confounder confounder value value c d x y) in
      one_string y.suite key usage confounder y.plain c d moved y.sealed

-- the kvno of encrypted data, if it has one
abbrev pub kvno_of : EncryptedData → Option ℤ
kvno_of sealed = option_map (λ tagged. tagged.0) sealed.kvno.0

kvno_of-encrypted : (etype : ℤ) (kvno : Option ℤ) (cipher : List ℕ) → kvno_of (encrypted etype kvno cipher) ≡ kvno
kvno_of-encrypted etype None cipher = refl
kvno_of-encrypted etype (Some number) cipher = refl

-- the number of the tagged one is the tagged one again
twice : {A B : Type 0} (option : Option B) (tagged : A → B) (untagged : B → A) → ((b : B) → tagged (untagged b) ≡ b) → option_map tagged (option_map untagged option) ≡ option
twice None tagged untagged same = refl
twice (Some b) tagged untagged same = ap Some (same b)

pub encrypted-kvno_of : (sealed : EncryptedData) → encrypted sealed.etype.0 (kvno_of sealed) sealed.cipher.0 ≡ sealed
encrypted-kvno_of sealed = λ i. record {
  etype = sealed.etype;
  kvno = record { 0 = twice {A = ℤ} sealed.kvno.0 (λ number. record { 0 = number }) (λ tagged. tagged.0) (λ b. refl) i };
  cipher = sealed.cipher;
}

abbrev pub outer_of : ApReqInner → Outer
outer_of request = record {
  pvno = request.pvno.0;
  msg_type = request.msg_type.0;
  options = request.ap_options.0;
  tkt_vno = request.ticket.0.0.tkt_vno.0;
  realm = request.ticket.0.0.realm.0;
  service = request.ticket.0.0.sname.0;
  part_etype = request.ticket.0.0.enc_part.0.etype.0;
  part_kvno = kvno_of request.ticket.0.0.enc_part.0;
  etype = request.authenticator.0.etype.0;
  kvno = kvno_of request.authenticator.0;
}

outer-request : (outer : Outer) (part_cipher cipher : List ℕ) → outer_of (request_of outer part_cipher cipher) ≡ outer
outer-request outer part_cipher cipher = λ i. record {
  pvno = outer.pvno;
  msg_type = outer.msg_type;
  options = outer.options;
  tkt_vno = outer.tkt_vno;
  realm = outer.realm;
  service = outer.service;
  part_etype = outer.part_etype;
  part_kvno = kvno_of-encrypted outer.part_etype outer.part_kvno part_cipher i;
  etype = outer.etype;
  kvno = kvno_of-encrypted outer.etype outer.kvno cipher i;
}

pub one_presentation : (key message : List ℕ) (a b : Choice) → Presents key a message → Presents key b message → a ≡ b
one_presentation key message a b x y =
    let first : ApReqInner = request_of a.outer x.part_cipher x.cipher in
    let second : ApReqInner = request_of b.outer y.part_cipher y.cipher in
    let request : first ≡ second = sole_ap_req message first second x.writes y.writes in
    let outer : a.outer ≡ b.outer = sym (outer-request a.outer x.part_cipher x.cipher) ∙ ap outer_of request ∙ outer-request b.outer y.part_cipher y.cipher in
    let part_cipher : x.part_cipher ≡ y.part_cipher = ap (λ (r : ApReqInner). r.ticket.0.0.enc_part.0.cipher.0) request in
    let cipher : x.cipher ≡ y.cipher = ap (λ (r : ApReqInner). r.authenticator.0.cipher.0) request in
    let numbered = subst (λ (o : Outer). SealsTo {T = EncTicketPartInner} enc_ticket_part_tree o.part_etype key 2 a.part_confounder a.part x.part_cipher) outer x.part in
    let part = one_value enc_ticket_part_tree b.outer.part_etype key 2 enc_ticket_part-injective a.part_confounder b.part_confounder a.part b.part y.part_cipher
    (subst (λ c. SealsTo {T = EncTicketPartInner} enc_ticket_part_tree b.outer.part_etype key 2 a.part_confounder a.part c) part_cipher numbered) y.part in
    let told_by = subst (λ (o : Outer). SealsTo {T = AuthenticatorInner} authenticator_tree o.etype a.part.key.0.key_value.0 11 a.confounder a.authenticator x.cipher) outer x.authenticator in
    let under = subst (λ (p : EncTicketPartInner). SealsTo {T = AuthenticatorInner} authenticator_tree b.outer.etype p.key.0.key_value.0 11 a.confounder a.authenticator x.cipher) part.1 told_by in
    let own = one_value authenticator_tree b.outer.etype b.part.key.0.key_value.0 11 authenticator-injective a.confounder b.confounder a.authenticator b.authenticator y.cipher
    (subst (λ c. SealsTo {T = AuthenticatorInner} authenticator_tree b.outer.etype b.part.key.0.key_value.0 11 a.confounder a.authenticator c) cipher under) y.authenticator in
    λ i. record { outer = outer i; part = part.1 i; part_confounder = part.0 i; authenticator = own.1 i; confounder = own.0 i }

pub one_request : (key : List ℕ) (choice : Choice) (a b : List ℕ) → Presents key choice a → Presents key choice b → a ≡ b
one_request key choice a b x y =
    let part = one_cipher enc_ticket_part_tree choice.outer.part_etype key 2 choice.part_confounder choice.part x.part_cipher y.part_cipher x.part y.part in
    let own = one_cipher authenticator_tree choice.outer.etype choice.part.key.0.key_value.0 11 choice.confounder choice.authenticator x.cipher y.cipher x.authenticator y.authenticator in
    x.writes.1
    ∙ ap (λ c. der (ap_req_tree (request_of choice.outer c x.cipher))) part
    ∙ ap (λ c. der (ap_req_tree (request_of choice.outer y.part_cipher c))) own
    ∙ sym y.writes.1
