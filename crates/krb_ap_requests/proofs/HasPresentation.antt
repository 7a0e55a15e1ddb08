-- A choice that fits its keys' suites is presented by some string of bytes.
use Rattle.std.proofs.Common.{◌≡◌, ℕ, List, refl}
use Rattle.std.specs.Prelude.{ℤ}
use Rattle.asn1_der.specs.Tree.{Tree, der}
use Rattle.krb_crypto.proofs.SealedTexts.{has_sealed}
use Rattle.krb_messages.specs.declared.data_types.authenticator.AuthenticatorInner.{AuthenticatorInner}
use Rattle.krb_messages.specs.declared.data_types.enc_ticket_part.EncTicketPartInner.{EncTicketPartInner}
use Rattle.krb_messages.specs.Messages.{ap_req_tree, authenticator_tree, enc_ticket_part_tree}
use Rattle.krb_ap_requests.specs.Fitting.{FitsSuite, IsFitting}
use Rattle.krb_ap_requests.specs.Presents.{Choice, Presents, SealsTo, request_of}

sealed_value : {T : Type 0} (tree : T → Tree) (etype : ℤ) (key : List ℕ) (usage : ℕ) (confounder : List ℕ) (value : T) → FitsSuite {T = T} tree etype key confounder value
    → (cipher : List ℕ) × SealsTo {T = T} tree etype key usage confounder value cipher
sealed_value {T} tree etype key usage confounder value x =
    let made = has_sealed x.suite key usage confounder (der (tree value)) x.key_sized x.key_bytes x.confounder_sized x.confounder_bytes x.encoded in
    (made.0, record { suite = x.suite; numbered = x.numbered; plain = der (tree value); writes = (x.whole, refl); sealed = made.1 })

pub has_presentation : (key : List ℕ) (choice : Choice) → IsFitting key choice → (bytes : List ℕ) × Presents key choice bytes
has_presentation key choice x =
    let part = sealed_value {T = EncTicketPartInner} enc_ticket_part_tree choice.outer.part_etype key 2 choice.part_confounder choice.part x.part in
    let own = sealed_value {T = AuthenticatorInner} authenticator_tree choice.outer.etype choice.part.key.0.key_value.0 11 choice.confounder choice.authenticator x.authenticator in
    let request = request_of choice.outer part.0 own.0 in
    (der (ap_req_tree request), record { part_cipher = part.0; cipher = own.0; writes = (x.outer part.0 own.0, refl); part = part.1; authenticator = own.1 })
