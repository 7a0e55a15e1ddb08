-- What is whole in requests and in tickets has names that are texts.
use Rattle.std.proofs.Common.{◌≡◌, ℕ, Bool, true, false, List, [], ◌∷◌, Option, None, Some, refl, subst}
use Rattle.std.proofs.lemmas.Bool.{and_from}
use Rattle.std.specs.Option.{option_map}
use Rattle.asn1_leaves.specs.CharSets.{is_general_string}
use Rattle.asn1_der.specs.Tree.{AreWhole, constructed, IsWhole, leaf, more, none, put, Tree, Trees, trees_of, wrapped}
use Rattle.asn1_der.proofs.Spelling.{wrapped-whole}
use Rattle.krb_messages.specs.Trees.{pa_data_tree}
use Rattle.krb_messages.specs.declared.data_types.enc_ticket_part.EncTicketPartInner.{EncTicketPartInner}
use Rattle.krb_messages.specs.declared.data_types.principal_name.PrincipalName.{PrincipalName}
use Rattle.krb_messages.specs.Messages.{enc_ticket_part_tree}
use Rattle.krb_messages.specs.MessageTrees.{kdc_req_body_tree, kdc_req_inner_tree}
use Rattle.krb_messages.specs.declared.messages.kdc_req.KdcReq.{KdcReq}
use Rattle.krb_messages.specs.declared.messages.kdc_req_body.KdcReqBody.{KdcReqBody}
use Rattle.krb_kdc_exchanges.proofs.PartTrees.{principal_name_tree, realm_tree}
use Rattle.krb_logins.proofs.Names.{are_texts}

leaf_text : (b : Bool) (first : ℕ) (content : List ℕ) → IsWhole (leaf b first content) → b ≡ true
leaf_text true first content whole = refl
leaf_text false first content whole = absurd whole

texts_of : (names : List (List ℕ)) → AreWhole (trees_of (λ text. leaf (is_general_string text) 27 text) names) → are_texts names ≡ true
texts_of [] whole = refl
texts_of (name ∷ names) whole = and_from (is_general_string name) (are_texts names) (leaf_text (is_general_string name) 27 name whole.0) (texts_of names whole.1)

pub whole_name_texts : (name : PrincipalName) → IsWhole (principal_name_tree name) → are_texts name.name_string.0 ≡ true
whole_name_texts name whole = texts_of name.name_string.0 whole.1.0.0

pub whole_realm_text : (realm : List ℕ) → IsWhole (realm_tree realm) → is_general_string realm ≡ true
whole_realm_text realm whole = leaf_text (is_general_string realm) 27 realm whole

-- past what may be missing
behind_put : {A : Type 0} (tree : A → Tree) (value : Option A) (trees : Trees) → AreWhole (put tree value trees) → AreWhole trees
behind_put tree None trees whole = whole
behind_put tree (Some a) trees whole = whole.1

in_put : {A B : Type 0} (first : ℕ) (tree : B → Tree) (get : A → B) (value : Option A) (trees : Trees) (b : B) → option_map get value ≡ Some b
    → AreWhole (put (λ a. wrapped first (tree (get a))) value trees) → IsWhole (tree b)
in_put first tree get None trees b e whole = absurd (cc (e))
in_put first tree get (Some a) trees b e whole =
    let same : get a ≡ b = cc (e) in
    subst (λ v. IsWhole (tree v)) same (wrapped-whole first (tree (get a)) whole.0)

-- a request's realm and client
pub body_whole : (request : KdcReq) → IsWhole (kdc_req_inner_tree request) → IsWhole (kdc_req_body_tree request.req_body.0)
body_whole request whole =
    wrapped-whole 164 (kdc_req_body_tree request.req_body.0)
    (behind_put (λ padata. wrapped 163 (constructed 48 (trees_of pa_data_tree padata.0))) request.padata.0 (more (wrapped 164 (kdc_req_body_tree request.req_body.0)) none) whole.1.1).0

pub client_whole : (body : KdcReqBody) (name : PrincipalName) → IsWhole (kdc_req_body_tree body) → option_map (λ tagged. tagged.0) body.cname.0 ≡ Some name → IsWhole (principal_name_tree name)
client_whole body name whole e = in_put 161 principal_name_tree (λ tagged. tagged.0) body.cname.0 _ name e whole.1

pub service_whole : (body : KdcReqBody) (name : PrincipalName) → IsWhole (kdc_req_body_tree body) → option_map (λ tagged. tagged.0) body.sname.0 ≡ Some name → IsWhole (principal_name_tree name)
service_whole body name whole e =
    in_put 163 principal_name_tree (λ tagged. tagged.0) body.sname.0 _ name e (behind_put (λ tagged. wrapped 161 (principal_name_tree tagged.0)) body.cname.0 _ whole.1).1

pub realm_whole : (body : KdcReqBody) → IsWhole (kdc_req_body_tree body) → IsWhole (realm_tree body.realm.0)
realm_whole body whole =
    wrapped-whole 162 (realm_tree body.realm.0) (behind_put (λ tagged. wrapped 161 (principal_name_tree tagged.0)) body.cname.0 _ whole.1).0

-- a ticket's
pub part_realm : (part : EncTicketPartInner) → IsWhole (enc_ticket_part_tree part) → is_general_string part.crealm.0 ≡ true
part_realm part whole = whole_realm_text part.crealm.0 (wrapped-whole 162 (realm_tree part.crealm.0) whole.0.1.1.0)

pub part_name : (part : EncTicketPartInner) → IsWhole (enc_ticket_part_tree part) → are_texts part.cname.0.name_string.0 ≡ true
part_name part whole = whole_name_texts part.cname.0 whole.0.1.1.1.0.0
