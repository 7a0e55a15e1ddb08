-- What is in a request is as short as the request.
use Rattle.std.proofs.Common.{◌≡◌, ℕ, Bool, true, false, List, [], ◌∷◌, Option, None, Some, refl, subst, if◌then◌else◌, arith}
use Rattle.std.specs.List.{find}
use Rattle.std.specs.Option.{option_map, option_map_or}
use Rattle.asn1_der.specs.Tree.{Tree, Trees, constructed, more, none, put, trees_of, wrapped}
use Rattle.picky_asn1.specs.Numbers.{is_number}
use Rattle.picky_asn1_der.specs.declared.wrapper.ExplicitContextTag.{ExplicitContextTag}
use Rattle.krb_messages.specs.Trees.{pa_data_tree}
use Rattle.krb_messages.specs.declared.data_types.host_address.HostAddress.{HostAddress}
use Rattle.krb_messages.specs.declared.data_types.pa_data.PaData.{PaData}
use Rattle.krb_messages.specs.declared.data_types.principal_name.PrincipalName.{PrincipalName}
use Rattle.krb_messages.specs.MessageTrees.{kdc_req_body_tree, kdc_req_inner_tree}
use Rattle.krb_messages.specs.declared.messages.kdc_req.KdcReq.{KdcReq}
use Rattle.krb_messages.specs.declared.messages.kdc_req_body.KdcReqBody.{KdcReqBody}
use Rattle.krb_messages.specs.Padata.{first_padata, first_of}
use Rattle.krb_kdc_exchanges.proofs.Short.{AllFit, Fits, IsShort, behind_optional, content_of, head, in_tag, in_wrapped, inside, looser_all, no_trees, tail}
use Rattle.krb_kdc_exchanges.proofs.PartTrees.{addresses_tree, integer_tree, principal_name_tree, realm_tree, time_tree}

-- what is given of what may be missing
pub in_optional : {A B : Type 0} (n first : ℕ) (tree : B → Tree) (get : A → B) (value : Option A) (trees : Trees) (b : B) → option_map get value ≡ Some b
    → AllFit n (put (λ a. wrapped first (tree (get a))) value trees) → Fits n (tree b)
in_optional n first tree get None trees b e x = absurd (cc (e))
in_optional n first tree get (Some a) trees b e x =
    let same : get a ≡ b = cc (e) in
    subst (λ v. Fits n (tree v)) same (in_wrapped n first (tree (get a)) (head n (wrapped first (tree (get a))) trees x))

-- the body of a request
pub body_fits : (n : ℕ) (request : KdcReq) → Fits n (kdc_req_inner_tree request) → Fits n (kdc_req_body_tree request.req_body.0)
body_fits n request x =
    in_tag n 164 _ (head n _ _ (behind_optional n (λ padata. wrapped 163 (constructed 48 (trees_of pa_data_tree padata.0))) request.padata.0 _ (tail n _ _ (tail n _ _ (inside n 48 _ x)))))

module _ (n : ℕ) (body : KdcReqBody) (x : Fits n (kdc_req_body_tree body)) where
  pub client_fits : (name : PrincipalName) → option_map (λ tagged. tagged.0) body.cname.0 ≡ Some name → Fits n (principal_name_tree name)
  client_fits name e = in_optional n 161 principal_name_tree (λ tagged. tagged.0) body.cname.0 _ name e (tail n _ _ (inside n 48 _ x))

  pub realm_fits : Fits n (realm_tree body.realm.0)
  realm_fits =
      let from_realm = behind_optional n (λ tagged. wrapped 161 (principal_name_tree tagged.0)) body.cname.0 _ (tail n _ _ (inside n 48 _ x)) in
      in_wrapped n 162 (realm_tree body.realm.0) (head n _ _ from_realm)

  pub service_fits : (name : PrincipalName) → option_map (λ tagged. tagged.0) body.sname.0 ≡ Some name → Fits n (principal_name_tree name)
  service_fits name e =
      let from_realm = behind_optional n (λ tagged. wrapped 161 (principal_name_tree tagged.0)) body.cname.0 _ (tail n _ _ (inside n 48 _ x)) in
      in_optional n 163 principal_name_tree (λ tagged. tagged.0) body.sname.0 _ name e (tail n _ _ from_realm)

  pub nonce_fits : Fits n (integer_tree body.nonce.0)
  nonce_fits =
      let from_realm = behind_optional n (λ tagged. wrapped 161 (principal_name_tree tagged.0)) body.cname.0 _ (tail n _ _ (inside n 48 _ x)) in
      let from_start = behind_optional n (λ tagged. wrapped 163 (principal_name_tree tagged.0)) body.sname.0 _ (tail n _ _ from_realm) in
      let from_end = behind_optional n (λ tagged. wrapped 164 (time_tree tagged.0.0)) body.from.0 _ from_start in
      let from_nonce = behind_optional n (λ tagged. wrapped 166 (time_tree tagged.0.0)) body.rtime.0 _ (tail n _ _ from_end) in
      in_tag n 167 (integer_tree body.nonce.0) (head n _ _ from_nonce)

  pub addresses_fits : (list : List HostAddress) → option_map (λ tagged. tagged.0) body.addresses.0 ≡ Some list → Fits n (addresses_tree list)
  addresses_fits list e =
      let from_realm = behind_optional n (λ tagged. wrapped 161 (principal_name_tree tagged.0)) body.cname.0 _ (tail n _ _ (inside n 48 _ x)) in
      let from_start = behind_optional n (λ tagged. wrapped 163 (principal_name_tree tagged.0)) body.sname.0 _ (tail n _ _ from_realm) in
      let from_end = behind_optional n (λ tagged. wrapped 164 (time_tree tagged.0.0)) body.from.0 _ from_start in
      let from_nonce = behind_optional n (λ tagged. wrapped 166 (time_tree tagged.0.0)) body.rtime.0 _ (tail n _ _ from_end) in
      in_optional n 169 addresses_tree (λ tagged. tagged.0) body.addresses.0 _ list e (tail n _ _ (tail n _ _ from_nonce))

-- the data of the padata of a request
pa_data_fits : (n : ℕ) (pa_data : PaData) → Fits n (pa_data_tree pa_data) → IsShort n pa_data.padata_data.0
pa_data_fits n pa_data x = content_of n 4 pa_data.padata_data.0 (in_tag n 162 _ (head n _ _ (tail n _ _ (inside n 48 _ x))))

found_fits : (n : ℕ) (test : PaData → Bool) (padata : List PaData) (pa_data : PaData) → AllFit n (trees_of pa_data_tree padata) → find test padata ≡ Some pa_data → Fits n (pa_data_tree pa_data)
found_fits n test [] pa_data x e = absurd (cc (e))
found_fits n test (own ∷ padata) pa_data x e =
    by_test (test own) refl (λ f. found_fits n test padata pa_data (tail n (pa_data_tree own) (trees_of pa_data_tree padata) x) f) e
  where
    by_test : (b : Bool) → test own ≡ b → (find test padata ≡ Some pa_data → Fits n (pa_data_tree pa_data)) → (if b then Some own else find test padata) ≡ Some pa_data → Fits n (pa_data_tree pa_data)
    by_test true is rest e = let same : own ≡ pa_data = cc (e) in subst (λ v. Fits n (pa_data_tree v)) same (head n (pa_data_tree own) (trees_of pa_data_tree padata) x)
    by_test false is rest e = rest e

data_fits : (n kind : ℕ) (padata : List PaData) (data_bytes : List ℕ) → AllFit n (trees_of pa_data_tree padata) → first_of kind padata ≡ Some data_bytes → IsShort n data_bytes
unfolding first_of first_padata
data_fits n kind padata data_bytes x e = by_padata (find (λ pa_data. is_number kind pa_data.padata_type.0) padata) refl e
  where
    by_padata : (found : Option PaData) → find (λ pa_data. is_number kind pa_data.padata_type.0) padata ≡ found → option_map (λ pa_data. pa_data.padata_data.0) found ≡ Some data_bytes → IsShort n data_bytes
    by_padata None is e = absurd (cc (e))
    by_padata (Some pa_data) is e =
        let same : pa_data.padata_data.0 ≡ data_bytes = cc (e) in
        subst (IsShort n) same (pa_data_fits n pa_data (found_fits n (λ pa_data. is_number kind pa_data.padata_type.0) padata pa_data x is))

pub entries_fit : (n : ℕ) (request : KdcReq) → Fits n (kdc_req_inner_tree request) → AllFit n (trees_of pa_data_tree (option_map_or (λ tagged. tagged.0) request.padata.0 []))
entries_fit n request x = by_data request.padata.0 (tail n _ _ (tail n _ _ (inside n 48 _ x)))
  where
    by_data : (given : Option (ExplicitContextTag 3 (List PaData))) → AllFit n (put (λ tagged. wrapped 163 (constructed 48 (trees_of pa_data_tree tagged.0))) given (more (wrapped 164 (kdc_req_body_tree request.req_body.0)) none))
        → AllFit n (trees_of pa_data_tree (option_map_or (λ tagged. tagged.0) given []))
    by_data None y = looser_all 0 n none (omega arith) no_trees
    by_data (Some tagged) y = inside n 48 _ (in_tag n 163 _ (head n _ _ y))

pub padata_short : (n kind : ℕ) (request : KdcReq) (value : List ℕ) → Fits n (kdc_req_inner_tree request)
    → first_of kind (option_map_or (λ tagged. tagged.0) request.padata.0 []) ≡ Some value → IsShort n value
padata_short n kind request value x e = data_fits n kind (option_map_or (λ tagged. tagged.0) request.padata.0 []) value (entries_fit n request x) e
