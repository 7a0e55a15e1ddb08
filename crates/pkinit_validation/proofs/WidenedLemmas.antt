-- An AuthPack of RFC 4556 is one that may have further fields, and its fields are judged alike.
use Rattle.std.proofs.Common.{◌≡◌, ℕ, Bool, true, false, List, [], ◌∷◌, ◌++◌, Option, None, Some, Result, Ok, Err, refl, sym, ap, ◌∙◌, subst, inl}
use Rattle.std.specs.Prelude.{not}
use Rattle.std.specs.Option.{option_map}
use Rattle.asn1_der.specs.Length.{element}
use Rattle.asn1_der.specs.Octets.{octet_string_octet, sequence_octet}
use Rattle.asn1_der.specs.Tagged.{tagged_tree}
use Rattle.asn1_der.specs.Tree.{AreWhole, IsWhole, Tree, Trees, absent, constructed, der, ders, leaf, more, none, primitive, put, trees_of, wrapped}
use Rattle.decision_tables.specs.One.{same_parts}
use Rattle.decision_tables.specs.Tables.{Table, and_then, done, need, refuse}
use Rattle.picky_asn1.specs.Bytes.{Bytes}
use Rattle.picky_asn1_der.specs.Raw.{Raw, has_low_number, raw_tree}
use Rattle.picky_asn1_der.specs.declared.wrapper.ExplicitContextTag.{ExplicitContextTag}
use Rattle.krb_constants.specs.declared.error_codes.TheConstants.{KDC_ERR_PREAUTH_FAILED}
use Rattle.krb_messages.specs.Refusals.{Code}
use Rattle.krb_messages.specs.declared.messages.kdc_req_body.KdcReqBody.{KdcReqBody}
use Rattle.krb_time.specs.Units.{Micros}
use Rattle.x509_algorithms.specs.contracts.algorithm_identifier.AlgorithmIdentifierSerialize.TheImpl as algorithm_impl
use Rattle.x509_algorithms.specs.declared.algorithm_identifier.AlgorithmIdentifier.{AlgorithmIdentifier}
use Rattle.pkinit_messages.specs.contracts.pk_authenticator.PkAuthenticatorTagged.TheImpl as authenticator_impl
use Rattle.pkinit_messages.specs.declared.auth_pack.AuthPack.{AuthPack}
use Rattle.pkinit_messages.specs.AuthPacks as agile
use Rattle.pkinit_validation.specs.AuthPackFields.{AuthPackFieldsRecord}
use Rattle.pkinit_validation.specs.AuthPacks as realm
use Rattle.pkinit_validation.specs.PkinitTable.{auth_pack_fields}
use Rattle.pkinit_validation.specs.GeneralFields.{FieldsRecord, covers, general_fields}
use Rattle.pkinit_validation.specs.Widened.{element_of, elements_of, fields_widened, pack_widened, types_widened}

-- trees that are written as the same bytes, where nothing of the first is missing
abbrev pub Respelled : Trees → Trees → Type 0
Respelled ts us = AreWhole ts → AreWhole us × (ders ts ≡ ders us)

in_front : (t : Tree) (ts us : Trees) → Respelled ts us → Respelled (more t ts) (more t us)
in_front t ts us same = λ whole. let others = same whole.1 in ((whole.0, others.0), λ i. der t ++ others.1 i)

put_front : {A : Type 0} (tree : A → Tree) (option : Option A) (ts us : Trees) → Respelled ts us → Respelled (put tree option ts) (put tree option us)
put_front tree None ts us same = same
put_front tree (Some value) ts us same = in_front (tree value) ts us same

-- a tree whose tag is in one octet is written as its element is
of_leaf : (valid : Bool) (first : ℕ) (content : Bytes) → valid ≡ true → IsWhole (leaf valid first content) × (element first content ≡ der (leaf valid first content))
of_leaf true first content e = (tt, refl)
of_leaf false first content e = absurd (cc (e))

as_element : (t : Tree) → has_low_number (element_of t).first ≡ true → IsWhole t → IsWhole (raw_tree (element_of t)) × (der t ≡ der (raw_tree (element_of t)))
as_element (primitive first content) low whole = of_leaf (has_low_number first) first content low
as_element (constructed first parts) low whole = of_leaf (has_low_number first) first (ders parts) low
as_element absent low whole = absurd whole

as_elements : (algorithms : List AlgorithmIdentifier) → Respelled (trees_of algorithm_impl.ghosts.tree algorithms) (trees_of raw_tree (elements_of algorithms))
as_elements [] = λ whole. (tt, refl)
as_elements (algorithm ∷ algorithms) = λ whole.
    let first = as_element (algorithm_impl.ghosts.tree algorithm) refl whole.0 in
    let others = as_elements algorithms whole.1 in
    ((first.0, others.0), λ i. first.1 i ++ others.1 i)

-- supportedCMSTypes: of algorithms, and of elements
abbrev types_tree : ExplicitContextTag 2 (List AlgorithmIdentifier) → Tree
types_tree types = wrapped 162 (constructed sequence_octet (trees_of algorithm_impl.ghosts.tree types.0))

abbrev elements_tree : ExplicitContextTag 2 (List Raw) → Tree
elements_tree elements = wrapped 162 (constructed sequence_octet (trees_of raw_tree elements.0))

put_types : (types : Option (ExplicitContextTag 2 (List AlgorithmIdentifier))) (ts : Trees) → Respelled (put types_tree types ts) (put elements_tree (option_map types_widened types) ts)
put_types None ts = λ whole. (whole, refl)
put_types (Some types) ts = λ whole.
    let elements = as_elements types.0 whole.0.0 in
    (((elements.0, tt), whole.1), λ i. element 162 (element sequence_octet (elements.1 i) ++ []) ++ ders ts)

-- the fields of an AuthPack that stay
abbrev authenticator_tree : AuthPack Raw → Tree
authenticator_tree pack = wrapped 160 (tagged_tree sequence_octet authenticator_impl.ghosts.row_tree authenticator_impl.ghosts.row_of pack.pk_authenticator.0)

abbrev value_tree : ExplicitContextTag 1 Raw → Tree
value_tree value = wrapped 161 (raw_tree value.0)

abbrev nonce_tree : ExplicitContextTag 3 Bytes → Tree
nonce_tree nonce = wrapped 163 (primitive octet_string_octet nonce.0)

abbrev behind_value : AuthPack Raw → Trees
behind_value pack = put types_tree pack.supported_cms_types.0 (put nonce_tree pack.client_dh_nonce.0 none)

abbrev behind_value_widened : AuthPack Raw → Trees
behind_value_widened pack = put elements_tree (option_map types_widened pack.supported_cms_types.0) (put nonce_tree pack.client_dh_nonce.0 none)

pub is_widened : (bytes : Bytes) (pack : AuthPack Raw) → realm.IsAuthPack bytes pack → agile.IsExtensibleAuthPack bytes (pack_widened pack)
unfolding realm.IsAuthPack agile.IsExtensibleAuthPack
is_widened bytes pack is =
    let types = put_types pack.supported_cms_types.0 (put nonce_tree pack.client_dh_nonce.0 none) in
    let value = put_front value_tree pack.client_public_value.0 (behind_value pack) (behind_value_widened pack) types in
    let all =
    in_front (authenticator_tree pack) (put value_tree pack.client_public_value.0 (behind_value pack)) (put value_tree pack.client_public_value.0 (behind_value_widened pack)) value is.0 in
    (all.0, is.1 ∙ ap (element sequence_octet) all.1)

-- the rows of a table that were passed, and those to pass
pub past_need : {A T E : Type 0} (option : Option A) (error : E) (rest : A → Table (Result T E)) (r : T) → (need option error rest).gives (Ok r)
    → (a : A) × (option ≡ Some a) × (rest a).gives (Ok r)
past_need None error rest r x = absurd (same_parts (Ok r) (Err error) x)
past_need (Some a) error rest r x = (a, refl, x)

pub past_refuse : {T E : Type 0} (case : Bool) (error : E) (rest : Table (Result T E)) (r : T) → (refuse case error rest).gives (Ok r) → (case ≡ false) × rest.gives (Ok r)
past_refuse true error rest r x = absurd (same_parts (Ok r) (Err error) x)
past_refuse false error rest r x = (refl, x)

pub by_need : {A T E : Type 0} (option : Option A) (error : E) (rest : A → Table (Result T E)) (a : A) (r : Result T E) → option ≡ Some a
    → (rest a).gives r → (need option error rest).gives r
by_need {A} {T} {E} option error rest a r e x = subst (λ o. (need o error rest).gives r) (sym e) x

pub by_refuse : {T E : Type 0} (case : Bool) (error : E) (rest : Table (Result T E)) (r : Result T E) → case ≡ false → rest.gives r → (refuse case error rest).gives r
by_refuse {T} {E} case error rest r e x = subst (λ b. (refuse b error rest).gives r) (sym e) x

-- the rows behind the public value, and behind the time
abbrev at_time : KdcReqBody → AuthPack Raw → Raw → Micros → Table (Result AuthPackFieldsRecord Code)
at_time body pack value time =
    refuse (not (realm.covers body pack)) KDC_ERR_PREAUTH_FAILED (done (Ok (record { value = value; time = time; nonce = pack.pk_authenticator.0.nonce.0 })))

abbrev at_value : KdcReqBody → AuthPack Raw → Raw → Table (Result AuthPackFieldsRecord Code)
at_value body pack value = need (realm.time_in pack) KDC_ERR_PREAUTH_FAILED (at_time body pack value)

abbrev at_time_widened : KdcReqBody → AuthPack Raw → Raw → Micros → Table (Result FieldsRecord Code)
at_time_widened body pack value time =
    and_then (covers body (pack_widened pack)) (λ _. done (Ok (record { value = value; time = time; nonce = pack.pk_authenticator.0.nonce.0; kdf = None })))

abbrev at_value_widened : KdcReqBody → AuthPack Raw → Raw → Table (Result FieldsRecord Code)
at_value_widened body pack value = need (agile.time_in (pack_widened pack)) KDC_ERR_PREAUTH_FAILED (at_time_widened body pack value)

-- the time is that of the same ctime and cusec
same_time : (pack : AuthPack Raw) → agile.time_in (pack_widened pack) ≡ realm.time_in pack
unfolding agile.time_in realm.time_in
same_time pack = refl

pub are_judged_alike : (body : KdcReqBody) (pack : AuthPack Raw) (fields : AuthPackFieldsRecord) → (auth_pack_fields body pack).gives (Ok fields)
    → (general_fields body (pack_widened pack)).gives (Ok (fields_widened fields))
are_judged_alike body pack fields given =
    let value = past_need {A = Raw} {T = AuthPackFieldsRecord} {E = Code} (realm.value_in pack) KDC_ERR_PREAUTH_FAILED (at_value body pack) fields given in
    let time = past_need {A = Micros} {T = AuthPackFieldsRecord} {E = Code} (realm.time_in pack) KDC_ERR_PREAUTH_FAILED (at_time body pack value.0) fields value.2 in
    let covered =
    past_refuse {T = AuthPackFieldsRecord} {E = Code} (not (realm.covers body pack)) KDC_ERR_PREAUTH_FAILED
    (done (Ok (record { value = value.0; time = time.0; nonce = pack.pk_authenticator.0.nonce.0 }))) fields time.2 in
    let made : fields ≡ record { value = value.0; time = time.0; nonce = pack.pk_authenticator.0.nonce.0 } =
    same_parts (Ok fields) (Ok (record { value = value.0; time = time.0; nonce = pack.pk_authenticator.0.nonce.0 })) covered.1 in
    let checked : (covers body (pack_widened pack)).gives (Ok tt) =
    by_refuse {T = Unit {0}} {E = Code} (not (realm.covers body pack)) KDC_ERR_PREAUTH_FAILED (done (Ok tt)) (Ok tt) covered.0 refl in
    by_need {A = Raw} {T = FieldsRecord} {E = Code} (realm.value_in pack) KDC_ERR_PREAUTH_FAILED (at_value_widened body pack) value.0 (Ok (fields_widened fields)) value.1
    (by_need {A = Micros} {T = FieldsRecord} {E = Code} (agile.time_in (pack_widened pack)) KDC_ERR_PREAUTH_FAILED (at_time_widened body pack value.0) time.0 (Ok (fields_widened fields)) (same_time pack ∙ time.1)
    (inl (tt, checked, λ i. Ok (fields_widened (made i)))))
