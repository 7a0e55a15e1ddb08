-- The fields of an authority key identifier as three alternatives (RFC 5280, section 4.2.1.1), and the value that fields in any
-- order, and some more than once, make.
use Rattle.std.specs.Prelude.{◌≡◌, ℕ, ℤ, ◌+◌, Bool, true, false, ◌||◌, List, [], ◌∷◌, Option, None, Some, refl}
use Rattle.picky_asn1_der.specs.declared.choice.Choice.{Choice}
use Rattle.picky_asn1_der.specs.declared.choice.Choice.TheVariants.{This, Other}
use Rattle.picky_asn1_der.specs.declared.choice.Last.{Last}
use Rattle.picky_asn1_der.specs.declared.wrapper.ExplicitContextTag.{ExplicitContextTag}
use Rattle.picky_asn1_der.specs.declared.implicit_tag.ImplicitContextTag.{ImplicitContextTag}
use Rattle.x509_fields.specs.declared.general_name.GeneralName.{GeneralName}
use Rattle.x509_certificates.specs.declared.authority_field.AuthorityField.{AuthorityField}
use Rattle.x509_certificates.specs.declared.authority_key_identifier.AuthorityKeyIdentifier.{AuthorityKeyIdentifier}
use Rattle.x509_certificates.specs.declared.authority_key_identifier.Gathered.{Gathered}
use Rattle.x509_certificates.specs.declared.authority_field.AuthorityField.TheVariants.{KeyIdentifier, Issuer, SerialNumber}
use Rattle.x509_spelling.specs.Deviations.{fields_out_of_order, field_repeated, counted}

abbrev pub FieldChoice : Type 0
FieldChoice = Choice (ImplicitContextTag 0 (List ℕ)) (Choice (ExplicitContextTag 1 GeneralName) (Last (ImplicitContextTag 2 ℤ)))

-- the alternative that a field is, under its tag
abbrev pub field_choice : AuthorityField → FieldChoice
field_choice (KeyIdentifier key) = This key
field_choice (Issuer issuer) = Other (This issuer)
field_choice (SerialNumber number) = Other (Other (record { 0 = number }))

abbrev pub field_made : FieldChoice → AuthorityField
field_made (This key) = KeyIdentifier key
field_made (Other (This issuer)) = Issuer issuer
field_made (Other (Other last)) = SerialNumber last.0

pub field_back : (v : AuthorityField) → field_made (field_choice v) ≡ v
field_back (KeyIdentifier key) = refl
field_back (Issuer issuer) = refl
field_back (SerialNumber number) = refl

-- A field that may be missing, under its implicit tag (X.680, section 31.2).
abbrev pub implicit : {T : Type 0} (n : ℕ) → Option T → Option (ImplicitContextTag n T)
implicit n None = None
implicit n (Some field) = Some (record { 0 = field })

-- A field that may be missing, under its explicit tag (X.680, section 31.2).
abbrev pub explicit : {T : Type 0} (n : ℕ) → Option T → Option (ExplicitContextTag n T)
explicit n None = None
explicit n (Some field) = Some (record { 0 = field })

-- the field is there
abbrev pub stands : {A : Type 0} → Option A → Bool
stands None = false
stands (Some field) = true

-- the later one of two fields of one tag
abbrev pub kept : {A : Type 0} → Option A → A → Option A
kept None field = Some field
kept (Some behind) field = Some behind

-- what is gathered behind the last field: no field is there, none is out of order and none is repeated
abbrev pub nothing : Gathered
nothing = record {
  value = record {
    key_identifier = record { 0 = None };
    authority_cert_issuer = record { 0 = None };
    authority_cert_serial_number = record { 0 = None };
  };
  is_disordered = false;
  repeats = 0;
}

-- The value with a field put in, unless one of its tag is there.
abbrev pub with_field : AuthorityField → AuthorityKeyIdentifier → AuthorityKeyIdentifier
with_field (KeyIdentifier key) v = record {
  key_identifier = record { 0 = kept v.key_identifier.0 key };
  authority_cert_issuer = v.authority_cert_issuer;
  authority_cert_serial_number = v.authority_cert_serial_number;
}
with_field (Issuer issuer) v = record {
  key_identifier = v.key_identifier;
  authority_cert_issuer = record { 0 = kept v.authority_cert_issuer.0 issuer };
  authority_cert_serial_number = v.authority_cert_serial_number;
}
with_field (SerialNumber number) v = record {
  key_identifier = v.key_identifier;
  authority_cert_issuer = v.authority_cert_issuer;
  authority_cert_serial_number = record { 0 = kept v.authority_cert_serial_number.0 number };
}

-- Whether a field of its tag is there.
abbrev pub is_again : AuthorityField → AuthorityKeyIdentifier → Bool
is_again (KeyIdentifier key) v = stands v.key_identifier.0
is_again (Issuer issuer) v = stands v.authority_cert_issuer.0
is_again (SerialNumber number) v = stands v.authority_cert_serial_number.0

-- Whether a field of a lower tag is there: behind this field, it is out of order.
abbrev pub is_late : AuthorityField → AuthorityKeyIdentifier → Bool
is_late (KeyIdentifier key) v = false
is_late (Issuer issuer) v = stands v.key_identifier.0
is_late (SerialNumber number) v = stands v.key_identifier.0 || stands v.authority_cert_issuer.0

-- A field in front of others: its tag may be there again, or one that is less.
abbrev pub before : AuthorityField → Gathered → Gathered
before field g = record {
  value = with_field field g.value;
  is_disordered = is_late field g.value || g.is_disordered;
  repeats = g.repeats + counted field_repeated (is_again field g.value);
}

-- the fields in front of what is gathered
abbrev pub gathered_onto : Gathered → List AuthorityField → Gathered
gathered_onto g [] = g
gathered_onto g (field ∷ fields) = before field (gathered_onto g fields)

-- out of order counts once, and each field again that was there
abbrev pub deviations_of : Gathered → ℕ
deviations_of g = counted fields_out_of_order g.is_disordered + g.repeats

abbrev pub authority_of : List AuthorityField → AuthorityKeyIdentifier
authority_of fields = (gathered_onto nothing fields).value

abbrev pub authority_count : List AuthorityField → ℕ
authority_count fields = deviations_of (gathered_onto nothing fields)

abbrev pub put_field : {A : Type 0} → (A → AuthorityField) → Option A → List AuthorityField → List AuthorityField
put_field make None fields = fields
put_field make (Some field) fields = make field ∷ fields

-- the fields of a value, in order
abbrev pub fields_of : AuthorityKeyIdentifier → List AuthorityField
fields_of v =
    put_field KeyIdentifier v.key_identifier.0 (put_field Issuer v.authority_cert_issuer.0 (put_field SerialNumber v.authority_cert_serial_number.0 []))
