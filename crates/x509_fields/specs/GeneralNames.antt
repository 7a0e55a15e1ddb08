-- A name of any kind as one of eight alternatives (RFC 5280, section 4.2.1.6).
use Rattle.std.specs.Prelude.{◌≡◌, ℕ, List, refl}
use Rattle.picky_asn1_der.specs.declared.choice.Choice.{Choice}
use Rattle.picky_asn1_der.specs.declared.choice.Choice.TheVariants.{This, Other}
use Rattle.picky_asn1_der.specs.declared.choice.Last.{Last}
use Rattle.x509_fields.specs.declared.general_name.GeneralName.{GeneralName}
use Rattle.x509_fields.specs.declared.general_name.GeneralName.TheVariants as kind
use Rattle.picky_asn1_der.specs.declared.wrapper.ExplicitContextTag.{ExplicitContextTag}
use Rattle.picky_asn1_der.specs.declared.implicit_tag.ImplicitContextTag.{ImplicitContextTag}
use Rattle.picky_asn1.specs.declared.wrapper.ObjectIdentifierAsn1.{ObjectIdentifierAsn1}
use Rattle.x509_fields.specs.declared.attribute_type_and_value.AttributeTypeAndValue.{AttributeTypeAndValue}
use Rattle.x509_fields.specs.declared.other_name.OtherName.{OtherName}
use Rattle.x509_fields.specs.declared.edi_party_name.EdiPartyName.{EdiPartyName}

abbrev pub GeneralChoice : Type 0
GeneralChoice =
    Choice (ImplicitContextTag 0 OtherName) (Choice (ImplicitContextTag 1 (List ℕ)) (Choice (ImplicitContextTag 2 (List ℕ)) (Choice (ExplicitContextTag 4 (List (List AttributeTypeAndValue)))
    (Choice (ImplicitContextTag 5 EdiPartyName) (Choice (ImplicitContextTag 6 (List ℕ)) (Choice (ImplicitContextTag 7 (List ℕ)) (Last (ImplicitContextTag 8 ObjectIdentifierAsn1))))))))

-- the alternative of GeneralName that a name is (RFC 5280, section 4.2.1.6)
abbrev pub general_choice : GeneralName → GeneralChoice
general_choice (kind.OtherName value) = This (record { 0 = value })
general_choice (kind.Rfc822Name value) = Other (This (record { 0 = value }))
general_choice (kind.DnsName value) = Other (Other (This (record { 0 = value })))
general_choice (kind.DirectoryName value) = Other (Other (Other (This (record { 0 = value }))))
general_choice (kind.EdiPartyName value) = Other (Other (Other (Other (This (record { 0 = value })))))
general_choice (kind.Uri value) = Other (Other (Other (Other (Other (This (record { 0 = value }))))))
general_choice (kind.IpAddress value) = Other (Other (Other (Other (Other (Other (This (record { 0 = value })))))))
general_choice (kind.RegisteredId value) = Other (Other (Other (Other (Other (Other (Other (record { 0 = (record { 0 = value }) })))))))

abbrev pub general_made : GeneralChoice → GeneralName
general_made (This value) = kind.OtherName value.0
general_made (Other (This value)) = kind.Rfc822Name value.0
general_made (Other (Other (This value))) = kind.DnsName value.0
general_made (Other (Other (Other (This value)))) = kind.DirectoryName value.0
general_made (Other (Other (Other (Other (This value))))) = kind.EdiPartyName value.0
general_made (Other (Other (Other (Other (Other (This value)))))) = kind.Uri value.0
general_made (Other (Other (Other (Other (Other (Other (This value))))))) = kind.IpAddress value.0
general_made (Other (Other (Other (Other (Other (Other (Other value))))))) = kind.RegisteredId value.0.0

pub general_back : (v : GeneralName) → general_made (general_choice v) ≡ v
general_back (kind.OtherName value) = refl
general_back (kind.Rfc822Name value) = refl
general_back (kind.DnsName value) = refl
general_back (kind.DirectoryName value) = refl
general_back (kind.EdiPartyName value) = refl
general_back (kind.Uri value) = refl
general_back (kind.IpAddress value) = refl
general_back (kind.RegisteredId value) = refl
