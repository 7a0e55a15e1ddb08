-- The text of a name of any kind: the kind, a colon, and the name.
use Rattle.std.specs.Prelude.{ℕ, true, ◌+◌, ◌*◌, ◌==◌, if◌then◌else◌, List, [], ◌∷◌, ◌++◌, length, codes, slice_index, Option, None, Some}
use Rattle.std.specs.List.{flat_map, join_by}
use Rattle.std.specs.Fmt.{decimal, digits}
use Rattle.asn1_leaves.specs.ObjectIdentifier.{dotted_text}
use Rattle.picky_asn1.specs.IntegerText.{hexadecimal}
use Rattle.picky_asn1_der.specs.declared.wrapper.ExplicitContextTag.{ExplicitContextTag}
use Rattle.x509_fields.specs.DirectoryStrings.{lossy_text}
use Rattle.x509_fields.specs.declared.directory_string.DirectoryString.{DirectoryString}
use Rattle.x509_fields.specs.NameText.{element_text}
use Rattle.x509_fields.specs.Rfc4514.{rfc4514_text}
use Rattle.x509_fields.specs.declared.general_name.GeneralName.{GeneralName}
use Rattle.x509_fields.specs.declared.general_name.GeneralName.TheVariants as kind

-- two octets of an address of version 6 as one number in hexadecimal
abbrev pub group_text : ℕ → List ℕ
group_text = digits 16 true

-- the group of this number in an address of version 6: two octets, of which the first is the higher
abbrev pub group_at : List ℕ → ℕ → ℕ
group_at octets number = slice_index octets (2 * number) * 256 + slice_index octets (2 * number + 1)

-- an address of version 4
abbrev pub numbers_text : List ℕ → List ℕ
numbers_text = join_by decimal (codes ".")

-- an address of version 6
abbrev pub groups_text : List ℕ → List ℕ
groups_text octets = join_by (λ number. group_text (group_at octets number)) (codes ":") (0 ∷ 1 ∷ 2 ∷ 3 ∷ 4 ∷ 5 ∷ 6 ∷ 7 ∷ [])

-- an address of 4 or 16 octets, and of another count, which RFC 5280 doesn't allow in a name, `#` and the hexadecimal digits
abbrev pub address_text : List ℕ → List ℕ
address_text octets =
    if length octets == 4 then numbers_text octets
    else (if length octets == 16 then groups_text octets else codes "#" ++ flat_map hexadecimal octets)

-- a partner, behind who assigned the name where that is told
abbrev pub party_text : Option (ExplicitContextTag 0 DirectoryString) → DirectoryString → List ℕ
party_text None party = lossy_text party
party_text (Some assigner) party = lossy_text assigner.0 ++ codes "/" ++ lossy_text party

abbrev pub general_text : GeneralName → List ℕ
general_text (kind.OtherName name) = codes "othername:" ++ dotted_text name.type_id.0 ++ codes "=#" ++ element_text name.value.0
general_text (kind.Rfc822Name address) = codes "email:" ++ address
general_text (kind.DnsName host) = codes "DNS:" ++ host
general_text (kind.DirectoryName name) = codes "DirName:" ++ rfc4514_text name
general_text (kind.EdiPartyName name) = codes "EdiPartyName:" ++ party_text name.name_assigner.0 name.party_name.0
general_text (kind.Uri uri) = codes "URI:" ++ uri
general_text (kind.IpAddress octets) = codes "IP Address:" ++ address_text octets
general_text (kind.RegisteredId oid) = codes "Registered ID:" ++ dotted_text oid.0
