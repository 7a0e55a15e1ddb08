-- The octets of a credential cache (MIT's file credential cache format, version 0x0504).
use Rattle.std.specs.Prelude.{◌≡◌, ℕ, List, [], ◌++◌, length, Result, Ok, Err, nat_lt, nat_eq, if◌then◌else◌}
use Rattle.byte_streams.specs.Numbers.{be16, be16_at}
use Rattle.krb_file_formats.specs.Reading.{and_then}
use Rattle.krb_file_formats.specs.declared.credential_caches.fault.CacheFault.{CacheFault}
use Rattle.krb_file_formats.specs.declared.credential_caches.fault.CacheFault.TheVariants.{WrongVersion, PastEnd}
use Rattle.krb_file_formats.specs.declared.credential_caches.times.CredentialTimes.{CredentialTimes}
use Rattle.krb_file_formats.specs.Formats.{Format, AllFit, all_from, both, counted, data32, list_bytes, listed, made, number16, number32, number8, exactly, repeated, text, within}

-- a tag of the header, with its data
pub record Tag : Type 0 where
  pub kind : ℕ
  pub octets : List ℕ

-- a principal
pub record Principal : Type 0 where
  pub name_type : ℕ
  pub realm : List ℕ
  pub components : List (List ℕ)

-- octets with their type: a key with its etype, an address, or an element of authorization data
pub record Typed : Type 0 where
  pub kind : ℕ
  pub octets : List ℕ

-- a ticket with its key, and what the KDC said of it
pub record Credential : Type 0 where
  pub client : Principal
  pub server : Principal
  pub key : Typed
  pub times : CredentialTimes
  pub is_skey : ℕ
  pub flags : ℕ
  pub addresses : List Typed
  pub authorization_data : List Typed
  pub ticket : List ℕ
  pub second_ticket : List ℕ

-- a whole cache
pub record Cache : Type 0 where
  pub tags : List Tag
  pub default_principal : Principal
  pub credentials : List Credential

-- A tag is its number and the length of its data, of 16 bits each, and the data (MIT's file credential cache format, "Header format").
-- Test: `header tags` of `caches.txt`.
abbrev pub header_tag : Format Tag
header_tag = made (λ v. record { kind = v.0; octets = v.1 }) (λ t. (t.kind, t.octets)) (both number16 (counted number16 length exactly))

-- The header is the tags behind their length of 16 bits.
abbrev pub header : Format (List Tag)
header = counted number16 (λ tags. length (list_bytes header_tag tags [])) (within header_tag)

-- A principal is its name type, the count of its components, the realm and the components (MIT's file credential cache format, "Principal
-- format"). Test: `stock caches`.
abbrev pub principal : Format Principal
principal =
    made (λ v. record { name_type = v.0; realm = v.1.0; components = v.1.1 }) (λ p. (p.name_type, (p.realm, p.components)))
    (both number32 (counted number32 (λ v. length v.1) (λ n. both text (repeated text n))))

-- A keyblock, an address and an element of authorization data are a type of 16 bits, and octets after their length.
abbrev pub typed : Format Typed
typed = made (λ v. record { kind = v.0; octets = v.1 }) (λ t. (t.kind, t.octets)) (both number16 data32)

-- Times are numbers of 32 bits, each in seconds since the start of 1970.
abbrev pub moments : Format CredentialTimes
moments =
    made (λ v. record { authtime = v.0; starttime = v.1.0; endtime = v.1.1.0; renew_till = v.1.1.1 })
    (λ t. (t.authtime, (t.starttime, (t.endtime, t.renew_till)))) (both number32 (both number32 (both number32 number32)))

-- client, server and key
abbrev pub parties : Format (Principal × (Principal × Typed))
parties = both principal (both principal typed)

-- the times, whether the key is a session key, and the ticket flags
abbrev pub facts : Format (CredentialTimes × (ℕ × ℕ))
facts = both moments (both number8 number32)

-- addresses, authorization data, the ticket and the second ticket
abbrev pub contents : Format (List Typed × (List Typed × (List ℕ × List ℕ)))
contents = both (listed typed) (both (listed typed) (both data32 data32))

abbrev pub credential_of : (Principal × (Principal × Typed)) × ((CredentialTimes × (ℕ × ℕ)) × (List Typed × (List Typed × (List ℕ × List ℕ)))) → Credential
credential_of v = record {
  client = v.0.0;
  server = v.0.1.0;
  key = v.0.1.1;
  times = v.1.0.0;
  is_skey = v.1.0.1.0;
  flags = v.1.0.1.1;
  addresses = v.1.1.0;
  authorization_data = v.1.1.1.0;
  ticket = v.1.1.1.1.0;
  second_ticket = v.1.1.1.1.1;
}

abbrev pub parts_of : Credential → (Principal × (Principal × Typed)) × ((CredentialTimes × (ℕ × ℕ)) × (List Typed × (List Typed × (List ℕ × List ℕ))))
parts_of c = ((c.client, (c.server, c.key)), ((c.times, (c.is_skey, c.flags)), (c.addresses, (c.authorization_data, (c.ticket, c.second_ticket)))))

-- A credential begins with the client, the server and the key. Behind them are the times, whether the key is a session key, and the ticket
-- flags. Addresses, authorization data, the ticket and the second ticket end it (MIT's file credential cache format, "Credential format").
-- Test: `stock caches`; `cut at each field`.
abbrev pub credential : Format Credential
credential = made credential_of parts_of (both parties (both facts contents))

-- A cache is the version 0x0504 (the octets 5 and 4), the header, the default principal, and credentials up to the end of the file.
abbrev pub cache_bytes : Cache → List ℕ
cache_bytes c = be16 1284 ++ header.bytes c.tags (principal.bytes c.default_principal (list_bytes credential c.credentials []))

-- each number and each length is one that its field holds, and names are ASCII
pub record IsWritable (c : Cache) : Type 0 where
  pub tags : header.Fits c.tags
  pub default_principal : principal.Fits c.default_principal
  pub credentials : AllFit credential c.credentials

-- the octets are laid out as this cache
pub record IsCredentialCache (c : Cache) (whole : List ℕ) : Type 0 where
  pub bytes : whole ≡ cache_bytes c
  pub fits : IsWritable c

-- The version of a credential cache is 0x0504 (MIT's file credential cache format). Any other is refused by its number. Test:
-- `versions and ends` of `caches.txt`.
abbrev pub version_at : List ℕ → Result (Unit {0}) CacheFault
version_at whole =
    if nat_lt (length whole) 2 then Err (PastEnd 0)
    else if nat_eq (be16_at 0 whole) 1284 then Ok tt else Err (WrongVersion (be16_at 0 whole))

-- The credential cache in these octets, or its first fault.
abbrev pub cache_at : List ℕ → Result Cache CacheFault
cache_at whole =
    and_then (version_at whole) (λ _. and_then (header.read 2 whole) (λ tags. and_then (principal.read tags.1 whole)
    (λ owner. and_then (all_from credential owner.1 whole)
    (λ credentials. Ok (record { tags = tags.0; default_principal = owner.0; credentials = credentials })))))
