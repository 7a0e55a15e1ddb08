-- Which key records of a keytab are keys of a service.
use Rattle.std.specs.Prelude.{ℕ, Bool, ◌&&◌, ◌==◌, nat_le, length, List, Option, None, if◌then◌else◌}
use Rattle.std.specs.List.{find, filter_map}
use Rattle.std.specs.Option.{option_map}
use Rattle.picky_asn1.specs.Bytes.{Bytes}
use Rattle.krb_crypto.specs.Keys.{KeyRecord}
use Rattle.krb_crypto.specs.Suites.{cipher_key_size, cipher_number, cipher_suites}
use Rattle.krb_crypto.specs.declared.suite.CipherSuite.{CipherSuite}
use Rattle.krb_messages.specs.Names.{is_same_name, is_same_realm}
use Rattle.krb_file_formats.specs.Entries.{Entry}
use Rattle.krb_ap_requests.specs.Entry.{EntryRecord}

-- the suite's number is the etype, and its keys have as many octets as the record's key
abbrev pub is_suite_of : Entry → CipherSuite → Bool
is_suite_of key_record suite = (cipher_number suite == key_record.etype) && (length key_record.key == cipher_key_size suite)

-- A key record counts only if its etype is that of a suite whose keys have the key's length (RFC 4120, section 5.2.9). Test:
-- `the keytab has no key of the service` of `keytab_rows.txt`.
abbrev pub key_of : Entry → Option KeyRecord
key_of key_record = option_map (λ suite. record { suite = suite; bytes = key_record.key }) (find (is_suite_of key_record) cipher_suites)

-- the entry of this realm and name with this kvno and key
abbrev pub entry_with : Bytes → List Bytes → ℕ → KeyRecord → EntryRecord
entry_with realm components kvno key = record { realm = realm; components = components; suite = key.suite; key = key.bytes; kvno = kvno }

-- the record is of this realm and this name; the name type is ignored
abbrev pub is_record_of : Bytes → List Bytes → Entry → Bool
is_record_of realm components key_record = is_same_realm key_record.realm realm && is_same_name key_record.components components

-- the record is of this realm and this name, and its kvno is at least 1
abbrev pub is_counted : Bytes → List Bytes → Entry → Bool
is_counted realm components key_record = is_record_of realm components key_record && nat_le 1 key_record.kvno

-- The service's entry that a key record is, if it is one.
unfoldable pub entry_of : Bytes → List Bytes → Entry → Option EntryRecord
entry_of realm components key_record =
    -- A key record counts for a service of its realm and name, with a kvno from 1 on (RFC 4120, sections 5.2.9, 6.2). Test:
    -- `other records`, `the keytab has no key of the service` of `keytab_rows.txt`.
    if is_counted realm components key_record
    then option_map (entry_with realm components key_record.kvno) (key_of key_record)
    else None

-- The service's entries in a keytab, in its order. Others are passed over.
abbrev pub entries_of : Bytes → List Bytes → List Entry → List EntryRecord
entries_of realm components keytab = filter_map (entry_of realm components) keytab

-- a keytab has an entry of the service
abbrev pub has_entry : Bytes → List Bytes → List Entry → Bool
has_entry realm components keytab = nat_le 1 (length (entries_of realm components keytab))
