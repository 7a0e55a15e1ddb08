-- The keys that a client shares with its KDC: of a password, and of a keytab.
use Rattle.std.specs.Prelude.{Bool, true, ◌==◌, ◌&&◌, nat_le, length, List, [], ◌∷◌, Option, None, Some, is_some, Result, Ok, Err, if◌then◌else◌, Vec}
use Rattle.std.specs.Global.{Global}
use Rattle.std.specs.List.{filter}
use Rattle.std.specs.Option.{option_map, option_map_or}
use Rattle.picky_asn1.specs.Bytes.{Bytes}
use Rattle.krb_crypto.specs.Keys.{KeyRecord}
use Rattle.krb_crypto.specs.Suites.{cipher_key_size, cipher_number}
use Rattle.krb_crypto.specs.declared.suite.CipherSuite.{CipherSuite}
use Rattle.krb_messages.specs.Names.{is_same_name, is_same_realm}
use Rattle.krb_file_formats.specs.Entries.{Entry}
use Rattle.krb_client.specs.Client.{ClientRecord}
use Rattle.krb_client.specs.declared.by_key.ByKey.{ByKey}
use Rattle.krb_client_exchanges.specs.HintedClients.{client_by_hint}
use Rattle.krb_client_exchanges.specs.Suites.{suites_of}
use Rattle.krb_client_exchanges.specs.declared.hint.KeyHint.{KeyHint}
use Rattle.krb_client_exchanges.specs.declared.wanted.Wanted.{Wanted}
use Rattle.krb_client_exchanges.specs.declared.fault.LoginRefusal.{LoginRefusal}
use Rattle.krb_client_exchanges.specs.declared.fault.LoginRefusal.TheVariants.{NoKey, NotMade}
use Rattle.krb_client_exchanges.specs.declared.secret.Secret.{Secret}
use Rattle.krb_client_exchanges.specs.declared.secret.Secret.TheVariants.{Keytab, Password}

-- The client of a hint's suite with its key, or why there is none.
abbrev pub Keyed : Type 0
Keyed = Result (ClientRecord × ByKey) LoginRefusal

-- A value, or the error told as a refusal of a login.
abbrev pub told_as : {A E : Type 0} → (E → LoginRefusal) → Result A E → Result A LoginRefusal
told_as told (Ok value) = Ok value
told_as told (Err error) = Err (told error)

-- By password: the client and the key that the hint makes (RFC 4120, section 5.2.7.5).
abbrev pub keyed_by_password : ClientRecord → Wanted → Bytes → KeyHint → Keyed
keyed_by_password client wanted password hint = told_as (NotMade hint.suite) (client_by_hint wanted client.realm client.components password hint)

-- The record is of the client, and its key one of the suite.
abbrev pub is_key_of : ClientRecord → CipherSuite → Entry → Bool
is_key_of client suite entry =
    is_same_realm entry.realm client.realm && is_same_name entry.components client.components
    && (entry.etype == cipher_number suite) && (length entry.key == cipher_key_size suite)

-- The record's kvno isn't smaller than that of what counted before it.
abbrev pub is_no_older : Option Entry → Entry → Bool
is_no_older newest entry = option_map_or (λ other. nat_le other.kvno entry.kvno) newest true

-- The record counts: it is such a key, and no older than what counted before it.
abbrev pub is_newer : ClientRecord → CipherSuite → Option Entry → Entry → Bool
is_newer client suite newest entry = is_key_of client suite entry && is_no_older newest entry

-- Of the client's keys of a suite that of the greatest kvno counts. Of several with it the last one does (RFC 4120, section 5.2.9).
abbrev pub newest_after : ClientRecord → CipherSuite → Option Entry → List Entry → Option Entry
newest_after client suite newest [] = newest
newest_after client suite newest (entry ∷ entries) = newest_after client suite (if is_newer client suite newest entry then Some entry else newest) entries

abbrev pub newest_key : ClientRecord → CipherSuite → List Entry → Option KeyRecord
newest_key client suite keytab = option_map (λ entry. record { suite = suite; bytes = entry.key }) (newest_after client suite None keytab)

-- By keytab: the newest key of the hint's suite. The salt doesn't count.
abbrev pub keyed_by_keytab : ClientRecord → List Entry → KeyHint → Keyed
keyed_by_keytab client keytab hint =
    option_map_or (λ key. Ok (record client { suite = hint.suite }, record { key = key })) (newest_key client hint.suite keytab) (Err NoKey)

-- The suites that a request by keytab lists: those that are wanted and of which the client has a key.
abbrev pub keytab_suites : ClientRecord → Wanted → List Entry → List CipherSuite
keytab_suites client wanted keytab = filter (λ suite. is_some (newest_key client suite keytab)) (suites_of wanted)

-- The suites, or that there is none.
abbrev pub some_suites : List CipherSuite → Result (List CipherSuite) LoginRefusal
some_suites [] = Err NoKey
some_suites (suite ∷ suites) = Ok (suite ∷ suites)

-- The suites of a list in memory.
abbrev pub listed : {E : Type 0} → Result (Vec CipherSuite Global) E → Result (List CipherSuite) E
listed (Ok suites) = Ok suites.items
listed (Err error) = Err error

-- What a secret makes of a hint.
abbrev pub keyed_by : ClientRecord → Secret → KeyHint → Keyed
keyed_by client (Password wanted password) hint = keyed_by_password client wanted password.now hint
keyed_by client (Keytab records) hint = keyed_by_keytab client records.now hint
