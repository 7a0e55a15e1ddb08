-- An account of a file of bytes has a key of its suite.
use Rattle.std.proofs.Common.{◌≡◌, ℕ, ◌+◌, ◌≤◌, ◌==◌, ◌||◌, nat_lt, not, List, length, take, drop, slice_index, Option, None, Some, Result, Ok, Err, Bool, true, false, if◌then◌else◌, refl, subst, arith}
use Rattle.std.specs.Option.{option_map}
use Rattle.std.proofs.lemmas.Bool.{ltb-false, or_parts}
use Rattle.std.proofs.lemmas.List.{length-take-le}
use Rattle.std.proofs.lemmas.Grind.{common_steps}
use Rattle.block_ciphers.specs.Bytes.{IsBytes}
use Rattle.block_ciphers.proofs.States.{IsBytes-drop, IsBytes-take}
use Rattle.byte_streams.specs.Numbers.{le32_at}
use Rattle.cdb.specs.Find.{data_at, find_in, looked_up, part_at}
use Rattle.cdb.specs.Reading.{◌>>=◌}
use Rattle.cdb.specs.declared.fault.Fault.{Fault}
use Rattle.cdb.specs.declared.fault.Fault.TheVariants.{Damaged, Long}
use Rattle.cdb.specs.declared.tables.Found.{Found}
use Rattle.krb_crypto.specs.Suites.{cipher_key_size}
use Rattle.krb_crypto.specs.declared.suite.CipherSuite.{CipherSuite}
use Rattle.krb_realm_accounts.specs.Account.{AccountRecord}
use Rattle.krb_realm_accounts.specs.Packed.{fit, packed}
use Rattle.krb_kdc_exchanges.specs.Calls.{AreKeyed, IsKeyed}
use Rattle.krb_realm_files.specs.declared.format.TheConstants.{RECORD_ROOM}
use Rattle.krb_realm_files.specs.AccountRecords.{account_behind, account_in, of_suite, with_further}
use Rattle.krb_realm_files.specs.FurtherFields.{Further, further_in}
use Rattle.krb_realm_files.specs.SuiteNumbers.{suite_numbered}
use Rattle.krb_realm_files.specs.Files.{account_found, account_or_none, account_said, look_of, or_none}

-- a part of bytes
part_bytes : (position size : ℕ) (bytes octets : List ℕ) → IsBytes bytes → part_at position size bytes ≡ Ok octets → IsBytes octets
unfolding part_at
part_bytes position size bytes octets are e = by (nat_lt (length bytes) (position + size)) e
  where
    by : (short : Bool) → ◌≡◌ {A = Result (List ℕ) Fault} (if short then Err Damaged else Ok (take size (drop position bytes))) (Ok octets) → IsBytes octets
    by true f = absurd (cc (f))
    by false f = let same : take size (drop position bytes) ≡ octets = cc (f) in subst IsBytes same (IsBytes-take size (drop position bytes) (IsBytes-drop position bytes are))

of_part : (position size : ℕ) (bytes octets : List ℕ) (part : Result (List ℕ) Fault) → part_at position size bytes ≡ part → IsBytes bytes
    → ◌≡◌ {A = Result (Option (List ℕ)) Fault} (part >>= λ p. Ok (Some p)) (Ok (Some octets)) → IsBytes octets
of_part position size bytes octets (Err fault) is are f = absurd (cc (f))
of_part position size bytes octets (Ok p) is are f = let same : p ≡ octets = cc (f) in subst IsBytes same (part_bytes position size bytes p are is)

of_data : (found : Found) (bytes octets : List ℕ) (long : Bool) → IsBytes bytes
    → ◌≡◌ {A = Result (Option (List ℕ)) Fault} (if long then Err Long else (part_at found.position found.size bytes >>= λ part. Ok (Some part))) (Ok (Some octets)) → IsBytes octets
of_data found bytes octets true are f = absurd (cc (f))
of_data found bytes octets false are f = of_part found.position found.size bytes octets (part_at found.position found.size bytes) refl are f

of_found : (room : ℕ) (bytes octets : List ℕ) (found : Result (Option Found) Fault) → IsBytes bytes
    → ◌≡◌ {A = Result (Option (List ℕ)) Fault} (found >>= data_at room bytes) (Ok (Some octets)) → IsBytes octets
of_found room bytes octets (Err fault) are f = absurd (cc (f))
of_found room bytes octets (Ok None) are f = absurd (cc (f))
of_found room bytes octets (Ok (Some found)) are f = of_data found bytes octets (nat_lt room found.size) are f

data_bytes : (room : ℕ) (bytes key octets : List ℕ) → IsBytes bytes → looked_up room bytes key ≡ Ok (Some octets) → IsBytes octets
unfolding looked_up
data_bytes room bytes key octets are e = of_found room bytes octets (find_in bytes key) are e

-- an account that was read
keyed_with : (suite : CipherSuite) (kvno : ℕ) (key : List ℕ) (further : Option Further) (account : AccountRecord) → length key ≡ cipher_key_size suite → IsBytes key
    → option_map (with_further suite kvno key) further ≡ Some account → IsKeyed account
keyed_with suite kvno key None account sized bytes e = absurd (cc (e))
keyed_with suite kvno key (Some further) account sized bytes e =
    let same : ◌≡◌ {A = AccountRecord} (with_further suite kvno key further) account = cc (e) in
    subst IsKeyed same (record { sized = sized; bytes = bytes })

keyed_behind : (suite : CipherSuite) (octets : List ℕ) (account : AccountRecord) → IsBytes octets → account_behind suite octets ≡ Some account → IsKeyed account
unfolding account_behind
keyed_behind suite octets account are e = by ((le32_at 2 octets == 0) || nat_lt (length octets) (7 + cipher_key_size suite)) refl e
  where
    by : (refused : Bool) → (le32_at 2 octets == 0) || nat_lt (length octets) (7 + cipher_key_size suite) ≡ refused
        → ◌≡◌ {A = Option AccountRecord} (if refused then None else option_map (with_further suite (le32_at 2 octets) (take (cipher_key_size suite) (drop 7 octets))) (further_in (le32_at 2 octets) (slice_index octets 6) (drop (7 + cipher_key_size suite) octets))) (Some account)
        → IsKeyed account
    by true r f = absurd (cc (f))
    by false r f =
        let within : 7 + cipher_key_size suite ≤ length octets = ltb-false (length octets) (7 + cipher_key_size suite) (or_parts (le32_at 2 octets == 0) (nat_lt (length octets) (7 + cipher_key_size suite)) r).1 in
        let enough : cipher_key_size suite ≤ length (drop 7 octets) = grind (arith, common_steps, within) in
        keyed_with suite (le32_at 2 octets) (take (cipher_key_size suite) (drop 7 octets)) (further_in (le32_at 2 octets) (slice_index octets 6) (drop (7 + cipher_key_size suite) octets)) account
        (length-take-le (cipher_key_size suite) (drop 7 octets) enough)
        (IsBytes-take (cipher_key_size suite) (drop 7 octets) (IsBytes-drop 7 octets are)) f

keyed_of : (octets : List ℕ) (suite : Option CipherSuite) (account : AccountRecord) → IsBytes octets → of_suite octets suite ≡ Some account → IsKeyed account
keyed_of octets None account are e = absurd (cc (e))
keyed_of octets (Some suite) account are e = keyed_behind suite octets account are e

keyed_in : (octets : List ℕ) (account : AccountRecord) → IsBytes octets → account_in octets ≡ Some account → IsKeyed account
unfolding account_in
keyed_in octets account are e = by (nat_lt (length octets) 7 || not (slice_index octets 0 == 1)) e
  where
    by : (refused : Bool) → ◌≡◌ {A = Option AccountRecord} (if refused then None else of_suite octets (suite_numbered (slice_index octets 1))) (Some account) → IsKeyed account
    by true f = absurd (cc (f))
    by false f = keyed_of octets (suite_numbered (slice_index octets 1)) account are f

keyed_read : (octets : List ℕ) (read : Option AccountRecord) (account : AccountRecord) → account_in octets ≡ read → IsBytes octets → or_none (account_or_none read) ≡ Some account → IsKeyed account
keyed_read octets None account is are e = absurd (cc (e))
keyed_read octets (Some own) account is are e = let same : own ≡ account = cc (e) in subst IsKeyed same (keyed_in octets own are is)

keyed_found : (bytes key : List ℕ) (found : Result (Option (List ℕ)) Fault) (account : AccountRecord) → looked_up RECORD_ROOM bytes key ≡ found → IsBytes bytes
    → or_none (account_found found) ≡ Some account → IsKeyed account
keyed_found bytes key (Err fault) account is are e = absurd (cc (e))
keyed_found bytes key (Ok None) account is are e = absurd (cc (e))
keyed_found bytes key (Ok (Some octets)) account is are e = keyed_read octets (account_in octets) account refl (data_bytes RECORD_ROOM bytes key octets are is) e

pub are_keyed : (bytes : List ℕ) → IsBytes bytes → AreKeyed (look_of bytes)
unfolding look_of account_said
are_keyed bytes are name account e = by (fit name) e
  where
    by : (fits : Bool) → or_none (if fits then account_found (looked_up RECORD_ROOM bytes (packed name)) else Ok None) ≡ Some account → IsKeyed account
    by true f = keyed_found bytes (packed name) (looked_up RECORD_ROOM bytes (packed name)) account refl are f
    by false f = absurd (cc (f))
