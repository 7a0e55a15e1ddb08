-- The encrypted timestamp in the encoding of encrypted data is the one in the encrypted data.
use Rattle.std.proofs.Common.{ℕ, List, Option, None, Some, Result, Ok, Err, sym, subst, ◌∙◌}
use Rattle.std.specs.Prelude.{IfOk}
use Rattle.asn1_der.specs.Tree.{Writes}
use Rattle.krb_realm_accounts.specs.Account.{AccountRecord}
use Rattle.krb_messages.specs.declared.data_types.encrypted_data.EncryptedData.{EncryptedData}
use Rattle.krb_messages.specs.declared.data_types.pa_enc_timestamp.PaEncTsEnc.{PaEncTsEnc}
use Rattle.krb_messages.specs.Trees as held
use Rattle.picky_asn1_der.specs.Found.{IsFound}
use Rattle.krb_tickets.specs.SealedData.{IsSealedIn}
use Rattle.krb_kdc_exchanges.specs.EncryptedTimestamps.{IsEncryptedTimestamp, timestamp_tree}
use Rattle.krb_messages.specs.Trees.{encrypted_data_tree}

timestamp_found : (account : AccountRecord) (bytes : List ℕ) (sealed : EncryptedData) (found : Option PaEncTsEnc)
    → Writes encrypted_data_tree sealed bytes → IsFound (IsSealedIn {T = PaEncTsEnc} timestamp_tree account.suite account.key 1 sealed) found
    → IsFound (IsEncryptedTimestamp account bytes) found
timestamp_found account bytes sealed None writes none = λ value timestamp.
    none value (subst (λ s. IsSealedIn {T = PaEncTsEnc} timestamp_tree account.suite account.key 1 s value)
    (held.encrypted_data-injective timestamp.sealed sealed timestamp.writes.0 writes.0 (sym timestamp.writes.1 ∙ writes.1)) timestamp.opens)
timestamp_found account bytes sealed (Some value) writes opens = record { sealed = sealed; writes = writes; opens = opens }

-- where the decryption did not run out of memory
pub timestamp_opened : {E : Type 0} (account : AccountRecord) (bytes : List ℕ) (sealed : EncryptedData) (opened : Result (Option PaEncTsEnc) E)
    → Writes encrypted_data_tree sealed bytes → IfOk opened (IsFound (IsSealedIn {T = PaEncTsEnc} timestamp_tree account.suite account.key 1 sealed))
    → IfOk opened (IsFound (IsEncryptedTimestamp account bytes))
timestamp_opened account bytes sealed (Ok found) writes opens = timestamp_found account bytes sealed found writes opens
timestamp_opened account bytes sealed (Err fault) writes opens = tt
