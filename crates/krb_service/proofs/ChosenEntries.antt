-- The entry that is found for a request is the chosen one.
use Rattle.std.proofs.Common.{◌≡◌, ◌≤◌, List, length, get_or, None, Some, ap, sym, ◌∙◌, arith}
use Rattle.std.proofs.lemmas.List.{get_or_read}
use Rattle.std.specs.List.{find}
use Rattle.std.specs.Option.{unwrap_or}
use Rattle.krb_messages.specs.declared.data_types.encrypted_data.EncryptedData.{EncryptedData}
use Rattle.krb_ap_requests.specs.Entry.{EntryRecord}
use Rattle.krb_service.specs.ChosenEntry.{chosen, has_kvno_of, is_fitting, no_entry}

pub chosen_fitting : (entries : List EntryRecord) (encrypted : EncryptedData) (x : EntryRecord) → find (is_fitting encrypted) entries ≡ Some x → x ≡ chosen entries encrypted
unfolding chosen
chosen_fitting entries encrypted x is = sym (ap (λ o. unwrap_or o (unwrap_or (find (has_kvno_of encrypted) entries) (get_or entries 0 no_entry))) is)

pub chosen_by_kvno : (entries : List EntryRecord) (encrypted : EncryptedData) (x : EntryRecord) → find (is_fitting encrypted) entries ≡ None
    → find (has_kvno_of encrypted) entries ≡ Some x → x ≡ chosen entries encrypted
unfolding chosen
chosen_by_kvno entries encrypted x none is =
    sym (ap (λ o. unwrap_or o (unwrap_or (find (has_kvno_of encrypted) entries) (get_or entries 0 no_entry))) none ∙ ap (λ o. unwrap_or o (get_or entries 0 no_entry)) is)

pub chosen_first : (entries : List EntryRecord) (encrypted : EncryptedData) (x : EntryRecord) → 1 ≤ length entries → find (is_fitting encrypted) entries ≡ None
    → find (has_kvno_of encrypted) entries ≡ None → x ≡ get_or entries 0 x → x ≡ chosen entries encrypted
unfolding chosen
chosen_first entries encrypted x few none none_of_kvno is =
    get_or_read entries 0 x (omega (arith, few)) is no_entry
    ∙ sym (ap (λ o. unwrap_or o (unwrap_or (find (has_kvno_of encrypted) entries) (get_or entries 0 no_entry))) none ∙ ap (λ o. unwrap_or o (get_or entries 0 no_entry)) none_of_kvno)
