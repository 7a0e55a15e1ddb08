-- Older keys, which are written and read in turn.
use Rattle.std.proofs.Common.{◌≡◌, ℕ, suc, ◌+◌, ◌-◌, ◌<◌, List, [], ◌∷◌, ◌++◌, length, take, Option, None, Some, Err, refl, sym, ap, subst, ◌∙◌, append_assoc, append-nil, length-append, arith}
use Rattle.std.specs.List.{flat_map}
use Rattle.std.specs.Option.{option_map}
use Rattle.krb_realm_accounts.specs.Account.{AccountKeyRecord, AreBefore, IsOlder}
use Rattle.krb_realm_files.specs.FurtherFields.{Told, keys_in, older_bytes, older_in}
use Rattle.krb_realm_files.specs.Reading.{IsReadAs}
use Rattle.krb_realm_files.specs.declared.fault.RecordFault.{RecordFault}
use Rattle.krb_realm_files.specs.declared.fault.RecordFault.TheVariants.{Damaged, Memory}

-- ---- one key more is written

last_bytes : (keys : List AccountKeyRecord) (own : AccountKeyRecord) → flat_map older_bytes (keys ++ own ∷ []) ≡ flat_map older_bytes keys ++ older_bytes own
last_bytes [] own = append-nil (older_bytes own)
last_bytes (first ∷ keys) own =
    ap (λ octets. older_bytes first ++ octets) (last_bytes keys own) ∙ sym (append_assoc (older_bytes first) (flat_map older_bytes keys) (older_bytes own))

pub one_put : (keys : List AccountKeyRecord) (i : ℕ) (own : AccountKeyRecord) (start old to : List ℕ) → take (i + 1) keys ≡ take i keys ++ own ∷ [] → to ≡ old ++ older_bytes own
    → old ≡ start ++ flat_map older_bytes (take i keys) → to ≡ start ++ flat_map older_bytes (take (i + 1) keys)
one_put keys i own start old to more put so_far =
    put ∙ ap (λ octets. octets ++ older_bytes own) so_far ∙ append_assoc start (flat_map older_bytes (take i keys)) (older_bytes own)
    ∙ ap (λ octets. start ++ octets) (sym (last_bytes (take i keys) own)) ∙ ap (λ some. start ++ flat_map older_bytes some) (sym more)

-- ---- one key more is read

abbrev pub FoundKeys : Type 0
FoundKeys = Option (Told (List AccountKeyRecord))

-- keys in front of those that are found
abbrev pub joined : List AccountKeyRecord → FoundKeys → FoundKeys
joined done found = option_map (λ others. record { told = done ++ others.told; rest = others.rest }) found

pub none_joined : (found : FoundKeys) → joined [] found ≡ found
none_joined None = refl
none_joined (Some others) = refl

next_keys : (m below : ℕ) (rest : List ℕ) (own : AccountKeyRecord) (behind : List ℕ) → older_in below rest ≡ Some (record { told = own; rest = behind })
    → keys_in (suc m) below rest ≡ joined (own ∷ []) (keys_in m own.kvno behind)
next_keys m below rest own behind is = rw is refl

no_keys : (m below : ℕ) (rest : List ℕ) → older_in below rest ≡ None → keys_in (suc m) below rest ≡ None
no_keys m below rest none = rw none refl

joined_more : (done : List AccountKeyRecord) (own : AccountKeyRecord) (found : FoundKeys) → joined (done ++ own ∷ []) found ≡ joined done (joined (own ∷ []) found)
joined_more done own None = refl
joined_more done own (Some others) =
    let found : List AccountKeyRecord → FoundKeys = λ keys. Some (record { told = keys; rest = others.rest }) in
    ap found (append_assoc done (own ∷ []) others.told)

pub one_read : (done keys : List AccountKeyRecord) (own : AccountKeyRecord) (n m below next count kvno : ℕ) (rest behind octets : List ℕ) → n ≡ suc m
    → older_in below rest ≡ Some (record { told = own; rest = behind }) → next ≡ own.kvno → keys ≡ done ++ own ∷ []
    → joined done (keys_in n below rest) ≡ keys_in count kvno octets → joined keys (keys_in m next behind) ≡ keys_in count kvno octets
one_read done keys own n m below next count kvno rest behind octets more is same grown so_far =
    ap (λ some. joined some (keys_in m next behind)) grown ∙ ap (λ k. joined (done ++ own ∷ []) (keys_in m k behind)) same
    ∙ joined_more done own (keys_in m own.kvno behind) ∙ ap (joined done) (sym (next_keys m below rest own behind is))
    ∙ ap (λ k. joined done (keys_in k below rest)) (sym more) ∙ so_far

pub one_before : (done keys : List AccountKeyRecord) (own : AccountKeyRecord) (below next kvno : ℕ) → keys ≡ done ++ own ∷ [] → next ≡ own.kvno → IsOlder below own
    → ((more : List AccountKeyRecord) → AreBefore below more → AreBefore kvno (done ++ more)) → (more : List AccountKeyRecord) → AreBefore next more → AreBefore kvno (keys ++ more)
one_before done keys own below next kvno grown same older so_far = λ more are.
    subst (λ some. AreBefore kvno (some ++ more)) (sym grown)
    (subst (AreBefore kvno) (sym (append_assoc done (own ∷ []) more)) (so_far (own ∷ more) (older, subst (λ k. AreBefore k more) same are)))

pub one_counted : (done keys : List AccountKeyRecord) (own : AccountKeyRecord) (count counter : ℕ) → counter < count → keys ≡ done ++ own ∷ [] → length done + (count - counter) ≡ count
    → length keys + (count - (counter + 1)) ≡ count
one_counted done keys own count counter inside grown so_far =
    let longer : length keys ≡ length done + 1 = ap length grown ∙ length-append done (own ∷ []) in
    omega (arith, inside, longer, so_far)

-- where no further key is there, none is read
pub none_read : (e : RecordFault) (done : List AccountKeyRecord) (n m below count kvno : ℕ) (rest octets : List ℕ) → n ≡ suc m → ((e ≡ Damaged) → older_in below rest ≡ None)
    → joined done (keys_in n below rest) ≡ keys_in count kvno octets → IsReadAs {X = Told (List AccountKeyRecord)} (keys_in count kvno octets) (Err e)
none_read Damaged done n m below count kvno rest octets more none so_far =
    sym so_far ∙ ap (λ k. joined done (keys_in k below rest)) more ∙ ap (joined done) (no_keys m below rest (none refl))
none_read Memory done n m below count kvno rest octets more none so_far = tt

pub all_read : (done : List AccountKeyRecord) (n below count kvno : ℕ) (rest octets : List ℕ) → n ≡ 0 → joined done (keys_in n below rest) ≡ keys_in count kvno octets
    → keys_in count kvno octets ≡ Some (record { told = done; rest = rest })
all_read done n below count kvno rest octets none so_far =
    let found : List AccountKeyRecord → FoundKeys = λ keys. Some (record { told = keys; rest = rest }) in
    sym so_far ∙ ap (λ k. joined done (keys_in k below rest)) none ∙ ap found (append-nil done)

pub all_before : (done : List AccountKeyRecord) (below kvno : ℕ) → ((more : List AccountKeyRecord) → AreBefore below more → AreBefore kvno (done ++ more)) → AreBefore kvno done
all_before done below kvno so_far = subst (AreBefore kvno) (append-nil done) (so_far [] tt)
