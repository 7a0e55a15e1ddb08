-- What is read behind an account's key can be written.
use Rattle.std.proofs.Common.{◌≡◌, inl, inr, ℕ, ◌+◌, ◌<◌, ◌≤◌, ◌^◌, ◌==◌, ◌&&◌, nat_eq, nat_le, nat_lt, Bool, true, false, cond, List, [], ◌∷◌, length, codes, Option, None, Some, Result, Ok, Err, refl, subst, arith}
use Rattle.std.specs.Prelude.{ok_or}
use Rattle.std.specs.List.{AllByRecursion}
use Rattle.std.specs.Cmp.Lexicographic.{pointwise}
use Rattle.std.proofs.lemmas.Bool.{and_parts, ltb-true}
use Rattle.std.proofs.lemmas.Bool.Decides.{nat_tests}
use Rattle.hex.specs.Hex.{IsBytes}
use Rattle.krb_crypto.specs.Suites.{cipher_key_size}
use Rattle.krb_time.specs.declared.calendar.TheConstants.{EPOCH}
use Rattle.krb_realm_accounts.specs.Account.{AccountKeyRecord, AreBefore, are_falling}
use Rattle.krb_realm_accounts.specs.declared.attributes.TheConstants.{NO_ATTRIBUTES}
use Rattle.krb_realm_accounts.specs.declared.limits.TheConstants.{FORMER_LIMIT}
use Rattle.krb_account_texts.specs.Reading.{FurtherRecord, colon_parts, ends_in, former_in, further_in, judged_former, key_in, kvno_in, lifetime_in, marked_in, marks_in, number_in, number_or_dash, older_in, older_of, since_epoch, suite_in}
use Rattle.krb_account_texts.specs.Steps.{each_from}
use Rattle.krb_account_texts.specs.Writable.{IsEnd}
use Rattle.krb_account_texts.specs.declared.fault.LineFault.{LineFault}
use Rattle.krb_account_texts.specs.declared.fault.LineFault.TheVariants as fault
use Rattle.krb_account_texts.proofs.FieldsRead.{bind-ok, key-ok, kvno-ok, number-below}

-- ---- numbers

or-dash-below : (otherwise : LineFault) (text : List ℕ) (n : ℕ) → number_or_dash otherwise text ≡ Ok n → n < 2 ^ 32
or-dash-below otherwise text n is = by (pointwise nat_eq text (codes "-")) is
  where
    some : (found : Option ℕ) → number_in text ≡ found → ok_or found otherwise ≡ Ok n → n < 2 ^ 32
    some None read e = absurd (cc (e))
    some (Some k) read e =
        let same : k ≡ n = cc (e) in
        let few : k < 4294967296 = number-below text k read in
        omega arith

    by : (dash : Bool) → cond dash (Ok 0) (ok_or (number_in text) otherwise) ≡ Ok n → n < 2 ^ 32
    by true e = let same : 0 ≡ n = cc (e) in omega arith
    by false e = some (number_in text) refl e

since-end : (seconds : ℕ) → seconds < 2 ^ 32 → IsEnd (since_epoch seconds)
since-end seconds few = by (seconds == 0) refl
  where
    by : (none : Bool) → (seconds == 0) ≡ none → IsEnd (cond none 0 (seconds + EPOCH))
    by true is = inl refl
    by false is =
        let some : 0 < seconds = grind (arith, nat_tests) in
        inr (omega (arith, some), omega (arith, few))

ends-ok : (text : List ℕ) (ends : ℕ) → ends_in text ≡ Ok ends → IsEnd ends
unfolding ends_in
ends-ok text ends is =
    let step = bind-ok (number_or_dash fault.Ends text) (λ seconds. Ok (since_epoch seconds)) ends is in
    let same : since_epoch step.0 ≡ ends = cc (step.2) in
    subst IsEnd same (since-end step.0 (or-dash-below fault.Ends text step.0 step.1))

lifetime-ok : (text : List ℕ) (lifetime : ℕ) → lifetime_in text ≡ Ok lifetime → lifetime < 2 ^ 32
unfolding lifetime_in
lifetime-ok text lifetime is = or-dash-below fault.Lifetime text lifetime is

-- ---- older keys

record IsKey (own : AccountKeyRecord) : Type 0 where
  counts : 1 ≤ own.kvno
  sized : length own.key ≡ cipher_key_size own.suite
  bytes : IsBytes own.key

older-ok : (parts : List (List ℕ)) (own : AccountKeyRecord) → older_of parts ≡ Ok own → IsKey own
older-ok [] own is = absurd (cc (is))
older-ok (suite ∷ []) own is = absurd (cc (is))
older-ok (suite ∷ kvno ∷ []) own is = absurd (cc (is))
older-ok (suite ∷ kvno ∷ key ∷ []) own is =
    let at_suite = bind-ok (suite_in suite) _ _ is in
    let at_kvno = bind-ok (kvno_in kvno) _ _ at_suite.2 in
    let at_key = bind-ok (key_in at_suite.0 key) _ _ at_kvno.2 in
    let made : AccountKeyRecord = record { suite = at_suite.0; key = at_key.0; kvno = at_kvno.0 } in
    let same : made ≡ own = same-key made own at_key.2 in
    let sized = key-ok at_suite.0 key at_key.0 at_key.1 in
    subst IsKey same (record { counts = (kvno-ok (number_in kvno) at_kvno.0 at_kvno.1).1; sized = sized.0; bytes = sized.1 })
  where
    same-key : (made other : AccountKeyRecord) → ◌≡◌ {A = Result AccountKeyRecord LineFault} (Ok made) (Ok other) → made ≡ other
    same-key made other e = cc (e)
older-ok (suite ∷ kvno ∷ key ∷ more ∷ others) own is = absurd (cc (is))

each-ok : (fields : List (List ℕ)) (n : ℕ) (keys : List AccountKeyRecord) → each_from older_in n fields ≡ Ok keys → AllByRecursion IsKey keys
each-ok [] n keys is = let same : [] ≡ keys = cc (is) in subst (AllByRecursion IsKey) same tt
each-ok (field ∷ fields) n keys is =
    let first = bind-ok (older_in n field) _ _ is in
    let later = bind-ok (each_from older_in (n + 1) fields) _ _ first.2 in
    let same : first.0 ∷ later.0 ≡ keys = cc (later.2) in
    subst (AllByRecursion IsKey) same (older-ok (colon_parts field) first.0 first.1, each-ok fields (n + 1) later.0 later.1)

before-ok : (kvno : ℕ) (keys : List AccountKeyRecord) → AllByRecursion IsKey keys → are_falling kvno keys ≡ true → AreBefore kvno keys
before-ok kvno [] are falls = tt
before-ok kvno (own ∷ keys) are falls =
    let both = and_parts (nat_lt own.kvno kvno) (are_falling own.kvno keys) falls in
    (record { counts = are.0.counts; less = ltb-true own.kvno kvno both.0; sized = are.0.sized }, before-ok own.kvno keys are.1 both.1)

bytes-ok : (keys : List AccountKeyRecord) → AllByRecursion IsKey keys → AllByRecursion (λ own. IsBytes own.key) keys
bytes-ok [] are = tt
bytes-ok (own ∷ keys) are = (are.0.bytes, bytes-ok keys are.1)

record AreFormer (kvno : ℕ) (keys : List AccountKeyRecord) : Type 0 where
  before : AreBefore kvno keys
  few : length keys ≤ FORMER_LIMIT
  bytes : AllByRecursion (λ own. IsBytes own.key) keys

judged-by : (kvno : ℕ) (read keys : List AccountKeyRecord) (fits : Bool) → AllByRecursion IsKey read → (nat_le (length read) 15 && are_falling kvno read) ≡ fits
    → cond fits (Ok read) (Err fault.OlderKey) ≡ Ok keys → AreFormer kvno keys
judged-by kvno read keys true are fits is =
    let same : read ≡ keys = cc (is) in
    let both = and_parts (nat_le (length read) 15) (are_falling kvno read) fits in
    let counted : nat_le (length read) 15 ≡ true = both.0 in
    let few : length read ≤ 15 = grind (arith, nat_tests) in
    subst (AreFormer kvno) same (record { before = before-ok kvno read are both.1; few = few; bytes = bytes-ok read are })
judged-by kvno read keys false are fits is = absurd (cc (is))

former-ok : (kvno : ℕ) (fields : List (List ℕ)) (keys : List AccountKeyRecord) → former_in kvno fields ≡ Ok keys → AreFormer kvno keys
unfolding former_in
former-ok kvno fields keys is =
    let step = bind-ok (each_from older_in 1 fields) (judged_former kvno) keys is in
    judged-by kvno step.0 keys (nat_le (length step.0) 15 && are_falling kvno step.0) (each-ok fields 1 step.0 step.1) refl step.2

-- ---- all of them

pub record IsFurther (kvno : ℕ) (further : FurtherRecord) : Type 0 where
  pub before : AreBefore kvno further.former
  pub few : length further.former ≤ FORMER_LIMIT
  pub bytes : AllByRecursion (λ own. IsBytes own.key) further.former
  pub ends : IsEnd further.attributes.ends
  pub lifetime : further.attributes.lifetime < 2 ^ 32

same-further : (made other : FurtherRecord) → ◌≡◌ {A = Result FurtherRecord LineFault} (Ok made) (Ok other) → made ≡ other
same-further made other e = cc (e)

marked-ok : (kvno : ℕ) (ends lifetime marks : List ℕ) (keys : List (List ℕ)) (further : FurtherRecord) → marked_in kvno ends lifetime marks keys ≡ Ok further → IsFurther kvno further
unfolding marked_in
marked-ok kvno ends lifetime marks keys further is =
    let at_ends = bind-ok (ends_in ends) _ _ is in
    let at_lifetime = bind-ok (lifetime_in lifetime) _ _ at_ends.2 in
    let at_marks = bind-ok (marks_in marks) _ _ at_lifetime.2 in
    let at_former = bind-ok (former_in kvno keys) _ _ at_marks.2 in
    let made : FurtherRecord = record { attributes = record at_marks.0 { ends = at_ends.0; lifetime = at_lifetime.0 }; former = at_former.0 } in
    let same : made ≡ further = same-further made further at_former.2 in
    let former = former-ok kvno keys at_former.0 at_former.1 in
    subst (IsFurther kvno) same
    (record {
      before = former.before;
      few = former.few;
      bytes = former.bytes;
      ends = ends-ok ends at_ends.0 at_ends.1;
      lifetime = lifetime-ok lifetime at_lifetime.0 at_lifetime.1;
    })

pub further-ok : (kvno : ℕ) (parts : List (List ℕ)) (further : FurtherRecord) → further_in kvno parts ≡ Ok further → IsFurther kvno further
further-ok kvno [] further is =
    let none : FurtherRecord = record { attributes = NO_ATTRIBUTES; former = [] } in
    let few : 0 ≤ 15 = omega arith in
    let below : 0 < 2 ^ 32 = omega arith in
    subst (IsFurther kvno) (same-further none further is) (record { before = tt; few = few; bytes = tt; ends = inl refl; lifetime = below })
further-ok kvno (ends ∷ []) further is = absurd (cc (is))
further-ok kvno (ends ∷ lifetime ∷ []) further is = absurd (cc (is))
further-ok kvno (ends ∷ lifetime ∷ marks ∷ keys) further is = marked-ok kvno ends lifetime marks keys further is
