-- A realm keeps the account of its ticket-granting service.
use Rattle.std.proofs.Common.{◌≡◌, Bool, true, false, cond, List, Option, None, Some, is_some, refl, sym, ap, ◌∙◌}
use Rattle.std.specs.Cmp.{eq_by_cmp_equiv}
use Rattle.std.specs.Cmp.Lexicographic.{slice_cmp, lists_ties, texts_ties}
use Rattle.std.specs.FinMap.{get, get-insert, get-remove, insert, remove}
use Rattle.std.specs.Ordering.{eq_by_cmp, nat_cmp}
use Rattle.picky_asn1.specs.Bytes.{Bytes}
use Rattle.krb_realm_accounts.specs.Account.{AccountRecord}
use Rattle.krb_realm_accounts.specs.Accounts.{AccountMap, name_cmp, name_total}
use Rattle.krb_messages.specs.TicketGranting.{krbtgt_of}
use Rattle.krb_memory_realms.specs.Realm.{has_krbtgt, is_krbtgt}

given_or_kept : (same : Bool) (account : AccountRecord) (found : Option AccountRecord) → is_some found ≡ true → is_some (cond same (Some account) found) ≡ true
given_or_kept true account found has = refl
given_or_kept false account found has = has

-- where a name is given an account
pub inserted : (realm : Bytes) (accounts : AccountMap) (name : List Bytes) (account : AccountRecord) → has_krbtgt realm accounts ≡ true → has_krbtgt realm (insert accounts name account) ≡ true
inserted realm accounts name account has =
    ap is_some (get-insert name_total accounts name account (krbtgt_of realm))
    ∙ given_or_kept (eq_by_cmp name_cmp (krbtgt_of realm) name) account (get accounts (krbtgt_of realm)) has

-- where that service is given one
pub inserted_own : (realm : Bytes) (accounts : AccountMap) (account : AccountRecord) → has_krbtgt realm (insert accounts (krbtgt_of realm) account) ≡ true
inserted_own realm accounts account =
    ap is_some (get-insert name_total accounts (krbtgt_of realm) account (krbtgt_of realm))
    ∙ ap (λ same. is_some (cond same (Some account) (get accounts (krbtgt_of realm)))) ((eq_by_cmp_equiv name_total).refl (krbtgt_of realm))

-- where another name's is taken away
pub removed : (realm : Bytes) (accounts : AccountMap) (name : List Bytes) → has_krbtgt realm accounts ≡ true → is_krbtgt realm name ≡ false → has_krbtgt realm (remove accounts name) ≡ true
removed realm accounts name has other =
    let apart : eq_by_cmp name_cmp (krbtgt_of realm) name ≡ false =
    (eq_by_cmp_equiv name_total).symm (krbtgt_of realm) name ∙ sym (lists_ties (slice_cmp nat_cmp) texts_ties name (krbtgt_of realm)) ∙ other in
    ap is_some (get-remove name_total accounts name (krbtgt_of realm)) ∙ ap (λ same. is_some (cond same None (get accounts (krbtgt_of realm)))) apart ∙ has
