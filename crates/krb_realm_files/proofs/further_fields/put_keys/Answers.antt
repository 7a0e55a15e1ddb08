use Rattle.std.proofs.Common.{◌≡◌, ◌+◌, ◌∷◌, ◌++◌, [], take, ap, sym, ◌∙◌}
use Rattle.std.proofs.lemmas.List.{take_more}
use Rattle.krb_realm_accounts.specs.Account.{AccountKeyRecord}
use Rattle.krb_realm_files.proofs.OlderKeys.{one_put}
use Rattle.krb_realm_files.proofs.further_fields.put_keys.Goals as goal

pub loop-own-preserved : goal.loop-own-preserved
loop-own-preserved c =
    let keys = c.args.keys.now in
    let i = c.loop-own.own-index in
    let own = c.own-item.result in
    let more : take (i + 1) keys ≡ take i keys ++ own ∷ [] = take_more keys i own c.loop-own-test.true ∙ ap (λ (n : AccountKeyRecord). take i keys ++ n ∷ []) (sym c.own-item.is) in
    one_put keys i own _ _ _ more c.in_ok-put_older.ensures c.loop-own.invariant
