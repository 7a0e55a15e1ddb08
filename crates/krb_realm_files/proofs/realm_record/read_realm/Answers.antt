use Rattle.std.proofs.Common.{◌≡◌, ℕ, ◌+◌, ◌-◌, List, length, Option, sym, subst, arith, rules}
use Rattle.krb_realm_files.specs.Reading.{IsReadAs}
use Rattle.krb_realm_files.specs.declared.realm_parameters.RealmParameters.{RealmParameters}
use Rattle.krb_realm_files.proofs.RealmAgain.{by_parts}
use Rattle.krb_realm_files.proofs.realm_record.read_realm.Goals as goal

pub returns : goal.returns
returns c =
    let octets : List ℕ = c.args.bytes.now in
    let size : ℕ = c.u32_le-size.result in
    subst (λ (said : Option RealmParameters). IsReadAs said c.named_realm.result)
    (sym (by_parts octets size (17 + size - 17) (length octets - (17 + size)) c.in-Some.settings c.in_ok-pkinit.pkinit (omega arith) (omega arith) (search rules) c.u32_le-size.ensures.read (omega arith) (omega arith) (search rules) (search rules)))
    c.named_realm.ensures
