use Rattle.std.proofs.Common.{Some, None, ap, sym, ◌∙◌}
use Rattle.krb_messages.specs.NameReading.{option_octets, octets, split_realm}
use Rattle.krb_messages.proofs.NamesRead.{at_exit, fault-name, principal-alone, principal-fault, principal-with, with_octets}
use Rattle.krb_messages.proofs.name_reading.principal_of_text.Goals.{in-Some+in_ok-realm_of-in-Some, in-None}
use Rattle.krb_messages.proofs.name_reading.principal_of_text.Goals as goal

pub returns-in_err-components-clause-refusal : goal.returns-in_err-components-clause-refusal
returns-in_err-components-clause-refusal c =
    let split = c.split_realm.ensures ∙ ap split_realm c.as_bytes.ensures.value in
    at_exit _ _ _ c.from_residual.ensures.1 (fault-name c.args.text.now _ c.split_realm.result.1 split _ c.in_err-components.ensures.refusal)

pub returns-in_err-realm_of-in-Some-clause-refusal :
    goal.returns-in_err-realm_of-in-Some-clause-refusal
returns-in_err-realm_of-in-Some-clause-refusal c =
    let split = c.split_realm.ensures ∙ ap split_realm c.as_bytes.ensures.value in
    at_exit _ _ _ c.from_residual-in_err-realm_of-in-Some.ensures.1
    (principal-fault c.args.text.now _ c.split_realm.result.1 split _ c.in_ok-components.ensures.ok c.in-Some.realm _ c.in-Some.is c.in_err-realm_of-in-Some.ensures.refusal)

pub returns-clause-ok : goal.returns-clause-ok
returns-clause-ok c =
    let split = c.split_realm.ensures ∙ ap split_realm c.as_bytes.ensures.value in
    let components = octets c.in_ok-components.components.items in
    elim c.match-realm.branch [
      | in-Some+in_ok-realm_of-in-Some w ↦
          principal-with c.args.text.now _ c.split_realm.result.1 split _ c.in_ok-components.ensures.ok w.in-Some.realm _ w.in-Some.is w.in_ok-realm_of-in-Some.ensures.ok
          ∙ with_octets components (option_octets (Some w.in_ok-realm_of-in-Some.field-0)) (option_octets c.match-realm.realm) (sym (ap option_octets w.realm-is))
      | in-None w ↦
          principal-alone c.args.text.now _ c.split_realm.result.1 split _ c.in_ok-components.ensures.ok w.in-None.is
          ∙ with_octets components (option_octets None) (option_octets c.match-realm.realm) (sym (ap option_octets w.realm-is))
    ]
