use Rattle.std.proofs.Common.{◌≡◌, Some, inl, sym, ◌∙◌}
use Rattle.pkinit_clients.proofs.AgileRequestLemmas.{asked, unsigned}
use Rattle.pkinit_clients.proofs.agility.asking.agile_pk_as_req.Goals as goal

pub returns-in_default : goal.returns-in_default
returns-in_default g c = inl (sym c.in_ok-value.ensures ∙ c.in_default.is)

pub returns-in_default-2 : goal.returns-in_default-2
returns-in_default-2 g c =
    let keys = g.K.KeyFunctions.functions c.args.keys.now in
    let is_value : keys.public_value c.args.words.now ≡ Some c.in-Some.value = sym c.in_ok-value.ensures ∙ c.in-Some.is in
    unsigned keys c.args.certificate.now c.args.body.now c.args.moment c.args.words.now c.in-Some.value is_value
    c.second-second.result c.second-second.ensures c.microsecond.result c.microsecond.ensures.value
    c.in_ok-pack.pack.items c.deref.result.now c.deref.ensures.value c.in_ok-pack.ensures
    c.in_ok-signed.field-0 c.in_ok-signed.ensures c.in_default-2.is

pub returns : goal.returns
returns g c =
    let keys = g.K.KeyFunctions.functions c.args.keys.now in
    let is_value : keys.public_value c.args.words.now ≡ Some c.in-Some.value = sym c.in_ok-value.ensures ∙ c.in-Some.is in
    asked keys c.args.certificate.now c.args.body.now c.args.moment c.args.words.now c.in-Some.value is_value
    c.second-second.result c.second-second.ensures c.microsecond.result c.microsecond.ensures.value
    c.in_ok-pack.pack.items c.deref.result.now c.deref.ensures.value c.in_ok-pack.ensures
    c.in_ok-signed.field-0 c.in-Some-2.signed c.in_ok-signed.ensures c.in-Some-2.is c.in_ok-bytes.bytes.items c.in_ok-bytes.ensures
