use Rattle.std.proofs.Common.{ℕ, List, Option, Ok, Err, inl, refl, subst}
use Rattle.std.proofs.lemmas.Result.{err_from_is_err_and}
use Rattle.picky_asn1.specs.Bytes.{Bytes}
use Rattle.decision_tables.specs.Tables.{Table, and_then, done}
use Rattle.pkinit_messages.specs.declared.agility.kdf.Kdf.{Kdf}
use Rattle.pkinit_clients.specs.Asked.{asked_of}
use Rattle.pkinit_clients.specs.Faults.{IsTakenAs}
use Rattle.pkinit_clients.specs.AgileReplies.{Found, chosen_of, of_general}
use Rattle.pkinit_clients.proofs.TakenLemmas.{refused_then, taken_then}
use Rattle.pkinit_clients.proofs.agility.reply.take_info.Goals as goal

pub returns-in_err-secret : goal.returns-in_err-secret
returns-in_err-secret g c =
    let told = err_from_is_err_and c.from_residual-in_err-secret.result c.from_residual-in_err-secret.ensures.1 in
    let keys = g.K.KeyFunctions.functions c.args.keys.now in
    let asked = asked_of c.args.asked.now in
    let fault = c.in_err-secret.field-0.0 in
    let signed : Bytes = c.args.info.now.dh_signed_data.0 in
    let refused : IsTakenAs {T = Bytes} (of_general keys asked signed).gives (Err fault) =
    subst (λ (bytes : List ℕ). IsTakenAs {T = Bytes} (of_general keys asked bytes).gives (Err fault)) c.as_bytes.ensures c.in_err-secret.ensures in
    rw (told.1, told.2)
    (taken_then {T = Found} (chosen_of c.args.info.now.kdf.0) (λ (kdf : Option Kdf). and_then (of_general keys asked signed) (λ secret. done (Ok (secret, kdf)))) c.in_ok-kdf.kdf (Err fault)
    c.in_ok-kdf.ensures (refused_then {T = Found} (of_general keys asked signed) (λ secret. done (Ok (secret, c.in_ok-kdf.kdf))) fault refused))

pub returns : goal.returns
returns g c =
    let general = subst
    (λ (bytes : List ℕ). (of_general (g.K.KeyFunctions.functions c.args.keys.now) (asked_of c.args.asked.now) bytes).gives (Ok c.in_ok-secret.secret.items))
    c.as_bytes.ensures c.in_ok-secret.ensures in
    inl (c.in_ok-kdf.kdf, c.in_ok-kdf.ensures, inl (c.in_ok-secret.secret.items, general, refl))
