use Rattle.std.proofs.Common.{Ok, refl, subst, sym}
use Rattle.gss_acceptor.specs.Accepting.{AdmitRequest, Takes}
use Rattle.gss_acceptor.specs.Chosen.{IsChosen}
use Rattle.gss_acceptor.specs.Established.{EstablishedRecord}
use Rattle.krb_ap_requests.specs.ApTable.{enc_part_in}
use Rattle.krb_service.specs.ChosenEntry.{chosen}
use Rattle.gss_logins.specs.Carried.{IsAuthenticAfter}
use Rattle.gss_logins.proofs.Authentic.{of_choice, of_context, to_admit, to_verify}
use Rattle.gss_logins.proofs.laws.established_was_authenticated.Goals as goal

pub returns-clause-first : goal.returns-clause-first
returns-clause-first g c = λ keys exchanges sent acceptor after moment token random admitted established realm own window handles.
    let rows = g.P.Pkinit.rows c.args.pkinit.now in
    let by = c.established_as_presented.ensures.first acceptor after moment token random admitted established window handles in
    let request = by.4.0 in
    let entry = chosen acceptor.service.entries (enc_part_in request) in
    let x = c.presented_was_authenticated.ensures keys exchanges sent entry by.0 by.3 realm (own by.0 (AdmitRequest by.0 by.1, by.2, refl) request by.4.1) by.4.2 in
    of_choice rows keys exchanges sent by.3 established by.5 x.1

pub returns-clause-admitted : goal.returns-clause-admitted
returns-clause-admitted g c = λ keys exchanges sent acceptor after moment message random step admitted accepted realm own window is takes.
    let rows = g.P.Pkinit.rows c.args.pkinit.now in
    to_admit (λ s. Takes s acceptor moment random (Ok accepted) after → IsAuthenticAfter rows keys exchanges sent accepted) message
    (λ exchange taken.
    let by = c.established_as_presented.ensures.admitted acceptor after moment message random exchange admitted accepted window taken in
    let request = by.1.0 in
    let entry = chosen acceptor.service.entries (enc_part_in request) in
    let x = c.presented_was_authenticated.ensures keys exchanges sent entry message by.0 realm (own request by.1.1) by.1.2 in
    (by.0, by.2, x.1))
    step is takes

pub returns-clause-verified : goal.returns-clause-verified
returns-clause-verified g c = λ keys exchanges sent acceptor after moment random step established accepted was is takes.
    let rows = g.P.Pkinit.rows c.args.pkinit.now in
    to_verify (λ s. Takes s acceptor moment random (Ok accepted) after → IsAuthenticAfter rows keys exchanges sent accepted) established
    (λ unverified theirs same taken.
    let chosen_so = subst (λ (e : EstablishedRecord). IsChosen was.choice e) (sym same) was.is_chosen in
    (was.choice, c.established_as_presented.ensures.verified acceptor after moment theirs random unverified was.choice accepted chosen_so taken, of_context rows keys exchanges sent established was))
    step is takes
