use Rattle.std.proofs.Common.{subst, sym}
use Rattle.krb_logins.specs.LoginRun.{LoginRun}
use Rattle.krb_realm.specs.Clients.{means_of}
use Rattle.pkinit_validation.specs.Trust.{trust_of}
use Rattle.pkinit_validation.specs.PkinitRows.{pkinit_rows}
use Rattle.krb_logins.specs.Steps.{AreDecided}
use Rattle.krb_memory_realms.proofs.Answered.{same_rows}
use Rattle.krb_realm.proofs.ClientMeans.{are_decided, same_means}
use Rattle.krb_realm.proofs.laws.one_login.Goals as goal

pub returns : goal.returns
returns g c = λ realm service before login result other after other_after first second.
    let client = c.args.client.now in
    let own = means_of client (g.C.KeyFunctions.functions c.args.client_keys.now) in
    let held = pkinit_rows (trust_of c.pkinit.result.anchor c.pkinit.result.certificate) (g.R.KeyFunctions.functions c.pkinit.result.keys.now) in
    let means = sym (same_means g.C.KeyFunctions.functions c.means-means.ensures.by c.means-means.ensures.keys) in
    let rows = sym (same_rows g.R.KeyFunctions.functions c.pkinit.ensures.trust c.pkinit.ensures.keys) in
    c.one_login.ensures (subst AreDecided means (are_decided client.by (g.C.KeyFunctions.functions c.args.client_keys.now))) client.client realm service before login result other after other_after
    (subst (λ m. LoginRun client.client m realm held service login before result after) means (subst (λ r. LoginRun client.client own realm r service login before result after) rows first))
    (subst (λ m. LoginRun client.client m realm held service login before other other_after) means (subst (λ r. LoginRun client.client own realm r service login before other other_after) rows second))
