use Rattle.krb_messages.specs.RandomBytes.{authenticator_confounder}
use Rattle.krb_crypto.specs.Suites.{cipher_confounder_size}
use Rattle.krb_ap_requests.proofs.Presentations.{one_request}
use Rattle.krb_logins.specs.Choices.{choice_by}
use Rattle.krb_logins.proofs.ChoicePresented.{presents}
use Rattle.krb_logins.proofs.laws.ap_request_presents_choice.Goals as goal

pub returns-clause-presents : goal.returns-clause-presents
returns-clause-presents g c = λ client. presents client (g.M.Means.means c.args.means.now)

pub returns-clause-only : goal.returns-clause-only
returns-clause-only g c = λ client credential mutual_required with_subkey moment words bytes key by other shown.
    one_request key
    (choice_by credential mutual_required by.part by.part_confounder by.asks.authenticator (authenticator_confounder (cipher_confounder_size credential.suite) words))
    other bytes shown (presents client (g.M.Means.means c.args.means.now) credential mutual_required with_subkey moment words bytes key by)
