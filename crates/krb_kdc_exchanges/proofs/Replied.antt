-- What replies to the ticket that was made is the reply that grants it.
use Rattle.std.proofs.Common.{◌≡◌, ℕ, List, Option, Result, Ok, Err, refl, subst}
use Rattle.std.specs.Prelude.{IfOk}
use Rattle.asn1_leaves.specs.declared.date.GeneralizedTime.{GeneralizedTime}
use Rattle.krb_realm_accounts.specs.Account.{AccountRecord}
use Rattle.decision_tables.specs.Tables.{make}
use Rattle.krb_kdc_exchanges.specs.Renewals.{IsTill, sole_till}
use Rattle.krb_tickets.specs.Grant.{GrantRecord}
use Rattle.krb_tickets.specs.ReplyKeys.{ReplyKeyRecord}
use Rattle.krb_tickets.specs.Granted.{IsTicketReply}
use Rattle.krb_kdc_exchanges.specs.Granting.{replied}
use Rattle.krb_kdc_exchanges.specs.declared.granted.Granted.{Granted}

pub replied_by : {E : Type 0} (r : Result Granted E) (made wanted : GrantRecord) (own under : ReplyKeyRecord) (service : AccountRecord) (words : List ℕ) → made ≡ wanted → own ≡ under
    → IfOk r (λ it. IsTicketReply made own service words it.reply.items) → IfOk r (λ it. (replied wanted under service words).gives (Ok it.reply.items))
replied_by (Ok it) made wanted own under service words same key x =
    (it.reply.items, subst (λ g. IsTicketReply g under service words it.reply.items) same (subst (λ k. IsTicketReply made k service words it.reply.items) key x), refl)
replied_by (Err e) made wanted own under service words same key x = tt

-- and so it is with the renew-till that was found for it
pub tilled_by : {E : Type 0} (r : Result Granted E) (wanted : Option ℕ) (till : Option GeneralizedTime) (grant : Option GeneralizedTime → GrantRecord) (under : ReplyKeyRecord) (service : AccountRecord) (words : List ℕ)
    → IsTill wanted till → IfOk r (λ it. (replied (grant till) under service words).gives (Ok it.reply.items))
    → IfOk r (λ it. (make (IsTill wanted) (sole_till wanted) (λ t. replied (grant t) under service words)).gives (Ok it.reply.items))
tilled_by (Ok it) wanted till grant under service words is x = (till, is, x)
tilled_by (Err e) wanted till grant under service words is x = tt
