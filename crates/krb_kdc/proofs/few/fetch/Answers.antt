use Rattle.std.proofs.Common.{sym, ◌∙◌}
use Rattle.krb_kdc.proofs.Fetched.{held, lacking, on_ok, put}
use Rattle.krb_kdc.proofs.few.fetch.Goals as goal

pub returns-then-has-clause-few : goal.returns-then-has-clause-few
returns-then-has-clause-few g c = λ all known. held all c.args.few.now c.args.name.now (sym c.has.ensures ∙ c.if-has.true)

pub returns-in_default-clause-few : goal.returns-in_default-clause-few
returns-in_default-clause-few g c = λ all known.
    lacking all c.args.few.now c.args.name.now (sym c.has.ensures ∙ c.if-has.false) (sym (c.in_ok-account.ensures.account all known) ∙ c.in_default.is)

pub returns-clause-few : goal.returns-clause-few
returns-clause-few g c = λ all known.
    on_ok c.put.result _ _ (λ is. put all c.args.name.now c.in-Some.account c.args.few.now c.put.new.few is (sym (c.in_ok-account.ensures.account all known) ∙ c.in-Some.is)) c.put.ensures.few
