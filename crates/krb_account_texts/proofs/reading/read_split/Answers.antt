use Rattle.std.proofs.Common.{map, sym, ◌∙◌}
use Rattle.krb_account_texts.specs.Lines.{written}
use Rattle.krb_account_texts.proofs.Ended.{ended-aside}
use Rattle.krb_account_texts.proofs.reading.read_split.Goals as goal

pub returns : goal.returns
returns c =
    ended-aside (λ v. map written v.items) (λ part. part.now) c.args.parts.now c.front_of.result.now c.read_parts.result
    (sym c.is_ended.ensures ∙ c.if-not-is_ended.false) c.front_of.ensures c.read_parts.ensures
