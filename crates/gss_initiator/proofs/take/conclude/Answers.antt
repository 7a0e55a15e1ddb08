use Rattle.std.proofs.Common.{◌≡◌, Option, None, Err, sym, subst}
use Rattle.std.specs.Prelude.{MatchBool, MatchOption}
use Rattle.picky_asn1.specs.Bytes.{Bytes}
use Rattle.gss_initiator.specs.Taking.{IsExchanged, IsVerified, kept}
use Rattle.gss_initiator.specs.declared.refusal.InitiateRefusal.TheVariants.{NoMic}
use Rattle.gss_initiator.proofs.take.conclude.Goals as goal

pub returns-in-Some : goal.returns-in-Some
returns-in-Some c =
    let heard = c.args.heard in
    let result = c.take_mic-concluded.result in
    let concluded = rw c.as_bytes.ensures at c.take_mic-concluded.ensures in
    subst
    (λ (mic : Option Bytes). MatchOption mic (MatchBool heard.is_due (result ≡ Err NoMic) (result ≡ kept heard.context None))
    (λ theirs. MatchBool heard.is_due (IsExchanged heard.context theirs result) (IsVerified heard.context theirs result))) (sym c.in-Some.is) concluded
