-- A realm whose accounts have keys has a reply to each request, at each moment that KerberosTime has.
use Rattle.std.proofs.Common.{◌≤◌, length}
use Rattle.picky_asn1.specs.Bytes.{Bytes}
use Rattle.krb_time.specs.Moment.{IsMoment}
use Rattle.krb_time.specs.Units.{Micros}
use Rattle.decision_tables.specs.Some.{HasSome}
use Rattle.krb_kdc_exchanges.specs.Rows.{PkinitRows}
use Rattle.krb_kdc_exchanges.specs.Calls.{AreKeyed}
use Rattle.krb_kdc_exchanges.specs.Replies.{Replies}
use Rattle.krb_kdc_exchanges.proofs.HasReply.{has_reply}
use Rattle.krb_logins.specs.Laws.{AreBytes}
use Rattle.krb_logins.specs.Parties.{RealmRecord, call_at}

pub replies_at : (realm : RealmRecord) (rows : PkinitRows) (moment : Micros) (words request : Bytes) → AreKeyed realm.look → IsMoment moment
    → 128 ≤ length words → AreBytes words request → HasSome (Replies (call_at realm moment words) rows request)
replies_at realm rows moment words request keyed in_time enough are =
    has_reply (call_at realm moment words) rows request (record { in_time = in_time; enough = enough; bytes = are.bytes; keyed = keyed }) are.asked are.few
