use Rattle.krb_account_texts.proofs.Orders.{IsInOrder}
use Rattle.krb_account_texts.proofs.order.check_order.Given as goal

abbrev pub invariant-loop-index : goal.invariant-loop-index
invariant-loop-index l = IsInOrder l.lines l.index l.has_realm l.last
