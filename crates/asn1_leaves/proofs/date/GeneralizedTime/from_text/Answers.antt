use Rattle.asn1_leaves.proofs.TimeLemmas.{read_time}
use Rattle.asn1_leaves.proofs.date.GeneralizedTime.from_text.Goals as goal

pub returns : goal.returns
returns c =
    read_time c.args.text.now _ _ _ _ _ _ _ c.new.result c.ok.result
    (record {
      len = c.if-text-ne15.false;
      last = c.if-text-ne90.false;
      century_in = c.in_ok-century.ensures;
      year_in = c.in_ok-year.ensures;
      month_in = c.in_ok-month.ensures;
      day_in = c.in_ok-day.ensures;
      hour_in = c.in_ok-hour.ensures;
      minute_in = c.in_ok-minute.ensures;
      second_in = c.in_ok-second.ensures;
    })
    c.new.ensures.made c.new.ensures.value c.ok.ensures.value
