use Rattle.std.proofs.Common.{inr, sym, ◌∙◌, subst}
use Rattle.asn1_codec.specs.Held.{IsHeaderOf}
use Rattle.asn1_codec.proofs.Chain.{at-exit, own-kind}
use Rattle.asn1_codec.proofs.HeldLemmas.{told_first, told_second, took_twice, header_further, own_exit}
use Rattle.asn1_codec.proofs.one_element.take_header.Goals as goal

pub element_size-requires-clause-header : goal.element_size-requires-clause-header
element_size-requires-clause-header g c =
    header_further c.in_ok-header.header c.min-2.result _ _ c.as_slice.result.now c.take_up_to.new.held.items c.take_up_to-2.new.held.items c.as_slice-2.result.now
    c.in_ok-header.ensures.told c.as_slice.ensures.value c.as_slice-2.ensures.value c.in_ok-take_up_to-2.ensures.filled

pub returns-in_err-header-clause-fault : goal.returns-in_err-header-clause-fault
returns-in_err-header-clause-fault g c =
    at-exit _ _ _ _ c.from_residual-in_err-header.ensures.1
    (inr (told_first c.args.limit c.min.result (g.R.Source.left c.args.reader.now) (g.R.Source.left c.take_up_to.new.reader) c.args.held.now.items
    c.take_up_to.new.held.items c.as_slice.result.now _ c.requires c.min.ensures c.as_slice.ensures.value c.in_ok-take_up_to.ensures.filled c.in_err-header.ensures.told))

pub returns-in_err-header-clause-count : goal.returns-in_err-header-clause-count
returns-in_err-header-clause-count g c =
    c.in_ok-take_up_to.ensures.count ∙ sym (own_exit _ _ _ c.from_residual-in_err-header.ensures.1 c.in_err-header.ensures.own)

pub returns-in_err-header-clause-kind : goal.returns-in_err-header-clause-kind
returns-in_err-header-clause-kind g c = at-exit _ _ _ _ c.from_residual-in_err-header.ensures.1 (own-kind _ _ c.in_err-header.ensures.own)

pub returns-in_err-size-clause-fault : goal.returns-in_err-size-clause-fault
returns-in_err-size-clause-fault g c =
    at-exit _ _ _ _ c.from_residual-in_err-size.ensures.1
    (inr (told_second c.args.limit c.min.result c.min-2.result c.in_ok-header.header (g.R.Source.left c.args.reader.now) (g.R.Source.left c.take_up_to.new.reader)
    (g.R.Source.left c.take_up_to-2.new.reader) c.args.held.now.items c.take_up_to.new.held.items c.take_up_to-2.new.held.items c.as_slice-2.result.now _
    c.requires c.in_ok-take_up_to.ensures.filled c.min-2.ensures c.as_slice-2.ensures.value c.in_ok-take_up_to-2.ensures.filled c.in_err-size.ensures.told))

pub returns-in_err-size-clause-count : goal.returns-in_err-size-clause-count
returns-in_err-size-clause-count g c =
    c.in_ok-take_up_to-2.ensures.count ∙ c.in_ok-take_up_to.ensures.count
    ∙ sym (own_exit _ _ _ c.from_residual-in_err-size.ensures.1 c.in_err-size.ensures.own)

pub returns-in_err-size-clause-kind : goal.returns-in_err-size-clause-kind
returns-in_err-size-clause-kind g c = at-exit _ _ _ _ c.from_residual-in_err-size.ensures.1 (own-kind _ _ c.in_err-size.ensures.own)

pub returns-clause-header : goal.returns-clause-header
returns-clause-header g c = subst (λ l. IsHeaderOf l c.in_ok-size.size) c.as_slice-2.ensures.value c.in_ok-size.ensures.told.0

pub returns-clause-took : goal.returns-clause-took
returns-clause-took g c =
    took_twice c.min.result c.min-2.result (g.R.Source.left c.args.reader.now) (g.R.Source.left c.take_up_to.new.reader)
    (g.R.Source.left c.take_up_to-2.new.reader) c.args.held.now.items c.take_up_to.new.held.items c.take_up_to-2.new.held.items
    c.requires c.in_ok-take_up_to.ensures.filled c.in_ok-take_up_to-2.ensures.filled

pub returns-clause-within : goal.returns-clause-within
returns-clause-within g c = c.in_ok-size.ensures.told.1
