use Rattle.std.proofs.Common.{◌∙◌}
use Rattle.byte_streams.proofs.Exits.{at-exit}
use Rattle.asn1_der.specs.Seen.{Alike}
use Rattle.microsoft_messages.specs.Reading.{seen_frame}
use Rattle.microsoft_messages.proofs.ReadingLaws.{same-frame, no-header, ap-refused, private-refused, refused-only, all-read, read-only, told-since}
use Rattle.microsoft_messages.proofs.frame.KrbPrivFrame.deserialize.Goals as goal

pub returns-in_err-read_header-clause-only : goal.returns-in_err-read_header-clause-only
returns-in_err-read_header-clause-only g c =
    refused-only (Alike (seen_frame g.A.FromDer.seen g.P.FromDer.seen)) g.A.FromDer.reads g.P.FromDer.reads (λ m. m.ap_message) (λ m. m.krb_priv) (g.R.Source.left c.args.reader.now) (g.R.Source.left c.read_header.new.reader) _ _ _ _ _ c.from_residual.ensures.1
    (no-header _ _ (g.R.Source.left c.args.reader.now) (g.R.Source.left c.read_header.new.reader) _ _ _ _ c.in_err-read_header.ensures.refused)

pub returns-in_err-read_header-clause-refused : goal.returns-in_err-read_header-clause-refused
returns-in_err-read_header-clause-refused g c =
    at-exit _ _ _ _ c.from_residual.ensures.1
    (no-header g.A.FromDer.reads g.P.FromDer.reads (g.R.Source.left c.args.reader.now) (g.R.Source.left c.read_header.new.reader) _ _ _ _ c.in_err-read_header.ensures.refused)

pub returns-in_err-ap_message-clause-only : goal.returns-in_err-ap_message-clause-only
returns-in_err-ap_message-clause-only g c =
    refused-only (Alike (seen_frame g.A.FromDer.seen g.P.FromDer.seen)) g.A.FromDer.reads g.P.FromDer.reads (λ m. m.ap_message) (λ m. m.krb_priv) (g.R.Source.left c.args.reader.now) (g.R.Source.left c.read_part.new.reader) _ _ _ _ _ c.from_residual-in_err-ap_message.ensures.1
    (ap-refused _ _ (g.R.Source.left c.args.reader.now) (g.R.Source.left c.read_header.new.reader) (g.R.Source.left c.read_part.new.reader) _ _ _ _ _ c.in_ok-read_header.ensures.count c.in_ok-read_header.ensures.found c.in_err-ap_message.ensures.refused)

pub returns-in_err-ap_message-clause-refused : goal.returns-in_err-ap_message-clause-refused
returns-in_err-ap_message-clause-refused g c =
    at-exit _ _ _ _ c.from_residual-in_err-ap_message.ensures.1
    (ap-refused g.A.FromDer.reads g.P.FromDer.reads (g.R.Source.left c.args.reader.now) (g.R.Source.left c.read_header.new.reader) (g.R.Source.left c.read_part.new.reader) _ _ _ _ _
    c.in_ok-read_header.ensures.count c.in_ok-read_header.ensures.found c.in_err-ap_message.ensures.refused)

pub returns-in_err-krb_priv-clause-only : goal.returns-in_err-krb_priv-clause-only
returns-in_err-krb_priv-clause-only g c =
    refused-only (Alike (seen_frame g.A.FromDer.seen g.P.FromDer.seen)) g.A.FromDer.reads g.P.FromDer.reads (λ m. m.ap_message) (λ m. m.krb_priv) (g.R.Source.left c.args.reader.now) (g.R.Source.left c.read_part-2.new.reader) _ _ _ _ _ c.from_residual-in_err-krb_priv.ensures.1
    (private-refused g.A.FromDer.seen _ _ g.A.FromDer.one_value (g.R.Source.left c.args.reader.now) (g.R.Source.left c.read_header.new.reader) (g.R.Source.left c.read_part.new.reader) (g.R.Source.left c.read_part-2.new.reader) _ _ _ _ _ _ _ c.in_ok-read_header.ensures.count c.in_ok-ap_message.ensures.count
    c.in_ok-read_header.ensures.found c.in_ok-ap_message.ensures.taken c.in_err-krb_priv.ensures.refused)

pub returns-in_err-krb_priv-clause-refused : goal.returns-in_err-krb_priv-clause-refused
returns-in_err-krb_priv-clause-refused g c =
    at-exit _ _ _ _ c.from_residual-in_err-krb_priv.ensures.1
    (private-refused g.A.FromDer.seen g.A.FromDer.reads g.P.FromDer.reads g.A.FromDer.one_value (g.R.Source.left c.args.reader.now) (g.R.Source.left c.read_header.new.reader) (g.R.Source.left c.read_part.new.reader) (g.R.Source.left c.read_part-2.new.reader) _ _ _ _ _ _ _
    c.in_ok-read_header.ensures.count c.in_ok-ap_message.ensures.count
    c.in_ok-read_header.ensures.found c.in_ok-ap_message.ensures.taken c.in_err-krb_priv.ensures.refused)

pub returns-clause-found : goal.returns-clause-found
returns-clause-found g c =
    let (header, is, took) = c.in_ok-read_header.ensures.found in
    all-read _ _ _ _ _ _ header _ _ is took c.in_ok-ap_message.ensures.taken c.in_ok-krb_priv.ensures.taken

pub returns-clause-only : goal.returns-clause-only
returns-clause-only g c =
    let a = g.A.FromDer.seen in
    let p = g.P.FromDer.seen in
    read-only (Alike (seen_frame a p)) a p g.A.FromDer.reads g.P.FromDer.reads (λ m. m.ap_message) (λ m. m.krb_priv) g.A.FromDer.one_value g.P.FromDer.one_value _ _ _
    (λ m same also. same-frame a p _ m same also) (returns-clause-found g c)

pub returns-in_err-read_header-clause-count : goal.returns-in_err-read_header-clause-count
returns-in_err-read_header-clause-count g c = at-exit _ _ _ _ c.from_residual.ensures.1 c.in_err-read_header.ensures.count

pub returns-in_err-ap_message-clause-count : goal.returns-in_err-ap_message-clause-count
returns-in_err-ap_message-clause-count g c =
    at-exit _ _ _ _ c.from_residual-in_err-ap_message.ensures.1
    (told-since (g.R.Source.left c.read_part.new.reader) _ _ _ _ _ c.in_ok-read_header.ensures.count c.in_err-ap_message.ensures.count)

pub returns-in_err-krb_priv-clause-count : goal.returns-in_err-krb_priv-clause-count
returns-in_err-krb_priv-clause-count g c =
    at-exit _ _ _ _ c.from_residual-in_err-krb_priv.ensures.1
    (told-since (g.R.Source.left c.read_part-2.new.reader) _ _ _ _ _ (c.in_ok-ap_message.ensures.count ∙ c.in_ok-read_header.ensures.count) c.in_err-krb_priv.ensures.count)
