use Rattle.std.proofs.Common.{◌≡◌, ℕ, Some}
use Rattle.std.proofs.lemmas.Iterator.Adapters.{YieldsList-from_repeat_n}
use Rattle.krb_frames.specs.Serving.{Left, IsServed, at}
use Rattle.krb_frames.proofs.KnownMoments.{of_list}
use Rattle.krb_frames.specs.Moments.{each_time, most_messages}
use Rattle.krb_frames.proofs.OneMoment.{is_most}
use Rattle.krb_frames.proofs.timed.serve_at.Goals as goal

pub returns-clause-output : goal.returns-clause-output
returns-clause-output g c = λ stream known_stream words known_words.
    let out = c.serve.ensures.output stream known_stream words known_words in
    let gave = YieldsList-from_repeat_n (λ (x y : ℕ). y ≡ x) most_messages c.args.moment (is_most _ c.repeat_n-moments.ensures.count) c.repeat_n-moments.ensures.item (λ y same. same) in
    let served = of_list _ c.repeat_n-moments.result (each_time c.args.moment) gave
    (λ moments. (left : Left) × (g.R.Source.left c.serve.new.reader ≡ Some left.stream) × (g.K.Source.left c.serve.new.words_reader ≡ Some left.words)
    × IsServed (g.A.Responder.replies c.args.responder.now) (g.A.Responder.may_want_memory c.args.responder.now) (at moments stream words) out.1 c.serve.result left)
    _ out.0 out.4 (λ later none. (at later out.2 out.3, out.6, out.7, out.8 later none)) in
    (out.1, served.0, out.5, served.1, served.2, served.3)

pub returns-clause-failures : goal.returns-clause-failures
returns-clause-failures g c = record {
  read_failed = c.serve.ensures.read_failed;
  write_failed = c.serve.ensures.write_failed;
  read_kept = c.serve.ensures.read_kept;
  write_kept = c.serve.ensures.write_kept;
}
