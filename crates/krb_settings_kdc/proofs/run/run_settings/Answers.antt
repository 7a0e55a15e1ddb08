use Rattle.std.proofs.Common.{◌≡◌, refl}
use Rattle.krb_frames.specs.Devices.{device, devices}
use Rattle.krb_settings_kdc.proofs.Ending.{exit_stopped, file_stopped}
use Rattle.krb_settings_kdc.proofs.run.run_settings.Goals as goal

pub returns-in-Err : goal.returns-in-Err
returns-in-Err g c =
    let old = devices (device (g.K.Source.left c.args.words_reader.now) (g.K.Source.failed c.args.words_reader.now)) (device (g.R.Source.left c.args.reader.now) (g.R.Source.failed c.args.reader.now)) (device (g.W.Sink.written c.args.writer.now) (g.W.Sink.failed c.args.writer.now)) in
    rw c.from.ensures
    (file_stopped ((c.args.words_reader.now ≡ c.args.words_reader.now) × (c.args.reader.now ≡ c.args.reader.now) × (c.args.writer.now ≡ c.args.writer.now))
    c.args.settings.now c.args.moment old old c.in-Err.fault (refl, refl, refl) c.in-Err.ensures)

pub returns-in_err-answered : goal.returns-in_err-answered
returns-in_err-answered g c =
    let old = devices (device (g.K.Source.left c.args.words_reader.now) (g.K.Source.failed c.args.words_reader.now)) (device (g.R.Source.left c.args.reader.now) (g.R.Source.failed c.args.reader.now)) (device (g.W.Sink.written c.args.writer.now) (g.W.Sink.failed c.args.writer.now)) in
    let new = devices (device (g.K.Source.left c.serve_at.new.words_reader) (g.K.Source.failed c.serve_at.new.words_reader)) (device (g.R.Source.left c.serve_at.new.reader) (g.R.Source.failed c.serve_at.new.reader)) (device (g.W.Sink.written c.serve_at.new.writer) (g.W.Sink.failed c.serve_at.new.writer)) in
    exit_stopped ((c.serve_at.new.words_reader ≡ c.args.words_reader.now) × (c.serve_at.new.reader ≡ c.args.reader.now) × (c.serve_at.new.writer ≡ c.args.writer.now))
    c.args.settings.now c.args.moment old new c.in-Ok.realm c.in-Ok.ensures c.in_err-answered.field-0.0 c.from_residual.result c.from_residual.ensures.1
    (c.in_err-answered.ensures.output, c.in_err-answered.ensures.failures) (λ e. (c.in_err-answered.ensures.accounts e).1)
