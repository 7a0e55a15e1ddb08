use Rattle.krb_frames.proofs.timed.serve_by_clock.Goals as goal

-- Which moments were taken is left out.
pub returns-clause-output : goal.returns-clause-output
returns-clause-output g c = λ stream left words known.
    let served = c.serve.ensures.output stream left words known in
    (served.0, served.1, served.2, served.3, tt, served.5, served.6, served.7, served.8)

pub returns-clause-failures : goal.returns-clause-failures
returns-clause-failures g c = record {
  read_failed = c.serve.ensures.read_failed;
  write_failed = c.serve.ensures.write_failed;
  read_kept = c.serve.ensures.read_kept;
  write_kept = c.serve.ensures.write_kept;
}
