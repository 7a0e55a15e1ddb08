use Rattle.std.proofs.Common.{◌≡◌, ◌+◌, ◌≤◌, ◌∙◌, ℕ, length, take, drop, ap, arith}
use Rattle.byte_streams.specs.Numbers.{be16_at}
use Rattle.krb_password_changes.specs.Versions.{version_number}
use Rattle.krb_password_changes.proofs.Cuts.{frame-read}
use Rattle.krb_password_changes.proofs.messages.frame.read_frame.Goals as goal

pub returns-clause-frame : goal.returns-clause-frame
returns-clause-frame c =
    let headed = c.in_ok-version.ensures.headed in
    let within : 6 + be16_at 4 c.args.message.now ≤ length c.args.message.now = headed.inside in
    let read = c.u16_be.ensures.read in
    let inside : 6 + c.u16_be.result ≤ length c.args.message.now = omega (arith, within, read) in
    let count : c.from-ap_len.result ≡ c.u16_be.result = omega (arith, c.from-ap_len.ensures) in
    record {
      octets = frame-read c.args.message.now c.split_at-2.result.0.now c.split_at-2.result.1.now (version_number c.in_ok-version.version) c.u16_be.result
          headed.sized headed.versioned c.u16_be.ensures.stands inside
          (c.split_at-2.ensures.front ∙ ap (λ (n : ℕ). take n c.split_at.result.1.now) count ∙ ap (take c.u16_be.result) c.split_at.ensures.back)
          (c.split_at-2.ensures.back ∙ ap (λ (n : ℕ). drop n c.split_at.result.1.now) count ∙ ap (drop c.u16_be.result) c.split_at.ensures.back);
      fits = headed.fits;
    }
