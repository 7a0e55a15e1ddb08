-- A count of failures stands still at any other fault.
use Rattle.std.proofs.Common.{◌≡◌, ◌≢◌, ℕ, Result, Err, refl}
use Rattle.krb_frames.specs.declared.fault.ServeFault.{ServeFault}
use Rattle.krb_frames.specs.declared.fault.ServeFault.TheVariants.{Truncated, FrameTooLong, NoRequest, Read, Write, NoWords, NoMoment, ReplyTooLong, Memory, Accounts}
use Rattle.krb_frames.specs.Steps.{after_read_fault, after_write_fault}

-- serving ended so
abbrev Failed : ServeFault → Result ℕ ServeFault
Failed fault = Err fault

pub read_kept : (old new : ℕ) (fault : ServeFault) → new ≡ after_read_fault old fault → Failed fault ≢ Failed Read → new ≡ old
read_kept old new Truncated count other = count
read_kept old new FrameTooLong count other = count
read_kept old new NoRequest count other = count
read_kept old new Read count other = absurd (other refl)
read_kept old new Write count other = count
read_kept old new NoWords count other = count
read_kept old new NoMoment count other = count
read_kept old new ReplyTooLong count other = count
read_kept old new Memory count other = count
read_kept old new Accounts count other = count

pub write_kept : (old new : ℕ) (fault : ServeFault) → new ≡ after_write_fault old fault → Failed fault ≢ Failed Write → new ≡ old
write_kept old new Truncated count other = count
write_kept old new FrameTooLong count other = count
write_kept old new NoRequest count other = count
write_kept old new Read count other = count
write_kept old new Write count other = absurd (other refl)
write_kept old new NoWords count other = count
write_kept old new NoMoment count other = count
write_kept old new ReplyTooLong count other = count
write_kept old new Memory count other = count
write_kept old new Accounts count other = count
