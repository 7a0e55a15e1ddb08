use Rattle.krb_service.proofs.OnceForEver.{refused_by_moment_alone}
use Rattle.krb_service.proofs.laws.refused_by_moment_alone.Goals as goal

pub returns : goal.returns
returns c = refused_by_moment_alone
