use Rattle.krb_realm_files.proofs.Parts.{pair_of}
use Rattle.krb_realm_files.proofs.means.own_pair.Goals as goal

pub returns : goal.returns
returns c =
    pair_of c.args.certificate.now c.args.key.now c.in_ok-holder.holder c.own_in-own.result c.of_holder-pair.result c.in_ok-holder.ensures c.own_in-own.ensures c.of_holder-pair.ensures
