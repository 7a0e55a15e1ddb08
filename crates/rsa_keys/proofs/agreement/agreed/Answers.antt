use Rattle.std.proofs.Common.{sym}
use Rattle.std.specs.Option.{option_map}
use Rattle.x509_keys.specs.KeyFunctions.{theirs_of}
use Rattle.rsa_keys.proofs.Values.{found_theirs, if_as, none_found, of_theirs}
use Rattle.rsa_keys.proofs.agreement.agreed.Goals as goal

pub returns-in-Some : goal.returns-in-Some
returns-in-Some c =
    let theirs = found_theirs c.args.group (theirs_of c.args.theirs) c.in_ok-read.read c.in-Some.value c.in-Some.is c.in_ok-read.ensures in
    if_as (λ made. option_map (λ shared. shared.items) made) _ _ c.shared_by.result (of_theirs c.args.group (theirs_of c.args.theirs) c.in-Some.value c.args.secret.now theirs) c.shared_by.ensures

pub returns-in-None : goal.returns-in-None
returns-in-None c = sym (none_found c.args.group (theirs_of c.args.theirs) c.in_ok-read.read c.in-None.is c.in_ok-read.ensures c.args.secret.now)
