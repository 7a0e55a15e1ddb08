use Rattle.encryption_profiles.proofs.HmacLemmas.{fitted-cut, fitted_from_parts}
use Rattle.encryption_profiles.proofs.mac.hmac_sha1.Goals as goal

pub returns-clause-fitted : goal.returns-clause-fitted
returns-clause-fitted c =
    fitted_from_parts c.args.mac_size c.min.result _ c.args.key.now c.args.payload.now _ _ _ c.min.ensures c.hmac-code.ensures
    c.in_ok-mac.ensures.items c.in_ok-mac.ensures.len c.in_ok-resize.ensures.items

pub returns-clause-cut : goal.returns-clause-cut
returns-clause-cut c =
    let whole =
    fitted_from_parts c.args.mac_size c.min.result _ c.args.key.now c.args.payload.now _ _ _ c.min.ensures c.hmac-code.ensures
    c.in_ok-mac.ensures.items c.in_ok-mac.ensures.len c.in_ok-resize.ensures.items in
    fitted-cut c.args.mac_size c.args.key.now c.args.payload.now _ whole
