use Rattle.std.proofs.Common.{ℕ, List, sym, subst, append_assoc}
use Rattle.encryption_profiles.specs.Hmac.{hmac_of, key_block, xored_with}
use Rattle.encryption_profiles.proofs.mac.code.Goals as goal

pub returns : goal.returns
unfolding hmac_of
returns g c = λ key inner_holds outer_holds.
    let k : List ℕ = key_block g.H.BlockHash.digest_of g.row.B key in
    let both = c.absorb-2.ensures _ (c.absorb.ensures _ (subst (λ h. g.H.BlockHash.holds h (xored_with 0x36 k)) (sym c.copied-inner.ensures) inner_holds)) in
    let inner = c.finish.ensures _ both in
    let outer = c.finish-2.ensures _ (c.absorb-3.ensures _ (subst (λ h. g.H.BlockHash.holds h (xored_with 0x5C k)) (sym c.copied-outer.ensures) outer_holds)) in
    rw (inner, append_assoc) at outer
