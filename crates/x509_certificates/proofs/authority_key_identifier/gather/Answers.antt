use Rattle.std.proofs.Common.{sym, ap, ◌∙◌}
use Rattle.x509_certificates.specs.declared.authority_key_identifier.Gathered.{Gathered}
use Rattle.x509_certificates.specs.AuthorityFields.{gathered_onto}
use Rattle.x509_certificates.specs.AuthorityLaws.{gathered-last}
use Rattle.x509_certificates.proofs.authority_key_identifier.gather.Goals as goal

pub fields-preserved : goal.fields-preserved
fields-preserved c =
    ap (λ (g : Gathered). gathered_onto g c.pop.new.self.items) c.in_ok-put_in_front.ensures
    ∙ sym (gathered-last c.fields.made c.pop.new.self.items c.in-Some.field)
    ∙ ap (gathered_onto c.fields.made) (sym c.in-Some.ensures.items)
    ∙ c.fields.invariant
