use Rattle.x509_codec.proofs.laws.valid_leaf_is_whole.Goals as goal

pub returns : goal.returns
returns g c = λ value valid. rw valid tt
