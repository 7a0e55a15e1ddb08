use Rattle.x509_algorithms.proofs.algorithm_identifier.AlgorithmIdentifierSerialize.serialize.Goals as goal

pub returns-in-RsassaPss : goal.returns-in-RsassaPss
returns-in-RsassaPss g c = rw c.in-RsassaPss.is c.list-in-RsassaPss.ensures
