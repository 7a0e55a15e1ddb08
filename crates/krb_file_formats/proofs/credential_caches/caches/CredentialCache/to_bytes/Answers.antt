use Rattle.krb_file_formats.proofs.credential_caches.caches.CredentialCache.to_bytes.Goals as goal

pub returns-clause-laid : goal.returns-clause-laid
returns-clause-laid c = record { bytes = c.in_ok-bytes.ensures.0; fits = c.in_ok-bytes.ensures.1 }
