-- The fields of a credential of a cache, in their order.
use Rattle.std.specs.Prelude.{ℕ, List}
use Rattle.krb_file_formats.specs.Caches.{Credential, Principal, Typed}
use Rattle.krb_file_formats.specs.declared.credential_caches.times.CredentialTimes.{CredentialTimes}

-- times, flags, and what follows them
abbrev pub Later : Type 0
Later = CredentialTimes × (ℕ × (ℕ × (List Typed × (List Typed × (List ℕ × List ℕ)))))

abbrev pub later_of : Credential → Later
later_of c = (c.times, (c.is_skey, (c.flags, (c.addresses, (c.authorization_data, (c.ticket, c.second_ticket))))))

abbrev pub fields_of : Credential → Principal × (Principal × (Typed × Later))
fields_of c = (c.client, (c.server, (c.key, later_of c)))

-- the credential of these fields
abbrev pub credential_of : Principal × (Principal × (Typed × Later)) → Credential
credential_of f = record {
  client = f.0;
  server = f.1.0;
  key = f.1.1.0;
  times = f.1.1.1.0;
  is_skey = f.1.1.1.1.0;
  flags = f.1.1.1.1.1.0;
  addresses = f.1.1.1.1.1.1.0;
  authorization_data = f.1.1.1.1.1.1.1.0;
  ticket = f.1.1.1.1.1.1.1.1.0;
  second_ticket = f.1.1.1.1.1.1.1.1.1;
}
