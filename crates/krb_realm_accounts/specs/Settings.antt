-- A realm's settings: clock skew (RFC 4120, sections 1.6, 5.9.1), the greatest lifetime of a ticket (RFC 4120, section 3.1.3), and its policy.
use Rattle.std.specs.Prelude.{◌≤◌}
use Rattle.krb_time.specs.Units.{Seconds}
use Rattle.krb_realm_accounts.specs.declared.policy.Policy.{Policy}

pub record SettingsRecord : Type 0 where
  pub skew : Seconds
  pub lifetime : Seconds
  pub policy : Policy

-- The clock skew is a day at most.
abbrev pub most_skew : Seconds
most_skew = 86400

-- A ticket lasts a year of 365 days at most.
abbrev pub most_lifetime : Seconds
most_lifetime = 31536000

-- at most a day
abbrev pub IsSkew : Seconds → Type 0
IsSkew skew = skew ≤ most_skew

-- at least a second, and at most a year of 365 days
abbrev pub IsLifetime : Seconds → Type 0
IsLifetime lifetime = (1 ≤ lifetime) × (lifetime ≤ most_lifetime)

-- The clock skew and the greatest lifetime are in their ranges, both in seconds.
abbrev pub AreSettings : Seconds → Seconds → Type 0
AreSettings skew lifetime = IsSkew skew × IsLifetime lifetime
