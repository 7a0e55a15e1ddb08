use Rattle.std.proofs.Common.{◌≡◌, ℕ, sym, ap, Some, ◌∙◌}
use Rattle.krb_realm_accounts.specs.Settings.{SettingsRecord}
use Rattle.krb_realm_accounts.specs.declared.policy.Policy.{Policy}
use Rattle.krb_realm_files.proofs.RealmAgain.{settled, unknown_policy, unsettled}
use Rattle.krb_realm_files.specs.RealmRecords.{policy_of}
use Rattle.krb_realm_files.proofs.realm_record.settings_of.Goals as goal

abbrev settings_with : ℕ → ℕ → Policy → SettingsRecord
settings_with skew lifetime policy = record { skew = skew; lifetime = lifetime; policy = policy }

pub returns-in_default : goal.returns-in_default
returns-in_default c = unsettled c.args.skew c.args.lifetime c.args.policy c.in_default.ensures.value

pub returns-then-not-is_policy : goal.returns-then-not-is_policy
returns-then-not-is_policy c = unknown_policy c.args.skew c.args.lifetime c.args.policy (sym c.is_policy.ensures ∙ c.if-not-is_policy.true)

pub returns : goal.returns
returns c =
    let own : SettingsRecord = c.in-Ok.settings in
    let same : own ≡ settings_with c.args.skew c.args.lifetime (policy_of c.args.policy) =
    c.in-Ok.ensures.value.1 ∙ ap (λ (policy : Policy). settings_with c.args.skew c.args.lifetime policy) c.policy_of.ensures in
    ap Some same ∙ sym (settled c.args.skew c.args.lifetime c.args.policy c.in-Ok.ensures.value.0 (sym c.is_policy.ensures ∙ c.if-not-is_policy.false))
