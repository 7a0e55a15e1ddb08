use Rattle.gss_logins.proofs.WrittenTokens.{mic_made, mic_unforged, unwrapped_wrapped, wrap_unforged}
use Rattle.gss_logins.proofs.laws.unwrapped_was_wrapped.Goals as goal

pub returns-clause-wraps : goal.returns-clause-wraps
returns-clause-wraps c = unwrapped_wrapped

pub returns-clause-mics : goal.returns-clause-mics
returns-clause-mics c = mic_made

pub returns-clause-written_wraps : goal.returns-clause-written_wraps
returns-clause-written_wraps c = wrap_unforged

pub returns-clause-written_mics : goal.returns-clause-written_mics
returns-clause-written_mics c = mic_unforged
