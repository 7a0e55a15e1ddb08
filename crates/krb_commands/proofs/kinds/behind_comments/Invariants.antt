use Rattle.std.proofs.Common.{◌≡◌, false, drop}
use Rattle.krb_commands.specs.Kinds.{behind_comments}
use Rattle.krb_commands.proofs.kinds.behind_comments.Given as goal

-- what is left decides
abbrev pub invariant-loop-place : goal.invariant-loop-place
invariant-loop-place l = behind_comments l.is_comment (drop l.place l.front) ≡ behind_comments false l.front
