use Rattle.krb_frames.proofs.Tolerating.{refuses_none}
use Rattle.krb_realm_files.specs.Replies.{RepliesFrom}
use Rattle.krb_kdcd.proofs.serving.serve_realm_at.Goals as goal

pub returns-then-is_logged-clause-goes_on : goal.returns-then-is_logged-clause-goes_on
returns-then-is_logged-clause-goes_on g c =
    λ e. refuses_none (RepliesFrom (g.O.Opens.opens c.args.realm.now.accounts.now) g.O.File.ReadAt.content) (c.serve_at.ensures.no_request e)
