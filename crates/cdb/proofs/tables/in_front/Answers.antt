use Rattle.cdb.proofs.tables.in_front.Goals as goal

pub returns-in-Err-Failed : goal.returns-in-Err-Failed
returns-in-Err-Failed g c = λ bytes known. rw c.in-Err-Failed.field-0-is at c.in-Err-Failed.ensures bytes known

pub returns-in-Err-Long : goal.returns-in-Err-Long
returns-in-Err-Long g c = λ bytes known. absurd (rw c.in-Err-Long.field-0-is at c.in-Err-Long.ensures bytes known)
