-- What the cases behind a value that was read, or a part that passed, give, the table gives.
use Rattle.std.proofs.Common.{Result, Ok, Err, inl, inr, refl}
use Rattle.decision_tables.specs.One.{IsSole}
use Rattle.decision_tables.specs.Tables.{Table, and_then, ask}
use Rattle.pkinit_clients.specs.Faults.{IsTakenAs}
use Rattle.pkinit_clients.specs.declared.fault.ReplyFault.{ReplyFault}
use Rattle.pkinit_clients.specs.declared.fault.ReplyFault.TheVariants.{NotTrusted, Memory}

pub taken_ask : {A T : Type 0} (P : A → Type 0) (sole : IsSole P) (otherwise : Table (Result T ReplyFault)) (rest : A → Table (Result T ReplyFault)) (a : A) (r : Result T ReplyFault)
    → P a → IsTakenAs (rest a).gives r → IsTakenAs (ask P sole otherwise rest).gives r
taken_ask P sole otherwise rest a (Ok x) p g = inl (a, p, g)
taken_ask P sole otherwise rest a (Err NotTrusted) p g = inl (a, p, g)
taken_ask P sole otherwise rest a (Err Memory) p g = tt

pub taken_then : {A T : Type 0} (t : Table (Result A ReplyFault)) (rest : A → Table (Result T ReplyFault)) (a : A) (r : Result T ReplyFault)
    → t.gives (Ok a) → IsTakenAs (rest a).gives r → IsTakenAs (and_then t rest).gives r
taken_then t rest a (Ok x) p g = inl (a, p, g)
taken_then t rest a (Err NotTrusted) p g = inl (a, p, g)
taken_then t rest a (Err Memory) p g = tt

-- what a part refuses, the table refuses
pub refused_then : {A T : Type 0} (t : Table (Result A ReplyFault)) (rest : A → Table (Result T ReplyFault)) (fault : ReplyFault)
    → IsTakenAs {T = A} t.gives (Err fault) → IsTakenAs {T = T} (and_then t rest).gives (Err fault)
refused_then t rest NotTrusted g = inr (NotTrusted, g, refl)
refused_then t rest Memory g = tt
