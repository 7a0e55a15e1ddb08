-- Types of the ends that their crates don't name to others.
use Rattle.std.specs.Prelude.{Option, Result}
use Rattle.gss_acceptor.specs.Accepting.{AdmitRequest, VerifyMic, established_of}
use Rattle.gss_acceptor.specs.Negotiation.{offer_by}
use Rattle.gss_initiator.specs.Responses.{answer_in}
use Rattle.gss_initiator.specs.Taking.{unasked}

abbrev pub first_of : {A B C : Type 0} → (A → B → C) → Type 0
first_of {A} {B} {C} f = A

abbrev pub second_of : {A B C : Type 0} → (A → B → C) → Type 0
second_of {A} {B} {C} f = B

abbrev pub result_of : {A B : Type 0} → (A → B) → Type 0
result_of {A} {B} f = B

-- what an acceptor makes of an admission
abbrev pub Judged : Type 0
Judged = second_of established_of

-- what an answer says
abbrev pub Heard : Type 0
Heard = result_of unasked

abbrev pub item_of : {A B C : Type 0} → (A → Option B → C) → Type 0
item_of {A} {B} {C} f = B

abbrev pub last_of : {A B C D : Type 0} → (A → B → C → D) → Type 0
last_of {A} {B} {C} {D} f = D

abbrev pub made_of : {A B E : Type 0} → (A → Result B E) → Type 0
made_of {A} {B} {E} f = B

-- how a request came in SPNEGO
abbrev pub Exchange : Type 0
Exchange = item_of AdmitRequest

-- a context that waits for its initiator's MIC
abbrev pub Unverified : Type 0
Unverified = first_of VerifyMic

-- what SPNEGO offers
abbrev pub Offer : Type 0
Offer = last_of offer_by

-- an answer of SPNEGO
abbrev pub Answer : Type 0
Answer = made_of answer_in
