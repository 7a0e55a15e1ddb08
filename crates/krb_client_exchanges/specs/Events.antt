-- What happens between a client and its KDC.
use Rattle.std.specs.Prelude.{List, ◌++◌, Option, None, Some, Result, Ok, Err}
use Rattle.std.specs.List.{filter_map}
use Rattle.std.specs.Option.{option_map}
use Rattle.picky_asn1.specs.Bytes.{Bytes}
use Rattle.krb_client_exchanges.specs.declared.occasion.Occasion.{Occasion}

-- The client takes the occasion of a request, or sends the request's octets. Either fails, or has an outcome: the occasion, or the
-- reply's octets.
pub data Event (F : Type 0) : Type 0 where
  Began : Result Occasion F → Event F
  Asked : Bytes → Result Bytes F → Event F

-- What is made of a value, if there is one.
abbrev pub mapped : {A B F : Type 0} → (A → B) → Result A F → Result B F
mapped f (Ok value) = Ok (f value)
mapped f (Err fault) = Err fault

-- The events, where they are known, and these after them.
abbrev pub grown : {F : Type 0} → Option (List (Event F)) → List (Event F) → Option (List (Event F))
grown before events = option_map (λ all. all ++ events) before

-- The octets that are sent.
abbrev pub request_in : {F : Type 0} → Event F → Option Bytes
request_in (Began occasion) = None
request_in (Asked request reply) = Some request

-- The requests that are sent, in their order.
abbrev pub requests : {F : Type 0} → List (Event F) → List Bytes
requests events = filter_map request_in events
