use Rattle.std.proofs.Common.{◌≡◌}
use Rattle.std.proofs.lemmas.List.Elements.{same_from_all_zip}
use Rattle.krb_messages.specs.contracts.data_types.host_address.HostAddressClone.TheImpl as host_address_clone
use Rattle.krb_messages.specs.declared.data_types.host_address.HostAddress.{HostAddress}
use Rattle.krb_tickets.proofs.parts.copied.Goals as goal

-- the copy of an address is the address
same_address : (address copy : HostAddress) → host_address_clone.ghosts.is_clone address copy → copy ≡ address
same_address address copy is = λ i. record { addr_type = record { 0 = is.0 i }; address = record { 0 = is.1 i } }

pub returns : goal.returns
returns c = same_from_all_zip _ c.args.addresses.now c.in_ok-copy.copy c.in_ok-copy.ensures.cases same_address
