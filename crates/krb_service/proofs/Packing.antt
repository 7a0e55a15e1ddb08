-- How a block of a client's names is made, and compared.
use Rattle.std.proofs.Common.{◌≡◌, ℕ, List, [], ◌∷◌, drop, get_or, sym, ap, ◌∙◌}
use Rattle.std.specs.Ordering.{nat_cmp, ordering_then}
use Rattle.std.specs.declared.cmp.Ordering.{Ordering}
use Rattle.std.specs.declared.cmp.Ordering.TheVariants.{Equal}
use Rattle.std.specs.Cmp.Lexicographic.{slice_cmp}
use Rattle.krb_realm_accounts.specs.Packed.{packed, unpacked, unpacked-packed}
use Rattle.krb_realm_accounts.proofs.Packing.{packed_cmp}
use Rattle.krb_service.specs.Packed.{IsPacked, components_in, realm_in}
use Rattle.krb_service.specs.Pair.{PairRecord}
use Rattle.picky_asn1.specs.Bytes.{Bytes}

-- two blocks compare as their realms, and else as their components
pub blocks_cmp : (a b : Bytes) → IsPacked a → IsPacked b
    → slice_cmp nat_cmp a b ≡ ordering_then (slice_cmp nat_cmp (realm_in a) (realm_in b)) (slice_cmp (slice_cmp nat_cmp) (components_in a) (components_in b))
blocks_cmp a b first second = sym (λ i. slice_cmp nat_cmp (first i) (second i)) ∙ packed_cmp (realm_in a ∷ components_in a) (realm_in b ∷ components_in b)

-- where the times are equal the blocks decide
pub tied_times : (order times blocks : Ordering) → order ≡ blocks → times ≡ Equal → order ≡ ordering_then times blocks
tied_times order times blocks same tied = same ∙ ap (λ t. ordering_then t blocks) (sym tied)

-- a block that was made of a realm and components
texts_of : (block realm : Bytes) (components : List Bytes) → block ≡ packed (realm ∷ components) → unpacked block ≡ realm ∷ components
texts_of block realm components made = ap unpacked made ∙ unpacked-packed (realm ∷ components)

pub is_packed : (block realm : Bytes) (components : List Bytes) → block ≡ packed (realm ∷ components) → IsPacked block
is_packed block realm components made = ap (λ texts. packed (get_or texts 0 [] ∷ drop 1 texts)) (texts_of block realm components made) ∙ sym made

abbrev pair_of : List Bytes → ℕ → PairRecord
pair_of texts time = record { realm = get_or texts 0 []; components = drop 1 texts; time = time }

pub names_of : (block realm : Bytes) (components : List Bytes) (time : ℕ) → block ≡ packed (realm ∷ components)
    → pair_of (unpacked block) time ≡ record { realm = realm; components = components; time = time }
names_of block realm components time made =
    ap (λ texts. pair_of texts time) (texts_of block realm components made)
