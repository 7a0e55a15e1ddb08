-- What is read of a peer's value.
use Rattle.std.proofs.Common.{◌≡◌, ℕ, ◌^◌, ◌%◌, ℤ, pos, negsuc, Bool, true, false, cond, eqb, Option, None, Some, Result, Ok, Err, IfOk, MatchOption, ◌⊎◌, inl, inr, refl, sym, ap, ◌∙◌, subst}
use Rattle.std.proofs.lemmas.Bool.{false≢true}
use Rattle.std.specs.Option.{option_and_then}
use Rattle.asn1_der.specs.Octets.{integer_octet, sequence_octet}
use Rattle.asn1_der.proofs.Elements.{element-content}
use Rattle.picky_asn1_der.specs.Raw.{Raw}
use Rattle.picky_asn1_der.specs.Splits.{raw_bytes}
use Rattle.picky_asn1.specs.BitString.{Bits}
use Rattle.picky_asn1.specs.Bytes.{Bytes}
use Rattle.picky_asn1.specs.Integer.{unsigned_octets}
use Rattle.picky_asn1.specs.IntegerLaws.{integer_content-injective}
use Rattle.modular_arithmetic.specs.Naturals.{i2osp, os2ip}
use Rattle.public_key_cryptography.specs.Agreements.{in_range, prime_of, shared_of, size_of}
use Rattle.public_key_cryptography.specs.declared.group.Group.{Group}
use Rattle.public_key_cryptography.specs.declared.group.WeakGroup.TheVariants.{Taken}
use Rattle.rsa_keys.specs.Algorithms.{algorithm_content, integer_bytes}
use Rattle.rsa_keys.specs.Numbers.{bits_number, number_in, value_number}
use Rattle.rsa_keys.specs.Reading.{Reads, ReadsBits}
use Rattle.rsa_keys.specs.Values.{is_value, value_bytes, value_element}
use Rattle.rsa_keys.specs.declared.fault.DhFault.{DhFault}
use Rattle.rsa_keys.specs.declared.fault.DhFault.TheVariants.{Memory, Unreadable, UnknownGroup, GroupTooWeak, OutOfRange}
use Rattle.rsa_keys.specs.declared.public_value.DhPublicValue.{DhPublicValue}
use Rattle.rsa_keys.proofs.Found.{bits-none, bits-number, number-is, number-none, value-number}
use Rattle.rsa_keys.proofs.Groups.{same_value}
use Rattle.x509_keys.specs.KeyFunctions.{TheirValue}
use Rattle.x509_keys.specs.KeyFunctions.TheirValue.{ValueBits, WholeValue}
use Rattle.rsa_keys.specs.Agreements.{IsRefused, IsTheirs, agreed, own_number, own_value, their_number}

-- a public value's number isn't negative
record IsNumber (z : ℤ) : Type 0 where
  pub number : ℕ
  pub is : z ≡ pos number

natural_of : (group : Group) (z : ℤ) → is_value group z ≡ true → IsNumber z
natural_of group (pos n) h = record { number = n; is = refl }
natural_of group (negsuc n) h = absurd (false≢true h)

-- a value of this group is the peer's

pub whole_theirs : (group : Group) (element : Raw) (value : DhPublicValue) → raw_bytes element ≡ value_bytes value.group value.number → value.group ≡ group → IsTheirs group (WholeValue element) value
whole_theirs group element value is same =
    let n = natural_of value.group value.number value.in_range in
    record { number = n.number; is_number = n.is; is_theirs = value-number group (raw_bytes element) n.number (is ∙ (λ i. value_bytes (same i) (n.is i))) }

pub bits_theirs : (group : Group) (bits : Bits) (value : DhPublicValue) → bits ≡ record { octets = integer_bytes value.number; unused = 0 } → IsTheirs group (ValueBits bits) value
bits_theirs group bits value is =
    let n = natural_of value.group value.number value.in_range in
    record { number = n.number; is_number = n.is; is_theirs = bits-number bits n.number (is ∙ (λ i. record { octets = integer_bytes (n.is i); unused = 0 })) }

-- the secret is that of the value's number
pub of_theirs : (group : Group) (theirs : TheirValue) (value : DhPublicValue) (secret : Bytes) → IsTheirs group theirs value → shared_of group (unsigned_octets value.number) secret ≡ agreed group theirs secret
of_theirs group theirs value secret h =
    ap (λ z. shared_of group (unsigned_octets z) secret) h.is_number ∙ sym (ap (λ number. option_and_then (λ n. shared_of group (unsigned_octets (pos n)) secret) number) h.is_theirs)

-- where no number is read, or none that is a value, nothing is shared

none_theirs : (group : Group) (theirs : TheirValue) → their_number group theirs ≡ None → IsRefused group theirs
none_theirs group theirs e = λ secret. ap (λ number. option_and_then (λ n. shared_of group (unsigned_octets (pos n)) secret) number) e

and_none : (f : ℕ → Option Bytes) (number : Option ℕ) → ((n : ℕ) → number ≡ Some n → f n ≡ None) → option_and_then f number ≡ None
and_none f None h = refl
and_none f (Some n) h = h n refl

not_shared : (group : Group) (z : ℤ) (n : ℕ) (secret : Bytes) → is_value group z ≡ false → z ≡ pos n → shared_of group (unsigned_octets (pos n)) secret ≡ None
not_shared group z n secret out same =
    let outside : in_range group (unsigned_octets (pos n)) ≡ false = sym (ap (λ y. is_value group y) same) ∙ out in
    ap (λ b. cond b (Some (i2osp (size_of group) (os2ip (unsigned_octets (pos n)) ^ os2ip secret % prime_of group))) None) outside

pub other_group : (group : Group) (element : Raw) (value : DhPublicValue) → raw_bytes element ≡ value_bytes value.group value.number → (value.group ≡ group → ⊥) → IsRefused group (WholeValue element)
other_group group element value is differ =
    none_theirs group (WholeValue element)
    (number-none (λ n. value_bytes group (pos n)) (raw_bytes element) (raw_bytes element) (λ n e. differ (same_value value.group group value.number (pos n) (sym is ∙ e)).0))

pub whole_refused : (group : Group) (element : Raw) (fault : DhFault) → Reads (raw_bytes element) Taken (Err fault) → (fault ≡ Memory → ⊥) → IsRefused group (WholeValue element)
whole_refused group element Unreadable read other =
    none_theirs group (WholeValue element)
    (number-none (λ n. value_bytes group (pos n)) (raw_bytes element) (raw_bytes element)
    (λ n e. read (record { algorithm = record { first = sequence_octet; content = algorithm_content group }; subject_public_key = record { 0 = pos n } }) refl e))
whole_refused group element UnknownGroup read other =
    none_theirs group (WholeValue element) (number-none (λ n. value_bytes group (pos n)) (raw_bytes element) (raw_bytes element) (λ n e. read.1 group (pos n) e))
whole_refused group element GroupTooWeak read other = absurd (cc (read.2))
whole_refused group element OutOfRange read other =
    λ secret. and_none (λ n. shared_of group (unsigned_octets (pos n)) secret) (value_number group (raw_bytes element))
    (λ n e. let same = same_value read.0 group read.1 (pos n) (sym read.2 ∙ number-is (λ k. value_bytes group (pos k)) (raw_bytes element) (raw_bytes element) n e) in
    not_shared group read.1 n secret (sym (ap (λ g. is_value g read.1) same.0) ∙ read.3) same.1)
whole_refused group element Memory read other = absurd (other refl)

none_some : (n : ℕ) → None ≡ Some n → ⊥
none_some n e = cc

found_bits : (bits : Bits) (found : Option ℕ) (b : Bool) (n : ℕ) → cond b found None ≡ Some n → found ≡ Some n
found_bits bits found true n e = e
found_bits bits found false n e = absurd (none_some n e)

pub bits_refused : (group : Group) (bits : Bits) (fault : DhFault) → ReadsBits bits group (Err fault) → (fault ≡ Memory → ⊥) → IsRefused group (ValueBits bits)
bits_refused group bits Unreadable read other = none_theirs group (ValueBits bits) (bits-none bits (λ n e. read (pos n) e))
bits_refused group bits UnknownGroup read other = absurd read
bits_refused group bits GroupTooWeak read other = absurd read
bits_refused group bits OutOfRange read other =
    λ secret. and_none (λ n. shared_of group (unsigned_octets (pos n)) secret) (bits_number bits)
    (λ n e. let found = found_bits bits (number_in (λ k. integer_bytes (pos k)) bits.octets) (eqb bits.unused 0) n e in
    let octets : integer_bytes read.0 ≡ integer_bytes (pos n) = sym (ap (λ (b : Bits). b.octets) read.1) ∙ number-is (λ k. integer_bytes (pos k)) bits.octets bits.octets n found in
    not_shared group read.0 n secret read.2 (integer_content-injective read.0 (pos n) (element-content integer_octet _ _ octets)))
bits_refused group bits Memory read other = absurd (other refl)

-- the own value

is_value-same : (g h : Group) (y z : ℤ) → g ≡ h → y ≡ z → is_value g y ≡ is_value h z
is_value-same g h y z group number = λ i. is_value (group i) (number i)

element-same : (g h : Group) (y z : ℤ) → g ≡ h → y ≡ z → value_element g y ≡ value_element h z
element-same g h y z group number = λ i. value_element (group i) (number i)

pub own_made : (group : Group) (secret : Bytes) (value : DhPublicValue) (element : Raw) → value.group ≡ group → value.number ≡ own_number group secret → element ≡ value_element value.group value.number
    → Some element ≡ own_value group secret
own_made group secret value element same number made =
    let inside : is_value group (own_number group secret) ≡ true = sym (is_value-same value.group group value.number (own_number group secret) same number) ∙ value.in_range in
    ap (λ e. Some e) (made ∙ element-same value.group group value.number (own_number group secret) same number) ∙ sym (ap (λ b. cond b (Some (value_element group (own_number group secret))) None) inside)

pub own_none : (group : Group) (secret : Bytes) → is_value group (own_number group secret) ≡ false → None ≡ own_value group secret
own_none group secret outside = sym (ap (λ b. cond b (Some (value_element group (own_number group secret))) None) outside)

-- as the program has them

pub if_own_made : {E : Type 0} (group : Group) (secret : Bytes) (value : DhPublicValue) (result : Result (Option Raw) E) → value.group ≡ group → value.number ≡ own_number group secret
    → IfOk result (λ made. made ≡ Some (value_element value.group value.number)) → IfOk result (λ made. made ≡ own_value group secret)
if_own_made group secret value (Ok made) same number h = h ∙ own_made group secret value (value_element value.group value.number) same number refl
if_own_made group secret value (Err fault) same number h = tt

of_faults : (group : Group) (secret : Bytes) (fault : DhFault) → (fault ≡ Memory) ⊎ ((fault ≡ OutOfRange) × (is_value group (own_number group secret) ≡ false)) → (fault ≡ Memory → ⊥)
    → is_value group (own_number group secret) ≡ false
of_faults group secret fault (inl memory) other = absurd (other memory)
of_faults group secret fault (inr out) other = out.1

pub if_own_none : {E : Type 0} (group : Group) (secret : Bytes) (fault : DhFault) (result : Result (Option Raw) E) → (fault ≡ Memory) ⊎ ((fault ≡ OutOfRange) × (is_value group (own_number group secret) ≡ false))
    → IfOk result (λ read. (read ≡ None) × (fault ≡ Memory → ⊥)) → IfOk result (λ made. made ≡ own_value group secret)
if_own_none group secret fault (Ok read) cause h = h.0 ∙ own_none group secret (of_faults group secret fault cause h.1)
if_own_none group secret fault (Err memory) cause h = tt

pub if_refused : {E : Type 0} (group : Group) (theirs : TheirValue) (fault : DhFault) (result : Result (Option DhPublicValue) E) → ((fault ≡ Memory → ⊥) → IsRefused group theirs)
    → IfOk result (λ read. (read ≡ None) × (fault ≡ Memory → ⊥)) → IfOk result (λ read. MatchOption read (IsRefused group theirs) (IsTheirs group theirs))
if_refused group theirs fault (Ok read) refused h = subst (λ o. MatchOption o (IsRefused group theirs) (IsTheirs group theirs)) (sym h.0) (refused h.1)
if_refused group theirs fault (Err memory) refused h = tt

pub if_same : (group : Group) (element : Raw) (value : DhPublicValue) (same : Option DhPublicValue) → raw_bytes element ≡ value_bytes value.group value.number
    → MatchOption same (value.group ≡ group → ⊥) (λ s. (s ≡ value) × (value.group ≡ group)) → MatchOption same (IsRefused group (WholeValue element)) (IsTheirs group (WholeValue element))
if_same group element value (Some s) is h = subst (λ v. IsTheirs group (WholeValue element) v) (sym h.0) (whole_theirs group element value is h.1)
if_same group element value None is h = other_group group element value is h

-- the same of what is made of it
pub if_as : {A B E : Type 0} (f : A → B) (x y : B) (result : Result A E) → x ≡ y → IfOk result (λ made. f made ≡ x) → IfOk result (λ made. f made ≡ y)
if_as f x y (Ok made) same h = h ∙ same
if_as f x y (Err fault) same h = tt

pub found_theirs : (group : Group) (theirs : TheirValue) (read : Option DhPublicValue) (value : DhPublicValue) → read ≡ Some value → MatchOption read (IsRefused group theirs) (IsTheirs group theirs) → IsTheirs group theirs value
found_theirs group theirs read value e h = subst (λ o. MatchOption o (IsRefused group theirs) (IsTheirs group theirs)) e h

pub none_found : (group : Group) (theirs : TheirValue) (read : Option DhPublicValue) → read ≡ None → MatchOption read (IsRefused group theirs) (IsTheirs group theirs) → IsRefused group theirs
none_found group theirs read e h = subst (λ o. MatchOption o (IsRefused group theirs) (IsTheirs group theirs)) e h
