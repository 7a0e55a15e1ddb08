-- Fields of a struct: the second right behind the first, in the header and in the payload (MS-NEGOEX, section 2.2).
use Rattle.std.specs.Prelude.{◌+◌, ◌++◌, take, drop, Ok}
use Rattle.negoex_messages.specs.Form.{Layout, then_read}

-- two fields of a struct, one right behind the other in the header and in the payload (MS-NEGOEX, section 2.2)
abbrev pub pair_layout : {A B : Type 0} → Layout A → Layout B → Layout (A × B)
pair_layout a b = record {
  width = a.width + b.width;
  IsLaid = λ v header whole. a.IsLaid v.0 (take a.width header) whole × b.IsLaid v.1 (drop a.width header) whole;
  Fits = λ v. a.Fits v.0 × b.Fits v.1;
  read = λ header whole. then_read (a.read (take a.width header) whole) (λ x. then_read (b.read (drop a.width header) whole) (λ y. Ok (x, y)));
  payload = λ v. a.payload v.0 + b.payload v.1;
  head = λ v o. a.head v.0 o ++ b.head v.1 (o + a.payload v.0);
  body = λ v o. a.body v.0 o ++ b.body v.1 (o + a.payload v.0);
}
