-- Types with no payload (MS-NEGOEX, sections 2.2.2 and 2.2.6.1).
use Rattle.std.specs.Prelude.{◌≡◌, ℕ, ◌<◌, ◌^◌, List, [], ◌∷◌, ◌++◌, length, take, replicate, slice_index, Ok, Err, not, nat_eq, nat_lt, if◌then◌else◌}
use Rattle.std.specs.declared.io.ErrorKind.TheVariants.{UnexpectedEof, InvalidData, InvalidInput}
use Rattle.std.specs.declared.io.ErrorKind.{ErrorKind}
use Rattle.byte_streams.specs.Numbers.{le32, le32_at, le64, le64_at}
use Rattle.uuid.specs.Parts.{swap_fields}
use Rattle.negoex_messages.specs.Form.{Layout, then_read}

abbrev pub byte_layout : Layout ℕ
byte_layout = record {
  width = 1;
  IsLaid = λ b header _. header ≡ b ∷ [];
  Fits = λ _. Unit {0};
  read = λ header _. if nat_lt (length header) 1 then Err UnexpectedEof else Ok (slice_index header 0);
  payload = λ _. 0;
  head = λ b _. b ∷ [];
  body = λ _ _. [];
}

-- a GUID's sixteen bytes, the first three fields with the low byte first
abbrev pub guid_layout : Layout (List ℕ)
guid_layout = record {
  width = 16;
  IsLaid = λ g header _. header ≡ swap_fields g;
  Fits = λ g. length g ≡ 16;
  read = λ header _. if nat_lt (length header) 16 then Err UnexpectedEof else Ok (swap_fields header);
  payload = λ _. 0;
  head = λ g _. swap_fields g;
  body = λ _ _. [];
}

-- four bytes, the lowest first
abbrev pub number_layout : Layout ℕ
number_layout = record {
  width = 4;
  IsLaid = λ n header _. header ≡ le32 n;
  Fits = λ n. n < 2 ^ 32;
  read = λ header _. if nat_lt (length header) 4 then Err UnexpectedEof else Ok (le32_at 0 header);
  payload = λ _. 0;
  head = λ n _. le32 n;
  body = λ _ _. [];
}

-- eight bytes, the lowest first
abbrev pub long_layout : Layout ℕ
long_layout = record {
  width = 8;
  IsLaid = λ n header _. header ≡ le64 n;
  Fits = λ n. n < 2 ^ 64;
  read = λ header _. if nat_lt (length header) 8 then Err UnexpectedEof else Ok (le64_at 0 header);
  payload = λ _. 0;
  head = λ n _. le64 n;
  body = λ _ _. [];
}

-- a number that has to be this one: another is refused by this fault
abbrev pub judged_layout : ℕ → ErrorKind → Layout ℕ → Layout ℕ
judged_layout wanted fault l = record {
  width = l.width;
  IsLaid = l.IsLaid;
  Fits = λ n. l.Fits n × (n ≡ wanted);
  read = λ header whole. then_read (l.read header whole) (λ n. if not (nat_eq n wanted) then Err fault else Ok n);
  payload = l.payload;
  head = l.head;
  body = l.body;
}

-- The signature is "NEGOEXTS" (InvalidData) (MS-NEGOEX, section 2.2.6.2). Test: `refused_exchanges` of `negoex.rt`.
abbrev pub signature_layout : Layout ℕ
signature_layout = judged_layout 6004521257897772366 InvalidData long_layout

-- The checksum scheme is CHECKSUM_SCHEME_RFC3961 (InvalidInput) (MS-NEGOEX, section 2.2.5.1.3). Test: `other_refusals` of `negoex.rt`.
abbrev pub scheme_layout : Layout ℕ
scheme_layout = judged_layout 1 InvalidInput number_layout

-- the first n of these bytes, with zeros after them where they are fewer
abbrev pub first_bytes : ℕ → List ℕ → List ℕ
first_bytes n bytes = take n (bytes ++ replicate n 0)

abbrev pub random_layout : Layout (List ℕ)
random_layout = record {
  width = 32;
  IsLaid = λ v header _. header ≡ first_bytes 32 v;
  Fits = λ v. length v ≡ 32;
  read = λ header _. if nat_lt (length header) 32 then Err UnexpectedEof else Ok (take 32 header);
  payload = λ _. 0;
  head = λ v _. first_bytes 32 v;
  body = λ _ _. [];
}
