-- Identifier octets of types of the class universal (X.690, section 8.1.2; X.680, section 8.4), and of tags of the class
-- context-specific. Those of SEQUENCE and SET say that the encoding is constructed.
use Rattle.std.specs.Prelude.{ℕ}

-- the identifier octet of BOOLEAN: universal 1, primitive (X.680, section 8.4)
abbrev pub boolean_octet : ℕ
boolean_octet = 1

-- the identifier octet of INTEGER: universal 2, primitive (X.680, section 8.4)
abbrev pub integer_octet : ℕ
integer_octet = 2

-- the identifier octet of BIT STRING: universal 3, primitive (X.680, section 8.4)
abbrev pub bit_string_octet : ℕ
bit_string_octet = 3

-- the identifier octet of OCTET STRING: universal 4, primitive (X.680, section 8.4)
abbrev pub octet_string_octet : ℕ
octet_string_octet = 4

-- the identifier octet of NULL: universal 5, primitive (X.680, section 8.4)
abbrev pub null_octet : ℕ
null_octet = 5

-- the identifier octet of OBJECT IDENTIFIER: universal 6, primitive (X.680, section 8.4)
abbrev pub object_identifier_octet : ℕ
object_identifier_octet = 6

-- the identifier octet of UTF8String: universal 12, primitive (X.680, section 8.4)
abbrev pub utf8_string_octet : ℕ
utf8_string_octet = 12

-- the identifier octet of PrintableString: universal 19, primitive (X.680, section 8.4)
abbrev pub printable_string_octet : ℕ
printable_string_octet = 19

-- the identifier octet of IA5String: universal 22, primitive (X.680, section 8.4)
abbrev pub ia5_string_octet : ℕ
ia5_string_octet = 22

-- the identifier octet of UTCTime: universal 23, primitive (X.680, section 8.4)
abbrev pub utc_time_octet : ℕ
utc_time_octet = 23

-- the identifier octet of GeneralizedTime: universal 24, primitive (X.680, section 8.4)
abbrev pub generalized_time_octet : ℕ
generalized_time_octet = 24

-- the identifier octet of GeneralString: universal 27, primitive (X.680, section 8.4)
abbrev pub general_string_octet : ℕ
general_string_octet = 27

-- the identifier octet of BMPString: universal 30, primitive (X.680, section 8.4)
abbrev pub bmp_string_octet : ℕ
bmp_string_octet = 30

-- the identifier octet of SEQUENCE and SEQUENCE OF: universal 16, constructed (X.680, section 8.4)
abbrev pub sequence_octet : ℕ
sequence_octet = 48

-- the identifier octet of SET and SET OF: universal 17, constructed (X.680, section 8.4)
abbrev pub set_octet : ℕ
set_octet = 49

-- the identifier octet of the tag [0]: context-specific 0, constructed (X.690, section 8.1.2)
abbrev pub context_0_octet : ℕ
context_0_octet = 160

-- the identifier octet of the tag [1]: context-specific 1, constructed (X.690, section 8.1.2)
abbrev pub context_1_octet : ℕ
context_1_octet = 161

-- the identifier octet of the tag [2]: context-specific 2, constructed (X.690, section 8.1.2)
abbrev pub context_2_octet : ℕ
context_2_octet = 162

-- the identifier octet of the tag [3]: context-specific 3, constructed (X.690, section 8.1.2)
abbrev pub context_3_octet : ℕ
context_3_octet = 163

-- the identifier octet of the tag [4]: context-specific 4, constructed (X.690, section 8.1.2)
abbrev pub context_4_octet : ℕ
context_4_octet = 164

-- the identifier octet of the tag [5]: context-specific 5, constructed (X.690, section 8.1.2)
abbrev pub context_5_octet : ℕ
context_5_octet = 165
